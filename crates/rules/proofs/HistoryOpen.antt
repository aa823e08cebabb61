-- The FINISH bodies that stand open on a stack: after a step each is one that stood open before, with the same first number, or one that began now.
use Prim.Native.Nat.{ℕ, suc, ◌-◌, ◌≤◌, ◌<◌}
use native.Mathlib.Omega.{arith}
use native.Mathlib.Decide.{ℕ_discrete}
use mathlib.Core.List.{List}
use mathlib.Core.Bool.{true, false}
use mathlib.Core.Path.{◌≡◌, refl, sym, ap, ◌∙◌, subst}
use lib.ListN.{length, set}
use lib.Seq.{get_or-set_same, get_or-set_other}
use lib.Dec.{ltb}
use borrow.Author.Tests.{lt-ltb}
use Rattle.program.specs.declared.command.Command.{Command}
use Rattle.program.specs.Bodies.{Program}
use Rattle.rules.specs.declared.state.Frame.{Frame}
use Rattle.rules.specs.declared.state.Activity.{Activity}
use Rattle.rules.specs.State.{no_frame, frame, top, is_ended}
use Rattle.rules.specs.Tree.{here, is_finish, finishes}
use Rattle.rules.specs.History.{is_finish_body}
use Rattle.rules.proofs.Tests.{and_intro, true_false}
use Rattle.rules.proofs.Lists.{Stored, new, old, stored}
use Rattle.rules.proofs.Bodies.{moved}
use Rattle.rules.proofs.WellFormedStack.{level, Stack, ran_first}
use Rattle.rules.proofs.WellFormedShape.{Motion, stays, goes, begins, repeats, returns, halts}

-- Frame d of a stack is a FINISH body.
pub record Open (p : Program) (a : Activity) (d : ℕ) : Type 0 where
  pub above : 0 < d
  pub below : d < a.depth
  pub by : is_finish (here p (frame a (d - 1))).command ≡ true

-- the test passes then
pub open_test : {p : Program} {a : Activity} {d : ℕ} → Open p a d → is_finish_body p a d ≡ true
unfolding is_finish_body finishes
open_test {p} {a} {d} o = and_intro (ltb 0 d) _ (lt-ltb 0 d o.above) (and_intro (ltb d a.depth) _ (lt-ltb d a.depth o.below) o.by)

-- its first number is no greater than the number of activities
pub open_first : {p : Program} {made : ℕ} {a : Activity} {d : ℕ} → Stack p made a.depth a.frames → Open p a d → (frame a d).first ≤ made
open_first {p} {made} {a} {d} st o = go (d - 1) (omega (arith, o.above)) o.by
  where
    go : (k : ℕ) → d ≡ suc k → is_finish (here p (frame a k)).command ≡ true → (frame a d).first ≤ made
    go k e h = rw e (ran_first (st.stacked k (omega (arith, o.below))).by h).1

-- A FINISH body of b, which was a before command o: it begins now, or it stood open.
pub data Opened (p : Program) (made : ℕ) (o : Command) (a b : Activity) (d : ℕ) : Type 0 where
  begun : is_finish o ≡ true → d ≡ a.depth → (frame b d).first ≡ made → Opened p made o a b d
  before : Open p a d → (frame b d).first ≡ (frame a d).first → Opened p made o a b d

-- the frames below stay
kept : {p : Program} {made : ℕ} {o : Command} {a b : Activity} {d : ℕ} → Open p b d → d < a.depth → frame b (d - 1) ≡ frame a (d - 1) → (frame b d).first ≡ (frame a d).first
    → Opened p made o a b d
kept {p} {made} {o} {a} {b} {d} x l e f = before (record { above = x.above; below = l; by = rw e at x.by }) f

-- a frame replaced by one with the same first number
same_first : (fs : List Frame) (k : ℕ) (f : Frame) → f.first ≡ (level fs k).first → (d : ℕ) → (level (set fs k f) d).first ≡ (level fs d).first
same_first fs k f e d = go (stored fs k f d no_frame)
  where
    go : Stored fs k f d no_frame → (level (set fs k f) d).first ≡ (level fs d).first
    go (new q h) = ap (λ g. g.first) h ∙ e ∙ ap (λ k. (level fs k).first) (sym q)
    go (old h) = ap (λ g. g.first) h

-- the top replaced so
top_kept : {p : Program} {made : ℕ} {o : Command} {a b : Activity} {d : ℕ} (f : Frame) → f.first ≡ (top a).first → b.depth ≡ a.depth → b.frames ≡ set a.frames (a.depth - 1) f
    → Open p b d → Opened p made o a b d
top_kept {a = a} {b} {d} f e q s x =
    kept x (omega (arith, x.below)) (rw s (get_or-set_other a.frames (a.depth - 1) (d - 1) f no_frame (λ y. omega (arith, x.below, x.above))))
    (rw s (same_first a.frames (a.depth - 1) f e d))

-- each motion
pub opened : {p : Program} {made : ℕ} {a b : Activity} {d : ℕ} → length a.frames ≡ 16 → b.depth ≤ 16 → Motion p made (here p (top a)).command a b → is_ended b.status ≡ false → Open p b d
    → Opened p made (here p (top a)).command a b d
opened {a = a} {b} {d} z m (stays o t e f) u x = kept x (omega (arith, x.below)) (rw f) (rw f)
opened {p} {a = a} {b} {d} z m (goes o t e f) u x = top_kept (moved p (top a)) refl e f x
opened {p} {made} {a} {b} {d} z m (begins g n r q t e f) u x = go (ℕ_discrete d a.depth)
  where
    low : (k : ℕ) → (k ≡ a.depth → ⊥) → frame b k ≡ frame a k
    low k h = rw f (get_or-set_other a.frames a.depth k g no_frame h)

    go : Dec (d ≡ a.depth) → Opened p made (here p (top a)).command a b d
    go (yes h) =
        let finish : is_finish (here p (top a)).command ≡ true = subst (λ k. is_finish (here p (frame a (k - 1))).command ≡ true) h (rw (low (d - 1) (λ y. omega (arith, x.above))) at x.by) in
        begun finish h (rw (f, h, get_or-set_same a.frames a.depth g no_frame (omega arith)) (q finish))
    go (no h) = kept x (omega (arith, x.below)) (low (d - 1) (λ y. omega (arith, x.below, x.above))) (ap (λ g. g.first) (low d h))
opened {a = a} {b} {d} z m (repeats o l r t e f) u x = top_kept (record { offset = 0; body = (top a).body; runs = (top a).runs - 1; first = (top a).first }) refl e f x
opened {p} {made} {a} {b} {d} z m (returns o l t e f) u x =
    kept x (omega (arith, x.below))
    (rw f (get_or-set_other fs (n - 1) (d - 1) (moved p (level fs (n - 1))) no_frame (λ y. omega (arith, x.below, x.above)) ∙ under (d - 1) (λ y. omega (arith, x.below))))
    (rw f (same_first fs (n - 1) (moved p (level fs (n - 1))) refl d ∙ ap (λ g. g.first) (under d (λ y. omega (arith, x.below)))))
  where
    n : ℕ
    n = a.depth - 1

    fs : List Frame
    fs = set a.frames n no_frame

    under : (k : ℕ) → (k ≡ n → ⊥) → level fs k ≡ frame a k
    under k h = get_or-set_other a.frames n k no_frame no_frame h
opened {a = a} {b} {d} z m (halts t e f h) u x = absurd (true_false _ t u)
