-- The stack of a well-formed activity as facts: each frame stands on a command, each body is run by the command below it, bodies rise. One law gives
-- the stack after a frame was put at, under or on the top: past a command, a body begun, run again or left.
use Prim.Native.Nat.{ℕ, zero, suc, ◌-◌, ◌≤◌, ◌<◌}
use native.Mathlib.Omega.{arith}
use native.Mathlib.Decide.{ℕ_discrete}
use mathlib.Core.List.{List}
use mathlib.Core.Bool.{true, false, cond}
use mathlib.Core.Path.{◌≡◌, refl, sym, ap, ◌∙◌, subst}
use mathlib.Core.Logic.{◌⊎◌, inl, inr}
use lib.ListN.{length, get_or}
use lib.Dec.{ltb, leb, eqb}
use borrow.Author.Tests.{ltb-true, ltb-false, lt-ltb, le-ltb, leb-true, le-leb, eqb-true, eq-eqb}
use Rattle.program.specs.declared.command.Command.{Command}
use Rattle.program.specs.declared.command.Command.TheVariants.{End, Next, Clock, Resume, Drop, Async, Finish, Repeat, Acc, Offer, Read, Reset, Put, Fetch, Store, Add, Atom, Choose}
use Rattle.program.specs.Command.{names, named, is_end}
use Rattle.program.specs.Bodies.{Program}
use Rattle.program.proofs.Shape.{Accepted}
use Rattle.program.proofs.ShapeRows.{names_is, named_is}
use Rattle.rules.specs.declared.state.Frame.{Frame}
use Rattle.rules.specs.declared.state.Activity.{Activity}
use Rattle.rules.specs.Search.{all_below}
use Rattle.rules.specs.State.{no_frame, frame}
use Rattle.rules.specs.Tree.{here, is_finish}
use Rattle.rules.specs.WellFormed.{is_no_frame, run_by, is_placed, is_bottom, is_stacked, frame_fits, stack_fits}
use Rattle.rules.proofs.Tests.{and_true, and_intro, true_false, decide}
use Rattle.rules.proofs.Search.{all_below_at, all_below_intro}

-- WHAT RUNS A BODY

-- A frame that a FINISH, a REPEAT or a CHOOSE runs, where `made` activities were spawned.
pub data Ran (made : ℕ) (o : Command) (f : Frame) : Type 0 where
  by_finish : (b : ℕ) → o ≡ Finish b → f.body ≡ b → f.runs ≡ 0 → f.first ≤ made → Ran made o f
  by_repeat : (n b : ℕ) → o ≡ Repeat n b → f.body ≡ b → 1 ≤ f.runs → f.runs ≤ n → f.first ≡ 0 → Ran made o f
  by_choose : (b : ℕ) → o ≡ Choose b → f.body ≡ b → f.runs ≡ 0 → f.first ≡ 0 → Ran made o f

-- what the test says
pub ran : (made : ℕ) (o : Command) (f : Frame) → run_by made o f ≡ true → Ran made o f
unfolding run_by
ran made End f e = absurd (true_false false e refl)
ran made Next f e = absurd (true_false false e refl)
ran made (Clock c) f e = absurd (true_false false e refl)
ran made (Resume c) f e = absurd (true_false false e refl)
ran made (Drop c) f e = absurd (true_false false e refl)
ran made (Async b m) f e = absurd (true_false false e refl)
ran made (Finish b) f e =
    let q = and_true (eqb f.body b) _ e in
    let r = and_true (eqb f.runs 0) _ q.1 in
    by_finish b refl (eqb-true f.body b q.0) (eqb-true f.runs 0 r.0) (leb-true f.first made r.1)
ran made (Repeat n b) f e =
    let q = and_true (eqb f.body b) _ e in
    let r = and_true (leb 1 f.runs) _ q.1 in
    let u = and_true (leb f.runs n) _ r.1 in
    by_repeat n b refl (eqb-true f.body b q.0) (leb-true 1 f.runs r.0) (leb-true f.runs n u.0) (eqb-true f.first 0 u.1)
ran made (Acc n o) f e = absurd (true_false false e refl)
ran made (Offer n) f e = absurd (true_false false e refl)
ran made (Read n) f e = absurd (true_false false e refl)
ran made (Reset n) f e = absurd (true_false false e refl)
ran made (Put v) f e = absurd (true_false false e refl)
ran made (Fetch d) f e = absurd (true_false false e refl)
ran made (Store d) f e = absurd (true_false false e refl)
ran made (Add d) f e = absurd (true_false false e refl)
ran made (Atom k) f e = absurd (true_false false e refl)
ran made (Choose b) f e =
    let q = and_true (eqb f.body b) _ e in
    let r = and_true (eqb f.runs 0) _ q.1 in
    by_choose b refl (eqb-true f.body b q.0) (eqb-true f.runs 0 r.0) (eqb-true f.first 0 r.1)

-- and back
pub ran_back : {made : ℕ} {o : Command} {f : Frame} → Ran made o f → run_by made o f ≡ true
unfolding run_by
ran_back {made} {o} {f} (by_finish b e p q r) = rw e (and_intro (eqb f.body b) _ (eq-eqb _ _ p) (and_intro (eqb f.runs 0) _ (eq-eqb _ _ q) (le-leb _ _ r)))
ran_back {made} {o} {f} (by_repeat n b e p q r u) =
    rw e (and_intro (eqb f.body b) _ (eq-eqb _ _ p) (and_intro (leb 1 f.runs) _ (le-leb _ _ q) (and_intro (leb f.runs n) _ (le-leb _ _ r) (eq-eqb _ _ u))))
ran_back {made} {o} {f} (by_choose b e p q r) = rw e (and_intro (eqb f.body b) _ (eq-eqb _ _ p) (and_intro (eqb f.runs 0) _ (eq-eqb _ _ q) (eq-eqb _ _ r)))

-- only the body, the runs and the first number matter; more activities do no harm
pub ran_same : {made : ℕ} {o : Command} {f : Frame} (made' : ℕ) (g : Frame) → made ≤ made' → g.body ≡ f.body → g.runs ≡ f.runs → g.first ≡ f.first → Ran made o f → Ran made' o g
ran_same made' g l x y z (by_finish b e p q r) = by_finish b e (x ∙ p) (y ∙ q) (rw z (omega arith))
ran_same made' g l x y z (by_repeat n b e p q r u) = by_repeat n b e (x ∙ p) (rw y q) (rw y r) (z ∙ u)
ran_same made' g l x y z (by_choose b e p q r) = by_choose b e (x ∙ p) (y ∙ q) (z ∙ r)

-- one run less, of several
pub ran_less : {made : ℕ} {o : Command} {f : Frame} (g : Frame) → g.body ≡ f.body → g.runs ≡ f.runs - 1 → g.first ≡ f.first → 1 < f.runs → Ran made o f → Ran made o g
ran_less g x y z l (by_finish b e p q r) = absurd (omega arith)
ran_less g x y z l (by_repeat n b e p q r u) = by_repeat n b e (x ∙ p) (omega arith) (omega arith) (z ∙ u)
ran_less g x y z l (by_choose b e p q r) = absurd (omega arith)

-- what runs a body is no END
pub ran_going : {made : ℕ} {o : Command} {f : Frame} → Ran made o f → is_end o ≡ false
unfolding is_end
ran_going (by_finish b e p q r) = rw e
ran_going (by_repeat n b e p q r u) = rw e
ran_going (by_choose b e p q r) = rw e

-- and names it
pub ran_names : {made : ℕ} {o : Command} {f : Frame} → Ran made o f → (names o ≡ true) × (named o ≡ f.body)
ran_names (by_finish b e p q r) = rw e (names_is (Finish b), named_is (Finish b) ∙ sym p)
ran_names (by_repeat n b e p q r u) = rw e (names_is (Repeat n b), named_is (Repeat n b) ∙ sym p)
ran_names (by_choose b e p q r) = rw e (names_is (Choose b), named_is (Choose b) ∙ sym p)

-- a body with a first number is run by a FINISH
pub ran_first : {made : ℕ} {o : Command} {f : Frame} → Ran made o f → is_finish o ≡ true → (f.runs ≡ 0) × (f.first ≤ made)
ran_first {o = o} (by_finish b e p q r) h = (q, r)
ran_first {o = o} (by_repeat n b e p q r u) h = absurd (true_false (is_finish o) h (rw e))
ran_first {o = o} (by_choose b e p q r) h = absurd (true_false (is_finish o) h (rw e))

-- STACKS

-- The frame at a level of a stack.
abbrev pub level : List Frame → ℕ → Frame
level fs d = get_or fs d no_frame

-- A frame on another.
pub record Stacked (p : Program) (made : ℕ) (below f : Frame) : Type 0 where
  pub by : Ran made (here p below).command f
  pub rises : below.body < f.body

-- What a stack of so many frames is like.
pub record Stack (p : Program) (made depth : ℕ) (fs : List Frame) : Type 0 where
  pub few : depth ≤ 16
  pub placed : (d : ℕ) → d < depth → is_placed p (level fs d) ≡ true
  pub bottom : 0 < depth → is_bottom (level fs 0) ≡ true
  pub stacked : (d : ℕ) → suc d < depth → Stacked p made (level fs d) (level fs (suc d))
  pub unused : (d : ℕ) → depth ≤ d → d < 16 → is_no_frame (level fs d) ≡ true

-- what the test of a frame on another says
stacked_out : (p : Program) (made : ℕ) (below f : Frame) → is_stacked p made below f ≡ true → Stacked p made below f
unfolding is_stacked
stacked_out p made below f e =
    let q = and_true (run_by made (here p below).command f) _ e in
    record { by = ran made (here p below).command f q.0; rises = ltb-true below.body f.body q.1 }

-- and back
stacked_in : (p : Program) (made : ℕ) (below f : Frame) → Stacked p made below f → is_stacked p made below f ≡ true
unfolding is_stacked
stacked_in p made below f x = and_intro (run_by made (here p below).command f) _ (ran_back x.by) (lt-ltb below.body f.body x.rises)

-- what the tests of a stack say
pub stack : (p : Program) (made : ℕ) (a : Activity) → stack_fits p made a ≡ true → Stack p made a.depth a.frames
unfolding stack_fits frame_fits
stack p made a e =
    record {
      few = few;
      placed = λ d l. placed d l (fits d l);
      bottom = λ l. (and_true (is_placed p (frame a 0)) _ (fits 0 l)).1;
      stacked = λ d l. stacked_out p made (frame a d) (frame a (suc d)) (and_true (is_placed p (frame a (suc d))) _ (fits (suc d) l)).1;
      unused = unused;
    }
  where
    q : (leb a.depth 16 ≡ true) × (all_below 16 (λ d. cond (ltb d a.depth) (frame_fits p made a d) (is_no_frame (frame a d))) ≡ true)
    q = and_true (leb a.depth 16) _ e

    few : a.depth ≤ 16
    few = leb-true a.depth 16 q.0

    fits : (d : ℕ) → d < a.depth → frame_fits p made a d ≡ true
    fits d l = rw (lt-ltb d a.depth l) at (all_below_at 16 (λ d. cond (ltb d a.depth) (frame_fits p made a d) (is_no_frame (frame a d))) q.1 d (omega (arith, few)))

    unused : (d : ℕ) → a.depth ≤ d → d < 16 → is_no_frame (frame a d) ≡ true
    unused d l m = rw (le-ltb d a.depth l) at (all_below_at 16 (λ d. cond (ltb d a.depth) (frame_fits p made a d) (is_no_frame (frame a d))) q.1 d m)

    placed : (d : ℕ) → d < a.depth → frame_fits p made a d ≡ true → is_placed p (frame a d) ≡ true
    placed zero l h = (and_true (is_placed p (frame a 0)) _ h).0
    placed (suc d) l h = (and_true (is_placed p (frame a (suc d))) _ h).0

-- and back
pub stack_back : (p : Program) (made : ℕ) (a : Activity) → Stack p made a.depth a.frames → stack_fits p made a ≡ true
unfolding stack_fits frame_fits
stack_back p made a x =
    and_intro (leb a.depth 16) _ (le-leb a.depth 16 x.few)
    (all_below_intro 16 (λ d. cond (ltb d a.depth) (frame_fits p made a d) (is_no_frame (frame a d))) (λ d l. go d l (decide (ltb d a.depth))))
  where
    fits : (d : ℕ) → d < a.depth → frame_fits p made a d ≡ true
    fits zero l = and_intro (is_placed p (frame a 0)) _ (x.placed 0 l) (x.bottom l)
    fits (suc d) l = and_intro (is_placed p (frame a (suc d))) _ (x.placed (suc d) l) (stacked_in p made (frame a d) (frame a (suc d)) (x.stacked d l))

    go : (d : ℕ) → d < 16 → (ltb d a.depth ≡ true) ⊎ (ltb d a.depth ≡ false) → cond (ltb d a.depth) (frame_fits p made a d) (is_no_frame (frame a d)) ≡ true
    go d l (inl h) = rw h (fits d (ltb-true d a.depth h))
    go d l (inr h) = rw h (x.unused d (ltb-false d a.depth h) l)

-- more activities do no harm
pub stack_more : {p : Program} {made depth : ℕ} {fs : List Frame} (made' : ℕ) → made ≤ made' → Stack p made depth fs → Stack p made' depth fs
stack_more {fs = fs} made' l x =
    record {
      few = x.few;
      placed = x.placed;
      bottom = x.bottom;
      stacked = λ d m. record { by = ran_same made' (level fs (suc d)) l refl refl refl (x.stacked d m).by; rises = (x.stacked d m).rises };
      unused = x.unused;
    }

-- bodies rise
pub stack_rises : {p : Program} {made depth : ℕ} {fs : List Frame} → Stack p made depth fs → (d : ℕ) → d < depth → d ≤ (level fs d).body
stack_rises x zero l = omega arith
stack_rises x (suc d) l = omega (arith, stack_rises x d (omega arith), (x.stacked d l).rises)

-- what stands at level k of a stack, or one above its top
pub record On (p : Program) (made k : ℕ) (fs : List Frame) (f : Frame) : Type 0 where
  pub lowest : k ≡ 0 → is_bottom f ≡ true
  pub higher : (j : ℕ) → k ≡ suc j → Stacked p made (level fs j) f

-- the levels below k stay, f is at k, and nothing above
pub stack_put : {p : Program} {made depth : ℕ} {fs : List Frame} (k n : ℕ) (fs' : List Frame) (f : Frame) → Stack p made depth fs → n ≡ suc k → k ≤ depth → k < 16
    → ((d : ℕ) → d < k → level fs' d ≡ level fs d) → level fs' k ≡ f → ((d : ℕ) → k < d → d < 16 → is_no_frame (level fs' d) ≡ true)
    → is_placed p f ≡ true → On p made k fs f → Stack p made n fs'
stack_put {p} {made} {depth} {fs} k n fs' f x e l m low this high placed on =
    record {
      few = omega arith;
      placed = λ d h. at d h (ℕ_discrete d k);
      bottom = λ h. base (ℕ_discrete 0 k);
      stacked = λ d h. under d h (ℕ_discrete (suc d) k);
      unused = λ d h b. high d (omega arith) b;
    }
  where
    at : (d : ℕ) → d < n → Dec (d ≡ k) → is_placed p (level fs' d) ≡ true
    at d h (yes q) = rw (q, this) placed
    at d h (no q) = rw (low d (omega arith)) (x.placed d (omega arith))

    base : Dec (0 ≡ k) → is_bottom (level fs' 0) ≡ true
    base (yes q) = subst (λ d. is_bottom (level fs' d) ≡ true) (sym q) (rw this (on.lowest (sym q)))
    base (no q) = rw (low 0 (omega arith)) (x.bottom (omega arith))

    under : (d : ℕ) → suc d < n → Dec (suc d ≡ k) → Stacked p made (level fs' d) (level fs' (suc d))
    under d h (yes q) = rw (low d (omega arith), q, this) (on.higher d (sym q))
    under d h (no q) = rw (low d (omega arith), low (suc d) (omega arith)) (x.stacked d (omega arith))

-- what stands on a level stays so when its place changes
pub on_moved : {p : Program} {made depth : ℕ} {fs : List Frame} (k : ℕ) (f : Frame) → Stack p made depth fs → k < depth → f.body ≡ (level fs k).body → f.runs ≡ (level fs k).runs
    → f.first ≡ (level fs k).first → On p made k fs f
unfolding is_bottom
on_moved {p} {made} {depth} {fs} k f x l b r t =
    record {
      lowest = λ e. rw (r, t) (subst (λ d. is_bottom (level fs d) ≡ true) (sym e) (x.bottom (omega arith)));
      higher = λ j e. go j (x.stacked j (omega arith)) (ap (level fs) (sym e));
    }
  where
    go : (j : ℕ) → Stacked p made (level fs j) (level fs (suc j)) → level fs (suc j) ≡ level fs k → Stacked p made (level fs j) f
    go j y e =
        record {
          by = ran_same made f (omega arith) (b ∙ ap (λ g. g.body) (sym e)) (r ∙ ap (λ g. g.runs) (sym e)) (t ∙ ap (λ g. g.first) (sym e)) y.by;
          rises = rw b (subst (λ g. (level fs j).body < g.body) e y.rises);
        }

-- and when a run less is left, of several
pub on_again : {p : Program} {made depth : ℕ} {fs : List Frame} (k : ℕ) (f : Frame) → Stack p made depth fs → k < depth → f.body ≡ (level fs k).body → f.runs ≡ (level fs k).runs - 1
    → f.first ≡ (level fs k).first → 1 < (level fs k).runs → 0 < k → On p made k fs f
on_again {p} {made} {depth} {fs} k f x l b r t m z = record { lowest = λ e. absurd (omega arith); higher = λ j e. go j (x.stacked j (omega arith)) (ap (level fs) (sym e)) }
  where
    go : (j : ℕ) → Stacked p made (level fs j) (level fs (suc j)) → level fs (suc j) ≡ level fs k → Stacked p made (level fs j) f
    go j y e =
        record {
          by = ran_less f (b ∙ ap (λ g. g.body) (sym e)) (r ∙ ap (λ g. g.runs - 1) (sym e)) (t ∙ ap (λ g. g.first) (sym e)) (rw e m) y.by;
          rises = rw b (subst (λ g. (level fs j).body < g.body) e y.rises);
        }

-- there is room for one body more
pub stack_room : {p : Program} {made depth : ℕ} {fs : List Frame} (ok : Accepted p) (b : ℕ) → Stack p made depth fs → 0 < depth → (level fs (depth - 1)).body < b → b < length p → depth < 16
stack_room {depth = depth} ok b x l m n = omega (arith, stack_rises x (depth - 1) (omega arith), ok.few)
