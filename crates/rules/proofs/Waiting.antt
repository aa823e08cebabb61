-- The standstill argument at the machine's state: whoever waits, waits at a barrier, at the END of a FINISH body or at a READ or RESET.
use Prim.Native.Nat.{ℕ, ◌+◌, ◌<◌}
use native.Mathlib.Omega.{arith}
use native.Mathlib.Decide.{dec_lt}
use mathlib.Core.Bool.{Bool, true, false, cond, ◌&&◌, not}
use mathlib.Core.Path.{◌≡◌, refl}
use mathlib.Core.Logic.{◌⊎◌, inl, inr}
use lib.ListN.{get_or-eq_default}
use lib.Dec.{eqb}
use Rattle.program.specs.declared.command.Command.{Command}
use Rattle.program.specs.declared.command.Command.TheVariants.{End, Next, Clock, Resume, Drop, Async, Finish, Repeat, Acc, Offer, Read, Reset, Put, Fetch, Store, Add, Atom, Choose}
use Rattle.rules.specs.declared.state.Activity.{Activity}
use Rattle.rules.specs.declared.state.State.{State}
use Rattle.program.specs.Bodies.{Program}
use Rattle.rules.specs.State.{act, ended, is_at_barrier, hold, top, no_hold}
use Rattle.rules.specs.Clocks.{holds, is_live, behind, is_behind, holds_some}
use Rattle.rules.specs.Tree.{descends, inside, in_finish_body}
use Rattle.rules.specs.Faults.{Env, read_fault, unbound, number_under, fault_for}
use Rattle.rules.specs.Waiting.{behind_of, unended_inside, unended_below, waits_for}
use Rattle.rules.specs.Effects.{env_of}
use Rattle.rules.specs.Steps.{at, breach, waits}
use Rattle.rules.proofs.Tests.{and_true, true_false, not-true, decide}
use Rattle.rules.proofs.Search.{some_below_witness, some_below_none}
use Rattle.rules.proofs.Awaited.{waiting_parts}
use Rattle.rules.proofs.Applied.{Bounded}
use Rattle.rules.proofs.Behind.{behind_out}
use Rattle.rules.proofs.Standstill.{View, AtMeeting, AtFinish, AtRead, Waits, closes, meets, reads, Sound, standstill}
use Rattle.rules.proofs.Tree.{Open, open_top, descends_above, inside_above, inside_closed}

-- What the argument looks at in a state.
abbrev pub view : Program → State → View
view p s =
    record {
      n = s.activities;
      unended = λ i. not (ended s i);
      barrier = λ i. is_at_barrier (act s i).status;
      opened = λ i j. Open p (act s i).depth (act s i).frames j;
      held = λ i k. holds (act s i) k;
      live = λ i k. is_live (hold (act s i) k).registration;
      clock = λ i k. (hold (act s i) k).clock;
      phase = λ i k. (hold (act s i) k).phase;
      descends = λ w x. descends s w x;
      inside = λ w j x. inside s w j x;
    }

-- The invariants that it needs.
pub record Sane (p : Program) (s : State) (vt base : ℕ → ℕ) : Type 0 where
  pub bounded : Bounded s
  pub falls : (y : ℕ) → 0 < y → y < s.activities → (act s y).spawner < y
  pub ended_free : (i k : ℕ) → i < s.activities → holds (act s i) k ≡ true → ended s i ≡ false
  pub quiesced : (i k : ℕ) → i < s.activities → is_at_barrier (act s i).status ≡ true → holds (act s i) k ≡ true
      → is_live (hold (act s i) k).registration ≡ false
  pub time : (i k : ℕ) → i < s.activities → holds (act s i) k ≡ true → (hold (act s i) k).phase + base (hold (act s i) k).clock ≡ vt i
  pub contained : (w j : ℕ) → w < s.activities → ended s w ≡ false → Open p (act s w).depth (act s w).frames j → (x k y l : ℕ)
      → x < s.activities → y < s.activities → holds (act s x) k ≡ true → holds (act s y) l ≡ true
      → (hold (act s y) l).clock ≡ (hold (act s x) k).clock → inside s w j x ≡ true → inside s w j y ≡ true

-- Passing waits for a holder who is behind.
at_meeting : (p : Program) (s : State) (i x : ℕ) → x < s.activities → is_at_barrier (act s i).status ≡ true → behind_of s (act s i) x ≡ true
    → AtMeeting (view p s) i
unfolding behind_of behind
at_meeting p s i x l e b =
    let w = some_below_witness 8 (λ k. holds (act s i) k && behind s (hold (act s i) k).clock (hold (act s i) k).phase x) b in
    let q = and_true _ _ w.passes in
    let v = some_below_witness 8 (λ k. is_behind (hold (act s i) w.at).clock (hold (act s i) w.at).phase (hold (act s x) k)) q.1 in
    let c = behind_out (hold (act s i) w.at).clock (hold (act s i) w.at).phase (hold (act s x) v.at) v.passes in
    record { standing = e; own = w.at; owned = q.0; other = x; there = l; name = v.at; holds = c.held; same = c.clock; behind = c.order }

-- END of a FINISH body waits for one inside.
at_finish : (p : Program) (s : State) (i x : ℕ) → x < s.activities → in_finish_body p (act s i) && unended_inside s i (top (act s i)).first x ≡ true
    → AtFinish (view p s) i
unfolding unended_inside
at_finish p s i x l e =
    let q = and_true _ _ e in
    let r = and_true _ _ q.1 in
    record { first = (top (act s i)).first; level = open_top p (act s i) q.0; other = x; there = l; runs = r.1; within = r.0 }

-- READ and RESET wait for a descendant.
at_read : (p : Program) (s : State) (i x : ℕ) → Bounded s → i < s.activities → x < s.activities → holds_some (act s i) ≡ false → unended_below s i x ≡ true
    → AtRead (view p s) i
unfolding unended_below holds_some
at_read p s i x z l m h e =
    let r = and_true _ _ e in
    record { other = x; there = m; runs = r.1; below = r.0; none = λ k. free k (dec_lt k 8) }
  where
    free : (k : ℕ) → Dec (k < 8) → holds (act s i) k ≡ false
    free k (yes l) = some_below_none 8 (holds (act s i)) h k l
    free k (no n) =
        rw (get_or-eq_default (act s i).holds no_hold {n = k} (omega (arith, (z.sized.each i (omega (arith, z.count))).holds8)))

-- Who reads holds no clock: F7 comes before waiting.
reader_free : (e : Env) (i : ℕ) (a : Activity) (n : ℕ) → read_fault e i a n ≡ 0 → holds_some a ≡ false
unfolding read_fault
reader_free e i a n f = go (unbound a n) (eqb (e.look (number_under a n)).owner i) (holds_some a) f
  where
    go : (x y z : Bool) → ◌≡◌ {A = ℕ} (cond x 5 (cond y (cond z 7 0) 6)) 0 → z ≡ false
    go true y z e = absurd (omega arith)
    go false true true e = absurd (omega arith)
    go false true false e = refl
    go false false z e = absurd (omega arith)

-- Who waits for x at a command that breaches no rule.
waiting_for : (p : Program) (s : State) (i x : ℕ) → Bounded s → i < s.activities → x < s.activities → (c : Command) → fault_for p (env_of s) i (act s i) c ≡ 0
    → waits_for p s i (act s i) c x ≡ true → Waits (view p s) i
unfolding waits_for fault_for
waiting_for p s i x z l m End f e = closes (at_finish p s i x m e)
waiting_for p s i x z l m Next f e = let q = and_true _ _ e in meets (at_meeting p s i x m q.0 q.1)
waiting_for p s i x z l m (Read n) f e = reads (at_read p s i x z l m (reader_free (env_of s) i (act s i) n f) e)
waiting_for p s i x z l m (Reset n) f e = reads (at_read p s i x z l m (reader_free (env_of s) i (act s i) n f) e)
waiting_for p s i x z l m (Clock c) f e = absurd (true_false _ e refl)
waiting_for p s i x z l m (Resume c) f e = absurd (true_false _ e refl)
waiting_for p s i x z l m (Drop c) f e = absurd (true_false _ e refl)
waiting_for p s i x z l m (Async y n) f e = absurd (true_false _ e refl)
waiting_for p s i x z l m (Finish y) f e = absurd (true_false _ e refl)
waiting_for p s i x z l m (Repeat n y) f e = absurd (true_false _ e refl)
waiting_for p s i x z l m (Acc n o) f e = absurd (true_false _ e refl)
waiting_for p s i x z l m (Offer n) f e = absurd (true_false _ e refl)
waiting_for p s i x z l m (Put v) f e = absurd (true_false _ e refl)
waiting_for p s i x z l m (Fetch d) f e = absurd (true_false _ e refl)
waiting_for p s i x z l m (Store d) f e = absurd (true_false _ e refl)
waiting_for p s i x z l m (Add d) f e = absurd (true_false _ e refl)
waiting_for p s i x z l m (Atom k) f e = absurd (true_false _ e refl)
waiting_for p s i x z l m (Choose y) f e = absurd (true_false _ e refl)

-- Who waits, waits at one of the three.
waiting : (p : Program) (s : State) (i : ℕ) → Bounded s → i < s.activities → waits p s i ≡ true → Waits (view p s) i
unfolding breach
waiting p s i z l e =
    let q = waiting_parts p s i e in
    let w = some_below_witness s.activities (waits_for p s i (act s i) (at p s i).command) q.some in
    waiting_for p s i w.at z l w.below (at p s i).command q.no_breach w.passes

-- The invariants say what the argument asks of a view.
sound : (p : Program) (s : State) (vt base : ℕ → ℕ) → Sane p s vt base → Sound (view p s) vt base
sound p s vt base g =
    record {
      down = descends_above s;
      in_down = inside_above s;
      in_closed = inside_closed s g.bounded.count g.falls;
      ended_free = λ i k l e. rw (g.ended_free i k l e);
      quiesced = g.quiesced;
      time = g.time;
      contained = λ w j l u. g.contained w j l (not-true _ u);
    }

-- In a state with these invariants, where every unended activity waits, all have ended.
pub no_standstill : (p : Program) (s : State) (vt base : ℕ → ℕ) → Sane p s vt base
    → ((i : ℕ) → i < s.activities → ended s i ≡ false → waits p s i ≡ true) → (i : ℕ) → i < s.activities → ended s i ≡ true
no_standstill p s vt base g all i l = go (decide (ended s i))
  where
    go : (ended s i ≡ true) ⊎ (ended s i ≡ false) → ended s i ≡ true
    go (inl e) = e
    go (inr e) =
        absurd (standstill (view p s) vt base (sound p s vt base g) (λ x m u. waiting p s x g.bounded m (all x m (not-true _ u))) i l (rw e))
