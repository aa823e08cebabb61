-- A well-formed state as facts, and back.
use Prim.Native.Nat.{ℕ, zero, suc, ◌≤◌, ◌<◌}
use native.Mathlib.Omega.{arith}
use mathlib.Core.Bool.{true, false, cond, ◌||◌, ◌&&◌, not}
use mathlib.Core.Path.{◌≡◌, refl}
use mathlib.Core.Logic.{◌⊎◌, inl, inr}
use lib.Dec.{ltb, leb, eqb}
use borrow.Author.Tests.{ltb-true, ltb-false, lt-ltb, le-ltb, leb-true, le-leb, eqb-true, eq-eqb}
use Rattle.program.specs.Command.{opcode}
use Rattle.program.specs.Bodies.{Program}
use Rattle.program.specs.Count.{work_of}
use Rattle.rules.specs.declared.state.Activity.{Activity}
use Rattle.rules.specs.declared.state.State.{State}
use Rattle.rules.specs.Search.{some_below, all_below}
use Rattle.rules.specs.State.{act, top, accumulator, bound, is_ended, is_at_barrier}
use Rattle.rules.specs.Clocks.{holds, holds_some}
use Rattle.rules.specs.Tree.{here}
use Rattle.rules.specs.WellFormed.{is_no_accumulator, is_no_activity, stack_fits, body_fits, barrier_fits, hold_fits, names_fit, spawner_fits, activity_fits, counts_fit, activities_fit, accumulators_fit, well_formed}
use Rattle.rules.proofs.Tests.{and_true, and_intro, not-true, true_false, decide}
use Rattle.rules.proofs.Search.{all_below_at, all_below_intro, some_below_none, some_below_all}
use Rattle.rules.proofs.WellFormedStack.{Stack, stack, stack_back, stack_more}
use Rattle.rules.proofs.WellFormedHolds.{Held, held, held_back, held_more}

-- What holds of activity i, where so many activities, clocks and accumulators were made.
pub record ActivityFacts (limit : ℕ) (p : Program) (acts clocks accs i : ℕ) (a : Activity) : Type 0 where
  pub stack : Stack p acts a.depth a.frames
  pub gone : is_ended a.status ≡ true → (a.depth ≡ 0) × ((k : ℕ) → k < 8 → holds a k ≡ false)
  pub bodied : is_ended a.status ≡ false → 0 < a.depth
  pub barrier : is_at_barrier a.status ≡ true → opcode (here p (top a)).command ≡ 1
  pub held : Held limit clocks a.holds
  pub bounds : (n : ℕ) → n < 8 → bound a n ≤ accs
  pub main : i ≡ 0 → a.spawner ≡ 0
  pub lower : 0 < i → a.spawner < i

-- What holds of a state.
pub record Facts (limit : ℕ) (p : Program) (s : State) : Type 0 where
  pub acts64 : s.activities ≤ 64
  pub clocks16 : s.clocks ≤ 16
  pub accs16 : s.accumulators ≤ 16
  pub steps : s.steps ≤ work_of p
  pub spawned : (i : ℕ) → i < s.activities → ActivityFacts limit p s.activities s.clocks s.accumulators i (act s i)
  pub unspawned : (i : ℕ) → s.activities ≤ i → i < 64 → is_no_activity (act s i) ≡ true
  pub owned : (n : ℕ) → n < s.accumulators → (accumulator s n).owner < s.activities
  pub unowned : (n : ℕ) → s.accumulators ≤ n → n < 16 → is_no_accumulator (accumulator s n) ≡ true

-- ACTIVITIES

-- "a spawner is not lower than its child"
spawner_out : (i : ℕ) (a : Activity) → spawner_fits i a ≡ true → (i ≡ 0 → a.spawner ≡ 0) × (0 < i → a.spawner < i)
unfolding spawner_fits
spawner_out zero a e = (λ q. eqb-true a.spawner 0 e, λ q. absurd (omega arith))
spawner_out (suc i) a e = (λ q. absurd (omega arith), λ q. ltb-true a.spawner (suc i) e)

-- and back
spawner_in : (i : ℕ) (a : Activity) → (i ≡ 0 → a.spawner ≡ 0) → (0 < i → a.spawner < i) → spawner_fits i a ≡ true
unfolding spawner_fits
spawner_in zero a e l = eq-eqb a.spawner 0 (e refl)
spawner_in (suc i) a e l = lt-ltb a.spawner (suc i) (l (omega arith))

module _ (limit : ℕ) (p : Program) (s : State) (i : ℕ) where
  -- What holds of activity i of the state.
  abbrev Of : Type 0
  Of = ActivityFacts limit p s.activities s.clocks s.accumulators i (act s i)

  -- what the tests of an activity say
  activity_facts : activity_fits limit p s i ≡ true → Of
  unfolding activity_fits body_fits barrier_fits holds_some
  activity_facts e =
      let a = act s i in
      let q₁ = and_true (stack_fits p s.activities a) _ e in
      let q₂ = and_true (body_fits a) _ q₁.1 in
      let q₃ = and_true (barrier_fits p a) _ q₂.1 in
      let q₄ = and_true (all_below 8 (hold_fits limit s.clocks a)) _ q₃.1 in
      let q₅ = and_true (names_fit a) _ q₄.1 in
      let q₆ = and_true (all_below 8 (λ n. leb (bound a n) s.accumulators)) _ q₅.1 in
      let q₇ = spawner_out i a q₆.1 in
      record {
        stack = stack p s.activities a q₁.0;
        gone = λ h. out q₂.0 h;
        bodied = λ h. ltb-true 0 a.depth (rw h at q₂.0);
        barrier = λ h. eqb-true (opcode (here p (top a)).command) 1 (rw h at q₃.0);
        held = held limit s.clocks a q₄.0 q₅.0;
        bounds = λ n l. leb-true (bound a n) s.accumulators (all_below_at 8 (λ n. leb (bound a n) s.accumulators) q₆.0 n l);
        main = q₇.0;
        lower = q₇.1;
      }
    where
      out : cond (is_ended (act s i).status) (eqb (act s i).depth 0 && not (some_below 8 (holds (act s i)))) (ltb 0 (act s i).depth) ≡ true → is_ended (act s i).status ≡ true
          → ((act s i).depth ≡ 0) × ((k : ℕ) → k < 8 → holds (act s i) k ≡ false)
      out e h =
          let q = and_true (eqb (act s i).depth 0) _ (rw h at e) in
          (eqb-true (act s i).depth 0 q.0, some_below_none 8 (holds (act s i)) (not-true _ q.1))

  -- and back
  activity_fits_lem : Of → activity_fits limit p s i ≡ true
  unfolding activity_fits body_fits barrier_fits holds_some
  activity_fits_lem x =
      let a = act s i in
      let h = held_back limit s.clocks a x.held in
      and_intro (stack_fits p s.activities a) _ (stack_back p s.activities a x.stack)
      (and_intro (body_fits a) _ (body (decide (is_ended a.status)))
      (and_intro (barrier_fits p a) _ (barrier (decide (is_at_barrier a.status)))
      (and_intro (all_below 8 (hold_fits limit s.clocks a)) _ h.0
      (and_intro (names_fit a) _ h.1
      (and_intro (all_below 8 (λ n. leb (bound a n) s.accumulators)) _ (all_below_intro 8 _ (λ n l. le-leb (bound a n) s.accumulators (x.bounds n l)))
      (spawner_in i a x.main x.lower))))))
    where
      body : (is_ended (act s i).status ≡ true) ⊎ (is_ended (act s i).status ≡ false)
          → cond (is_ended (act s i).status) (eqb (act s i).depth 0 && not (some_below 8 (holds (act s i)))) (ltb 0 (act s i).depth) ≡ true
      body (inl h) =
          let q = x.gone h in
          let n = some_below_all 8 (holds (act s i)) (λ k l e. true_false _ e (q.1 k l)) in
          rw (h, n) (and_intro (eqb (act s i).depth 0) true (eq-eqb (act s i).depth 0 q.0) refl)
      body (inr h) = rw h (lt-ltb 0 (act s i).depth (x.bodied h))

      barrier : (is_at_barrier (act s i).status ≡ true) ⊎ (is_at_barrier (act s i).status ≡ false)
          → not (is_at_barrier (act s i).status) || eqb (opcode (here p (top (act s i))).command) 1 ≡ true
      barrier (inl h) = rw h (eq-eqb (opcode (here p (top (act s i))).command) 1 (x.barrier h))
      barrier (inr h) = rw h

-- more of each do no harm
pub facts_more : {limit : ℕ} {p : Program} {acts clocks accs i : ℕ} {a : Activity} (acts' clocks' accs' : ℕ) → acts ≤ acts' → clocks ≤ clocks' → accs ≤ accs'
    → ActivityFacts limit p acts clocks accs i a → ActivityFacts limit p acts' clocks' accs' i a
facts_more acts' clocks' accs' l m n x =
    record {
      stack = stack_more acts' l x.stack;
      gone = x.gone;
      bodied = x.bodied;
      barrier = x.barrier;
      held = held_more clocks' m x.held;
      bounds = λ k h. omega (arith, x.bounds k h);
      main = x.main;
      lower = x.lower;
    }

-- STATES

module _ (limit : ℕ) (p : Program) (s : State) where
  -- what the tests of a state say
  pub facts : well_formed limit p s ≡ true → Facts limit p s
  unfolding well_formed counts_fit activities_fit accumulators_fit
  facts e =
      let q₁ = and_true (counts_fit p s) _ e in
      let q₂ = and_true (activities_fit limit p s) _ q₁.1 in
      let c₁ = and_true (leb s.activities 64) _ q₁.0 in
      let c₂ = and_true (leb s.clocks 16) _ c₁.1 in
      let c₃ = and_true (leb s.accumulators 16) _ c₂.1 in
      let acts = leb-true s.activities 64 c₁.0 in
      let accs = leb-true s.accumulators 16 c₃.0 in
      record {
        acts64 = acts;
        clocks16 = leb-true s.clocks 16 c₂.0;
        accs16 = accs;
        steps = leb-true s.steps (work_of p) c₃.1;
        spawned = λ i l. activity_facts limit p s i (rw (lt-ltb i s.activities l) at (each q₂.0 i (omega arith)));
        unspawned = λ i l m. rw (le-ltb i s.activities l) at (each q₂.0 i m);
        owned = λ n l. ltb-true (accumulator s n).owner s.activities (rw (lt-ltb n s.accumulators l) at (all q₂.1 n (omega arith)));
        unowned = λ n l m. rw (le-ltb n s.accumulators l) at (all q₂.1 n m);
      }
    where
      each : all_below 64 (λ i. cond (ltb i s.activities) (activity_fits limit p s i) (is_no_activity (act s i))) ≡ true
          → (i : ℕ) → i < 64 → cond (ltb i s.activities) (activity_fits limit p s i) (is_no_activity (act s i)) ≡ true
      each e = all_below_at 64 (λ i. cond (ltb i s.activities) (activity_fits limit p s i) (is_no_activity (act s i))) e

      all : all_below 16 (λ n. cond (ltb n s.accumulators) (ltb (accumulator s n).owner s.activities) (is_no_accumulator (accumulator s n))) ≡ true
          → (n : ℕ) → n < 16 → cond (ltb n s.accumulators) (ltb (accumulator s n).owner s.activities) (is_no_accumulator (accumulator s n)) ≡ true
      all e = all_below_at 16 (λ n. cond (ltb n s.accumulators) (ltb (accumulator s n).owner s.activities) (is_no_accumulator (accumulator s n))) e

  -- and back
  pub formed : Facts limit p s → well_formed limit p s ≡ true
  unfolding well_formed counts_fit activities_fit accumulators_fit
  formed x =
      and_intro (counts_fit p s) _
      (and_intro (leb s.activities 64) _ (le-leb s.activities 64 x.acts64)
      (and_intro (leb s.clocks 16) _ (le-leb s.clocks 16 x.clocks16)
      (and_intro (leb s.accumulators 16) _ (le-leb s.accumulators 16 x.accs16) (le-leb s.steps (work_of p) x.steps))))
      (and_intro (activities_fit limit p s) _ (all_below_intro 64 _ (λ i l. each i l (decide (ltb i s.activities)))) (all_below_intro 16 _ (λ n l. all n l (decide (ltb n s.accumulators)))))
    where
      each : (i : ℕ) → i < 64 → (ltb i s.activities ≡ true) ⊎ (ltb i s.activities ≡ false) → cond (ltb i s.activities) (activity_fits limit p s i) (is_no_activity (act s i)) ≡ true
      each i l (inl h) = rw h (activity_fits_lem limit p s i (x.spawned i (ltb-true i s.activities h)))
      each i l (inr h) = rw h (x.unspawned i (ltb-false i s.activities h) l)

      all : (n : ℕ) → n < 16 → (ltb n s.accumulators ≡ true) ⊎ (ltb n s.accumulators ≡ false)
          → cond (ltb n s.accumulators) (ltb (accumulator s n).owner s.activities) (is_no_accumulator (accumulator s n)) ≡ true
      all n l (inl h) = rw h (lt-ltb (accumulator s n).owner s.activities (x.owned n (ltb-true n s.accumulators h)))
      all n l (inr h) = rw h (x.unowned n (ltb-false n s.accumulators h) l)
