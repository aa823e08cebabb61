-- Demand 3, for every accepted table and every list of calls: the ready set is empty only when all have ended, what a run takes and what it spares is exactly its
-- counted work, or less with a fault, and a quiescent phase stays so. By induction over the list: each call's state is reached and well-formed.
use Prim.Native.Nat.{ℕ, zero, suc, ◌+◌, ◌≤◌, ◌<◌}
use native.Mathlib.Omega.{arith}
use native.Mathlib.Decide.{ℕ_discrete}
use mathlib.Core.List.{List, [], ◌∷◌, ◌++◌}
use mathlib.Core.Bool.{Bool, true, false, cond, ◌||◌, ◌&&◌, not}
use mathlib.Core.Path.{◌≡◌, refl, sym, ap, ◌∙◌, subst}
use borrow.Author.Tests.{eqb-true, eqb-false, ne_eqb, le-leb}
use Rattle.std.specs.Prelude.{Err}
use Rattle.rules.specs.declared.state.State.{State}
use Rattle.program.specs.Refusal.{refusal_at, told}
use Rattle.rules.specs.declared.answer.Stepped.{Stepped}
use Rattle.program.specs.Bodies.{program_of, Program}
use Rattle.program.specs.Command.{named}
use Rattle.program.specs.Count.{tally, own_work, work_of}
use Rattle.program.specs.Table.{number_of}
use Rattle.program.proofs.Shape.{Accepted, Counted}
use Rattle.program.proofs.ShapeLaws.{accepted, numbered, numbered_counted}
use Rattle.rules.specs.Search.{bits_below}
use Rattle.rules.specs.State.{act, ended}
use Rattle.rules.specs.Clocks.{quiescent}
use Rattle.rules.specs.Faults.{bit}
use Rattle.rules.specs.Effects.{applied, env_of}
use Rattle.rules.specs.WellFormed.{well_formed}
use Rattle.rules.specs.Steps.{Limits, at, refusal, start, step, stepped, fault, effect, start_state, ready, ready_set, can_step, waits}
use Rattle.rules.specs.Runs.{taken, run, run_from, answers, answers_from, is_accepted, is_fault, some_fault, finished, skips, spares, spared_from, spared, all_ran_from, all_ran}
use Rattle.rules.specs.Demand3.{is_of_run, all_of_run, Demand3, AtEveryPoint}
use Rattle.rules.proofs.Tests.{true_false, and_true, and_intro}
use Rattle.rules.proofs.Search.{all_below_intro, all_below_at}
use Rattle.rules.proofs.Sums.{sum_below, sum_below_same}
use Rattle.rules.proofs.Bits.{zero_bits, bits_zero}
use Rattle.rules.proofs.StepLaws.{fit, outcome, Outcome, unfits, refuses, overflows, takes, ready_bit}
use Rattle.rules.proofs.AnswerNumbers.{refusal_range, refused_number, ready_number}
use Rattle.rules.proofs.WellFormedStep.{step_well_formed}
use Rattle.rules.proofs.WellFormedStart.{start_well_formed}
use Rattle.rules.proofs.Shapes.{kind}
use Rattle.rules.proofs.Applied.{steps_applied, clocks_applied}
use Rattle.rules.proofs.Potential.{pend_ended}
use Rattle.rules.proofs.Turn.{turn, doing, failed, effect_doing, effect_failed}
use Rattle.rules.proofs.Pending.{total}
use Rattle.rules.proofs.Reached.{Reached, never_still}
use Rattle.rules.proofs.ReachedStep.{reached_step, doing_work, failed_work}
use Rattle.rules.proofs.NeverExceeds.{never_exceeds}
use Rattle.rules.proofs.Quiescence.{stable_step}
use Rattle.rules.proofs.Start.{start_reached, start_total}
use Rattle.rules.proofs.Calls.{taken_as, no_fault, refused_waits, start_taken}

-- A state at a point of a run.
pub record Good (l : Limits) (t : List ℕ) (s : State) : Type 0 where
  pub reached : Reached (program_of t) s
  pub fit : well_formed l.phase (program_of t) s ≡ true

-- What a call of a step comes to there.
pub data Call (l : Limits) (t : List ℕ) (s : State) (i : ℕ) : Type 0 where
  refused : (refusal (program_of t) s i ≡ 0 → ⊥) → step l t s i ≡ stepped (Err (refusal_at (refusal (program_of t) s i))) s → Call l t s i
  performed : refusal (program_of t) s i ≡ 0 → fault (program_of t) s i ≡ 0 → step l t s i ≡ taken_as s i (doing (program_of t) s i) → Call l t s i
  faulted : refusal (program_of t) s i ≡ 0 → (fault (program_of t) s i ≡ 0 → ⊥) → step l t s i ≡ taken_as s i (failed (program_of t) s i) → Call l t s i

-- The steps taken, the work pending and the work k spared make the work of the table, or less once a fault was given.
unfoldable pub Account : Program → Bool → ℕ → State → Type 0
Account p false k s = s.steps + total own_work p 1 s + k ≡ work_of p
Account p true k s = s.steps + total own_work p 1 s + k < work_of p

module _ (l : Limits) (t : List ℕ) (w : l.work ≤ l.phase) (n : number_of l.work t ≡ 0) where
  -- The table's program.
  abbrev p : Program
  p = program_of t

  -- It has the shape of an accepted one.
  ok : Accepted p
  ok = accepted t (numbered l.work t n)

  -- Its counts are within their limits.
  limits : Counted l.work p
  limits = numbered_counted l.work t n

  -- CALLS

  -- Nothing exceeds a limit: who is not turned down takes the step.
  pub taking : (s : State) → Good l t s → (i : ℕ) → refusal p s i ≡ 0 → step l t s i ≡ taken_as s i (effect p s i)
  taking s g i r = go (outcome l t s i)
    where
      go : Outcome l t s i → step l t s i ≡ taken_as s i (effect p s i)
      go (unfits k q h e) = absurd (h (sym q ∙ fit l t s n g.fit))
      go (refuses k q h e) = absurd (h (sym q ∙ r))
      go (overflows q x e) = absurd (true_false _ x (never_exceeds l p ok limits w s g.reached i r))
      go (takes a b c x e) = e

  -- And who is turned down, is with 14, 15 or 16.
  refusing : (s : State) → Good l t s → (i : ℕ) → (refusal p s i ≡ 0 → ⊥) → step l t s i ≡ stepped (Err (refusal_at (refusal p s i))) s
  refusing s g i r = go (outcome l t s i)
    where
      go : Outcome l t s i → step l t s i ≡ stepped (Err (refusal_at (refusal p s i))) s
      go (unfits k q h e) = absurd (h (sym q ∙ fit l t s n g.fit))
      go (refuses k q h e) = rw q e
      go (overflows q x e) = absurd (r q)
      go (takes a b c x e) = absurd (r c)

  -- Each call is one of the three.
  pub call : (s : State) → Good l t s → (i : ℕ) → Call l t s i
  call s g i = go (ℕ_discrete (refusal p s i) 0) (ℕ_discrete (fault p s i) 0)
    where
      go : Dec (refusal p s i ≡ 0) → Dec (fault p s i ≡ 0) → Call l t s i
      go (no r) f = refused r (refusing s g i r)
      go (yes r) (yes f) = performed r f (taking s g i r ∙ ap (taken_as s i) (effect_doing p s i f))
      go (yes r) (no f) = faulted r f (taking s g i r ∙ ap (taken_as s i) (effect_failed p s i f))

  -- A taken step leads from a good state to a good state.
  good_taken : (s : State) → Good l t s → (i : ℕ) → refusal p s i ≡ 0 → Good l t (applied s i (effect p s i))
  good_taken s g i r =
      record {
        reached = reached_step p ok limits.activities s g.reached i r;
        fit = step_well_formed l ok s g.reached.inv.bounded.sized i g.fit r (never_exceeds l p ok limits w s g.reached i r);
      }

  -- A call leads from a good state to a good state.
  pub good_step : (s : State) → Good l t s → (i : ℕ) → Good l t (step l t s i).state
  good_step s g i = go (ℕ_discrete (refusal p s i) 0)
    where
      go : Dec (refusal p s i ≡ 0) → Good l t (step l t s i).state
      go (no r) = subst (λ x. Good l t x.state) (sym (refusing s g i r)) g
      go (yes r) = subst (λ x. Good l t x.state) (sym (taking s g i r)) (good_taken s g i r)

  -- So does a list of calls.
  pub good_run : (order : List ℕ) (s : State) → Good l t s → Good l t (run_from l t s order)
  unfolding run_from
  good_run [] s g = g
  good_run (i ∷ order) s g = good_run order (step l t s i).state (good_step s g i)

  -- The start state is good.
  pub good_start : Good l t start_state
  good_start = record { reached = start_reached p ok; fit = start_well_formed l.phase ok }

  -- ANSWERS

  -- A call's answer is one of a run's.
  of_run : (s : State) → Good l t s → (i : ℕ) → is_of_run (step l t s i).answer ≡ true
  of_run s g i = go (call s g i)
    where
      go : Call l t s i → is_of_run (step l t s i).answer ≡ true
      go (refused r e) =
          let q = refusal_range p s i r in
          subst (λ x. is_of_run x.answer ≡ true) (sym e) (rw (refused_number p s i r) (and_intro _ _ (le-leb _ _ q.0) (le-leb _ _ q.1)))
      go (performed r f e) = subst (λ x. is_of_run x.answer ≡ true) (sym e) refl
      go (faulted r f e) = subst (λ x. is_of_run x.answer ≡ true) (sym e) refl

  -- And so is each of a list.
  all_of_run_lem : (order : List ℕ) (s : State) → Good l t s → all_of_run (answers_from l t s order) ≡ true
  unfolding answers_from all_of_run
  all_of_run_lem [] s g = refl
  all_of_run_lem (i ∷ order) s g = and_intro _ _ (of_run s g i) (all_of_run_lem order (step l t s i).state (good_step s g i))

  -- The steps taken rise with an accepted call, and only then.
  steps_step : (s : State) → Good l t s → (i : ℕ) → (step l t s i).state.steps ≡ s.steps + cond (is_accepted (step l t s i).answer) 1 0
  steps_step s g i = go (call s g i)
    where
      P : Stepped → Type 0
      P x = x.state.steps ≡ s.steps + cond (is_accepted x.answer) 1 0

      go : Call l t s i → P (step l t s i)
      go (refused r e) = subst P (sym e) (omega arith)
      go (performed r f e) = subst P (sym e) (steps_applied s i (doing p s i))
      go (faulted r f e) = subst P (sym e) (steps_applied s i (failed p s i))

  -- And count the accepted ones of a list.
  steps_run : (order : List ℕ) (s : State) → Good l t s → (run_from l t s order).steps ≡ s.steps + taken (answers_from l t s order)
  unfolding run_from answers_from taken
  steps_run [] s g = omega arith
  steps_run (i ∷ order) s g = let q = steps_run order (step l t s i).state (good_step s g i) in let r = steps_step s g i in omega arith

  -- WORK

  -- The work that a call spares.
  abbrev sparing : State → ℕ → Stepped → ℕ
  sparing s i x = cond (is_accepted x.answer) (spares p s i) 0

  -- A call keeps the account.
  account_step : (b : Bool) (k : ℕ) (s : State) → Good l t s → (i : ℕ) → Account p b k s
      → Account p (b || is_fault (step l t s i).answer) (k + sparing s i (step l t s i)) (step l t s i).state
  unfolding Account
  account_step b k s g i a = go (call s g i)
    where
      A : Bool → ℕ → State → Type 0
      A b k s = Account p b k s

      P : Stepped → Type 0
      P x = A (b || is_fault x.answer) (k + sparing s i x) x.state

      same : (b : Bool) (k' : ℕ) (s' : State) → s'.steps + total own_work p 1 s' + k' ≡ s.steps + total own_work p 1 s + k → A b k s → A (b || false) k' s'
      same true k' s' e a = omega arith
      same false k' s' e a = e ∙ a

      less : (b : Bool) (k' : ℕ) (s' : State) → s'.steps + total own_work p 1 s' + k' < s.steps + total own_work p 1 s + k → A b k s → A (b || true) k' s'
      less true k' s' h a = omega arith
      less false k' s' h a = omega arith

      go : Call l t s i → P (step l t s i)
      go (refused r e) = subst P (sym e) (same b (k + 0) s (omega arith) a)
      go (performed r f e) =
          let o = turn p s i r in
          let u = doing_work p ok limits.activities s g.reached i o.spawned o.unended in
          let q = no_fault o.unended (kind p (env_of s) i (act s i) (at p s i).command (at p s i).inner) in
          let m = steps_applied s i (doing p s i) in
          subst P (sym e)
          (subst (λ v. A (b || v) (k + spares p s i) (applied s i (doing p s i))) (sym q) (same b (k + spares p s i) (applied s i (doing p s i)) (omega arith) a))
      go (faulted r f e) =
          let o = turn p s i r in
          let u = failed_work p ok limits.activities s g.reached i o.spawned o.unended f in
          let m = steps_applied s i (failed p s i) in
          subst P (sym e) (less b (k + spares p s i) (applied s i (failed p s i)) (omega arith) a)

  -- A list of calls keeps it.
  account_run : (b : Bool) (k : ℕ) (order : List ℕ) (s : State) → Good l t s → Account p b k s
      → Account p (b || some_fault (answers_from l t s order)) (k + spared_from l t s order) (run_from l t s order)
  unfolding run_from answers_from some_fault spared_from
  account_run b k [] s g a = subst (λ v. Account p v (k + 0) s) (keep b) (subst (λ n. Account p b n s) (let z : k ≡ k + 0 = omega arith in z) a)
    where
      keep : (b : Bool) → b ≡ b || false
      keep true = refl
      keep false = refl
  account_run b k (i ∷ order) s g a =
      subst (λ v. Account p v (k + (now + later)) (run_from l t (step l t s i).state order))
      (assoc b (is_fault (step l t s i).answer) (some_fault (answers_from l t (step l t s i).state order)))
      (subst (λ n. Account p ((b || is_fault (step l t s i).answer) || some_fault (answers_from l t (step l t s i).state order)) n (run_from l t (step l t s i).state order))
      (let z : k + now + later ≡ k + (now + later) = omega arith in z)
      (account_run (b || is_fault (step l t s i).answer) (k + now) order (step l t s i).state (good_step s g i) (account_step b k s g i a)))
    where
      now : ℕ
      now = sparing s i (step l t s i)

      later : ℕ
      later = spared_from l t (step l t s i).state order

      assoc : (a b c : Bool) → (a || b) || c ≡ a || (b || c)
      assoc true b c = refl
      assoc false b c = refl

  -- Where each CHOOSE ran its body, nothing is spared.
  none_spared : (order : List ℕ) (s : State) → all_ran_from l t s order ≡ true → spared_from l t s order ≡ 0
  unfolding all_ran_from spared_from spares
  none_spared [] s e = refl
  none_spared (i ∷ order) s e =
      let q = and_true (not (is_accepted (step l t s i).answer && skips (act s i) (at p s i).command)) _ e in
      let x = none (is_accepted (step l t s i).answer) (skips (act s i) (at p s i).command) q.0 in
      omega (arith, none_spared order (step l t s i).state q.1)
    where
      none : (x y : Bool) → not (x && y) ≡ true → cond x (cond y (tally own_work p (named (at p s i).command)) 0) 0 ≡ 0
      none true true e = absurd (true_false false e refl)
      none true false e = refl
      none false y e = refl

  -- At the start all is pending.
  start_account : Account p false 0 start_state
  unfolding Account work_of
  start_account = omega (arith, start_total p ok own_work 1)

  -- Where all have ended, nothing is.
  total_ended : (s : State) → ((i : ℕ) → i < s.activities → ended s i ≡ true) → total own_work p 1 s ≡ 0
  unfolding total sum_below
  total_ended s h = sum_below_same s.activities _ (λ x. 0) (λ k m. pend_ended own_work p 1 (act s k) (h k m)) ∙ zeros s.activities
    where
      zeros : (n : ℕ) → sum_below n (λ x. 0) ≡ 0
      zeros zero = refl
      zeros (suc n) = let q = zeros n in omega arith

  -- QUIESCENCE

  -- A clock made stays made.
  made_step : (c : ℕ) (s : State) → Good l t s → (i : ℕ) → c < s.clocks → c < (step l t s i).state.clocks
  made_step c s g i h = go (call s g i)
    where
      go : Call l t s i → c < (step l t s i).state.clocks
      go (refused r e) = subst (λ x. c < x.state.clocks) (sym e) h
      go (performed r f e) = subst (λ x. c < x.state.clocks) (sym e) (omega (arith, clocks_applied s i (doing p s i)))
      go (faulted r f e) = subst (λ x. c < x.state.clocks) (sym e) (omega (arith, clocks_applied s i (failed p s i)))

  -- A quiescent phase stays quiescent under a call.
  pub stable_call : (c q : ℕ) (s : State) → Good l t s → (i : ℕ) → c < s.clocks → quiescent s c q ≡ true → quiescent (step l t s i).state c q ≡ true
  stable_call c q s g i h z = go (ℕ_discrete (refusal p s i) 0)
    where
      go : Dec (refusal p s i ≡ 0) → quiescent (step l t s i).state c q ≡ true
      go (no r) = subst (λ x. quiescent x.state c q ≡ true) (sym (refusing s g i r)) z
      go (yes r) =
          subst (λ x. quiescent x.state c q ≡ true) (sym (taking s g i r)) (stable_step c q p ok limits.activities s g.reached i r h z)

  -- And under a list of calls.
  pub stable_run : (c q : ℕ) (order : List ℕ) (s : State) → Good l t s → c < s.clocks → quiescent s c q ≡ true → quiescent (run_from l t s order) c q ≡ true
  unfolding run_from
  stable_run c q [] s g h z = z
  stable_run c q (i ∷ order) s g h z = stable_run c q order (step l t s i).state (good_step s g i) (made_step c s g i h) (stable_call c q s g i h z)

  -- A list after another goes on from its end.
  pub run_append : (before after : List ℕ) (s : State) → run_from l t s (before ++ after) ≡ run_from l t (run_from l t s before) after
  unfolding run_from
  run_append [] after s = refl
  run_append (i ∷ before) after s = run_append before after (step l t s i).state

  -- THE READY SET

  module _ (s : State) (g : Good l t s) where
    -- The ready set is given.
    ready_number_lem : told (ready l t s) ≡ 0
    ready_number_lem = ready_number l t s ∙ fit l t s n g.fit

    -- It has those who can step.
    pub ready_set_lem : ready_set (ready l t s) ≡ bits_below 64 (can_step p s)
    unfolding ready
    ready_set_lem = rw (fit l t s n g.fit)

    -- It is empty only when all have ended.
    pub alive : ready_set (ready l t s) ≡ 0 → finished s ≡ true
    unfolding finished can_step
    alive e = all_below_intro s.activities (ended s) (never_still p s g.reached waiting)
      where
        waiting : (i : ℕ) → i < s.activities → ended s i ≡ false → waits p s i ≡ true
        waiting i m u =
            let z = zero_bits 64 (can_step p s) (sym ready_set_lem ∙ e) i (omega (arith, g.reached.inv.bounded.count)) in
            refused_waits p s i (eqb-false _ _ z) m u

    -- And then it is.
    over : finished s ≡ true → ready_set (ready l t s) ≡ 0
    unfolding finished can_step
    over e = ready_set_lem ∙ bits_zero 64 (can_step p s) (λ i m. ne_eqb _ _ (stopped_at i))
      where
        stopped_at : (i : ℕ) → refusal p s i ≡ 0 → ⊥
        stopped_at i r = let o = turn p s i r in true_false _ (all_below_at s.activities (ended s) e i o.spawned) o.unended

    -- Who is in it can step.
    steps : (i : ℕ) → bit (ready_set (ready l t s)) i ≡ true → is_accepted (step l t s i).answer ≡ true
    unfolding can_step
    steps i b =
        let q = sym (ready_bit l t s n g.fit i) ∙ b in
        subst (λ x. is_accepted x.answer ≡ true) (sym (taking s g i (eqb-true _ _ q))) refl

  -- RUNS

  -- A run goes on from the start state.
  pub run_start : (order : List ℕ) → run l t order ≡ run_from l t start_state order
  unfolding run
  run_start order = ap (λ s. run_from l t s order) (start_taken l t n)

  -- So do its answers.
  pub answers_start : (order : List ℕ) → answers l t order ≡ answers_from l t start_state order
  unfolding answers
  answers_start order = ap (λ s. answers_from l t s order) (start_taken l t n)

  -- Every point of a run is good.
  pub good_at : (order : List ℕ) → Good l t (run l t order)
  good_at order = rw (run_start order) (good_run order start_state good_start)

  -- The state's steps are the number of accepted ones.
  pub counted : (order : List ℕ) → (run l t order).steps ≡ taken (answers l t order)
  counted order = rw (run_start order, answers_start order) (omega (arith, steps_run order start_state good_start))

  -- So does what it spares.
  spared_start : (order : List ℕ) → spared l t order ≡ spared_from l t start_state order
  unfolding spared
  spared_start order = ap (λ s. spared_from l t s order) (start_taken l t n)

  -- The steps taken, the work pending and the work spared, at every point.
  pub account : (order : List ℕ) → Account p (some_fault (answers l t order)) (spared l t order) (run l t order)
  account order =
      rw (run_start order, answers_start order, spared_start order)
      (subst (λ k. Account p (some_fault (answers_from l t start_state order)) k (run_from l t start_state order)) (let z : 0 + spared_from l t start_state order ≡ spared_from l t start_state order = omega arith in z)
      (account_run false 0 order start_state good_start start_account))

  -- Finished without a fault: the work.
  accounted : (order : List ℕ) → finished (run l t order) ≡ true → some_fault (answers l t order) ≡ false
      → taken (answers l t order) + spared l t order ≡ work_of p
  unfolding finished Account
  accounted order e f =
      let a : (run l t order).steps + total own_work p 1 (run l t order) + spared l t order ≡ work_of p =
      subst (λ b. Account p b (spared l t order) (run l t order)) f (account order) in
      let z = total_ended (run l t order) (all_below_at (run l t order).activities (ended (run l t order)) e) in
      omega (arith, counted order)

  -- And each CHOOSE ran its body: the run took it all.
  whole : (order : List ℕ) → finished (run l t order) ≡ true → some_fault (answers l t order) ≡ false → all_ran l t order ≡ true → taken (answers l t order) ≡ work_of p
  unfolding all_ran spared
  whole order e f r = omega (arith, accounted order e f, none_spared order (start l t).state r)

  -- With a fault: less.
  less : (order : List ℕ) → some_fault (answers l t order) ≡ true → taken (answers l t order) + spared l t order < work_of p
  unfolding Account
  less order f =
      let a : (run l t order).steps + total own_work p 1 (run l t order) + spared l t order < work_of p =
      subst (λ b. Account p b (spared l t order) (run l t order)) f (account order) in
      omega (arith, counted order)

  -- A longer list goes on from the end of a shorter one.
  pub run_on : (before after : List ℕ) → run l t (before ++ after) ≡ run_from l t (run l t before) after
  run_on before after = run_start (before ++ after) ∙ run_append before after start_state ∙ ap (λ s. run_from l t s after) (sym (run_start before))

  -- Quiescent at a point: quiescent at every later one.
  stable : (before after : List ℕ) (c q : ℕ) → c < (run l t before).clocks → quiescent (run l t before) c q ≡ true
      → quiescent (run l t (before ++ after)) c q ≡ true
  stable before after c q h z =
      subst (λ s. quiescent s c q ≡ true) (sym (run_on before after)) (stable_run c q after (run l t before) (good_at before) h z)

  -- Demand 3: every field of the record, for a table with no number and any list.
  pub demand3 : (order : List ℕ) → Demand3 l t order
  demand3 order =
      record {
        answered = rw (answers_start order) (all_of_run_lem order start_state good_start);
        counted = counted order;
        fit = ready_number_lem (run l t order) (good_at order);
        alive = alive (run l t order) (good_at order);
        over = over (run l t order) (good_at order);
        steps = steps (run l t order) (good_at order);
        bounded = omega (arith, counted order, (good_at order).reached.work);
        whole = whole order;
        accounted = accounted order;
        less = less order;
        stable = λ before after e c q h z. subst (λ o. quiescent (run l t o) c q ≡ true) e (stable before after c q h z);
      }

  -- And so at every point of the run.
  pub at_every_point : (order : List ℕ) → AtEveryPoint l t order
  at_every_point order = record { holds = λ before after e. demand3 before }
