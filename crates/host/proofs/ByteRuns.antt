-- The calls over bytes in turn follow the run of the rules, and so demand 3 holds for them.
use Prim.Native.Nat.{ℕ, ◌+◌}
use native.Mathlib.Omega.{arith}
use mathlib.Core.List.{List, [], ◌∷◌, map}
use mathlib.Core.Bool.{true, false, ◌&&◌}
use mathlib.Core.Path.{◌≡◌, refl, sym, ap, ◌∙◌}
use lib.ListN.{length}
use lib.Dec.{leb, eqb}
use borrow.Author.Tests.{eq-eqb, ne_eqb, leb-true, le-leb, lt-leb}
use Rattle.program.specs.Table.{work_limit, number_of}
use Rattle.std.specs.Prelude.{Ok, Err}
use Rattle.program.specs.Refusal.{refusal_number}
use Rattle.program.proofs.Basic.{Bytes}
use Rattle.rules.specs.declared.state.Fault.{Fault}
use Rattle.rules.specs.declared.state.Status.TheVariants.{Running, AtBarrier, Ended, Faulted}
use Rattle.rules.specs.declared.state.State.{State}
use Rattle.rules.specs.State.{Answer, fault_number, answer_number}
use Rattle.rules.proofs.FaultNumbers.{fault_range}
use Rattle.rules.specs.Steps.{base, start_with, start, step, ready, ready_set as set_of}
use Rattle.rules.specs.Runs.{run_from, answers_from, run, answers, is_accepted, is_fault, taken, some_fault, spared_from, spared, all_ran_from, all_ran}
use Rattle.rules.specs.Demand3.{is_of_run, all_of_run, Demand3}
use Rattle.rules.proofs.Tests.{and_true, and_intro, or_right, true_false}
use Rattle.rules.proofs.Demand3.{demand3}
use Rattle.encoding.specs.Encode.{encode_state}
use Rattle.encoding.specs.Decode.{encodes, state_of}
use Rattle.fits.proofs.Fitting.{Fitting, step_fits, start_call_fits, run_fits}
use Rattle.calls.specs.Calls.{fits_state, start_number, start_bytes, step_number, step_bytes, ready_number, ready_set}
use Rattle.calls.proofs.Encoded.{whole_of, back_to, step_number_lem, step_bytes_lem, ready_number_lem, ready_set_lem}
use Rattle.host.specs.ByteRuns.{steps_bytes, steps_numbers, point_bytes, answers_bytes, FollowsRun, is_fault_number, is_taken, is_run_number, all_run_numbers, taken_numbers, some_fault_number, steps_spared, steps_all_ran, spared_bytes, all_ran_bytes, Demand3Bytes, AtEveryPointBytes}

-- THE CALLS IN TURN

module _ (t : List ℕ) (y : Bytes t) where
  -- A step for each number.
  steps_bytes_lem : (order : List ℕ) (s : State) → Fitting s → steps_bytes t (encode_state s) order ≡ encode_state (run_from base t s order)
  unfolding steps_bytes run_from
  steps_bytes_lem [] s f = refl
  steps_bytes_lem (i ∷ order) s f = ap (λ b. steps_bytes t b order) (step_bytes_lem t s f i) ∙ steps_bytes_lem order (step base t s i).state (step_fits t y s f i)

  steps_numbers_lem : (order : List ℕ) (s : State) → Fitting s → steps_numbers t (encode_state s) order ≡ map answer_number (answers_from base t s order)
  unfolding steps_numbers answers_from
  steps_numbers_lem [] s f = refl
  steps_numbers_lem (i ∷ order) s f =
      ap (λ n. n ∷ steps_numbers t (step_bytes t (encode_state s) i) order) (step_number_lem t s f i)
      ∙ ap (λ l. answer_number (step base t s i).answer ∷ l)
      (ap (λ b. steps_numbers t b order) (step_bytes_lem t s f i) ∙ steps_numbers_lem order (step base t s i).state (step_fits t y s f i))

  -- Whatever the table and the list: a buffer of a state's length.
  pub follows : (b : List ℕ) → length b ≡ 13776 → (order : List ℕ) → FollowsRun t b order
  unfolding point_bytes answers_bytes run answers start_bytes start_number fits_state
  follows b l order =
      let f = run_fits t y order in
      let q = eq-eqb (length b) 13776 l in
      let z : point_bytes t b order ≡ encode_state (run base t order) = rw q (steps_bytes_lem order (start base t).state (start_call_fits t)) in
      record {
        began = rw q;
        bytes = z;
        numbers = rw q (steps_numbers_lem order (start base t).state (start_call_fits t));
        whole = ap encodes z ∙ whole_of t (run base t order) f;
        state = ap state_of z ∙ back_to t (run base t order) f;
      }

-- NUMBERS

-- 14 to 16 are neither 0 nor a fault.
between : (n : ℕ) → leb 14 n && leb n 16 ≡ true → (eqb n 0 ≡ false) × (leb 101 n ≡ false)
between n e =
    let q = and_true (leb 14 n) _ e in
    let low = leb-true 14 n q.0 in
    let high = leb-true n 16 q.1 in
    (ne_eqb n 0 (λ z. omega arith), lt-leb 101 n (omega arith))

-- A fault's answer is one.
fault_answer : (f : Fault) → is_fault_number (100 + fault_number f) ≡ true
unfolding is_fault_number
fault_answer f = let h = fault_range f in rw (le-leb 101 (100 + fault_number f) (omega arith), le-leb (100 + fault_number f) 108 (omega arith))

-- The number of an answer of a run tells whether the step was accepted, and whether it met a fault.
fault_number_lem : (a : Answer) → is_of_run a ≡ true → is_fault_number (answer_number a) ≡ is_fault a
unfolding is_fault_number
fault_number_lem (Ok Running) e = refl
fault_number_lem (Ok AtBarrier) e = refl
fault_number_lem (Ok Ended) e = refl
fault_number_lem (Ok (Faulted f)) e = fault_answer f
fault_number_lem (Err r) e = rw (between (refusal_number r) e).1

taken_number : (a : Answer) → is_of_run a ≡ true → is_taken (answer_number a) ≡ is_accepted a
unfolding is_taken is_fault_number
taken_number (Ok Running) e = refl
taken_number (Ok AtBarrier) e = refl
taken_number (Ok Ended) e = refl
taken_number (Ok (Faulted f)) e = or_right (eqb (100 + fault_number f) 0) _ (fault_answer f)
taken_number (Err r) e = rw ((between (refusal_number r) e).0, (between (refusal_number r) e).1)

accepted_number : (a : Answer) → is_accepted a ≡ true → is_taken (answer_number a) ≡ true
accepted_number (Ok status) e = taken_number (Ok status) refl
accepted_number (Err r) e = absurd (true_false false e refl)

run_number_lem : (a : Answer) → is_of_run a ≡ true → is_run_number (answer_number a) ≡ true
unfolding is_run_number
run_number_lem (Ok status) e = rw (taken_number (Ok status) refl)
run_number_lem (Err r) e = rw (taken_number (Err r) e) e

-- So do the numbers of all answers.
all_numbers : (l : List Answer) → all_of_run l ≡ true → all_run_numbers (map answer_number l) ≡ true
unfolding all_of_run all_run_numbers
all_numbers [] e = refl
all_numbers (a ∷ l) e = let q = and_true (is_of_run a) _ e in and_intro _ _ (run_number_lem a q.0) (all_numbers l q.1)

taken_numbers_lem : (l : List Answer) → all_of_run l ≡ true → taken_numbers (map answer_number l) ≡ taken l
unfolding all_of_run taken_numbers taken
taken_numbers_lem [] e = refl
taken_numbers_lem (a ∷ l) e = let q = and_true (is_of_run a) _ e in rw (taken_number a q.0, taken_numbers_lem l q.1)

fault_numbers : (l : List Answer) → all_of_run l ≡ true → some_fault_number (map answer_number l) ≡ some_fault l
unfolding all_of_run some_fault_number some_fault
fault_numbers [] e = refl
fault_numbers (a ∷ l) e = let q = and_true (is_of_run a) _ e in rw (fault_number_lem a q.0, fault_numbers l q.1)

-- CHOOSE

module _ (t : List ℕ) (y : Bytes t) where
  -- A step that was accepted is known by its number.
  told : (s : State) → Fitting s → (i : ℕ) → is_of_run (step base t s i).answer ≡ true → is_taken (step_number t (encode_state s) i) ≡ is_accepted (step base t s i).answer
  told s f i e = ap is_taken (step_number_lem t s f i) ∙ taken_number (step base t s i).answer e

  steps_spared_lem : (order : List ℕ) (s : State) → Fitting s → all_of_run (answers_from base t s order) ≡ true → steps_spared t (encode_state s) order ≡ spared_from base t s order
  unfolding steps_spared spared_from answers_from all_of_run
  steps_spared_lem [] s f e = refl
  steps_spared_lem (i ∷ order) s f e =
      let q = and_true (is_of_run (step base t s i).answer) _ e in
      rw (told s f i q.0, back_to t s f, step_bytes_lem t s f i, steps_spared_lem order (step base t s i).state (step_fits t y s f i) q.1)

  steps_all_ran_lem : (order : List ℕ) (s : State) → Fitting s → all_of_run (answers_from base t s order) ≡ true → steps_all_ran t (encode_state s) order ≡ all_ran_from base t s order
  unfolding steps_all_ran all_ran_from answers_from all_of_run
  steps_all_ran_lem [] s f e = refl
  steps_all_ran_lem (i ∷ order) s f e =
      let q = and_true (is_of_run (step base t s i).answer) _ e in
      rw (told s f i q.0, back_to t s f, step_bytes_lem t s f i, steps_all_ran_lem order (step base t s i).state (step_fits t y s f i) q.1)

-- DEMAND 3

module _ (t : List ℕ) (y : Bytes t) (ok : number_of work_limit t ≡ 0) (b : List ℕ) (l : length b ≡ 13776) where
  -- What is said of the rules' run is said of the bytes.
  module _ (order : List ℕ) where
    at : FollowsRun t b order
    at = follows t y b l order

    demand : Demand3 base t order
    demand = demand3 base t (omega arith) ok order

    begins : start_number t b ≡ 0
    unfolding start start_with
    begins = at.began ∙ rw ok

    counts : taken_numbers (answers_bytes t b order) ≡ taken (answers base t order)
    counts = rw at.numbers (taken_numbers_lem (answers base t order) demand.answered)

    faults : some_fault_number (answers_bytes t b order) ≡ some_fault (answers base t order)
    faults = rw at.numbers (fault_numbers (answers base t order) demand.answered)

    sparing : spared_bytes t b order ≡ spared base t order
    unfolding spared_bytes spared start_bytes fits_state answers
    sparing = rw (eq-eqb (length b) 13776 l) (steps_spared_lem t y order (start base t).state (start_call_fits t) demand.answered)

    running : all_ran_bytes t b order ≡ all_ran base t order
    unfolding all_ran_bytes all_ran start_bytes fits_state answers
    running = rw (eq-eqb (length b) 13776 l) (steps_all_ran_lem t y order (start base t).state (start_call_fits t) demand.answered)

    fits : Fitting (run base t order)
    fits = run_fits t y order

    ready_given : ready_number t (point_bytes t b order) ≡ 0
    ready_given = ap (ready_number t) at.bytes ∙ ready_number_lem t (run base t order) fits ∙ demand.fit

    ready_there : ready_set t (point_bytes t b order) ≡ set_of (ready base t (run base t order))
    ready_there = ap (ready_set t) at.bytes ∙ ready_set_lem t (run base t order) fits

    step_there : (i : ℕ) → step_number t (point_bytes t b order) i ≡ answer_number (step base t (run base t order) i).answer
    step_there i = ap (λ c. step_number t c i) at.bytes ∙ step_number_lem t (run base t order) fits i

  -- Demand 3, for an accepted table, a buffer of a state's length and any list.
  pub demand3_bytes : (order : List ℕ) → Demand3Bytes t b order
  demand3_bytes order =
      let d = demand order in
      let s = (at order).state in
      record {
        started = begins order;
        answered = rw (at order).numbers (all_numbers (answers base t order) d.answered);
        counted = rw (s, counts order) d.counted;
        fit = ready_given order;
        alive = λ e. rw s (d.alive (sym (ready_there order) ∙ e));
        over = λ e. ready_there order ∙ d.over (rw s at e);
        steps = λ i e. rw (step_there order i) (accepted_number (step base t (run base t order) i).answer (d.steps i (rw (ready_there order) at e)));
        bounded = rw (counts order) d.bounded;
        whole = λ e f r. rw (counts order) (d.whole (rw s at e) (sym (faults order) ∙ f) (sym (running order) ∙ r));
        accounted = λ e f. rw (counts order, sparing order) (d.accounted (rw s at e) (sym (faults order) ∙ f));
        less = λ e. rw (counts order, sparing order) (d.less (sym (faults order) ∙ e));
        stable = λ before after q c p h k. rw s (d.stable before after q c p (rw (at before).state at h) (rw (at before).state at k));
      }

  -- At every point of the list.
  pub at_every_point_bytes : (order : List ℕ) → AtEveryPointBytes t b order
  at_every_point_bytes order = record { holds = λ before after e. demand3_bytes before }
