-- The calls over lent bytes one after the other: the start, and a step for each number of a list. Demand 3 as whoever makes these calls sees it.
-- t is a table, b a state's buffer as it is lent to the start.
use Rattle.std.specs.Prelude.{ℕ, ◌+◌, ◌≤◌, ◌<◌, List, [], ◌∷◌, ◌++◌, map, Bool, true, false, cond, ◌||◌, ◌&&◌, not, ◌≡◌, leb, eqb}
use Rattle.program.specs.Bodies.{program_of}
use Rattle.program.specs.Count.{work_of}
use Rattle.rules.specs.declared.state.State.{State}
use Rattle.rules.specs.State.{answer_number, act}
use Rattle.rules.specs.Clocks.{quiescent}
use Rattle.rules.specs.Faults.{bit}
use Rattle.rules.specs.Steps.{base, at, start}
use Rattle.rules.specs.Runs.{run, answers, finished, skips, spares}
use Rattle.encoding.specs.Encode.{encode_state}
use Rattle.encoding.specs.Decode.{encodes, state_of}
use Rattle.calls.specs.Calls.{start_number, start_bytes, step_number, step_bytes, ready_number, ready_set}

-- THE CALLS IN TURN

-- A buffer after a step for each number, and what these steps answer.
unfoldable pub steps_bytes : List ℕ → List ℕ → List ℕ → List ℕ
steps_bytes t b [] = b
steps_bytes t b (i ∷ order) = steps_bytes t (step_bytes t b i) order

unfoldable pub steps_numbers : List ℕ → List ℕ → List ℕ → List ℕ
steps_numbers t b [] = []
steps_numbers t b (i ∷ order) = step_number t b i ∷ steps_numbers t (step_bytes t b i) order

-- The same of a buffer in which the start was called.
unfoldable pub point_bytes : List ℕ → List ℕ → List ℕ → List ℕ
point_bytes t b order = steps_bytes t (start_bytes t b) order

unfoldable pub answers_bytes : List ℕ → List ℕ → List ℕ → List ℕ
answers_bytes t b order = steps_numbers t (start_bytes t b) order

-- The buffer holds the state of the run, and each call answered the number of the run's answer.
pub record FollowsRun (t b order : List ℕ) : Type 0 where
  pub began : start_number t b ≡ answer_number (start base t).answer
  pub bytes : point_bytes t b order ≡ encode_state (run base t order)
  pub numbers : answers_bytes t b order ≡ map answer_number (answers base t order)
  -- These bytes encode a state, and it is that of the run.
  pub whole : encodes (point_bytes t b order) ≡ true
  pub state : state_of (point_bytes t b order) ≡ run base t order

-- NUMBERS

-- "100 plus f for fault f"
unfoldable pub is_fault_number : ℕ → Bool
is_fault_number n = leb 101 n && leb n 108

-- An accepted step: "0 for a step", or a fault.
unfoldable pub is_taken : ℕ → Bool
is_taken n = eqb n 0 || is_fault_number n

-- Or 14 to 16. "No call of a run is answered with 1 to 13 or 17."
unfoldable pub is_run_number : ℕ → Bool
is_run_number n = is_taken n || (leb 14 n && leb n 16)

unfoldable pub all_run_numbers : List ℕ → Bool
all_run_numbers [] = true
all_run_numbers (n ∷ more) = is_run_number n && all_run_numbers more

unfoldable pub taken_numbers : List ℕ → ℕ
taken_numbers [] = 0
taken_numbers (n ∷ more) = cond (is_taken n) 1 0 + taken_numbers more

unfoldable pub some_fault_number : List ℕ → Bool
some_fault_number [] = false
some_fault_number (n ∷ more) = is_fault_number n || some_fault_number more

-- CHOOSE

-- The work of the bodies that CHOOSE skips in the accepted steps, and whether each of these CHOOSE ran its body.
unfoldable pub steps_spared : List ℕ → List ℕ → List ℕ → ℕ
steps_spared t b [] = 0
steps_spared t b (i ∷ order) = cond (is_taken (step_number t b i)) (spares (program_of t) (state_of b) i) 0 + steps_spared t (step_bytes t b i) order

unfoldable pub steps_all_ran : List ℕ → List ℕ → List ℕ → Bool
steps_all_ran t b [] = true
steps_all_ran t b (i ∷ order) =
    not (is_taken (step_number t b i) && skips (act (state_of b) i) (at (program_of t) (state_of b) i).command) && steps_all_ran t (step_bytes t b i) order

-- The same of a buffer in which the start was called.
unfoldable pub spared_bytes : List ℕ → List ℕ → List ℕ → ℕ
spared_bytes t b order = steps_spared t (start_bytes t b) order

unfoldable pub all_ran_bytes : List ℕ → List ℕ → List ℕ → Bool
all_ran_bytes t b order = steps_all_ran t (start_bytes t b) order

-- DEMAND 3

-- The state in the buffer after the list.
abbrev pub point : List ℕ → List ℕ → List ℕ → State
point t b order = state_of (point_bytes t b order)

-- What holds after the list.
pub record Demand3Bytes (t b order : List ℕ) : Type 0 where
  -- The start answers 0, each step as a step of a run. The state's steps taken are the accepted ones.
  pub started : start_number t b ≡ 0
  pub answered : all_run_numbers (answers_bytes t b order) ≡ true
  pub counted : (point t b order).steps ≡ taken_numbers (answers_bytes t b order)
  -- The ready set is given, it is empty exactly when every spawned activity has ended, and a step of each activity in it is accepted.
  pub fit : ready_number t (point_bytes t b order) ≡ 0
  pub alive : ready_set t (point_bytes t b order) ≡ 0 → finished (point t b order) ≡ true
  pub over : finished (point t b order) ≡ true → ready_set t (point_bytes t b order) ≡ 0
  pub steps : (i : ℕ) → bit (ready_set t (point_bytes t b order)) i ≡ true → is_taken (step_number t (point_bytes t b order) i) ≡ true
  -- No more steps are accepted than the table's work. All ended without a fault, they are exactly that where each CHOOSE ran its body, and with the work of the bodies that
  -- CHOOSE skipped in any case; with a fault, less.
  pub bounded : taken_numbers (answers_bytes t b order) ≤ work_of (program_of t)
  pub whole : finished (point t b order) ≡ true → some_fault_number (answers_bytes t b order) ≡ false → all_ran_bytes t b order ≡ true
      → taken_numbers (answers_bytes t b order) ≡ work_of (program_of t)
  pub accounted : finished (point t b order) ≡ true → some_fault_number (answers_bytes t b order) ≡ false
      → taken_numbers (answers_bytes t b order) + spared_bytes t b order ≡ work_of (program_of t)
  pub less : some_fault_number (answers_bytes t b order) ≡ true → taken_numbers (answers_bytes t b order) + spared_bytes t b order < work_of (program_of t)
  -- A phase that is quiescent at a point, on a clock made by then, is quiescent at every later point.
  pub stable : (before after : List ℕ) → before ++ after ≡ order → (c p : ℕ) → c < (point t b before).clocks → quiescent (point t b before) c p ≡ true
      → quiescent (point t b order) c p ≡ true

-- So it is after each beginning of the list.
pub record AtEveryPointBytes (t b order : List ℕ) : Type 0 where
  pub holds : (before after : List ℕ) → before ++ after ≡ order → Demand3Bytes t b before
