-- Demand 3 of the machine's brief, over runs as document 01 has them under "Runs": "Nobody who picks the order can bring an accepted table to a standstill; a run takes
-- exactly its counted work, or less with a fault; a quiescent phase stays so. One claim about the table and the whole list of calls, of any length." Of the work document 02
-- says, with CHOOSE: "A run without faults now takes at most its work, and a finished one exactly its work where each CHOOSE step taken in it ran its body."
-- Beside each field stands the sentence of the brief or of a document that it states; what none of them says stands without quotation marks.
use Rattle.std.specs.Prelude.{ℕ, ◌+◌, ◌≤◌, ◌<◌, List, [], ◌∷◌, ◌++◌, Bool, true, false, ◌&&◌, ◌≡◌, leb, Ok, Err}
use Rattle.program.specs.Bodies.{program_of}
use Rattle.program.specs.Count.{work_of}
use Rattle.program.specs.Refusal.{refusal_number, told}
use Rattle.rules.specs.State.{Answer}
use Rattle.rules.specs.Clocks.{quiescent}
use Rattle.rules.specs.Faults.{bit}
use Rattle.rules.specs.Steps.{Limits, step, ready, ready_set}
use Rattle.rules.specs.Runs.{run, answers, is_accepted, taken, some_fault, finished, spared, all_ran}

-- "No call of a run is answered with 1 to 13 or 17." What is left: a step, a fault, 14, 15 or 16.
abbrev pub is_of_run : Answer → Bool
is_of_run (Ok status) = true
is_of_run (Err e) = leb 14 (refusal_number e) && leb (refusal_number e) 16

unfoldable pub all_of_run : List Answer → Bool
all_of_run [] = true
all_of_run (a ∷ more) = is_of_run a && all_of_run more

-- What holds at the end of the run of a table with an order.
pub record Demand3 (l : Limits) (t order : List ℕ) : Type 0 where
  -- "No call of a run is answered with 1 to 13 or 17."
  pub answered : all_of_run (answers l t order) ≡ true
  -- "What a run has taken is the number of its accepted steps, and the state's steps taken equals it."
  pub counted : (run l t order).steps ≡ taken (answers l t order)
  -- The ready set too is not turned down: "The step tries 1 to 17, the ready set and sheet 1 to 13, the start 1 to 12."
  pub fit : told (ready l t (run l t order)) ≡ 0
  -- "Nobody who picks the order can bring an accepted table to a standstill": where no activity can step, the run is finished.
  pub alive : ready_set (ready l t (run l t order)) ≡ 0 → finished (run l t order) ≡ true
  -- "A run is finished when every spawned activity has ended." Then no activity can step.
  pub over : finished (run l t order) ≡ true → ready_set (ready l t (run l t order)) ≡ 0
  -- "The ready set is 64 bits, bit i for activity i, set where 14 to 16 don't apply." There a step is accepted: 17 does not come.
  pub steps : (i : ℕ) → bit (ready_set (ready l t (run l t order))) i ≡ true → is_accepted (step l t (run l t order) i).answer ≡ true
  -- "A run without faults now takes at most its work": any run does.
  pub bounded : taken (answers l t order) ≤ work_of (program_of t)
  -- "and a finished one exactly its work where each CHOOSE step taken in it ran its body"
  pub whole : finished (run l t order) ≡ true → some_fault (answers l t order) ≡ false → all_ran l t order ≡ true → taken (answers l t order) ≡ work_of (program_of t)
  -- Whatever CHOOSE skipped: what a finished run without a fault took, and the work of the bodies that it skipped, are the work.
  pub accounted : finished (run l t order) ≡ true → some_fault (answers l t order) ≡ false → taken (answers l t order) + spared l t order ≡ work_of (program_of t)
  -- "or less with a fault": finished or not, and also with the work of the bodies that it skipped.
  pub less : some_fault (answers l t order) ≡ true → taken (answers l t order) + spared l t order < work_of (program_of t)
  -- "a quiescent phase stays so": quiescent at a point, on a clock made by then, it is so at every later point.
  pub stable : (before after : List ℕ) → before ++ after ≡ order → (c p : ℕ) → c < (run l t before).clocks → quiescent (run l t before) c p ≡ true
      → quiescent (run l t order) c p ≡ true

-- "Demand 3 is a single claim about the table and the whole list, of any length, and not one for each call."
pub record AtEveryPoint (l : Limits) (t order : List ℕ) : Type 0 where
  -- "The points of a run are the one before its first step and the one after each step": the ends of the list's beginnings.
  pub holds : (before after : List ℕ) → before ++ after ≡ order → Demand3 l t before
