-- Whether two answers, or two states, are the same in every entry: what cases are compared with.
use Rattle.std.specs.Prelude.{ℕ, ◌+◌, List, [], ◌∷◌, ◌++◌, map, Bool, true, false, ◌&&◌, eqb, Ok, Err}
use Rattle.program.specs.Refusal.{refusal_number}
use Rattle.program.specs.Same.{same_lists}
use Rattle.rules.specs.declared.state.Status.{Status}
use Rattle.rules.specs.declared.state.Status.TheVariants.{Running, AtBarrier, Ended, Faulted}
use Rattle.rules.specs.declared.state.Frame.{Frame}
use Rattle.rules.specs.declared.state.Hold.{Hold}
use Rattle.rules.specs.declared.state.Activity.{Activity}
use Rattle.rules.specs.declared.state.Accumulator.{Accumulator}
use Rattle.rules.specs.declared.state.State.{State}
use Rattle.rules.specs.State.{Answer, fault_number, registration_number, operator_number}

-- A number of its own for each status and each answer.
abbrev status_code : Status → ℕ
status_code Running = 0
status_code AtBarrier = 1
status_code Ended = 2
status_code (Faulted f) = 2 + fault_number f

abbrev answer_code : Answer → ℕ
answer_code (Ok status) = status_code status
answer_code (Err e) = 100 + refusal_number e

abbrev pub same_answer : Answer → Answer → Bool
same_answer a b = eqb (answer_code a) (answer_code b)

-- The numbers of each part.
abbrev frame_numbers : Frame → List ℕ
frame_numbers f = f.offset ∷ f.body ∷ f.runs ∷ f.first ∷ []

abbrev hold_numbers : Hold → List ℕ
hold_numbers h = h.phase ∷ h.clock ∷ registration_number h.registration ∷ []

abbrev accumulator_numbers : Accumulator → List ℕ
accumulator_numbers c = c.value ∷ c.owner ∷ operator_number c.operator ∷ []

unfoldable pub activity_numbers : Activity → List (List ℕ)
activity_numbers a =
    (a.register ∷ status_code a.status ∷ a.spawner ∷ a.depth ∷ [])
    ∷ a.accumulators
    ∷ map frame_numbers a.frames
    ++ map hold_numbers a.holds

unfoldable pub same_activities : List Activity → List Activity → Bool
same_activities [] [] = true
same_activities [] (y ∷ ys) = false
same_activities (x ∷ xs) [] = false
same_activities (x ∷ xs) (y ∷ ys) = let r = same_activities xs ys in same_lists (activity_numbers x) (activity_numbers y) && r

-- The steps and the counts, the cells, the accumulators.
unfoldable pub shared_numbers : State → List (List ℕ)
shared_numbers s = (s.steps ∷ s.activities ∷ s.clocks ∷ s.accumulators ∷ []) ∷ s.cells ∷ map accumulator_numbers s.accs

unfoldable pub same_state : State → State → Bool
same_state s t = same_lists (shared_numbers s) (shared_numbers t) && same_activities s.acts t.acts
