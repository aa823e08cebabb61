-- The steps so far are those of the answers passed.
use Rattle.std.proofs.Common.{◌≡◌, ◌≤◌, take}
use Rattle.lines.specs.Walk.{steps_in}
use Rattle.lines.proofs.steps.Steps.taken_by.Given as goal

abbrev pub invariant-loop-answer : goal.invariant-loop-answer
invariant-loop-answer l = (l.taken ≤ l.answer-index) × (l.taken ≡ steps_in (take l.answer-index l.answer-items))
