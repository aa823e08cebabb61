-- The set so far has a bit for each activity passed that can step.
use Rattle.turns.proofs.Readying.{Below}
use Rattle.turns.proofs.ready.ready_set.Given as goal

abbrev pub invariant-loop-i : goal.invariant-loop-i
invariant-loop-i l = Below l.table.bytes.now l.state l.set l.i
