-- The bytes of the entries so far are written: the loop goes on as the definition does.
use Rattle.builder.proofs.Filling.{Filling}
use Rattle.builder.proofs.bytes.fill.Given as goal

abbrev pub invariant-loop-entry : goal.invariant-loop-entry
invariant-loop-entry l = Filling l.entries l.out l.at l.ends l.entry-index
