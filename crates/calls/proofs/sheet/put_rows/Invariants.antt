-- The first i rows are written.
use Rattle.calls.proofs.Rows.{Rowed}
use Rattle.calls.proofs.sheet.put_rows.Given as goal

abbrev pub invariant-loop-i : goal.invariant-loop-i
invariant-loop-i l = Rowed l.state l.out l.i
