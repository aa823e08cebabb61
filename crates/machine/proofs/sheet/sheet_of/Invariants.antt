-- Row after row: those below i stand.
use Rattle.machine.proofs.Sheets.{Rows}
use Rattle.machine.proofs.sheet.sheet_of.Given as goal

abbrev pub invariant-loop-i : goal.invariant-loop-i
invariant-loop-i l = Rows l.state l.rows l.i
