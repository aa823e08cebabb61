-- Each turn enters one hold: the row is that of the names from n on.
use Rattle.turns.proofs.Sheets.{Entered}
use Rattle.turns.proofs.sheet.sheet_row.Given as goal

abbrev pub invariant-loop-n : goal.invariant-loop-n
invariant-loop-n l = Entered l.state l.i l.row l.n
