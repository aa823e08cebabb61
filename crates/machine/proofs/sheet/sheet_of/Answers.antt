-- Row after row: those below i stand.
use native.Mathlib.Omega.{arith}
use Rattle.machine.proofs.Sheets.{rows_all}
use Rattle.machine.proofs.sheet.sheet_of.Goals as goal

pub returns : goal.returns
returns c = rows_all c.loop-i.invariant (omega arith)
