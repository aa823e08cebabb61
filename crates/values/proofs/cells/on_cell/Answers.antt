-- Number 17, or the change and on.
use Rattle.std.proofs.Common.{rules}
use Rattle.moves.proofs.Standings.{turns_down}
use Rattle.values.proofs.Touching.{cell_done}
use Rattle.values.proofs.cells.on_cell.Goals as goal

pub returns-in_err-unspent : goal.returns-in_err-unspent
returns-in_err-unspent g c = record { turns = λ k u f. turns_down c.unspent.ensures c.in_err-unspent.was _ c.from_residual.ensures }

pub returns : goal.returns
returns g c = cell_done c.unspent.ensures c.in_ok-unspent.was (search rules) c.go_on.ensures
