-- Number 17, or stopped and a step.
use Rattle.moves.proofs.Standings.{left, turned_down}
use Rattle.moves.proofs.Failing.{failed}
use Rattle.moves.proofs.fail.Goals as goal

pub returns-in_err-unspent : goal.returns-in_err-unspent
returns-in_err-unspent c = record { fails = λ p s k l w e. turned_down w l c.unspent.ensures c.in_err-unspent.was _ c.from_residual.ensures }

pub returns : goal.returns
returns c = record { fails = λ p s k l w e. failed _ l w (left _ l c.unspent.ensures c.in_ok-unspent.was) e c.stop.ensures c.count.ensures }
