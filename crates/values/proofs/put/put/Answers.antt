-- Number 17, or the register and on.
use Rattle.moves.proofs.Standings.{left, turns_down}
use Rattle.values.proofs.Puts.{put_done}
use Rattle.values.proofs.put.put.Goals as goal

pub returns-in_err-unspent : goal.returns-in_err-unspent
returns-in_err-unspent c = turns_down c.unspent.ensures c.in_err-unspent.was _ c.from_residual.ensures

pub returns : goal.returns
returns c = record { turns = λ p s l w. put_done l w (left _ l c.unspent.ensures c.in_ok-unspent.was) c.put_register.ensures c.go_on.ensures }
