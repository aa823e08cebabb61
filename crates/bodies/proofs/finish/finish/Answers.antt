-- Number 17, or the body.
use Rattle.moves.proofs.Standings.{turns_down}
use Rattle.bodies.proofs.Pushing.{finish_done}
use Rattle.bodies.proofs.finish.finish.Goals as goal

pub returns-in_err-unspent : goal.returns-in_err-unspent
returns-in_err-unspent c = turns_down c.unspent.ensures c.in_err-unspent.was _ c.from_residual.ensures

pub returns : goal.returns
returns c = finish_done c.unspent.ensures c.in_ok-unspent.was c.activities_of-first.ensures c.push.ensures
