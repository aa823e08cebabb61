-- Number 17, on, or the body.
use Rattle.moves.proofs.Standings.{turns_down}
use Rattle.bodies.proofs.Pushing.{repeat_none, repeat_some}
use Rattle.bodies.proofs.repeat.repeat.Goals as goal

pub returns-in_err-unspent : goal.returns-in_err-unspent
returns-in_err-unspent c = turns_down c.unspent.ensures c.in_err-unspent.was _ c.from_residual.ensures

pub returns-then-n-eq0 : goal.returns-then-n-eq0
returns-then-n-eq0 c = repeat_none c.unspent.ensures c.in_ok-unspent.was c.if-n-eq0.true c.go_on.ensures

pub returns : goal.returns
returns c = repeat_some c.unspent.ensures c.in_ok-unspent.was c.if-n-eq0.false c.push.ensures
