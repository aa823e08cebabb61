-- Number 17, on, or the body.
use Rattle.moves.proofs.Standings.{turns_down}
use Rattle.bodies.proofs.Pushing.{choose_none, choose_some}
use Rattle.bodies.proofs.choose.choose.Goals as goal

pub returns-in_err-unspent : goal.returns-in_err-unspent
returns-in_err-unspent c = turns_down c.unspent.ensures c.in_err-unspent.was _ c.from_residual.ensures

pub returns-then-register_at-eq0 : goal.returns-then-register_at-eq0
returns-then-register_at-eq0 c = choose_none c.unspent.ensures c.in_ok-unspent.was c.register_at.ensures c.if-register_at-eq0.true c.go_on.ensures

pub returns : goal.returns
returns c = choose_some c.unspent.ensures c.in_ok-unspent.was c.register_at.ensures c.if-register_at-eq0.false c.push.ensures
