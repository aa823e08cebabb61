-- A fault passed on, number 17, and the three ways of a body that ends.
use Rattle.std.proofs.Common.{rules}
use Rattle.bodies.proofs.Ends.{passed_on, none_left, ends_all, ends_run, ends_body, ends_last}
use Rattle.bodies.proofs.end.end.Goals as goal

pub returns-then-faulted : goal.returns-then-faulted
returns-then-faulted c = passed_on c.fail.ensures c.if-faulted.true

pub returns-in_err-unspent : goal.returns-in_err-unspent
returns-in_err-unspent c = none_left c.unspent.ensures c.in_err-unspent.was _ c.from_residual.ensures

pub returns-then-depth-le1 : goal.returns-then-depth-le1
returns-then-depth-le1 c = ends_all c.unspent.ensures c.in_ok-unspent.was c.depth_at-depth.ensures c.if-faulted.false c.if-depth-le1.true c.stop.ensures c.counted.ensures

pub returns-in-0 : goal.returns-in-0
returns-in-0 c = ends_body c.unspent.ensures c.in_ok-unspent.was c.depth_at-depth.ensures c.if-faulted.false c.if-depth-le1.false c.frame_at-f.ensures c.in-0.is c.pop.ensures

pub returns-in-1 : goal.returns-in-1
returns-in-1 c = ends_last c.unspent.ensures c.in_ok-unspent.was c.depth_at-depth.ensures c.if-faulted.false c.if-depth-le1.false c.frame_at-f.ensures c.in-1.is c.pop-in-1.ensures

pub returns-in_default : goal.returns-in_default
returns-in_default c =
    ends_run c.unspent.ensures c.in_ok-unspent.was c.depth_at-depth.ensures c.if-faulted.false c.if-depth-le1.false c.frame_at-f.ensures (search rules) c.again.ensures
