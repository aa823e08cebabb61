-- Nothing is lent, F3, or F1 and F2.
use Rattle.bodies.proofs.Lending.{lends_nothing, lends_inside, lends_outside}
use Rattle.bodies.proofs.lend.async_fault.Goals as goal

pub returns-then-m-eq0 : goal.returns-then-m-eq0
returns-then-m-eq0 c = lends_nothing c.if-m-eq0.true

pub returns-then-in_own_finish : goal.returns-then-in_own_finish
returns-then-in_own_finish c = lends_inside c.if-m-eq0.false c.in_own_finish.ensures c.if-in_own_finish.true

pub returns : goal.returns
returns c = lends_outside c.if-m-eq0.false c.in_own_finish.ensures c.if-in_own_finish.false c.lend_fault.ensures
