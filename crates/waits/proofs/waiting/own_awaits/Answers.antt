-- The fault first.
use Rattle.waits.proofs.Waitings.{own_inside}
use Rattle.waits.proofs.waiting.own_awaits.Goals as goal

pub returns-in-None : goal.returns-in-None
returns-in-None c = λ h. own_inside (c.read_fault.ensures h) c.in-None.is c.inside_of.ensures
