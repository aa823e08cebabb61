-- The frame, the depth, and on.
use Rattle.bodies.proofs.Ends.{pop_done}
use Rattle.bodies.proofs.end.pop.Goals as goal

pub returns : goal.returns
returns c = pop_done c.no_frame.ensures c.put_frame.ensures c.put_depth.ensures c.go_on.ensures
