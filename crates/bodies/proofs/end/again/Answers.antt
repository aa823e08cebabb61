-- The frame, and the step.
use Rattle.bodies.proofs.Ends.{again_done}
use Rattle.bodies.proofs.end.again.Goals as goal

pub returns : goal.returns
returns c = again_done c.put_frame.ensures c.counted.ensures
