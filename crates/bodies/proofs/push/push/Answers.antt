-- The frame, the depth, and a step.
use Rattle.bodies.proofs.Pushing.{push_done}
use Rattle.bodies.proofs.push.push.Goals as goal

pub returns : goal.returns
returns c = push_done c.depth_at-depth.ensures c.put_frame.ensures c.put_depth.ensures c.counted.ensures
