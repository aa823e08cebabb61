-- The reserved bytes decide.
use Rattle.encoding.specs.Decode.{frame_encodes}
use Rattle.encoding.proofs.frames.FramePart.encodes.Goals as goal

pub returns : goal.returns
unfolding frame_encodes
returns c = c.are_zero.ensures
