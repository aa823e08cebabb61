-- Field by field.
use Rattle.encoding.specs.Decode.{frame_at}
use Rattle.encoding.proofs.frames.FramePart.at.Goals as goal

pub returns : goal.returns
unfolding frame_at
returns c = rw c.at.ensures
