-- Eight bytes.
use native.Mathlib.Omega.{arith}
use mathlib.Core.Path.{◌∙◌}
use Rattle.rules.specs.State.{act, frame}
use Rattle.encoding.specs.Decode.{frame_at}
use Rattle.fields.proofs.Stands.{mine}
use Rattle.fields.proofs.Own.{frame_read, frame_there}
use Rattle.fields.proofs.frames.frame_at.Goals as goal

pub returns : goal.returns
returns c = λ h. record { reads = λ s l j. frame_read l j h frame_at 8 c.get_own.ensures (omega arith) ∙ frame_there (frame (act s _) _) ((mine l j).offsets _) }
