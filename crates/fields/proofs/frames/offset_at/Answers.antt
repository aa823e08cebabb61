-- Two bytes.
use native.Mathlib.Omega.{arith}
use mathlib.Core.Path.{◌∙◌}
use Rattle.rules.specs.State.{act, frame}
use Rattle.encoding.specs.Bytes.{number_of}
use Rattle.fields.proofs.Stands.{mine}
use Rattle.fields.proofs.Own.{frame_read, offset_there}
use Rattle.fields.proofs.frames.offset_at.Goals as goal

pub returns : goal.returns
returns c = λ h. record { reads = λ s l j. frame_read l j h number_of 2 c.get_own.ensures (omega arith) ∙ offset_there (frame (act s _) _) ((mine l j).offsets _) }
