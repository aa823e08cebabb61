-- Two bytes.
use native.Mathlib.Omega.{arith}
use Rattle.fields.proofs.Own.{offset_write}
use Rattle.fields.proofs.frames.put_offset.Goals as goal

pub returns : goal.returns
returns c = λ h. record { writes = λ s l j. offset_write l j h c.put_own.ensures (omega arith) }
