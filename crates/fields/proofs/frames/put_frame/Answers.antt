-- Eight bytes.
use native.Mathlib.Omega.{arith}
use Rattle.fields.proofs.Stands.{lent_length}
use Rattle.fields.proofs.Own.{frame_write}
use Rattle.fields.proofs.frames.put_frame.Goals as goal

pub returns-then-d-lt16 : goal.returns-then-d-lt16
returns-then-d-lt16 c = λ h. record { writes = λ s l j. frame_write l j h _ c.put.new.out c.put.ensures (omega arith) }

pub returns-else-state-eq13776 : goal.returns-else-state-eq13776
returns-else-state-eq13776 c = λ h. record { writes = λ s l j. absurd (omega (arith, lent_length l)) }
