-- Four bytes.
use native.Mathlib.Omega.{arith}
use mathlib.Core.Path.{refl}
use Rattle.fields.proofs.Head.{value_write}
use Rattle.fields.proofs.accumulators.put_value.Goals as goal

pub returns : goal.returns
returns c = λ h. record { writes = λ s l. value_write l h c.put.ensures refl (omega arith) }
