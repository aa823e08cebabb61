-- One byte.
use native.Mathlib.Omega.{arith}
use Rattle.fields.proofs.Own.{name_write}
use Rattle.fields.proofs.activities.put_name.Goals as goal

pub returns : goal.returns
returns c = λ h. record { writes = λ s l j. name_write l j h c.put_own.ensures (omega arith) }
