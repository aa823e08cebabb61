-- Four bytes.
use native.Mathlib.Omega.{arith}
use Rattle.rules.specs.State.{act}
use Rattle.fields.proofs.Stands.{mine, fine_register, own_put}
use Rattle.fields.proofs.Own.{register_put}
use Rattle.fields.proofs.activities.put_register.Goals as goal

pub returns : goal.returns
returns c = record { writes = λ s l j. own_put l j 0 4 _ c.put_own.ensures (omega arith) (omega arith) (register_put (act s _) _) (fine_register (mine l j) (omega arith)) }
