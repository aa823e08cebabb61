-- One byte.
use native.Mathlib.Omega.{arith}
use Rattle.rules.specs.State.{act}
use Rattle.fields.proofs.Stands.{mine, own_put}
use Rattle.fields.proofs.Own.{fine_spawner, spawner_put}
use Rattle.fields.proofs.activities.put_spawner.Goals as goal

pub returns : goal.returns
returns c = record { writes = λ s l j. own_put l j 6 1 _ c.put_own.ensures (omega arith) (omega arith) (spawner_put (act s _) _ (omega arith)) (fine_spawner (mine l j)) }
