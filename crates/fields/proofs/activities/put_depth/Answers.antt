-- One byte.
use native.Mathlib.Omega.{arith}
use Rattle.rules.specs.State.{act}
use Rattle.fields.proofs.Stands.{mine, fine_depth, own_put}
use Rattle.fields.proofs.Own.{depth_put}
use Rattle.fields.proofs.activities.put_depth.Goals as goal

pub returns : goal.returns
returns c = record { writes = λ s l j. own_put l j 7 1 _ c.put_own.ensures (omega arith) (omega arith) (depth_put (act s _) _ (omega arith)) (fine_depth (mine l j)) }
