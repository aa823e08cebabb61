-- One byte.
use native.Mathlib.Omega.{arith}
use mathlib.Core.Path.{◌∙◌}
use Rattle.rules.specs.State.{act}
use Rattle.encoding.specs.Bytes.{number_of}
use Rattle.fields.proofs.Stands.{own_read}
use Rattle.fields.proofs.Own.{depth_there}
use Rattle.fields.proofs.activities.depth_at.Goals as goal

pub returns : goal.returns
returns c = record { reads = λ s l j. own_read l j number_of 7 1 c.get_own.ensures (omega arith) (omega arith) ∙ depth_there (act s _) }
