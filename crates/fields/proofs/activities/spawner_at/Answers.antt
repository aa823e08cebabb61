-- One byte.
use native.Mathlib.Omega.{arith}
use mathlib.Core.Path.{◌∙◌}
use Rattle.rules.specs.State.{act}
use Rattle.encoding.specs.Bytes.{number_of}
use Rattle.fields.proofs.Stands.{own_read}
use Rattle.fields.proofs.Own.{spawner_there}
use Rattle.fields.proofs.activities.spawner_at.Goals as goal

pub returns : goal.returns
returns c = record { reads = λ s l j. own_read l j number_of 6 1 c.get_own.ensures (omega arith) (omega arith) ∙ spawner_there (act s _) }
