-- Four bytes.
use native.Mathlib.Omega.{arith}
use mathlib.Core.Path.{◌∙◌}
use Rattle.rules.specs.State.{act}
use Rattle.encoding.specs.Bytes.{number_of}
use Rattle.fields.proofs.Stands.{mine, own_read}
use Rattle.fields.proofs.Own.{register_there}
use Rattle.fields.proofs.activities.register_at.Goals as goal

pub returns : goal.returns
returns c = record { reads = λ s l j. own_read l j number_of 0 4 c.get_own.ensures (omega arith) (omega arith) ∙ register_there (act s _) (mine l j) }
