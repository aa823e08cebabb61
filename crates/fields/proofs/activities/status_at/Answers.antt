-- Two bytes.
use native.Mathlib.Omega.{arith}
use mathlib.Core.Path.{◌∙◌}
use Rattle.rules.specs.State.{act}
use Rattle.encoding.specs.Bytes.{number_of}
use Rattle.fields.proofs.Stands.{own_read}
use Rattle.fields.proofs.Own.{status_byte_lem, fault_byte_lem, status_of_bytes}
use Rattle.fields.proofs.activities.status_at.Goals as goal

pub returns : goal.returns
returns c =
    record {
      reads =
          λ s l j.
          let x = own_read l j number_of 4 1 c.get_own.ensures (omega arith) (omega arith) ∙ status_byte_lem (act s _) in
          let y = own_read l j number_of 5 1 c.get_own-2.ensures (omega arith) (omega arith) ∙ fault_byte_lem (act s _) in
          c.status_of.ensures ∙ status_of_bytes (act s _).status x y;
    }
