-- Two bytes.
use native.Mathlib.Omega.{arith}
use Rattle.rules.specs.State.{act}
use Rattle.fields.proofs.Stands.{mine, fine_status, own_put}
use Rattle.fields.proofs.Own.{status_put}
use Rattle.fields.proofs.activities.put_status.Goals as goal

pub returns : goal.returns
returns c =
    record {
      writes =
          λ s l j.
          own_put l j 4 2 _ c.put_own.ensures (omega arith) (omega arith)
          (status_put (act s _) _ c.from_le_bytes-v.ensures c.status_byte.ensures c.fault_byte.ensures (omega arith) (omega arith))
          (fine_status (mine l j));
    }
