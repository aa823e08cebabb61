-- Eight bytes.
use native.Mathlib.Omega.{arith}
use Rattle.fields.proofs.Stands.{lent_length}
use Rattle.fields.proofs.Own.{hold_write}
use Rattle.fields.proofs.holds.put_hold.Goals as goal

pub returns-then-k-lt8 : goal.returns-then-k-lt8
returns-then-k-lt8 c = λ h. record { writes = λ s l j. hold_write l j h _ c.put.new.out c.put.ensures (omega arith) }

pub returns-else-state-eq13776 : goal.returns-else-state-eq13776
returns-else-state-eq13776 c = λ h. record { writes = λ s l j. absurd (omega (arith, lent_length l)) }
