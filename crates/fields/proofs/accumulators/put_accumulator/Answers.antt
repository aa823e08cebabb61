-- Twenty-four bytes.
use native.Mathlib.Omega.{arith}
use Rattle.fields.proofs.Stands.{lent_length}
use Rattle.fields.proofs.Head.{acc_write}
use Rattle.fields.proofs.accumulators.put_accumulator.Goals as goal

pub returns-then-n-lt16 : goal.returns-then-n-lt16
returns-then-n-lt16 c = λ h. record { writes = λ s l. acc_write l h _ c.put.new.out c.put.ensures (omega arith) }

pub returns-else-state-eq13776 : goal.returns-else-state-eq13776
returns-else-state-eq13776 c = λ h. record { writes = λ s l. absurd (omega (arith, lent_length l)) }
