-- 192 bytes.
use native.Mathlib.Omega.{arith}
use Rattle.fields.proofs.Stands.{lent_length}
use Rattle.fields.proofs.Own.{clear_write}
use Rattle.fields.proofs.activities.clear_own.Goals as goal

pub returns-then-i-lt64 : goal.returns-then-i-lt64
returns-then-i-lt64 c = record { writes = λ s l j. clear_write l j c.put_zeros.new.out c.put_zeros.ensures }

pub returns-else-state-eq13776 : goal.returns-else-state-eq13776
returns-else-state-eq13776 c = record { writes = λ s l j. absurd (omega (arith, lent_length l)) }
