-- One byte.
use native.Mathlib.Omega.{arith}
use Rattle.fields.proofs.Head.{accumulators_put}
use Rattle.fields.proofs.counts.put_accumulators.Goals as goal

pub returns : goal.returns
returns c = record { writes = λ s l. accumulators_put l c.put.ensures (omega arith) }
