-- One byte.
use native.Mathlib.Omega.{arith}
use Rattle.fields.proofs.Head.{clocks_put}
use Rattle.fields.proofs.counts.put_clocks.Goals as goal

pub returns : goal.returns
returns c = record { writes = λ s l. clocks_put l c.put.ensures (omega arith) }
