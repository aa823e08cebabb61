-- Four bytes.
use native.Mathlib.Omega.{arith}
use Rattle.fields.proofs.Head.{steps_put}
use Rattle.fields.proofs.counts.put_steps.Goals as goal

pub returns : goal.returns
returns c = record { writes = λ s l. steps_put l (rw c.from.ensures at c.put.ensures) (omega arith) }
