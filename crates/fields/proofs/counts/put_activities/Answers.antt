-- One byte.
use native.Mathlib.Omega.{arith}
use Rattle.fields.proofs.Head.{activities_put}
use Rattle.fields.proofs.counts.put_activities.Goals as goal

pub returns : goal.returns
returns c = record { writes = λ s l. activities_put l c.put.ensures (omega arith) }
