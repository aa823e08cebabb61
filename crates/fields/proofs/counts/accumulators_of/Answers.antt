-- One byte.
use Rattle.fields.proofs.Head.{accumulators_there}
use Rattle.fields.proofs.counts.accumulators_of.Goals as goal

pub returns : goal.returns
returns c = record { reads = λ s l. accumulators_there l (record { gets = c.get.ensures }) }
