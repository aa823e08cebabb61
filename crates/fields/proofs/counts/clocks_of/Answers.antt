-- One byte.
use Rattle.fields.proofs.Head.{clocks_there}
use Rattle.fields.proofs.counts.clocks_of.Goals as goal

pub returns : goal.returns
returns c = record { reads = λ s l. clocks_there l (record { gets = c.get.ensures }) }
