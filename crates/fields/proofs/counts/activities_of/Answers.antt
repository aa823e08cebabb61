-- One byte.
use Rattle.fields.proofs.Head.{activities_there}
use Rattle.fields.proofs.counts.activities_of.Goals as goal

pub returns : goal.returns
returns c = record { reads = λ s l. activities_there l (record { gets = c.get.ensures }) }
