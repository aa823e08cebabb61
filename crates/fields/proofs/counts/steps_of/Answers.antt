-- The two lower bytes of four.
use Rattle.fields.proofs.Head.{steps_there}
use Rattle.fields.proofs.counts.steps_of.Goals as goal

pub returns : goal.returns
returns c = record { reads = λ s l. steps_there l (record { gets = c.get.ensures }) }
