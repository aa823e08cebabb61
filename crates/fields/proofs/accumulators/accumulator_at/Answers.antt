-- Twenty-four bytes.
use Rattle.fields.proofs.Head.{acc_there}
use Rattle.fields.proofs.accumulators.accumulator_at.Goals as goal

pub returns : goal.returns
returns c = λ h. record { reads = λ s l. acc_there l h c.get.ensures }
