-- Field by field.
use Rattle.encoding.specs.Decode.{accumulator_at}
use Rattle.encoding.proofs.accumulators.AccumulatorPart.at.Goals as goal

pub returns : goal.returns
unfolding accumulator_at
returns c = rw (c.at.ensures, c.operator_of.ensures)
