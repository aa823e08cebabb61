-- The first field that breaks its rule decides.
use Rattle.std.proofs.Common.{rules}
use Rattle.encoding.specs.Decode.{accumulator_encodes}
use Rattle.encoding.proofs.accumulators.AccumulatorPart.encodes.Goals as goal

pub returns-then-bytes-le2 : goal.returns-then-bytes-le2
unfolding accumulator_encodes
returns-then-bytes-le2 c = search rules

pub returns-else-bytes-le2 : goal.returns-else-bytes-le2
unfolding accumulator_encodes
returns-else-bytes-le2 c = search rules
