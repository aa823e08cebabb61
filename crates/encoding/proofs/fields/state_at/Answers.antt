-- Field by field.
use native.Mathlib.Omega.{arith}
use Rattle.encoding.specs.Decode.{state_of}
use Rattle.encoding.proofs.Passed.{state_passes}
use Rattle.encoding.proofs.fields.state_at.Goals as goal

pub read_each-requires-clause-bytes_value : goal.read_each-requires-clause-bytes_value
read_each-requires-clause-bytes_value c = (state_passes c.args.bytes.now c.requires.bytes_value).acts

pub overflow_cast-result : goal.overflow_cast-result
overflow_cast-result c = omega (arith, c.at.ensures, (state_passes c.args.bytes.now c.requires.bytes_value).steps)

pub returns : goal.returns
unfolding state_of
returns c = rw (c.read_each.ensures, c.cells_at.ensures, c.accumulators_at.ensures, c.at.ensures)
