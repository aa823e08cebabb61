-- Any bytes are cells.
use Rattle.encoding.proofs.PartLaws.{parts_pass_all}
use Rattle.encoding.proofs.numbers.cells_at.Goals as goal

pub read_each-requires-clause-bytes_value : goal.read_each-requires-clause-bytes_value
read_each-requires-clause-bytes_value c = parts_pass_all 4 16 c.args.bytes.now
