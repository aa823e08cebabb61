-- Any bytes are read as accumulators.
use Rattle.encoding.proofs.PartLaws.{parts_pass_all}
use Rattle.encoding.proofs.accumulators.accumulators_at.Goals as goal

pub read_each-requires-clause-bytes_value : goal.read_each-requires-clause-bytes_value
read_each-requires-clause-bytes_value c = parts_pass_all 24 16 c.args.bytes.now
