-- Field by field.
use Rattle.encoding.specs.Decode.{activity_at}
use Rattle.encoding.proofs.PartLaws.{parts_pass_all}
use Rattle.encoding.proofs.Passed.{activity_passes_lem}
use Rattle.encoding.proofs.activities.activity_at.Goals as goal

pub read_each-requires-clause-bytes_value : goal.read_each-requires-clause-bytes_value
read_each-requires-clause-bytes_value c = (activity_passes_lem c.args.bytes.now c.requires.bytes_value).holds

pub read_each-requires-2-clause-bytes_value : goal.read_each-requires-2-clause-bytes_value
read_each-requires-2-clause-bytes_value c = parts_pass_all 8 16 _

pub returns : goal.returns
unfolding activity_at
returns c = rw (c.at.ensures, c.read_each-2.ensures, c.read_each.ensures, c.copy_from_slice.ensures.after, c.status_of.ensures)
