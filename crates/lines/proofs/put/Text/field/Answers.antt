-- The two parts, one after the other.
use Rattle.lines.proofs.Putting.{both}
use Rattle.lines.proofs.put.Text.field.Goals as goal

pub returns : goal.returns
returns c = both c.number.ensures c.byte.ensures
