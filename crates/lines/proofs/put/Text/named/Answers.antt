-- The two parts, one after the other.
use Rattle.lines.proofs.Putting.{both}
use Rattle.lines.proofs.put.Text.named.Goals as goal

pub returns : goal.returns
returns c = both c.bytes.ensures c.number.ensures
