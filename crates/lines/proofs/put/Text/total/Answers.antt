-- The four names and numbers and the line end, one after the other.
use Rattle.lines.specs.Text.{total_of}
use Rattle.lines.proofs.Putting.{both}
use Rattle.lines.proofs.put.Text.total.Goals as goal

pub returns : goal.returns
unfolding total_of
returns c = both (both (both (both c.named.ensures c.named-2.ensures) c.named-3.ensures) c.named-4.ensures) c.byte.ensures
