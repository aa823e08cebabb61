-- The two parts, one after the other.
use Rattle.lines.specs.Text.{refused_of}
use Rattle.lines.proofs.Putting.{both}
use Rattle.lines.proofs.put.Text.refused.Goals as goal

pub returns : goal.returns
unfolding refused_of
returns c = both c.named.ensures c.byte.ensures
