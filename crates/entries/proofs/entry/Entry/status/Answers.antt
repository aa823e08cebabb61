-- Its two bytes.
use Rattle.encoding.specs.Decode.{activity_at}
use Rattle.entries.proofs.entry.Entry.status.Goals as goal

pub returns : goal.returns
unfolding activity_at
returns c = c.status_of.ensures
