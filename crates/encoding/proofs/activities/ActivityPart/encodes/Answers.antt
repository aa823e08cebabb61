-- The first field that breaks its rule decides.
use Rattle.std.proofs.Common.{rules}
use Rattle.encoding.specs.Decode.{activity_encodes}
use Rattle.encoding.proofs.activities.ActivityPart.encodes.Goals as goal

pub returns-then-each_encodes : goal.returns-then-each_encodes
unfolding activity_encodes
returns-then-each_encodes c = search rules

pub returns-else-each_encodes : goal.returns-else-each_encodes
unfolding activity_encodes
returns-else-each_encodes c = search rules
