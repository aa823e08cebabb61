-- The first field that breaks its rule decides.
use Rattle.std.proofs.Common.{rules}
use Rattle.encoding.specs.Decode.{fields_encode}
use Rattle.encoding.proofs.fields.fields_encode.Goals as goal

pub returns-then-each_encodes : goal.returns-then-each_encodes
unfolding fields_encode
returns-then-each_encodes c = search rules

pub returns-else-each_encodes : goal.returns-else-each_encodes
unfolding fields_encode
returns-else-each_encodes c = search rules
