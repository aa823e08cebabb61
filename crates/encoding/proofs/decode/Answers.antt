-- The tests that led to an answer say which.
use Rattle.std.proofs.Common.{rules}
use Rattle.encoding.specs.Decode.{encodes, decoded_of}
use Rattle.encoding.proofs.decode.Goals as goal

pub returns-then-fields_encode : goal.returns-then-fields_encode
unfolding decoded_of encodes
returns-then-fields_encode c = search rules

pub returns-else-bytes-eq13776 : goal.returns-else-bytes-eq13776
unfolding decoded_of encodes
returns-else-bytes-eq13776 c = search rules
