-- The first field that breaks its rule decides.
use Rattle.std.proofs.Common.{arith}
use Rattle.std.proofs.lemmas.Bool.Decides.{nat_tests}
use Rattle.std.proofs.lemmas.Grind.{common_steps}
use Rattle.encoding.specs.Decode.{hold_encodes}
use Rattle.encoding.proofs.holds.HoldPart.encodes.Goals as goal

pub returns-then-bytes-le2 : goal.returns-then-bytes-le2
unfolding hold_encodes
returns-then-bytes-le2 c = grind (arith, common_steps, nat_tests)

pub returns-else-bytes-le2 : goal.returns-else-bytes-le2
unfolding hold_encodes
returns-else-bytes-le2 c = grind (arith, common_steps, nat_tests)
