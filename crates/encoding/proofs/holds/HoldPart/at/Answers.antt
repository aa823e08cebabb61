-- The phase is within its limit.
use native.Mathlib.Omega.{arith}
use Rattle.encoding.specs.Decode.{hold_at}
use Rattle.encoding.proofs.Passed.{hold_passes}
use Rattle.encoding.proofs.holds.HoldPart.at.Goals as goal

pub overflow_cast-result : goal.overflow_cast-result
overflow_cast-result c = omega (arith, c.at.ensures, (hold_passes _ c.requires.bytes_value).phase)

pub returns : goal.returns
unfolding hold_at
returns c = rw (c.at.ensures, c.registration_of.ensures)
