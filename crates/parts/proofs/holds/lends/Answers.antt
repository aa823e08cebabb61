-- A byte has no bit from 8 on.
use Rattle.std.proofs.Common.{arith}
use Rattle.std.proofs.lemmas.Nat.Bits.{bit_at_above}
use Rattle.parts.proofs.holds.lends.Goals as goal

pub returns-else-name-lt8 : goal.returns-else-name-lt8
returns-else-name-lt8 c = grind (arith, bit_at_above c.args.mask 8 c.args.name c.ranges.mask.fits (omega (arith, c.if-name-lt8.false)))
