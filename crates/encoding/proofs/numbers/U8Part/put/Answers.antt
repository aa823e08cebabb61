-- The byte itself.
use Rattle.encoding.proofs.NumberLaws.{one_byte}
use Rattle.encoding.proofs.numbers.U8Part.put.Goals as goal

pub returns : goal.returns
returns c = one_byte c.args.out.now c.args.self c.requires c.ranges.self.fits
