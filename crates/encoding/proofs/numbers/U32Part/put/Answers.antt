-- The library's four bytes of a number.
use mathlib.Core.Path.{◌∙◌}
use Rattle.encoding.proofs.NumberLaws.{four_bytes}
use Rattle.encoding.proofs.numbers.U32Part.put.Goals as goal

pub returns : goal.returns
returns c = c.copy_from_slice.ensures.after ∙ c.to_le_bytes.ensures ∙ four_bytes c.args.self c.ranges.self.fits
