-- The library's number of four bytes.
use mathlib.Core.Path.{◌∙◌}
use Rattle.encoding.proofs.NumberLaws.{number_of_four}
use Rattle.encoding.proofs.numbers.U32Part.at.Goals as goal

pub returns : goal.returns
returns c = c.from_le_bytes.ensures ∙ number_of_four c.args.bytes.now c.requires.bytes_len
