-- The library's number of two bytes.
use mathlib.Core.Path.{◌∙◌}
use Rattle.encoding.proofs.NumberLaws.{number_of_two}
use Rattle.encoding.proofs.numbers.U16Part.at.Goals as goal

pub returns : goal.returns
returns c = c.from_le_bytes.ensures ∙ number_of_two c.args.bytes.now c.requires.bytes_len
