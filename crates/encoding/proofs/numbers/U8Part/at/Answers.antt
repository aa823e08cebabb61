-- The byte itself.
use Rattle.encoding.proofs.NumberLaws.{number_of_one}
use Rattle.encoding.proofs.numbers.U8Part.at.Goals as goal

pub returns : goal.returns
returns c = number_of_one c.args.bytes.now c.requires.bytes_len
