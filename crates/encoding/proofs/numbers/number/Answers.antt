-- Zeros stand behind the bytes.
use native.Mathlib.Omega.{arith}
use mathlib.Core.Path.{◌∙◌}
use Rattle.encoding.proofs.NumberLaws.{number_of_padded}
use Rattle.encoding.proofs.numbers.number.Goals as goal

pub returns : goal.returns
returns c = c.from_le_bytes.ensures ∙ number_of_padded c.args.bytes.now _ _ c.copy_from_slice.ensures.after (omega arith) c.requires
