-- Its eight bytes.
use mathlib.Core.Path.{ap, ◌∙◌}
use Rattle.encoding.specs.Decode.{hold_encodes}
use Rattle.entries.proofs.EntryLaws.{hold_bytes_lem}
use Rattle.entries.proofs.entry.Entry.hold_whole.Goals as goal

pub returns : goal.returns
returns c = λ j. c.encodes.ensures ∙ ap hold_encodes (hold_bytes_lem _ _ j)
