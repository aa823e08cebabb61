-- Its eight bytes.
use mathlib.Core.Path.{ap, ◌∙◌}
use Rattle.encoding.specs.Decode.{frame_encodes}
use Rattle.entries.proofs.EntryLaws.{frame_bytes_lem}
use Rattle.entries.proofs.entry.Entry.frame_whole.Goals as goal

pub returns : goal.returns
returns c = λ j. c.encodes.ensures ∙ ap frame_encodes (frame_bytes_lem _ _ j)
