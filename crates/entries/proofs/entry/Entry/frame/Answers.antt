-- Its eight bytes.
use mathlib.Core.Path.{ap, ◌∙◌}
use Rattle.encoding.specs.Decode.{frame_at}
use Rattle.entries.proofs.EntryLaws.{frame_bytes_lem, frame_is}
use Rattle.entries.proofs.entry.Entry.frame.Goals as goal

pub returns : goal.returns
returns c = λ j. c.at.ensures ∙ ap frame_at (frame_bytes_lem _ _ j) ∙ frame_is _ _ j
