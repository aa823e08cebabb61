-- Its 208 bytes.
use mathlib.Core.Path.{◌∙◌}
use Rattle.machine.proofs.Kept.{entry_long, entry_encodes, entry_is}
use Rattle.machine.proofs.after.activity_in.Goals as goal

pub activity_at-requires : goal.activity_at-requires
activity_at-requires c = record { bytes_len = entry_long c.args.bytes.now c.requires.bytes_len c.requires.bytes_value c.args.i c.requires.i_bound; bytes_value = entry_encodes c.args.bytes.now c.requires.bytes_len c.requires.bytes_value c.args.i c.requires.i_bound }

pub returns : goal.returns
returns c = c.activity_at.ensures ∙ entry_is c.args.bytes.now c.requires.bytes_len c.requires.bytes_value c.args.i c.requires.i_bound
