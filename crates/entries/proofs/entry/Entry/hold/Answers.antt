-- The lower two bytes of its phase, its clock, its registration.
use Rattle.entries.proofs.EntryLaws.{hold_read}
use Rattle.entries.proofs.entry.Entry.hold.Goals as goal

pub returns : goal.returns
returns c = λ j t. rw c.registration_of.ensures (hold_read c.args.self.now.bytes.now c.args.k _ j c.at.ensures t)
