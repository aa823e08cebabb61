-- Its first four bytes, then its last four.
use Rattle.entries.proofs.EntryLaws.{first_not, first_zero}
use Rattle.entries.proofs.entry.Entry.hold_zero.Goals as goal

pub returns-then-at-eq0 : goal.returns-then-at-eq0
returns-then-at-eq0 c = λ j. first_zero _ _ j c.at.ensures c.at-then-at-eq0.ensures c.if-at-eq0.true

pub returns-else-at-eq0 : goal.returns-else-at-eq0
returns-else-at-eq0 c = λ j. first_not _ _ j c.at.ensures c.if-at-eq0.false
