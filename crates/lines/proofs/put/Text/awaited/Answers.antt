-- The blank and the number, one after the other, or nothing.
use Rattle.lines.proofs.Putting.{awaited_put, awaited_none}
use Rattle.lines.proofs.put.Text.awaited.Goals as goal

pub returns-then-answer-eq16 : goal.returns-then-answer-eq16
returns-then-answer-eq16 c = awaited_put _ c.if-answer-eq16.true c.byte.ensures c.number.ensures

pub returns-else-answer-eq16 : goal.returns-else-answer-eq16
returns-else-answer-eq16 c = awaited_none _ c.if-answer-eq16.false
