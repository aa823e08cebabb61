-- The lines before the next stand at the text's end, whole.
use Rattle.lines.proofs.Paging.{Under}
use Rattle.lines.proofs.put.Text.page.Given as goal

abbrev pub invariant-loop-next : goal.invariant-loop-next
invariant-loop-next l = Under l.initial.self l.steps.order.now l.steps.answers.now l.steps.awaited.now l.line l.self l.taken l.next
