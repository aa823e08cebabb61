-- The meeting guards the search.
use Rattle.waits.proofs.Waitings.{next_elsewhere, next_behind}
use Rattle.waits.proofs.waiting.next_awaits.Goals as goal

pub returns-in-AtBarrier : goal.returns-in-AtBarrier
returns-in-AtBarrier c = next_behind c.status_at.ensures c.in-AtBarrier.is c.count_behind.ensures

pub returns-in_default : goal.returns-in_default
returns-in_default c = next_elsewhere c.status_at.ensures c.in_default.not-AtBarrier
