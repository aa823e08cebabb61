-- By the command.
use Rattle.waits.proofs.Waitings.{awaits_end, awaits_next, awaits_own, awaits_other}
use Rattle.waits.proofs.waiting.awaited_at.Goals as goal

pub returns-in-End : goal.returns-in-End
returns-in-End c = awaits_end c.args.table.now.known c.in-End.is c.end_inside.ensures

pub returns-in-Next : goal.returns-in-Next
returns-in-Next c = awaits_next c.args.table.now.known c.in-Next.is c.next_awaits.ensures

pub returns-in-Read : goal.returns-in-Read
returns-in-Read c = awaits_own c.args.table.now.known c.own_awaits.ensures c.in-Read.is

pub returns-in_default : goal.returns-in_default
returns-in_default c = let d = c.in_default in awaits_other (record { not_end = d.not-End; not_next = d.not-Next; not_read = d.not-Read; not_reset = d.not-Reset })
