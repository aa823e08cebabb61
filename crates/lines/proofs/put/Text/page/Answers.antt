-- A line more while there is room for any, and where the page stops.
use Rattle.std.proofs.Common.{rules, arith, get_or, length, subst, ℕ, ◌≡◌, ◌<◌}
use Rattle.lines.specs.Paged.{Paged}
use Rattle.lines.proofs.Paging.{under_start, under_more, under_end, steps_le}
use Rattle.lines.proofs.put.Text.page.Goals as goal

pub loop-next-init : goal.loop-next-init
loop-next-init c = under_start _ _ _ _ _ c.taken_by-taken.ensures

pub overflow_add-taken : goal.overflow_add-taken
overflow_add-taken c = omega (arith, c.loop-next.invariant.fewer, steps_le (get_or c.args.steps.answers.now c.loop-next.next 0), c.steps_of-taken.ensures)

pub loop-next-preserved : goal.loop-next-preserved
loop-next-preserved c =
    let steps = c.args.steps in
    let next = c.loop-next.next in
    let ordered : next < length steps.order.now = omega (arith, c.len-end.ensures, c.loop-next-test.true) in
    let answered : next < length steps.answers.now = omega (arith, c.len-end.ensures, c.loop-next-test.true) in
    let counted : next < length steps.awaited.now = omega (arith, c.len-end.ensures, c.loop-next-test.true) in
    under_more _ _ _ _ _ c.loop-next.invariant ordered answered counted (omega (arith, c.room.ensures, c.if-room-lt-ROOM.false)) c.steps_of-taken.ensures c.line.ensures (omega arith)
    (search rules) (search rules) (search rules)

pub returns-then-room-lt-ROOM : goal.returns-then-room-lt-ROOM
returns-then-room-lt-ROOM c = under_end _ _ _ _ _ c.loop-next.invariant (λ _ _ _. omega (arith, c.room.ensures, c.if-room-lt-ROOM.true))

pub returns : goal.returns
returns c =
    let u = c.loop-next.invariant in
    let last : c.loop-next.next ≡ c.max.result = omega (arith, u.onward, u.within, c.len-end.ensures, c.max.ensures, c.loop-next-test.false) in
    subst (λ (n : ℕ). Paged c.args.self.now c.args.steps.order.now c.args.steps.answers.now c.args.steps.awaited.now c.args.line c.loop-next.self n) last
    (under_end _ _ _ _ _ u (λ o a w. absurd (omega (arith, c.len-end.ensures, c.loop-next-test.false))))
