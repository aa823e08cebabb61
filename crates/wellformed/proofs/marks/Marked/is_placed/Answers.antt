-- By the marks, where the body and the byte exist.
use native.Mathlib.Omega.{arith}
use Rattle.wellformed.proofs.Marking.{table_some, table_short, no_body, start_there, start_small, past_end, by_mark}
use Rattle.wellformed.proofs.marks.Marked.is_placed.Goals as goal

pub bounds-table-0 : goal.bounds-table-0
bounds-table-0 c = table_some c.args.self.now.table.known

pub returns-then-table-f : goal.returns-then-table-f
returns-then-table-f c = no_body c.args.self.now.table.known c.args.f c.if-table-f.true

pub bounds-table-body : goal.bounds-table-body
bounds-table-body c = start_there c.args.self.now.table.known c.args.f c.if-table-f.false

pub overflow_add-at : goal.overflow_add-at
overflow_add-at c = omega (arith, start_small c.args.self.now.table.known c.args.f c.if-table-f.false)

pub returns-then-table-at : goal.returns-then-table-at
returns-then-table-at c = past_end c.args.self.now.table.known c.args.f c.if-table-f.false c.if-table-at.true

pub bounds-self-at : goal.bounds-self-at
bounds-self-at c = omega (arith, table_short c.args.self.now.table.known)

pub returns : goal.returns
returns c = by_mark c.args.self.now.table.known c.args.f c.if-table-f.false c.args.self.now.places
