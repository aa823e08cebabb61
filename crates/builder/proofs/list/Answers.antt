-- The table is read, its commands are counted and written; what is turned down leaves the entries.
use native.Mathlib.Omega.{arith}
use mathlib.Core.Path.{◌∙◌}
use lib.Seq.{length-take-le}
use Rattle.std.proofs.lemmas.Result.{err_from_is_err_and}
use Rattle.program.specs.Table.{work_limit}
use Rattle.program.proofs.ShapeLaws.{numbered}
use Rattle.program.proofs.TableLaws.{table_read, table_refused}
use Rattle.builder.proofs.Answers.{list-refused, list-short, list_done}
use Rattle.builder.proofs.list.Goals as goal

pub returns-in_err-read_table : goal.returns-in_err-read_table
returns-in_err-read_table c =
    let p = err_from_is_err_and c.from_residual.result c.from_residual.ensures.1 in
    let n = table_refused work_limit c.args.table.now c.read_table.ensures c.in_err-read_table.was in
    let b = list-refused c.args.table.now c.args.entries.now c.in_err-read_table.field-0.0 n.0 in
    record { value = rw (p.1, p.2) b.value; entries_after = b.entries_after; builds_back = rw p.1 tt }

pub count-count-requires : goal.count-count-requires
count-count-requires c = numbered work_limit c.args.table.now (table_read work_limit c.args.table.now c.read_table.ensures c.in_ok-read_table.was).0

pub returns-then-entries-count : goal.returns-then-entries-count
returns-then-entries-count c =
    let n = table_read work_limit c.args.table.now c.read_table.ensures c.in_ok-read_table.was in
    let e = c.count-count.ensures in
    let b = list-short c.args.table.now c.args.entries.now n.0 (omega arith) in
    record { value = b.value; entries_after = b.entries_after; builds_back = b.builds_back }

pub put-requires : goal.put-requires
put-requires c =
    let n = table_read work_limit c.args.table.now c.read_table.ensures c.in_ok-read_table.was in
    (numbered work_limit c.args.table.now n.0, length-take-le c.count-count.result c.args.entries.now c.if-entries-count.false ∙ c.count-count.ensures)

pub returns : goal.returns
returns c =
    let n = table_read work_limit c.args.table.now c.read_table.ensures c.in_ok-read_table.was in
    let b = list_done c.args.table.now c.args.entries.now n.0 (λ i. omega (arith, c.type_inv.table i)) c.count-count.ensures c.if-entries-count.false (rw (c.put.ensures, c.count-count.ensures)) in
    record { value = b.value; entries_after = b.entries_after; builds_back = b.builds_back }
