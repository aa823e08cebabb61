-- The numbers come in checking order, and saturated counts pass the same limits as the counts themselves.
use mathlib.Core.Path.{sym, ap, ◌∙◌}
use native.Mathlib.Omega.{arith}
use Rattle.std.proofs.lemmas.Result.{err_from_is_err_and}
use Rattle.program.specs.Inner.Counting.{over_counts}
use Rattle.program.specs.Scan.{scan, layout_of}
use Rattle.program.specs.declared.scan.Layout.{Layout}
use Rattle.program.proofs.Refusals.{answered_ok}
use Rattle.program.proofs.TableLaws.{table_unread, table_over, table_counted}
use Rattle.program.proofs.WalkLaws.{counts_small}
use Rattle.program.specs.Inner.Counting.{activityCount}
use Rattle.program.proofs.table.read_places.Goals as goal

pub returns-in_err-layout : goal.returns-in_err-layout
returns-in_err-layout c =
    let p = err_from_is_err_and c.from_residual.result c.from_residual.ensures.1 in
    record { value = rw (p.1, p.2) (table_unread c.args.table.now (sym c.scan.ensures.value ∙ c.in_err-layout.was)); marks_after = c.scan.ensures.marks_after }

pub count_table-totals-requires : goal.count_table-totals-requires
count_table-totals-requires c =
    let t = c.args.table.now in
    let k = answered_ok (scan t) (layout_of t) (sym c.scan.ensures.value ∙ c.in_ok-layout.was) in
    (k.0, ap (λ (l : Layout). l.starts) k.1)

pub returns-in_err-over : goal.returns-in_err-over
returns-in_err-over c =
    let t = c.args.table.now in
    let k = answered_ok (scan t) (layout_of t) (sym c.scan.ensures.value ∙ c.in_ok-layout.was) in
    let p = err_from_is_err_and c.from_residual-in_err-over.result c.from_residual-in_err-over.ensures.1 in
    record { value = rw (p.1, p.2) (table_over t k.0 c.count_table-totals.result c.count_table-totals.ensures (sym c.over.ensures ∙ c.in_err-over.was)); marks_after = c.scan.ensures.marks_after }

pub overflow_add-result : goal.overflow_add-result
overflow_add-result c =
    let s = counts_small c.args.table.now 0 c.count_table-totals.result c.count_table-totals.ensures activityCount in omega arith

pub returns : goal.returns
returns c =
    let t = c.args.table.now in
    let k = answered_ok (scan t) (layout_of t) (sym c.scan.ensures.value ∙ c.in_ok-layout.was) in
    let z = answered_ok (over_counts c.count_table-totals.result) (tt {0}) (sym c.over.ensures ∙ c.in_ok-over.was) in
    record { value = rw k.1 (table_counted t k.0 c.count_table-totals.result c.count_table-totals.ensures z.0); marks_after = c.scan.ensures.marks_after }
