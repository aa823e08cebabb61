-- The bytes are made, read and copied; what is turned down leaves the buffer.
use native.Mathlib.Omega.{arith}
use mathlib.Core.Path.{◌≡◌, sym, ◌∙◌}
use lib.Seq.{length-take-le}
use Rattle.std.proofs.lemmas.Result.{err_from_is_err_and}
use Rattle.program.specs.Table.{work_limit, number_of}
use Rattle.program.proofs.TableLaws.{table_read, table_refused}
use Rattle.builder.specs.Build.{list_bytes}
use Rattle.builder.proofs.Answers.{written-long, written-inside, written-number, written-bytes, build-refused, build-long, build-short, build-done}
use Rattle.builder.proofs.build.Goals as goal

pub returns-in_default : goal.returns-in_default
returns-in_default c =
    let b = build-long c.args.entries.now c.args.table.now (c.fill.ensures.over c.in_default.is) in
    record { value = b.value; table_after = b.table_after; reads_back = b.reads_back }

pub slice_bounds-room-end : goal.slice_bounds-room-end
slice_bounds-room-end c = written-inside (c.fill.ensures.fits c.in-Some.length c.in-Some.is)

pub slice_bounds-made-end : goal.slice_bounds-made-end
slice_bounds-made-end c = sym (written-long (c.fill.ensures.fits c.in-Some.length c.in-Some.is))

pub returns-in_err-read_table : goal.returns-in_err-read_table
returns-in_err-read_table c =
    let p = err_from_is_err_and c.from_residual.result c.from_residual.ensures.1 in
    let w = c.fill.ensures.fits c.in-Some.length c.in-Some.is in
    let n = table_refused work_limit _ c.read_table.ensures c.in_err-read_table.was in
    let b = build-refused c.args.entries.now c.args.table.now c.in_err-read_table.field-0.0 (n.0 ∙ written-number w) in
    record { value = rw (p.1, p.2) b.value; table_after = b.table_after; reads_back = rw p.1 tt }

pub returns-then-table-length : goal.returns-then-table-length
returns-then-table-length c =
    let w = c.fill.ensures.fits c.in-Some.length c.in-Some.is in
    let n : number_of work_limit (list_bytes c.args.entries.now) ≡ 0 = sym (written-number w) ∙ (table_read work_limit _ c.read_table.ensures c.in_ok-read_table.was).0 in
    let l = w.long in
    let b = build-short c.args.entries.now c.args.table.now n (omega arith) in
    record { value = b.value; table_after = b.table_after; reads_back = b.reads_back }

pub copy_from_slice-requires : goal.copy_from_slice-requires
copy_from_slice-requires c =
    let w = c.fill.ensures.fits c.in-Some.length c.in-Some.is in
    let made = written-long w in
    let room = length-take-le c.in-Some.length c.args.table.now c.if-table-length.false in
    omega arith

pub returns : goal.returns
returns c =
    let w = c.fill.ensures.fits c.in-Some.length c.in-Some.is in
    let n : number_of work_limit (list_bytes c.args.entries.now) ≡ 0 = sym (written-number w) ∙ (table_read work_limit _ c.read_table.ensures c.in_ok-read_table.was).0 in
    let b = build-done c.args.entries.now c.args.table.now n w.five w.long (written-bytes w n) c.if-table-length.false (rw (c.copy_from_slice.ensures.after, written-long w)) in
    record { value = b.value; table_after = b.table_after; reads_back = b.reads_back }
