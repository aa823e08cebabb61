-- The bytes of the entries so far are written: the loop goes on as the definition does.
use native.Mathlib.Omega.{arith}
use mathlib.Core.List.{[]}
use lib.ListN.{get_or}
use Rattle.program.proofs.RowLaws.{width_few}
use Rattle.builder.proofs.Filling.{filling_none, filling_over, filling_more, filling_done}
use Rattle.builder.proofs.bytes.fill.Goals as goal

pub loop-entry-init : goal.loop-entry-init
loop-entry-init c = filling_none c.args.entries.now c.args.out.now c.told-out

pub overflow_add-at : goal.overflow_add-at
overflow_add-at c =
    let w = width_few (get_or (get_or c.args.entries.now c.loop-entry.entry-index []) 0 0) in
    let r = c.loop-entry.invariant.room in
    omega arith

pub returns-then-at-size-gt2048 : goal.returns-then-at-size-gt2048
returns-then-at-size-gt2048 c =
    let l = c.loop-entry in
    filling_over l.invariant c.loop-entry-test.true (c.told-entries l.entry-index c.loop-entry-test.true) c.width_at-size.ensures c.if-at-size-gt2048.true

pub shared_ref_as_front-copy_from_slice : goal.shared_ref_as_front-copy_from_slice
shared_ref_as_front-copy_from_slice c =
    let w = width_few (get_or (get_or c.args.entries.now c.loop-entry.entry-index []) 0 0) in
    let five = c.told-entries c.loop-entry.entry-index c.loop-entry-test.true in
    omega arith

pub loop-entry-preserved : goal.loop-entry-preserved
loop-entry-preserved c =
    let l = c.loop-entry in
    filling_more l.invariant c.loop-entry-test.true (c.told-entries l.entry-index c.loop-entry-test.true) c.width_at-size.ensures c.if-at-size-gt2048.false
    c.copy_from_slice.ensures.after c.with_end-ends.ensures

pub returns : goal.returns
returns c = filling_done c.loop-entry.invariant c.loop-entry-test.false
