-- Body 0 is counted.
use lib.ListN.{get_or, drop}
use mathlib.Core.Path.{refl}
use Rattle.program.proofs.RangeLaws.{tail_part}
use Rattle.program.proofs.WalkLaws.{asked_first, asked_inside}
use Rattle.program.proofs.count.count_table.Goals as goal

pub slice_bounds-count_body-count : goal.slice_bounds-count_body-count
slice_bounds-count_body-count c =
    let p = asked_first c.args.table.now c.args.starts.now c.requires.0 c.requires.1 (drop (get_or c.args.starts.now 0 0) c.args.table.now) refl in
    asked_inside p 0 p.one_of

pub slice_bounds-count_body-start : goal.slice_bounds-count_body-start
slice_bounds-count_body-start c =
    let p = asked_first c.args.table.now c.args.starts.now c.requires.0 c.requires.1 (drop (get_or c.args.starts.now 0 0) c.args.table.now) refl in
    asked_inside p 0 p.one_of

pub count_body-requires : goal.count_body-requires
count_body-requires c = asked_first c.args.table.now c.args.starts.now c.requires.0 c.requires.1 _ (tail_part c.args.table.now (get_or c.args.starts.now 0 0))
