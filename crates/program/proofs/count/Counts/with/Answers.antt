-- Each count is added by itself.
use native.Mathlib.Omega.{arith}
use Rattle.program.specs.Inner.Counting.{workCount, activityCount, clockCount, accumulatorCount, own_counts, added}
use Rattle.program.proofs.RowLaws.{weight_few}
use Rattle.program.proofs.count.Counts.with.Goals as goal

pub sum-requires : goal.sum-requires
unfolding own_counts
sum-requires c =
    let f = weight_few workCount c.args.command in
    (c.requires.0 workCount, (rw c.own-own.ensures (omega arith), (c.requires.1.1, c.requires.1.0 workCount)))

pub sum-requires-2 : goal.sum-requires-2
unfolding own_counts
sum-requires-2 c =
    let f = weight_few activityCount c.args.command in
    (c.requires.0 activityCount, (rw c.own-own.ensures (omega arith), (c.requires.1.1, c.requires.1.0 activityCount)))

pub sum-requires-3 : goal.sum-requires-3
unfolding own_counts
sum-requires-3 c =
    let f = weight_few clockCount c.args.command in
    (c.requires.0 clockCount, (rw c.own-own.ensures (omega arith), (c.requires.1.1, c.requires.1.0 clockCount)))

pub sum-requires-4 : goal.sum-requires-4
unfolding own_counts
sum-requires-4 c =
    let f = weight_few accumulatorCount c.args.command in
    (c.requires.0 accumulatorCount, (rw c.own-own.ensures (omega arith), (c.requires.1.1, c.requires.1.0 accumulatorCount)))

pub returns : goal.returns
unfolding own_counts added
returns c = rw (c.sum.ensures, c.sum-2.ensures, c.sum-3.ensures, c.sum-4.ensures, c.own-own.ensures)
