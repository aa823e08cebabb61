-- The first n commands are passed.
use Prim.Native.Nat.{◌+◌, ◌≤◌, ◌<◌}
use native.Mathlib.Omega.{arith}
use lib.ListN.{length}
use Rattle.builder.proofs.Walking.{walking_none, walking_done, walking_fits, walking_on}
use Rattle.builder.proofs.commands.count.Goals as goal

pub loop-at-preserved : goal.loop-at-preserved
loop-at-preserved c = walking_on c.loop-at.invariant c.loop-at-test.true c.width_at-at.ensures

pub returns : goal.returns
returns c =
    let w = c.loop-at.invariant in
    omega (arith, w.within, walking_done w c.loop-at-test.false)

pub loop-at-init : goal.loop-at-init
loop-at-init c =
    walking_none _ c.requires

pub overflow_add-at : goal.overflow_add-at
overflow_add-at c =
    let fits-here : (0 < c.width_at-at.result) × (c.loop-at.at + c.width_at-at.result ≤ length c.args.table.now) = walking_fits c.loop-at.invariant c.loop-at-test.true c.width_at-at.ensures in
    omega (arith, fits-here)

pub loop-at-smaller : goal.loop-at-smaller
loop-at-smaller c =
    let fits-here : (0 < c.width_at-at.result) × (c.loop-at.at + c.width_at-at.result ≤ length c.args.table.now) = walking_fits c.loop-at.invariant c.loop-at-test.true c.width_at-at.ensures in
    omega (arith, fits-here)
