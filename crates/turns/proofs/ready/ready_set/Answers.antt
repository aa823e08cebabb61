-- The set so far has a bit for each activity passed that can step.
use Prim.Native.Nat.{◌<◌}
use native.Mathlib.Omega.{arith}
use Rattle.turns.proofs.Readying.{ready_none, ready_set_lem, ready_left, ready_all, ready_many}
use Rattle.turns.proofs.ready.ready_set.Goals as goal
use Rattle.turns.proofs.ready.ready_set.Goals.{then-can_step, else-can_step}

pub returns-then-made-gt64 : goal.returns-then-made-gt64
returns-then-made-gt64 c = ready_many c.activities_of-made.ensures c.if-made-gt64.true

pub loop-i-init : goal.loop-i-init
loop-i-init c = ready_none

pub loop-i-preserved : goal.loop-i-preserved
loop-i-preserved c =
    let low : c.loop-i.i < 64 = omega arith in
    elim c.if-can_step.branch [
      | then-can_step w ↦ ready_set_lem c.loop-i.invariant low c.can_step.ensures w.set-is w.if-can_step.true
      | else-can_step w ↦ ready_left c.loop-i.invariant low c.can_step.ensures w.set-is w.if-can_step.false
    ]

pub returns : goal.returns
returns c = ready_all c.loop-i.invariant c.activities_of-made.ensures c.if-made-gt64.false (omega arith)
