-- Each frame in use is tested in turn, the bytes behind them at once.
use Prim.Native.Nat.{◌+◌, ◌*◌}
use native.Mathlib.Omega.{arith}
use mathlib.Core.Path.{ap, ◌∙◌}
use lib.ListN.{drop}
use Rattle.program.proofs.RangeLaws.{tail_part}
use Rattle.encoding.specs.Bytes.{all_zero, byte_at}
use Rattle.wellformed.proofs.Loops.{none_yet, one_more, holds_so, fails_so, part_fails, parts_end}
use Rattle.wellformed.proofs.WithinLaws.{stack_joined, stack_deep, below_at}
use Rattle.wellformed.proofs.frames.stack_passes.Goals as goal

pub returns-then-depth-gt16 : goal.returns-then-depth-gt16
returns-then-depth-gt16 c = stack_deep _ _ _ (omega arith)

pub loop-d-init : goal.loop-d-init
loop-d-init c = none_yet _ _

pub frame_passes-requires : goal.frame_passes-requires
frame_passes-requires c = (omega arith, λ z. below_at _ _ _ c.loop-d.invariant z)

pub loop-d-preserved : goal.loop-d-preserved
loop-d-preserved c = one_more c.loop-d.invariant (omega arith) (holds_so c.frame_passes.ensures c.if-not-frame_passes.false-raw)

pub returns-then-not-frame_passes : goal.returns-then-not-frame_passes
returns-then-not-frame_passes c = part_fails _ _ _ c.loop-d.d (stack_joined _ _ _ (omega arith) c.args.a.now.sized) (omega arith) (fails_so c.frame_passes.ensures c.if-not-frame_passes.true-raw)

pub returns : goal.returns
returns c =
    parts_end (all_zero (drop (80 + 8 * byte_at c.args.a.now.bytes.now 7) c.args.a.now.bytes.now)) (stack_joined _ _ c.args.a.now.bytes.now (omega arith) c.args.a.now.sized) c.loop-d.invariant (omega arith)
    (c.is_zero.ensures ∙ ap all_zero (tail_part c.args.a.now.bytes.now (80 + 8 * byte_at c.args.a.now.bytes.now 7)))
