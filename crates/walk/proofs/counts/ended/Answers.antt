-- An activity more, counted where it has ended.
use Rattle.std.proofs.Common.{arith, refl, ap, ◌∙◌, ◌≡◌, ℕ, min}
use Rattle.rules.specs.State.{ended}
use Rattle.rules.specs.Search.{count_below}
use Rattle.rules.proofs.Counting.{counted, uncounted}
use Rattle.walk.proofs.counts.ended.Goals.{then-is_ended, else-is_ended}
use Rattle.walk.proofs.counts.ended.Goals as goal

pub loop-i-init : goal.loop-i-init
unfolding count_below
loop-i-init c = (omega arith, refl)

pub loop-i-preserved : goal.loop-i-preserved
loop-i-preserved c =
    let f = ended c.args.s.now in
    let i = c.loop-i.i in
    let so_far = c.loop-i.invariant in
    elim c.if-is_ended.branch [
      | then-is_ended w ↦ (omega (arith, w.count-is), w.count-is ∙ counted f i c.loop-i.count c.is_ended.result so_far.1 c.is_ended.ensures w.if-is_ended.true)
      | else-is_ended w ↦ (omega (arith, w.count-is), w.count-is ∙ uncounted f i c.loop-i.count c.is_ended.result so_far.1 c.is_ended.ensures w.if-is_ended.false)
    ]

pub returns : goal.returns
returns c =
    let last : c.loop-i.i ≡ min c.args.s.now.activities 64 = omega (arith, c.loop-i-test.false, c.loop-i.auto.i-end, c.min-i-end.ensures) in
    c.loop-i.invariant.1 ∙ ap (λ (n : ℕ). count_below n (ended c.args.s.now)) last
