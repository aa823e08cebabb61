-- Over the activities, and over the names of each.
use mathlib.Core.Path.{refl, ◌∙◌}
use native.Mathlib.Omega.{arith}
use Rattle.fields.proofs.Stands.{lent_length}
use Rattle.waits.proofs.Behinds.{none_late, none_more, behind_yet, behind_ended, behind_none, behind_late}
use Rattle.waits.proofs.behind.count_behind.Goals.{then-is_unended+else-loop-k-test, else-is_unended}
use Rattle.waits.proofs.behind.count_behind.Goals as goal

pub returns-then-state-ne13776 : goal.returns-then-state-ne13776
returns-then-state-ne13776 c = record { sees = λ s l j k g. absurd (c.if-state-ne13776.true (lent_length l)) }

pub holders-init : goal.holders-init
holders-init c = behind_yet

pub loop-k-init : goal.loop-k-init
loop-k-init c = (refl, none_late)

pub holders-preserved-then-is_late : goal.holders-preserved-then-is_late
holders-preserved-then-is_late c =
    behind_late c.activities_of-made.ensures c.holders.invariant c.own_places-own.ensures c.holders-test.true (omega arith)
    c.loop-k-test.true refl c.is_late.ensures c.if-is_late.true c.loop-k.invariant.0

pub loop-k-preserved : goal.loop-k-preserved
loop-k-preserved c = (c.loop-k.invariant.0, none_more (omega arith) c.loop-k-test.true refl c.is_late.ensures c.loop-k.invariant.1 c.if-is_late.false)

pub holders-preserved : goal.holders-preserved
holders-preserved c =
    let made = c.activities_of-made.ensures in
    let counted = c.holders.invariant in
    let own = c.own_places-own.ensures in
    let below = c.holders-test.true in
    elim c.if-is_unended.branch [
      | then-is_unended+else-loop-k-test w ↦ behind_none made counted own below refl w.loop-k.invariant.1 w.loop-k-test.false (w.count-is ∙ w.loop-k.invariant.0)
      | else-is_unended w ↦ rw w.count-is (behind_ended made counted own below c.is_unended.ensures w.if-is_unended.false)
    ]
