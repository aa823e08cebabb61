-- Each turn enters one name.
use mathlib.Core.Path.{refl, sym, ◌∙◌}
use Rattle.waits.proofs.Behinds.{own_none, own_all, own_free, own_high, own_store}
use Rattle.waits.proofs.behind.own_places.Goals.{then-is_held+then-clock-lt16, else-is_held, else-is_held-via-then-is_held+else-clock-lt16, else-is_held-via-else-is_held}
use Rattle.waits.proofs.behind.own_places.Goals as goal

pub loop-n-init : goal.loop-n-init
loop-n-init c = own_none

pub loop-n-preserved : goal.loop-n-preserved
loop-n-preserved c =
    let s = c.args in
    let entered = c.loop-n.invariant in
    let low = c.loop-n-test.true in
    let name = c.hold_at-hold.ensures in
    let held = sym c.is_held.ensures in
    elim c.if-is_held.branch [
      | then-is_held+then-clock-lt16 w ↦ rw w.own-is (own_store entered low name (held ∙ w.if-is_held.true) w.if-clock-lt16.true refl)
      | else-is_held w ↦ rw w.own-is (elim w.else-is_held.branch [
        | else-is_held-via-then-is_held+else-clock-lt16 v ↦ own_high entered low name (held ∙ v.if-is_held.true) v.if-clock-lt16.false
        | else-is_held-via-else-is_held v ↦ own_free entered low name (held ∙ v.if-is_held.false)
      ])
    ]

pub returns : goal.returns
returns c = own_all c.loop-n.invariant c.loop-n-test.false
