-- One name after the other.
use mathlib.Core.Path.{refl, sym, ◌∙◌}
use Rattle.bodies.proofs.Giving.{give_none, give_more, give_skip, give_done}
use Rattle.bodies.proofs.spawn.give.Goals.{then-lends, else-lends}
use Rattle.bodies.proofs.spawn.give.Goals as goal

pub loop-k-init : goal.loop-k-init
loop-k-init c = (refl, give_none)

pub loop-k-preserved : goal.loop-k-preserved
loop-k-preserved c =
    let before = c.loop-k.invariant.1 in
    let low = c.loop-k-test.true in
    let read = c.name_at-v.ensures low in
    let put = c.put_name.ensures low in
    let lent = sym c.lends.ensures in (
      c.if-lends.auto.state ∙ c.put_name.auto.state ∙ c.loop-k.invariant.0,
      elim c.if-lends.branch [
        | then-lends w ↦ rw w.state-is (give_more before low read put (lent ∙ w.if-lends.true) (w.hold_at.ensures low) (w.put_hold.ensures low))
        | else-lends w ↦ rw w.state-is (give_skip before low read put (lent ∙ w.if-lends.false))
      ],
    )

pub returns : goal.returns
returns c = give_done c.loop-k.invariant.1 c.loop-k-test.false
