-- One name after the other.
use mathlib.Core.Path.{sym, ◌∙◌}
use Rattle.bodies.proofs.Lending.{lend_none, lend_skip, lend_free, lend_live, lend_quiet, lend_done}
use Rattle.bodies.proofs.lend.lend_fault.Goals.{then-lends+in-Live, then-lends+in-Quiesced, else-lends}
use Rattle.bodies.proofs.lend.lend_fault.Goals as goal

pub loop-k-init : goal.loop-k-init
loop-k-init c = lend_none

pub loop-k-preserved : goal.loop-k-preserved
loop-k-preserved c =
    let before = c.loop-k.invariant in
    let low = c.loop-k-test.true in
    let lent = sym c.lends.ensures in
    elim c.if-lends.branch [
      | then-lends+in-Live w ↦ rw w.found-is (lend_live before low (lent ∙ w.if-lends.true) w.hold_at.ensures w.in-Live.is)
      | then-lends+in-Quiesced w ↦ rw w.found-is (lend_quiet before low (lent ∙ w.if-lends.true) w.hold_at.ensures w.in-Quiesced.is)
      | else-lends w ↦ rw w.found-is (lend_skip before low (lent ∙ w.if-lends.false))
    ]

pub returns-in-Free : goal.returns-in-Free
returns-in-Free c = lend_free c.loop-k.invariant c.loop-k-test.true (sym c.lends.ensures ∙ c.if-lends.true) c.hold_at.ensures c.in-Free.is

pub returns : goal.returns
returns c = lend_done c.loop-k.invariant c.loop-k-test.false
