-- The invariant: the bytes are those of the state that the turns so far led to, and what they told stands in the buffers.
use mathlib.Core.Path.{refl}
use Rattle.turns.proofs.Following.{going_start, going_stored, going_past, going_end}
use Rattle.turns.proofs.follow.follow.Goals as goal
use Rattle.turns.proofs.follow.follow.Goals.{then-k-awaited, else-k-awaited}

pub loop-k-init : goal.loop-k-init
loop-k-init c = going_start

pub loop-k-preserved : goal.loop-k-preserved
loop-k-preserved c =
    elim c.if-k-awaited.branch [
      | then-k-awaited w ↦ rw w.awaited-is (going_stored c.loop-k.invariant c.loop-k-test.true refl c.turn-done.ensures c.turn-done.auto.state c.number.ensures w.if-k-awaited.true)
      | else-k-awaited w ↦ rw w.awaited-is (going_past c.loop-k.invariant c.loop-k-test.true refl c.turn-done.ensures c.turn-done.auto.state c.number.ensures w.if-k-awaited.false)
    ]

pub returns : goal.returns
returns c = going_end c.loop-k.invariant c.loop-k-test.false
