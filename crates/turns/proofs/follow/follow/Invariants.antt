-- The invariant: the bytes are those of the state that the turns so far led to, and what they told stands in the buffers.
use Rattle.turns.proofs.Following.{Going}
use Rattle.turns.proofs.follow.follow.Given as goal

abbrev pub invariant-loop-k : goal.invariant-loop-k
invariant-loop-k l = Going l.table.bytes.now l.order l.initial.answers l.initial.awaited l.initial.state l.answers l.awaited l.state l.k
