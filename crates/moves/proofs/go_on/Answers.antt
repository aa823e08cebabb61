-- The offset at the top of the stack, and a step.
use Rattle.std.proofs.Common.{refl}
use Rattle.moves.proofs.Going.{went_on}
use Rattle.moves.proofs.go_on.Goals as goal

pub returns : goal.returns
returns c = went_on c.depth_at.ensures (rw c.saturating_sub-at.ensures at c.offset_at-offset.ensures) refl (rw c.saturating_sub-at.ensures at c.put_offset.ensures) c.counted.ensures
