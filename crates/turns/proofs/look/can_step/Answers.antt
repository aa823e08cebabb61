-- There is no number.
use Rattle.turns.proofs.Looking.{able}
use Rattle.turns.proofs.look.can_step.Goals as goal

pub returns : goal.returns
returns c = rw c.is_ok.ensures.value (able c.look-seen.ensures)
