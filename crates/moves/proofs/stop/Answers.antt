-- The status, the depth, and then the rest is cleared.
use Rattle.moves.proofs.Failing.{stops}
use Rattle.moves.proofs.stop.Goals as goal

pub returns : goal.returns
returns c = stops _ c.put_status.ensures c.put_depth.ensures c.clear_own.ensures
