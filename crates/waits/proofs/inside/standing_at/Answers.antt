-- One byte.
use native.Mathlib.Omega.{arith}
use Rattle.waits.proofs.Insides.{standing_there}
use Rattle.waits.proofs.inside.standing_at.Goals as goal

pub returns : goal.returns
returns c = standing_there c.get1.ensures (omega arith)
