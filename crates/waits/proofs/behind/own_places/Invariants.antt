-- Each turn enters one name.
use Rattle.waits.proofs.Behinds.{OwnTo}
use Rattle.waits.proofs.behind.own_places.Given as goal

abbrev pub invariant-loop-n : goal.invariant-loop-n
invariant-loop-n l = OwnTo l.state l.i l.own l.n
