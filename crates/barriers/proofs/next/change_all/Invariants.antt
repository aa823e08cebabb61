-- One hold after the other.
use Rattle.barriers.proofs.Mapping.{MapsTo}
use Rattle.barriers.proofs.next.change_all.Given as goal

abbrev pub invariant-loop-k : goal.invariant-loop-k
invariant-loop-k g l = MapsTo (goal.F-post g l.change) l.k l.initial.state l.state l.i
