-- The invariant: those below x are passed, those of them who are inside and unended counted, and a faulted one found.
use Prim.Native.Nat.{◌≤◌, ◌<◌}
use Rattle.waits.proofs.Insides.{InsideTo}
use Rattle.waits.proofs.inside.inside_of.Given as goal

abbrev pub invariant-loop-x : goal.invariant-loop-x
invariant-loop-x l = (l.w < l.x) × (l.first ≤ l.x) × InsideTo l.state l.w l.first l.inside l.unended l.faulted l.x
