-- Each body is counted after those that it names; the distance to the last body falls.
use Prim.Native.Nat.{◌-◌}
use Rattle.program.proofs.WalkLaws.{Walked}
use Rattle.program.proofs.count.+count_body.Given as goal

abbrev pub invariant-loop-b : goal.invariant-loop-b
invariant-loop-b l = Walked l.table l.body l.notes l.sums l.at

abbrev pub decreases-loop-b : goal.decreases-loop-b
decreases-loop-b l = 2048 - l.at

abbrev pub decreases-count_body : goal.decreases-count_body
decreases-count_body l = 16 - l.body
