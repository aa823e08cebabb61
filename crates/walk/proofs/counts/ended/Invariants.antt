-- The count so far is that of the activities passed.
use Rattle.std.proofs.Common.{◌≡◌, ◌≤◌}
use Rattle.rules.specs.State.{ended}
use Rattle.rules.specs.Search.{count_below}
use Rattle.walk.proofs.counts.ended.Given as goal

abbrev pub invariant-loop-i : goal.invariant-loop-i
invariant-loop-i l = (l.count ≤ l.i) × (l.count ≡ count_below l.i (ended l.s))
