-- Over the activities, and over the names of each.
use mathlib.Core.Path.{◌≡◌}
use Rattle.waits.proofs.Behinds.{NoneLate, BehindTo}
use Rattle.waits.proofs.behind.count_behind.Given as goal

abbrev pub invariant-loop-k : goal.invariant-loop-k
invariant-loop-k l = (l.count ≡ l.initial.count) × NoneLate l.state l.own l.x l.k

abbrev pub invariant-holders : goal.invariant-holders
invariant-holders l = BehindTo l.state l.i l.count l.x
