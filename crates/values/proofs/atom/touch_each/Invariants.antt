-- One command after the other.
use Rattle.std.proofs.Common.{◌+◌}
use Rattle.values.proofs.Atoms.{TouchesTo}
use Rattle.values.proofs.atom.touch_each.Given as goal

abbrev pub invariant-loop-j : goal.invariant-loop-j
invariant-loop-j l = TouchesTo l.j l.code (l.offset + 2) l.k l.initial.state l.state l.i
