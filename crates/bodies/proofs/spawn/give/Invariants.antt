-- One name after the other.
use mathlib.Core.Path.{◌≡◌}
use lib.ListN.{length}
use Rattle.bodies.proofs.Giving.{GivesTo}
use Rattle.bodies.proofs.spawn.give.Given as goal

abbrev pub invariant-loop-k : goal.invariant-loop-k
invariant-loop-k l = (length l.state ≡ length l.initial.state) × GivesTo l.m l.k l.initial.state l.state l.i l.n
