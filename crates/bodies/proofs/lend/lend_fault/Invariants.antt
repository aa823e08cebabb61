-- One name after the other.
use Rattle.rules.specs.State.{fault_in}
use Rattle.bodies.proofs.Lending.{LendsTo}
use Rattle.bodies.proofs.lend.lend_fault.Given as goal

abbrev pub invariant-loop-k : goal.invariant-loop-k
invariant-loop-k l = LendsTo l.m l.k l.state l.i (fault_in l.found)
