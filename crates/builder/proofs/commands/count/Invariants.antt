-- The first n commands are passed.
use Prim.Native.Nat.{◌-◌}
use lib.ListN.{length}
use Rattle.builder.proofs.Walking.{Walking}
use Rattle.builder.proofs.commands.count.Given as goal

abbrev pub invariant-loop-at : goal.invariant-loop-at
invariant-loop-at l = Walking l.table l.at l.n

abbrev pub decreases-loop-at : goal.decreases-loop-at
decreases-loop-at l = length l.table - l.at
