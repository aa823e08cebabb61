-- The scan from the place reached is the whole scan of the body: the loop goes on as the definition does, and the marks with it.
use mathlib.Core.Path.{◌≡◌}
use mathlib.Core.List.{List}
use Prim.Native.Nat.{ℕ, ◌-◌, ◌≤◌}
use lib.ListN.{length, drop}
use Rattle.program.specs.Reading.{readings}
use Rattle.program.specs.Inner.Scanned.{extent_of, Marking}
use Rattle.program.proofs.scan.body_extent.Given as goal

abbrev pub invariant-loop-command : goal.invariant-loop-command
invariant-loop-command l = (l.at ≤ length l.code)
    × (extent_of l.bodies l.body l.left l.at (readings (drop l.at l.code)) ≡ extent_of l.bodies l.body 0 0 (readings l.code))
    × ((all : List ℕ) → Marking all l.code l.body l.first 0 0 l.initial.marks → Marking all l.code l.body l.first l.at l.left l.marks)

abbrev pub decreases-loop-command : goal.decreases-loop-command
decreases-loop-command l = length l.code - l.at
