-- Body by body the scan goes on as the table's numbers do, each start is noted, and the marks are those of the bodies so far.
use Prim.Native.Nat.{ℕ}
use mathlib.Core.List.{List, ◌∷◌}
use lib.ListN.{drop}
use Rattle.program.specs.Reading.{commands_of}
use Rattle.program.specs.Places.{marks}
use Rattle.program.specs.Inner.Scanned.{Marking}
use Rattle.program.proofs.LayoutLaws.{Laying}
use Rattle.program.proofs.scan.lay.Given as goal

-- The marks of all commands.
abbrev all_marks : List ℕ → List ℕ
all_marks t = 0 ∷ marks 0 0 (commands_of t)

abbrev pub invariant-loop-body : goal.invariant-loop-body
invariant-loop-body l = Laying l.table l.bodies l.body l.at l.starts × Marking (all_marks l.table) (drop l.at l.table) l.body l.at 0 0 l.marks
