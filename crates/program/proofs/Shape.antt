-- The shape of an accepted table's program: what the crates above know of it.
use Prim.Native.Nat.{ℕ, ◌+◌, ◌≤◌, ◌<◌}
use mathlib.Core.List.{List, [], ◌∷◌}
use mathlib.Core.Bool.{true, false}
use mathlib.Core.Path.{◌≡◌}
use lib.ListN.{length, get_or}
use Rattle.program.specs.Command.{row_of, operands_of, width, names, named, held, is_end, uses_cell}
use Rattle.program.specs.Reading.{all_inside}
use Rattle.program.specs.Bodies.{Located, Body, Program, head_of}
use Rattle.program.specs.Scan.{bytes}
use Rattle.program.specs.Count.{work_of, activities_of, clocks_of, accumulators_of}
use Rattle.program.specs.declared.command.Command.{Command}

-- Each operand of a command is inside its range.
unfoldable pub Ranged : Command → Type 0
Ranged c = all_inside (row_of c).operands (operands_of c) ≡ true

-- The commands that belong to an ATOM are on cells.
unfoldable pub OnCells : List Command → Type 0
OnCells [] = Unit {0}
OnCells (c ∷ cs) = (uses_cell c ≡ true) × Ranged c × OnCells cs

-- A located command of body b of n.
pub record Sound (n b : ℕ) (x : Located) : Type 0 where
  -- what it names lies after its own body
  pub above : names x.command ≡ true → (b < named x.command) × (named x.command < n)
  pub ranged : Ranged x.command
  pub whole : length x.inner ≡ held x.command
  pub cells : OnCells x.inner

-- The bytes from a command to the next of its body.
unfoldable pub stride : Located → ℕ
stride x = width x.command + bytes x.inner

-- A body of n, number b: its last command and no other is END, and each stands where the one before it ends.
unfoldable pub Shaped : ℕ → ℕ → Body → Type 0
Shaped n b [] = ⊥
Shaped n b (x ∷ []) = Sound n b x × (is_end x.command ≡ true)
Shaped n b (x ∷ (y ∷ r)) = Sound n b x × (is_end x.command ≡ false) × (y.offset ≡ x.offset + stride x) × Shaped n b (y ∷ r)

pub record Accepted (p : Program) : Type 0 where
  pub some : 0 < length p
  pub few : length p ≤ 16
  pub shaped : (b : ℕ) → b < length p → Shaped (length p) b (get_or p b [])
  pub first : (b : ℕ) → b < length p → (head_of (get_or p b [])).offset ≡ 0

-- What a program with none of the numbers 9 to 12 comes to.
pub record Counted (limit : ℕ) (p : Program) : Type 0 where
  pub activities : activities_of p ≤ 64
  pub clocks : clocks_of p ≤ 16
  pub accumulators : accumulators_of p ≤ 16
  pub work : work_of p ≤ limit
