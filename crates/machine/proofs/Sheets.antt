-- The sheet by value, row after row.
use Prim.Native.Nat.{ℕ, ◌≤◌, ◌<◌}
use native.Mathlib.Omega.{arith}
use mathlib.Core.Path.{◌≡◌}
use mathlib.Core.List.{List, []}
use lib.ListN.{length, get_or}
use Rattle.rules.specs.declared.state.State.{State}
use Rattle.rules.specs.State.{act}
use Rattle.rules.specs.Steps.{sheet_of}
use Rattle.fields.specs.Lent.{Lent, Reads}
use Rattle.turns.specs.Sheet.{row_of}
use Rattle.turns.proofs.Sheets.{sheet_rows}

-- The rows below i are those of the state.
pub record Rows (b : List ℕ) (rows : List (List ℕ)) (i : ℕ) : Type 0 where
  pub within : i ≤ 64
  pub long : length rows ≡ 64
  pub stand : (s : State) → Lent b s → (j : ℕ) → j < i → get_or rows j [] ≡ row_of (act s j).holds

module _ {b : List ℕ} {rows : List (List ℕ)} {i : ℕ} (r : Rows b rows i) where
  pub rows_all : 64 ≤ i → Reads sheet_of b rows
  rows_all h = record { reads = λ s l. sheet_rows s rows [] r.long (λ j k. r.stand s l j (omega arith)) }
