-- Lists of commands over lent bytes: what a call leaves beside the buffer. `builder` has the numbers, the bytes and the entries.
use Rattle.std.specs.Prelude.{ℕ, List, cond, eqb}
use Rattle.builder.specs.Build.{built_number, built_length, listed_number, listed_count}

-- The length of the table that was built; a refused call leaves what was there.
unfoldable pub size_after : List (List ℕ) → ℕ → ℕ → ℕ
size_after entries room before = cond (eqb (built_number entries room) 0) (built_length entries room) before

-- How many commands were found; a refused call leaves what was there.
unfoldable pub found_after : List ℕ → ℕ → ℕ → ℕ
found_after t room before = cond (eqb (listed_number t room) 0) (listed_count t room) before
