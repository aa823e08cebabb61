-- What the functions of this crate promise each other: a reader need not believe it.
use Rattle.std.specs.Prelude.{ℕ, ◌+◌, ◌≤◌, ◌<◌, min, ◌≡◌, List, [], ◌∷◌, cond, length, get_or, take, eqb, Option, Some, None}
use Rattle.builder.specs.Build.{ends_in, bytes_of, list_bytes}

-- The ENDs are counted up to 17, one above the greatest number of bodies.
abbrev pub capped : ℕ → ℕ
capped ends = min ends 17

-- The ENDs with a command byte more.
unfoldable pub Counted : ℕ → ℕ → ℕ → Type 0
Counted ends op r = ends ≤ 17 → r ≡ capped (ends + cond (eqb op 0x00) 1 0)

-- All entries are written, n bytes, and each entry has five.
pub record Written (entries : List (List ℕ)) (out : List ℕ) (n : ℕ) : Type 0 where
  pub long : n ≡ length (list_bytes entries)
  pub bytes : take n out ≡ capped (ends_in entries) ∷ bytes_of entries
  pub five : (i : ℕ) → i < length entries → length (get_or entries i []) ≡ 5

-- The bytes of the entries stand at the start of the buffer, where there are no more than 2,048.
pub record Filled (entries : List (List ℕ)) (out : List ℕ) (r : Option ℕ) : Type 0 where
  pub over : r ≡ None → 2048 < length (list_bytes entries)
  pub fits : (n : ℕ) → r ≡ Some n → Written entries out n
