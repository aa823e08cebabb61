-- What a function promises that puts something at a text's end.
use Rattle.std.specs.Prelude.{ℕ, ◌+◌, min, max, List, ◌≡◌, length}
use Rattle.std.proofs.lemmas.List.Edits.{sets}
use Rattle.lines.specs.declared.put.Text.{Text}

-- The place after so many bytes put at a place: they stop where the buffer ends.
abbrev pub place_after : ℕ → ℕ → ℕ → ℕ
place_after room at count = max at (min (at + count) room)

-- The buffer's bytes from the text's end on become those that are put, one by one, as far as the buffer reaches; all others stay. The text ends behind them,
-- or where the buffer does; one that ends past the buffer stays as it is.
pub record Put (before : Text) (bytes : List ℕ) (after : Text) : Type 0 where
  pub same_buffer : after.out.ghost_name ≡ before.out.ghost_name
  pub holds : after.out.now ≡ sets before.out.now before.end bytes
  pub place : after.end ≡ place_after (length before.out.now) before.end (length bytes)
