-- What a page of lines promises.
use Rattle.std.specs.Prelude.{ℕ, ◌+◌, ◌≤◌, ◌<◌, List, [], ◌∷◌, ◌++◌, ◌≡◌, length, take}
use Rattle.std.proofs.Math.Seq.{slice}
use Rattle.lines.specs.declared.put.Text.{Text}
use Rattle.lines.specs.Put.{Put}
use Rattle.lines.specs.Walk.{steps_in, lines_from}

-- The lines from one number up to another, of a whole order, its answers and the awaited numbers.
unfoldable pub lines_between : List ℕ → List ℕ → List ℕ → ℕ → ℕ → List ℕ
lines_between order answers awaited from to =
    lines_from from (steps_in (take from answers)) (slice from to order) (slice from to answers) (slice from to awaited)

-- The lines from one number on are put at the text's end, whole, up to the number that the page answers. It stops where the
-- order, the answers or the awaited numbers end, or with fewer than 128 bytes free; a buffer of so many has room for a line.
pub record Paged (before : Text) (order answers awaited : List ℕ) (line : ℕ) (after : Text) (next : ℕ) : Type 0 where
  pub put : Put before (lines_between order answers awaited line next) after
  pub whole : after.end ≡ before.end + length (lines_between order answers awaited line next)
  pub onward : line ≤ next
  pub within : line ≤ length order → next ≤ length order
  pub full : next < length order → next < length answers → next < length awaited → length before.out.now < after.end + 128
  pub goes : line < length order → line < length answers → line < length awaited → before.end + 128 ≤ length before.out.now → line < next

-- What pages hand on from a line to the order's end, each a text from its buffer's start on, and each going on where the one before it stopped.
pub data Pages (order answers awaited : List ℕ) : ℕ → List (List ℕ) → Type 0 where
  over : {line : ℕ} → length order ≤ line → Pages order answers awaited line []
  page : {line : ℕ} {before after : Text} {next : ℕ} {more : List (List ℕ)}
      → before.end ≡ 0 → Paged before order answers awaited line after next → Pages order answers awaited next more
      → Pages order answers awaited line (take after.end after.out.now ∷ more)

-- Texts, one after the other.
unfoldable pub joined : List (List ℕ) → List ℕ
joined [] = []
joined (text ∷ more) = text ++ joined more
