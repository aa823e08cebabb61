-- What the code answers on its way to the number of a table: of its first two bytes, and of one body with its marks.
use Rattle.std.specs.Prelude.{ℕ, ◌+◌, ◌-◌, ◌≡◌, List, [], ◌∷◌, ◌++◌, cond, eqb, length, drop, replicate, Result, Ok, Err}
use Rattle.program.specs.Command.{is_end}
use Rattle.program.specs.Reading.{Reading, readings, wholes}
use Rattle.program.specs.Refusal.{refusal_at}
use Rattle.program.specs.Scan.{placing, left_after, fits_length, fits_bodies}
use Rattle.program.specs.Places.{marks}
use Rattle.program.specs.declared.refusal.Refusal.{Refusal}
use Rattle.program.specs.declared.refusal.Refusal.TheVariants.{Cut}

-- Numbers 1 and 2, or 0.
unfoldable pub opening : List ℕ → ℕ
opening t = cond (fits_length t) (cond (fits_bodies t) 0 2) 1

-- Body i of n at the start of the readings, the first of which stands at `at` and has `left` commands of an ATOM before it: its bytes, or the
-- number of its first failing command.
unfoldable pub extent_of : ℕ → ℕ → ℕ → ℕ → List Reading → Result ℕ Refusal
extent_of n i left at [] = Err Cut
extent_of n i left at (Err e ∷ rs) = Err e
extent_of n i left at (Ok w ∷ rs) =
    let here = placing n i left w.command in
    let later = extent_of n i (left_after left w.command) (at + w.size) rs in
    cond (eqb here 0) (cond (is_end w.command) (Ok (at + w.size)) later) (Err (refusal_at here))

-- THE MARKS

-- The mark of a command of body i, where `left` commands still belong to an ATOM.
abbrev pub mark_of : ℕ → ℕ → ℕ
mark_of i left = cond (eqb left 0) (i + 1) 0

-- Before the command of body i at `at` of s, which begins at byte `first` of the table, and where `left` commands still belong to an ATOM: the marks up to there
-- with those to come are all, and zeros follow.
pub record Marking (all s : List ℕ) (i first at left : ℕ) (m : List ℕ) : Type 0 where
  pub front : List ℕ
  pub long : length front ≡ first + at
  pub split : m ≡ front ++ replicate (2048 - (first + at)) 0
  pub done : front ++ marks i left (wholes (readings (drop at s))) ≡ all

-- Body i at the start of the code goes on with the marks, where it has an end.
abbrev pub MarksBody : ℕ → List ℕ → ℕ → List ℕ → List ℕ → Result ℕ Refusal → Type 0
MarksBody i code first before after r = (all : List ℕ) (e : ℕ) → Ok e ≡ r → Marking all code i first 0 0 before → Marking all code (i + 1) first e 0 after
