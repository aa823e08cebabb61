-- The scan of a whole table: numbers 1 to 8 of "Turned down", in checking order, and where each body begins.
use Rattle.std.specs.Prelude.{ℕ, zero, suc, ◌+◌, ◌-◌, List, [], ◌∷◌, ◌++◌, Bool, cond, ◌||◌, ◌&&◌, not, length, get_or, drop, replicate, ltb, leb, eqb, Ok, Err}
use Rattle.program.specs.Command.{width, names, named, held, is_end, uses_cell}
use Rattle.program.specs.Reading.{Reading, readings, commands_of}
use Rattle.program.specs.Refusal.{refusal_number}
use Rattle.program.specs.Bodies.{first_body, after_end}
use Rattle.program.specs.declared.command.Command.{Command}
use Rattle.program.specs.declared.refusal.Refusal.TheVariants.{Cut}
use Rattle.program.specs.declared.scan.Layout.{Layout}

-- "6. A b is outside its range." "In body i, b must be greater than i and less than the number of bodies"
unfoldable pub name_fits : ℕ → ℕ → Command → Bool
name_fits n i c = not (names c) || (ltb i (named c) && ltb (named c) n)

-- "7. A command among the k after ATOM is not 0D to 0F."
unfoldable pub atom_fits : ℕ → Command → Bool
atom_fits left c = eqb left 0 || uses_cell c

-- Number 6 or 7 of a command of body i of n, where `left` commands still belong to an ATOM; 0 where neither is met.
unfoldable pub placing : ℕ → ℕ → ℕ → Command → ℕ
placing n i left c = cond (name_fits n i c) (cond (atom_fits left c) 0 7) 6

-- How many commands belong to an ATOM after a command.
unfoldable pub left_after : ℕ → Command → ℕ
left_after zero c = held c
left_after (suc left) c = left

-- The body of the command after a command of body i.
unfoldable pub body_after : ℕ → Command → ℕ
body_after i c = cond (is_end c) (i + 1) i

-- "Numbers 3 to 7 are tried for each command in turn; the first failing command decides." Bytes that run out before the last END are a cut;
-- "8. Bytes follow the last body."
unfoldable pub verdict : ℕ → ℕ → ℕ → List Reading → ℕ
verdict n i left [] = cond (eqb i n) 0 (refusal_number Cut)
verdict n i left (Err e ∷ rs) = cond (eqb i n) 8 (refusal_number e)
verdict n i left (Ok w ∷ rs) =
    let here = placing n i left w.command in
    let later = verdict n (body_after i w.command) (left_after left w.command) rs in
    cond (eqb i n) 8 (cond (eqb here 0) later here)

-- "1. The table has fewer than 2 or more than 2,048 bytes."
unfoldable pub fits_length : List ℕ → Bool
fits_length t = leb 2 (length t) && leb (length t) 2048

-- "2. Byte 0 is 0 or above 16."
unfoldable pub fits_bodies : List ℕ → Bool
fits_bodies t = leb 1 (get_or t 0 0) && leb (get_or t 0 0) 16

-- The number 1 to 8 for which a table is turned down, or 0.
unfoldable pub scan : List ℕ → ℕ
scan t = cond (fits_length t) (cond (fits_bodies t) (verdict (get_or t 0 0) 0 0 (readings (drop 1 t))) 2) 1

-- WHERE EACH BODY BEGINS

-- The bytes of commands.
unfoldable pub bytes : List Command → ℕ
bytes [] = 0
bytes (c ∷ cs) = width c + bytes cs

-- The first byte of each of n bodies, the first of which begins at `at`.
unfoldable pub starts_from : ℕ → ℕ → List Command → List ℕ
starts_from zero at cs = []
starts_from (suc n) at cs = at ∷ starts_from n (at + bytes (first_body cs)) (after_end cs)

-- The layout of a table: its bodies and their first bytes, the unused entries 0.
unfoldable pub layout_of : List ℕ → Layout
layout_of t =
    let n = get_or t 0 0 in
    record { bodies = n; starts = starts_from n 1 (commands_of t) ++ replicate (16 - n) 0 }
