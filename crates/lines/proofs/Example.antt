-- The walk that document 01 prints, computed.
use Prim.Native.Nat.{ℕ}
use mathlib.Core.List.{List, [], ◌∷◌, ◌++◌}
use mathlib.Core.Path.{◌≡◌, refl}
use Rattle.lines.specs.Text.{digits_of, decimal_of, awaited_of, line_of, total_of}
use Rattle.lines.specs.Walk.{steps_of, lines_from, walk_text}

-- Its order and answers, and how many are awaited at each.
order : List ℕ
order = 0 ∷ 0 ∷ 0 ∷ 0 ∷ 1 ∷ 0 ∷ 0 ∷ 1 ∷ 1 ∷ 0 ∷ []

answers : List ℕ
answers = 0 ∷ 0 ∷ 0 ∷ 16 ∷ 0 ∷ 0 ∷ 0 ∷ 0 ∷ 0 ∷ 15 ∷ []

awaited : List ℕ
awaited = 0 ∷ 0 ∷ 0 ∷ 1 ∷ 0 ∷ 0 ∷ 0 ∷ 0 ∷ 0 ∷ 0 ∷ []

-- Its bytes, line by line.
unfoldable pub bytes : List ℕ
bytes =
    (108 ∷ 105 ∷ 110 ∷ 101 ∷ 32 ∷ 97 ∷ 99 ∷ 116 ∷ 32 ∷ 97 ∷ 110 ∷ 115 ∷ 119 ∷ 101 ∷ 114 ∷ 32 ∷ 116 ∷ 97 ∷ 107 ∷ 101 ∷ 110 ∷ 10 ∷ [])
    ++ (49 ∷ 32 ∷ 48 ∷ 32 ∷ 48 ∷ 32 ∷ 49 ∷ 10 ∷ [])
    ++ (50 ∷ 32 ∷ 48 ∷ 32 ∷ 48 ∷ 32 ∷ 50 ∷ 10 ∷ [])
    ++ (51 ∷ 32 ∷ 48 ∷ 32 ∷ 48 ∷ 32 ∷ 51 ∷ 10 ∷ [])
    ++ (52 ∷ 32 ∷ 48 ∷ 32 ∷ 49 ∷ 54 ∷ 32 ∷ 51 ∷ 32 ∷ 49 ∷ 10 ∷ [])
    ++ (53 ∷ 32 ∷ 49 ∷ 32 ∷ 48 ∷ 32 ∷ 52 ∷ 10 ∷ [])
    ++ (54 ∷ 32 ∷ 48 ∷ 32 ∷ 48 ∷ 32 ∷ 53 ∷ 10 ∷ [])
    ++ (55 ∷ 32 ∷ 48 ∷ 32 ∷ 48 ∷ 32 ∷ 54 ∷ 10 ∷ [])
    ++ (56 ∷ 32 ∷ 49 ∷ 32 ∷ 48 ∷ 32 ∷ 55 ∷ 10 ∷ [])
    ++ (57 ∷ 32 ∷ 49 ∷ 32 ∷ 48 ∷ 32 ∷ 56 ∷ 10 ∷ [])
    ++ (49 ∷ 48 ∷ 32 ∷ 48 ∷ 32 ∷ 49 ∷ 53 ∷ 32 ∷ 56 ∷ 10 ∷ [])
    ++ (119 ∷ 111 ∷ 114 ∷ 107 ∷ 32 ∷ 56 ∷ 32 ∷ 116 ∷ 97 ∷ 107 ∷ 101 ∷ 110 ∷ 32 ∷ 56 ∷ 32 ∷ 101 ∷ 110 ∷ 100 ∷ 101 ∷ 100 ∷ 32 ∷ 50 ∷ 32 ∷ 111 ∷ 102 ∷ 32 ∷ 50 ∷ 10 ∷ [])

printed : walk_text order answers awaited 8 8 2 2 ≡ bytes
unfolding order answers awaited bytes walk_text lines_from steps_of awaited_of line_of total_of decimal_of digits_of
printed = refl

-- A number of two digits behind 16, and one that is 0; none behind a step, another refusal or a fault; no line where the numbers have ended:
-- `1 5 16 0 63`, `2 5 16 0 0`, `3 5 0 1`, `4 5 15 1`, `5 5 102 2`.
numbered : lines_from 0 0 (5 ∷ 5 ∷ 5 ∷ 5 ∷ 5 ∷ 5 ∷ []) (16 ∷ 16 ∷ 0 ∷ 15 ∷ 102 ∷ 0 ∷ []) (63 ∷ 0 ∷ 63 ∷ 63 ∷ 63 ∷ [])
    ≡ (49 ∷ 32 ∷ 53 ∷ 32 ∷ 49 ∷ 54 ∷ 32 ∷ 48 ∷ 32 ∷ 54 ∷ 51 ∷ 10 ∷ [])
    ++ (50 ∷ 32 ∷ 53 ∷ 32 ∷ 49 ∷ 54 ∷ 32 ∷ 48 ∷ 32 ∷ 48 ∷ 10 ∷ [])
    ++ (51 ∷ 32 ∷ 53 ∷ 32 ∷ 48 ∷ 32 ∷ 49 ∷ 10 ∷ [])
    ++ (52 ∷ 32 ∷ 53 ∷ 32 ∷ 49 ∷ 53 ∷ 32 ∷ 49 ∷ 10 ∷ [])
    ++ (53 ∷ 32 ∷ 53 ∷ 32 ∷ 49 ∷ 48 ∷ 50 ∷ 32 ∷ 50 ∷ 10 ∷ [])
unfolding lines_from steps_of awaited_of line_of decimal_of digits_of
numbered = refl
