-- The text of a walk: "prints a header, a line for each byte (line from 1, activity, answer, steps taken so far) and a total";
-- "a walk line with 16 now ends with a blank and this number, so document 01's line 4 becomes `4 0 16 3 1`".
use Rattle.std.specs.Prelude.{ℕ, ◌+◌, cond, List, [], ◌∷◌, ◌++◌, ltb, eqb}
use Rattle.lines.specs.Text.{header_of, line_of, total_of}

-- A step is taken where the answer is 0, or 100 plus f for fault f.
unfoldable pub steps_of : ℕ → ℕ
steps_of answer = cond (eqb answer 0) 1 (cond (ltb answer 100) 0 1)

-- "steps taken so far", after these answers.
unfoldable pub steps_in : List ℕ → ℕ
steps_in [] = 0
steps_in (answer ∷ answers) = steps_of answer + steps_in answers

-- "a line for each byte": those of an order with its answers and how many are awaited at each, after so many lines and so many steps taken.
unfoldable pub lines_from : ℕ → ℕ → List ℕ → List ℕ → List ℕ → List ℕ
lines_from line taken [] answers awaited = []
lines_from line taken (act ∷ order) [] awaited = []
lines_from line taken (act ∷ order) (answer ∷ answers) [] = []
lines_from line taken (act ∷ order) (answer ∷ answers) (number ∷ awaited) =
    let next = taken + steps_of answer in
    line_of (line + 1) act answer next number ++ lines_from (line + 1) next order answers awaited

-- The whole text. "a total: the work, the steps taken, the activities ended, faulted ones too, and the activities spawned, main included"
unfoldable pub walk_text : List ℕ → List ℕ → List ℕ → ℕ → ℕ → ℕ → ℕ → List ℕ
walk_text order answers awaited work taken ended spawned = header_of ++ lines_from 0 0 order answers awaited ++ total_of work taken ended spawned
