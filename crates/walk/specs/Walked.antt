-- What the walk program prints of a table and an order, by the rules: "a header, a line for each byte (line from 1, activity, answer, steps taken so far) and a
-- total: the work, the steps taken, the activities ended, faulted ones too, and the activities spawned, main included".
use Rattle.std.specs.Prelude.{ℕ, ◌+◌, cond, List, [], ◌∷◌, ◌++◌, eqb}
use Rattle.program.specs.Bodies.{program_of}
use Rattle.program.specs.Count.{work_of}
use Rattle.program.specs.Table.{work_limit, number_of}
use Rattle.rules.specs.declared.state.State.{State}
use Rattle.rules.specs.Search.{count_below}
use Rattle.rules.specs.State.{answer_number, ended}
use Rattle.rules.specs.Steps.{base, start, step, awaited_count}
use Rattle.rules.specs.Runs.{run}
use Rattle.lines.specs.Text.{header_of, line_of, total_of, refused_of}

-- The lines of the steps from a state on, after so many lines; "a walk line with 16 now ends with a blank and this number".
unfoldable pub lines_of : List ℕ → ℕ → State → List ℕ → List ℕ
lines_of t line s [] = []
lines_of t line s (i ∷ order) =
    let done = step base t s i in
    line_of (line + 1) i (answer_number done.answer) done.state.steps (awaited_count base t s i) ++ lines_of t (line + 1) done.state order

-- The total of a state.
unfoldable pub total_in : List ℕ → State → List ℕ
total_in t s = total_of (work_of (program_of t)) s.steps (count_below s.activities (ended s)) s.activities

-- "A table turned down prints only `table` and the number."
unfoldable pub walked : List ℕ → List ℕ → List ℕ
walked t order =
    let whole = header_of ++ lines_of t 0 (start base t).state order ++ total_in t (run base t order) in
    let refused = refused_of (number_of work_limit t) in
    cond (eqb (number_of work_limit t) 0) whole refused
