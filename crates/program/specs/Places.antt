-- The place of every command, for number 13's "a place is no command of its body (the k commands belong to their ATOM)".
use Rattle.std.specs.Prelude.{ℕ, ◌+◌, ◌-◌, List, [], ◌∷◌, ◌++◌, cond, length, replicate, eqb}
use Rattle.program.specs.Command.{width}
use Rattle.program.specs.Reading.{commands_of}
use Rattle.program.specs.Scan.{scan, left_after, body_after}
use Rattle.program.specs.declared.command.Command.{Command}

-- A number for each byte of the commands, the first of body i, where `left` commands still belong to an ATOM: the body's number plus 1 where a
-- command of the body starts, and 0 elsewhere.
unfoldable pub marks : ℕ → ℕ → List Command → List ℕ
marks i left [] = []
marks i left (c ∷ cs) = cond (eqb left 0) (i + 1) 0 ∷ (replicate (width c - 1) 0 ++ marks (body_after i c) (left_after left c) cs)

-- The same for each byte of a table, byte 0 included, and 0 from there to 2,048.
unfoldable pub table_marks : List Command → List ℕ
table_marks cs = 0 ∷ (marks 0 0 cs ++ replicate (2047 - length (marks 0 0 cs)) 0)

-- The marks of a table: all 0 where the scan turns it down.
unfoldable pub places_of : List ℕ → List ℕ
places_of t =
    let whole = table_marks (commands_of t) in
    let none : List ℕ = replicate 2048 0 in
    cond (eqb (scan t) 0) whole none
