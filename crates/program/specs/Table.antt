-- A table that is read and counted: numbers 1 to 12 of "Turned down".
use Rattle.std.specs.Prelude.{ℕ, List, cond, ltb, eqb, Result}
use Rattle.program.specs.Bodies.{Program, program_of}
use Rattle.program.specs.Scan.{scan, layout_of}
use Rattle.program.specs.Count.{work_of, activities_of, clocks_of, accumulators_of}
use Rattle.program.specs.Refusal.{answered}
use Rattle.program.specs.declared.refusal.Refusal.{Refusal}
use Rattle.program.specs.declared.table.Table.{Table}

-- "12. Work is above 65,535."
abbrev pub work_limit : ℕ
work_limit = 65535

-- "9. Activities are above 64. 10. Clocks are above 16. 11. Accumulators are above 16. 12. Work is above 65,535." The work limit is a parameter.
unfoldable pub over_count : ℕ → Program → ℕ
over_count limit p =
    cond (ltb 64 (activities_of p)) 9 (cond (ltb 16 (clocks_of p)) 10 (cond (ltb 16 (accumulators_of p)) 11 (cond (ltb limit (work_of p)) 12 0)))

-- The number 1 to 12 for which a table is turned down, or 0.
unfoldable pub number_of : ℕ → List ℕ → ℕ
number_of limit t =
    let n = scan t in
    let m = over_count limit (program_of t) in
    cond (eqb n 0) m n

-- What the reader answers of a table: its layout and counts, or its number.
unfoldable pub counted : List ℕ → Table
counted t =
    record {
      layout = layout_of t;
      work = work_of (program_of t);
      activities = activities_of (program_of t);
      clocks = clocks_of (program_of t);
      accumulators = accumulators_of (program_of t);
    }

unfoldable pub table_of : ℕ → List ℕ → Result Table Refusal
table_of limit t = answered (number_of limit t) (counted t)
