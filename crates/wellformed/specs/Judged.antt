-- What the check of a table and a state's bytes answers.
use Rattle.std.specs.Prelude.{Bool, true, false, Result, Ok, Err}
use Rattle.program.specs.declared.refusal.Refusal.{Refusal}
use Rattle.program.specs.declared.refusal.Refusal.TheVariants.{State}
use Rattle.program.specs.declared.table.Table.{Table}
use Rattle.wellformed.specs.declared.unfit.Unfit.{Unfit}
use Rattle.wellformed.specs.declared.unfit.Unfit.TheVariants.{Table as OfTable, State as OfState}

-- By what the reader answers of the table, and whether the state's bytes pass.
abbrev pub judged : Result Table Refusal → Bool → Result Table Unfit
judged (Ok x) true = Ok x
judged (Ok x) false = Err (OfState x)
judged (Err e) q = Err (OfTable e)

-- The refusal of a state that is not taken.
abbrev pub refusal_of : Unfit → Refusal
refusal_of (OfTable e) = e
refusal_of (OfState x) = State

-- The answer by that refusal.
abbrev pub refused : Result Table Unfit → Result Table Refusal
refused (Ok x) = Ok x
refused (Err u) = Err (refusal_of u)

-- What the answer tells of the table: also of one whose state is unfit, what was read.
abbrev pub table_told : Result Table Unfit → Result Table Refusal
table_told (Ok x) = Ok x
table_told (Err (OfTable e)) = Err e
table_told (Err (OfState x)) = Ok x
