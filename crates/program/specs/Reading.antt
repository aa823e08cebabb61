-- Reading commands from bytes: numbers 3, 4 and 5 of "Turned down".
use Rattle.std.specs.Prelude.{ℕ, zero, suc, ◌+◌, ◌-◌, List, [], ◌∷◌, Bool, true, cond, ◌&&◌, length, drop, ltb, leb, Result, Ok, Err}
use Rattle.program.specs.Command.{Operand, inside, rows, row_at, command_of}
use Rattle.program.specs.declared.command.Command.{Command}
use Rattle.program.specs.declared.command.Command.TheVariants.{End}
use Rattle.program.specs.declared.reading.Whole.{Whole}
use Rattle.program.specs.declared.refusal.Refusal.{Refusal}
use Rattle.program.specs.declared.refusal.Refusal.TheVariants.{Unknown, Cut, Operand as Outside}

-- Whether each operand is inside its range.
abbrev pub all_inside : List Operand → List ℕ → Bool
all_inside [] values = true
all_inside (kind ∷ kinds) [] = true
all_inside (kind ∷ kinds) (x ∷ values) = inside kind x && all_inside kinds values

-- What stands at the start of a list of bytes: a whole command with its bytes, or the number for which the table is turned down.
abbrev pub Reading : Type 0
Reading = Result Whole Refusal

abbrev pub whole : Command → ℕ → Reading
whole c size = Ok (record { command = c; size = size })

-- Numbers 3, 4 and 5 tried in turn. "Number 3 now begins above 11". "4. Where no whole command can be read, the table is cut.
-- 5. A c, a, o, d or k is outside its range."
unfoldable pub read : List ℕ → Reading
read [] = Err Cut
read (op ∷ s) =
    let kinds = (row_at op).operands in
    cond (leb (length rows) op) (Err Unknown)
    (cond (ltb (length s) (length kinds)) (Err Cut)
    (cond (all_inside kinds s) (whole (command_of op s) (length kinds + 1)) (Err Outside)))

-- The command of a byte and of what stands behind it, with nothing tried: that of a reading which is whole. END where there is no byte or no such command.
unfoldable pub bare : List ℕ → Command
bare [] = End
bare (op ∷ s) = cond (leb (length rows) op) End (command_of op s)

-- A reading, and after a whole command what `rest` reads: `rest` stands past the command's first byte and is told how many more to skip.
abbrev pub and_on : Reading → (ℕ → List Reading) → List Reading
and_on (Ok w) rest = Ok w ∷ rest (w.size - 1)
and_on (Err e) rest = Err e ∷ []

-- The readings in turn, the first after `skip` more bytes, up to the first that is no whole command.
unfoldable pub readings_after : List ℕ → ℕ → List Reading
readings_after [] skip = []
readings_after (x ∷ s) zero = and_on (read (x ∷ s)) (readings_after s)
readings_after (x ∷ s) (suc skip) = readings_after s skip

unfoldable pub readings : List ℕ → List Reading
readings s = readings_after s 0

-- The flat list of commands.
unfoldable pub wholes : List Reading → List Command
wholes [] = []
wholes (Ok w ∷ rs) = w.command ∷ wholes rs
wholes (Err e ∷ rs) = []

-- "Byte 0 is the number of bodies .. Then come the bodies".
unfoldable pub commands_of : List ℕ → List Command
commands_of t = wholes (readings (drop 1 t))
