-- Building a table from a list of commands, and listing the commands of a table: request a of document 02.
use Rattle.std.specs.Prelude.{ℕ, ◌+◌, List, [], ◌∷◌, ◌++◌, map, cond, length, get_or, take, drop, ltb, eqb}
use Rattle.program.specs.Command.{width_at, opcode, operands_of, padded, command_of}
use Rattle.program.specs.Reading.{commands_of}
use Rattle.program.specs.Table.{work_limit, number_of}
use Rattle.program.specs.declared.command.Command.{Command}

-- "a list of commands with operands": an entry for each, of five bytes. First the command byte, then its operand bytes in the order of the table; the bytes that
-- the command lacks are not looked at. The k commands of an ATOM are the k entries after it. A byte that is no command stands alone; `command_in` reads END there,
-- and a list with one is always turned away.
unfoldable pub command_in : List ℕ → Command
command_in entry = command_of (get_or entry 0 0) (drop 1 entry)

unfoldable pub bytes_in : List ℕ → List ℕ
bytes_in entry = take (width_at (get_or entry 0 0)) entry

-- The entry of a command, 0 in the bytes that it lacks.
unfoldable pub entry_of : Command → List ℕ
entry_of c = opcode c ∷ padded (operands_of c)

-- "the number of ENDs in the list"
unfoldable pub ends_in : List (List ℕ) → ℕ
ends_in [] = 0
ends_in (entry ∷ entries) = cond (eqb (get_or entry 0 0) 0x00) 1 0 + ends_in entries

unfoldable pub bytes_of : List (List ℕ) → List ℕ
bytes_of [] = []
bytes_of (entry ∷ entries) = bytes_in entry ++ bytes_of entries

-- "the bytes that the list would make": "Byte 0 is the number of ENDs in the list". It may be no byte, as with 300 ENDs; "more than 16 gives 2".
unfoldable pub list_bytes : List (List ℕ) → List ℕ
list_bytes entries = ends_in entries ∷ bytes_of entries

-- BUILD: the bytes of a list into a lent buffer

-- "Turned away: 1 to 12 as for the bytes that the list would make, then 18, the buffer is shorter than these bytes." 0 where it is accepted.
unfoldable pub built_number : List (List ℕ) → ℕ → ℕ
built_number entries room =
    let n = number_of work_limit (list_bytes entries) in
    cond (eqb n 0) (cond (ltb room (length (list_bytes entries))) 18 0) n

-- How many bytes were written.
unfoldable pub built_length : List (List ℕ) → ℕ → ℕ
built_length entries room = cond (eqb (built_number entries room) 0) (length (list_bytes entries)) 0

-- "On any failure the buffer keeps its contents, and past the table always."
unfoldable pub built_bytes : List (List ℕ) → List ℕ → List ℕ
built_bytes entries buffer =
    cond (eqb (built_number entries (length buffer)) 0) (list_bytes entries ++ drop (length (list_bytes entries)) buffer) buffer

-- LIST: the commands of a table into lent entries

-- 1 to 12 of the table, then 18: there are fewer entries than commands. 0 where it is accepted.
unfoldable pub listed_number : List ℕ → ℕ → ℕ
listed_number t room =
    let n = number_of work_limit t in
    cond (eqb n 0) (cond (ltb room (length (commands_of t))) 18 0) n

-- How many entries were written.
unfoldable pub listed_count : List ℕ → ℕ → ℕ
listed_count t room = cond (eqb (listed_number t room) 0) (length (commands_of t)) 0

-- Of a call turned away all entries stay as they were, and past the last command always.
unfoldable pub listed_entries : List ℕ → List (List ℕ) → List (List ℕ)
listed_entries t entries =
    cond (eqb (listed_number t (length entries)) 0) (map entry_of (commands_of t) ++ drop (length (commands_of t)) entries) entries
