-- Cases of our own: tables, and what the reader tells of each: the number for which it is turned down, or where its bodies begin and its counts.
use Rattle.std.specs.Prelude.{ℕ, zero, suc, ◌+◌, ◌-◌, List, [], ◌∷◌, ◌++◌, map, Bool, true, ◌&&◌, length, drop, replicate, Result, Ok, Err}
use Rattle.program.specs.declared.command.Command.{Command}
use Rattle.program.specs.Command.{opcode, operands_of, padded, width, width_at}
use Rattle.program.specs.Reading.{commands_of}
use Rattle.program.specs.Refusal.{refusal_number}
use Rattle.program.specs.Table.{work_limit, table_of}
use Rattle.program.specs.Same.{same_list}
use Rattle.program.specs.declared.refusal.Refusal.{Refusal}
use Rattle.program.specs.declared.table.Table.{Table}

-- A table's bytes and every number that is told of it: its own number, the bodies, the work, the activities, the clocks, the accumulators, and the first byte of
-- each of sixteen bodies.
pub record Told : Type 0 where
  pub bytes : List ℕ
  pub numbers : List ℕ

unfoldable pub numbers_of : Result Table Refusal → List ℕ
numbers_of (Ok t) = 0 ∷ t.layout.bodies ∷ t.work ∷ t.activities ∷ t.clocks ∷ t.accumulators ∷ t.layout.starts
numbers_of (Err e) = refusal_number e ∷ replicate 21 0

unfoldable pub tells : Told → Bool
tells c = same_list (numbers_of (table_of work_limit c.bytes)) c.numbers

unfoldable pub all_tell : List Told → Bool
all_tell [] = true
all_tell (c ∷ cs) = let r = all_tell cs in tells c && r

-- Accepted: the starts of the bodies; the work, the activities, the clocks and the accumulators.
abbrev accepted : List ℕ → List ℕ → ℕ → ℕ → ℕ → ℕ → Told
accepted bytes starts work activities clocks accumulators =
    record {
      bytes = bytes;
      numbers = 0 ∷ length starts ∷ work ∷ activities ∷ clocks ∷ accumulators ∷ starts ++ replicate (16 - length starts) 0;
    }

-- Turned down: the number, and zeros.
abbrev refused : ℕ → List ℕ → Told
refused number bytes = record { bytes = bytes; numbers = number ∷ replicate 21 0 }

-- COUNTS

-- A table of one body of NEXTs.
abbrev nexts : ℕ → List ℕ
nexts n = 0x01 ∷ replicate n 0x01 ++ (0x00 ∷ [])

-- n times FETCH 15.
abbrev fetches : ℕ → List ℕ
fetches zero = []
fetches (suc n) = 0x0D ∷ 0x0F ∷ fetches n

-- REPEAT 255 of REPEAT 254 of a bare END, and n times FETCH 15: work of 65,282 and n.
abbrev working : ℕ → List ℕ
working n = 0x03 ∷ 0x07 ∷ 0xFF ∷ 0x01 ∷ fetches n ++ (0x00 ∷ 0x07 ∷ 0xFE ∷ 0x02 ∷ 0x00 ∷ 0x00 ∷ [])

-- REPEAT n of a body of the commands given; a third body, a bare END.
abbrev repeated : ℕ → List ℕ → List ℕ
repeated n commands = 0x03 ∷ 0x07 ∷ n ∷ 0x01 ∷ 0x00 ∷ commands ++ (0x00 ∷ 0x00 ∷ [])

-- Every command, in four bodies; both clocks and accumulators, in different numbers.
abbrev every_command : List ℕ
every_command =
    0x04
    -- CLOCK 7, REPEAT 3 1, ACC 7 2, ASYNC 2 FF, FINISH 3, END: 1 + (1 + 3 * 36) + 1 + (1 + 17) + (1 + 11) + 1
    ∷ 0x02 ∷ 0x07 ∷ 0x07 ∷ 0x03 ∷ 0x01 ∷ 0x08 ∷ 0x07 ∷ 0x02 ∷ 0x05 ∷ 0x02 ∷ 0xFF ∷ 0x06 ∷ 0x03 ∷ 0x00
    -- ACC 1 0, ACC 0 1, CLOCK 1, NEXT, ASYNC 3 0, CHOOSE 2, END: 1 + 1 + 1 + 2 + (1 + 11) + (1 + 17) + 1
    ∷ 0x08 ∷ 0x01 ∷ 0x00 ∷ 0x08 ∷ 0x00 ∷ 0x01 ∷ 0x02 ∷ 0x01 ∷ 0x01 ∷ 0x05 ∷ 0x03 ∷ 0x00 ∷ 0x11 ∷ 0x02 ∷ 0x00
    -- CLOCK 2, CLOCK 3, ATOM 3 (STORE 15, ADD 0, FETCH 1), REPEAT 0 3, CHOOSE 3, END: 1 + 1 + 1 + 1 + (1 + 11) + 1
    ∷ 0x02 ∷ 0x02 ∷ 0x02 ∷ 0x03 ∷ 0x10 ∷ 0x03 ∷ 0x0E ∷ 0x0F ∷ 0x0F ∷ 0x00 ∷ 0x0D ∷ 0x01 ∷ 0x07 ∷ 0x00 ∷ 0x03 ∷ 0x11 ∷ 0x03 ∷ 0x00
    -- PUT, ACC 2 2, RESUME 1, DROP 1, OFFER 2, READ 2, RESET 2, FETCH 3, STORE 4, ADD 5, END: 11
    ∷ 0x0C ∷ 0xFF ∷ 0x11 ∷ 0x80 ∷ 0x12 ∷ 0x08 ∷ 0x02 ∷ 0x02 ∷ 0x03 ∷ 0x01 ∷ 0x04 ∷ 0x01 ∷ 0x09 ∷ 0x02 ∷ 0x0A ∷ 0x02 ∷ 0x0B ∷ 0x02 ∷ 0x0D ∷ 0x03
    ∷ 0x0E ∷ 0x04 ∷ 0x0F ∷ 0x05 ∷ 0x00
    ∷ []

unfoldable pub complete : List Told
complete =
    accepted (0x01 ∷ 0x00 ∷ []) (1 ∷ []) 1 1 0 0
    -- Sixteen bodies.
    ∷ accepted (0x10 ∷ replicate 16 0x00) (1 ∷ 2 ∷ 3 ∷ 4 ∷ 5 ∷ 6 ∷ 7 ∷ 8 ∷ 9 ∷ 10 ∷ 11 ∷ 12 ∷ 13 ∷ 14 ∷ 15 ∷ 16 ∷ []) 1 1 0 0
    ∷ accepted every_command (1 ∷ 15 ∷ 30 ∷ 48 ∷ []) 142 5 12 15
    -- "A table's counts are those of body 0": body 1 is named by nobody.
    ∷ accepted (0x02 ∷ 0x00 ∷ 0x01 ∷ 0x02 ∷ 0x00 ∷ 0x08 ∷ 0x00 ∷ 0x00 ∷ 0x00 ∷ []) (1 ∷ 2 ∷ []) 1 1 0 0
    -- The greatest c, a, o, d and k, and the least k.
    ∷ accepted
    (0x01 ∷ 0x02 ∷ 0x07 ∷ 0x03 ∷ 0x07 ∷ 0x04 ∷ 0x07 ∷ 0x08 ∷ 0x07 ∷ 0x02 ∷ 0x09 ∷ 0x07 ∷ 0x0A ∷ 0x07 ∷ 0x0B ∷ 0x07 ∷ 0x0D ∷ 0x0F ∷ 0x0E ∷ 0x0F
    ∷ 0x0F ∷ 0x0F ∷ 0x10 ∷ 0x08 ∷ fetches 8
    ++ (0x10 ∷ 0x01 ∷ 0x0F ∷ 0x0F ∷ 0x01 ∷ 0x00 ∷ []))
    (1 ∷ []) 15 1 1 1
    ∷ []

unfoldable pub longest : List Told
longest = accepted (nexts 2046) (1 ∷ []) 4093 1 0 0 ∷ refused 1 (nexts 2047) ∷ []

-- NUMBERS 1 TO 8

unfoldable pub turned_down : List Told
turned_down =
    refused 1 []
    ∷ refused 1 (0x00 ∷ [])
    ∷ refused 1 (0x01 ∷ [])
    ∷ refused 2 (0x00 ∷ 0x11 ∷ [])
    ∷ refused 2 (0x11 ∷ replicate 17 0x00)
    ∷ refused 2 (0xFF ∷ 0x00 ∷ [])
    -- 3 to 7 for each command in turn: the first that fails decides.
    ∷ refused 3 (0x01 ∷ 0x12 ∷ [])
    ∷ refused 3 (0x01 ∷ 0xFF ∷ [])
    ∷ refused 3 (0x02 ∷ 0x00 ∷ 0x12 ∷ 0x02 ∷ 0x08 ∷ 0x00 ∷ [])
    ∷ refused 5 (0x01 ∷ 0x02 ∷ 0x08 ∷ 0x12 ∷ [])
    ∷ refused 6 (0x01 ∷ 0x06 ∷ 0x00 ∷ 0x02 ∷ 0x08 ∷ 0x00 ∷ [])
    ∷ refused 7 (0x01 ∷ 0x10 ∷ 0x01 ∷ 0x01 ∷ 0x06 ∷ 0x00 ∷ 0x00 ∷ [])
    -- 4, also where an operand that is there is outside its range; and where the bytes end with a body or an ATOM still open.
    ∷ refused 4 (0x01 ∷ 0x02 ∷ [])
    ∷ refused 4 (0x01 ∷ 0x08 ∷ 0x08 ∷ [])
    ∷ refused 4 (0x01 ∷ 0x05 ∷ 0x00 ∷ [])
    ∷ refused 4 (0x01 ∷ 0x0C ∷ 0x01 ∷ 0x02 ∷ 0x03 ∷ [])
    ∷ refused 4 (0x02 ∷ 0x00 ∷ [])
    ∷ refused 4 (0x01 ∷ 0x10 ∷ [])
    ∷ refused 4 (0x01 ∷ 0x10 ∷ 0x01 ∷ [])
    ∷ refused 4 (0x01 ∷ 0x10 ∷ 0x02 ∷ 0x0D ∷ 0x00 ∷ [])
    -- 5 for c, a, o, d and k.
    ∷ refused 5 (0x01 ∷ 0x03 ∷ 0x08 ∷ 0x00 ∷ [])
    ∷ refused 5 (0x01 ∷ 0x04 ∷ 0x08 ∷ 0x00 ∷ [])
    ∷ refused 5 (0x01 ∷ 0x08 ∷ 0x08 ∷ 0x00 ∷ 0x00 ∷ [])
    ∷ refused 5 (0x01 ∷ 0x08 ∷ 0x00 ∷ 0x03 ∷ 0x00 ∷ [])
    ∷ refused 5 (0x01 ∷ 0x09 ∷ 0x08 ∷ 0x00 ∷ [])
    ∷ refused 5 (0x01 ∷ 0x0A ∷ 0x08 ∷ 0x00 ∷ [])
    ∷ refused 5 (0x01 ∷ 0x0B ∷ 0x08 ∷ 0x00 ∷ [])
    ∷ refused 5 (0x01 ∷ 0x0D ∷ 0x10 ∷ 0x00 ∷ [])
    ∷ refused 5 (0x01 ∷ 0x0E ∷ 0x10 ∷ 0x00 ∷ [])
    ∷ refused 5 (0x01 ∷ 0x0F ∷ 0x10 ∷ 0x00 ∷ [])
    ∷ refused 5 (0x01 ∷ 0x10 ∷ 0x00 ∷ 0x00 ∷ [])
    ∷ refused 5 (0x01 ∷ 0x10 ∷ 0x09 ∷ fetches 9 ++ (0x00 ∷ []))
    -- 6 for each command that names a body: the own body or a lower one, the number of bodies.
    ∷ refused 6 (0x01 ∷ 0x06 ∷ 0x01 ∷ 0x00 ∷ [])
    ∷ refused 6 (0x02 ∷ 0x05 ∷ 0x00 ∷ 0x01 ∷ 0x00 ∷ 0x00 ∷ [])
    ∷ refused 6 (0x02 ∷ 0x05 ∷ 0x02 ∷ 0x01 ∷ 0x00 ∷ 0x00 ∷ [])
    ∷ refused 6 (0x02 ∷ 0x07 ∷ 0x01 ∷ 0x00 ∷ 0x00 ∷ 0x00 ∷ [])
    ∷ refused 6 (0x02 ∷ 0x07 ∷ 0x00 ∷ 0x02 ∷ 0x00 ∷ 0x00 ∷ [])
    ∷ refused 6 (0x03 ∷ 0x00 ∷ 0x06 ∷ 0x01 ∷ 0x00 ∷ 0x00 ∷ [])
    ∷ refused 6 (0x03 ∷ 0x00 ∷ 0x06 ∷ 0x00 ∷ 0x00 ∷ 0x00 ∷ [])
    ∷ refused 6 (0x01 ∷ 0x11 ∷ 0x00 ∷ 0x00 ∷ [])
    ∷ refused 6 (0x02 ∷ 0x11 ∷ 0x02 ∷ 0x00 ∷ 0x00 ∷ [])
    ∷ refused 6 (0x03 ∷ 0x00 ∷ 0x11 ∷ 0x01 ∷ 0x00 ∷ 0x00 ∷ [])
    ∷ refused 6 (0x03 ∷ 0x00 ∷ 0x11 ∷ 0x00 ∷ 0x00 ∷ 0x00 ∷ [])
    -- Each of the k commands after ATOM is a command in turn: 3 to 6 are tried for it, and then 7, before the next is read.
    ∷ refused 3 (0x01 ∷ 0x10 ∷ 0x01 ∷ 0x12 ∷ [])
    ∷ refused 4 (0x01 ∷ 0x10 ∷ 0x01 ∷ 0x11 ∷ [])
    ∷ refused 4 (0x01 ∷ 0x10 ∷ 0x01 ∷ 0x05 ∷ [])
    ∷ refused 5 (0x01 ∷ 0x10 ∷ 0x01 ∷ 0x02 ∷ 0x09 ∷ 0x00 ∷ [])
    ∷ refused 6 (0x01 ∷ 0x10 ∷ 0x01 ∷ 0x06 ∷ 0x00 ∷ 0x00 ∷ [])
    ∷ refused 7 (0x02 ∷ 0x10 ∷ 0x01 ∷ 0x06 ∷ 0x01 ∷ 0x00 ∷ 0x00 ∷ [])
    ∷ refused 6 (0x01 ∷ 0x10 ∷ 0x01 ∷ 0x11 ∷ 0x00 ∷ 0x00 ∷ [])
    ∷ refused 7 (0x02 ∷ 0x10 ∷ 0x01 ∷ 0x11 ∷ 0x01 ∷ 0x00 ∷ 0x00 ∷ [])
    ∷ refused 7 (0x01 ∷ 0x10 ∷ 0x01 ∷ 0x00 ∷ 0x00 ∷ [])
    ∷ refused 5 (0x01 ∷ 0x10 ∷ 0x09 ∷ [])
    ∷ refused 5 (0x01 ∷ 0x10 ∷ 0x01 ∷ 0x0D ∷ 0x10 ∷ 0x00 ∷ [])
    ∷ refused 7 (0x01 ∷ 0x10 ∷ 0x02 ∷ 0x01 ∷ [])
    ∷ refused 7 (0x01 ∷ 0x10 ∷ 0x02 ∷ 0x01 ∷ 0x12 ∷ 0x00 ∷ [])
    ∷ refused 7 (0x01 ∷ 0x10 ∷ 0x01 ∷ 0x0C ∷ 0x00 ∷ 0x00 ∷ 0x00 ∷ 0x00 ∷ 0x00 ∷ [])
    ∷ refused 7 (0x01 ∷ 0x10 ∷ 0x02 ∷ 0x10 ∷ 0x01 ∷ 0x0D ∷ 0x00 ∷ 0x00 ∷ [])
    ∷ refused 7 (0x01 ∷ 0x10 ∷ 0x08 ∷ fetches 7 ++ (0x01 ∷ 0x00 ∷ []))
    -- 8, whatever the bytes after the last body are.
    ∷ refused 8 (0x01 ∷ 0x00 ∷ 0x12 ∷ [])
    ∷ refused 8 (0x01 ∷ 0x00 ∷ 0x11 ∷ [])
    ∷ refused 8 (0x01 ∷ 0x00 ∷ 0x01 ∷ [])
    ∷ refused 8 (0x01 ∷ 0x00 ∷ 0x02 ∷ [])
    ∷ refused 8 (0x01 ∷ 0x00 ∷ 0x02 ∷ 0x08 ∷ [])
    ∷ refused 8 (0x01 ∷ 0x00 ∷ 0x06 ∷ 0x00 ∷ 0x00 ∷ [])
    -- 8 before 9.
    ∷ refused 8 (repeated 64 (0x05 ∷ 0x02 ∷ 0x00 ∷ []) ++ (0x00 ∷ []))
    ∷ []

-- NUMBERS 9 TO 12

-- ASYNC 2 0; CLOCK 7; ACC 7 2; REPEAT 255 2, which makes the work of 255 runs too much.
abbrev async : List ℕ
async = 0x05 ∷ 0x02 ∷ 0x00 ∷ []

abbrev clock : List ℕ
clock = 0x02 ∷ 0x07 ∷ []

abbrev acc : List ℕ
acc = 0x08 ∷ 0x07 ∷ 0x02 ∷ []

abbrev toil : List ℕ
toil = 0x07 ∷ 0xFF ∷ 0x02 ∷ []

unfoldable pub limited : List Told
limited =
    -- Each at its limit and one above.
    accepted (repeated 63 async) (1 ∷ 5 ∷ 9 ∷ []) 191 64 0 0
    ∷ refused 9 (repeated 64 async)
    ∷ accepted (repeated 16 clock) (1 ∷ 5 ∷ 8 ∷ []) 34 1 16 0
    ∷ refused 10 (repeated 17 clock)
    ∷ accepted (repeated 16 acc) (1 ∷ 5 ∷ 9 ∷ []) 34 1 0 16
    ∷ refused 11 (repeated 17 acc)
    ∷ accepted (working 253) (1 ∷ 511 ∷ 515 ∷ []) 65535 1 0 0
    ∷ refused 12 (working 254)
    -- What a CHOOSE may run counts, run or not: REPEAT 63 of a CHOOSE of an ASYNC, and 64.
    ∷ accepted (0x04 ∷ 0x07 ∷ 0x3F ∷ 0x01 ∷ 0x00 ∷ 0x11 ∷ 0x02 ∷ 0x00 ∷ 0x05 ∷ 0x03 ∷ 0x00 ∷ 0x00 ∷ 0x00 ∷ []) (1 ∷ 5 ∷ 8 ∷ 12 ∷ []) 317 64 0 0
    ∷ refused 9 (0x04 ∷ 0x07 ∷ 0x40 ∷ 0x01 ∷ 0x00 ∷ 0x11 ∷ 0x02 ∷ 0x00 ∷ 0x05 ∷ 0x03 ∷ 0x00 ∷ 0x00 ∷ 0x00 ∷ [])
    -- What a named body makes counts, by ASYNC and FINISH too; and no count wraps: ten REPEAT 128, one in the other, of an ASYNC.
    ∷ refused 9 (0x04 ∷ 0x07 ∷ 0x20 ∷ 0x01 ∷ 0x00 ∷ 0x05 ∷ 0x02 ∷ 0x00 ∷ 0x00 ∷ 0x05 ∷ 0x03 ∷ 0x00 ∷ 0x00 ∷ 0x00 ∷ [])
    ∷ refused 10 (0x03 ∷ 0x07 ∷ 0x11 ∷ 0x01 ∷ 0x00 ∷ 0x06 ∷ 0x02 ∷ 0x00 ∷ 0x02 ∷ 0x00 ∷ 0x04 ∷ 0x00 ∷ 0x00 ∷ [])
    ∷ refused 9
    (0x0C ∷ 0x07 ∷ 0x80 ∷ 0x01 ∷ 0x00 ∷ 0x07 ∷ 0x80 ∷ 0x02 ∷ 0x00 ∷ 0x07 ∷ 0x80 ∷ 0x03 ∷ 0x00 ∷ 0x07 ∷ 0x80 ∷ 0x04 ∷ 0x00 ∷ 0x07 ∷ 0x80 ∷ 0x05 ∷ 0x00 ∷ 0x07 ∷ 0x80 ∷ 0x06 ∷ 0x00
    ∷ 0x07 ∷ 0x80 ∷ 0x07 ∷ 0x00 ∷ 0x07 ∷ 0x80 ∷ 0x08 ∷ 0x00 ∷ 0x07 ∷ 0x80 ∷ 0x09 ∷ 0x00 ∷ 0x07 ∷ 0x80 ∷ 0x0A ∷ 0x00 ∷ 0x05 ∷ 0x0B ∷ 0x00 ∷ 0x00 ∷ 0x00 ∷ [])
    -- Where two apply, the lower number.
    ∷ refused 9 (repeated 64 (clock ++ async))
    ∷ refused 9 (repeated 64 (acc ++ async))
    ∷ refused 9 (repeated 255 (toil ++ async))
    ∷ refused 10 (repeated 17 (acc ++ clock))
    ∷ refused 10 (repeated 255 (toil ++ clock))
    ∷ refused 11 (repeated 255 (toil ++ acc))
    ∷ refused 12 (repeated 255 toil)
    ∷ []

-- BYTES OF A COMMAND

-- The bytes of commands, from their bytes and operands.
unfoldable pub spelt : List Command → List ℕ
spelt [] = []
spelt (c ∷ cs) = opcode c ∷ operands_of c ++ spelt cs

abbrev read_back : List ℕ → Bool
read_back t = same_list (spelt (commands_of t)) (drop 1 t)

-- They are the bytes that were read. How many bytes each command byte takes with its operands; one that is no command stands alone. The first four of a list.
unfoldable pub spells : Bool
spells =
    (read_back every_command && read_back (0x01 ∷ 0x0C ∷ 0xFF ∷ 0xFF ∷ 0xFF ∷ 0xFF ∷ 0x0C ∷ 0x00 ∷ 0x00 ∷ 0x00 ∷ 0x01 ∷ 0x00 ∷ []))
    && (same_list (map width (commands_of every_command)) (map (λ c. length (operands_of c) + 1) (commands_of every_command))
    && (same_list (map width_at (0 ∷ 1 ∷ 2 ∷ 3 ∷ 4 ∷ 5 ∷ 6 ∷ 7 ∷ 8 ∷ 9 ∷ 10 ∷ 11 ∷ 12 ∷ 13 ∷ 14 ∷ 15 ∷ 16 ∷ 17 ∷ 18 ∷ 255 ∷ []))
    (1 ∷ 1 ∷ 2 ∷ 2 ∷ 2 ∷ 3 ∷ 2 ∷ 3 ∷ 3 ∷ 2 ∷ 2 ∷ 2 ∷ 5 ∷ 2 ∷ 2 ∷ 2 ∷ 2 ∷ 2 ∷ 1 ∷ 1 ∷ [])
    && (same_list (padded []) (0 ∷ 0 ∷ 0 ∷ 0 ∷ []) && same_list (padded (5 ∷ 6 ∷ 7 ∷ 8 ∷ 9 ∷ [])) (5 ∷ 6 ∷ 7 ∷ 8 ∷ []))))
