-- The calls over lent bytes: the number that each answers, and the bytes that it leaves. t is a table, b a state's buffer, each as it was lent.
use Rattle.std.specs.Prelude.{ℕ, List, map, ◌++◌, Bool, cond, length, take, drop, replicate, leb, eqb}
use Rattle.program.specs.Table.{work_limit, number_of}
use Rattle.program.specs.Refusal.{told}
use Rattle.rules.specs.declared.answer.Stepped.{Stepped}
use Rattle.rules.specs.State.{answer_number}
use Rattle.rules.specs.Steps.{base, start, step, ready, awaited_number, awaited_count, registrations, registrations_number}
use Rattle.rules.specs.Steps.{ready_set as members}
use Rattle.rules.specs.Runs.{is_accepted, run, answers, awaiteds}
use Rattle.encoding.specs.Bytes.{encode_each}
use Rattle.encoding.specs.Encode.{encode_state}
use Rattle.encoding.specs.Decode.{encodes, state_of}

-- NUMBERS

-- The table's number 1 to 12 comes first, then n.
unfoldable pub table_first : List ℕ → ℕ → ℕ
table_first t n = cond (eqb (number_of work_limit t) 0) n (number_of work_limit t)

-- 13 for bytes that encode no state
unfoldable pub unfit_number : List ℕ → ℕ
unfit_number t = table_first t 13

-- A lent buffer has another length than the call needs. The documents' numbers and 100 plus a fault stay below.
abbrev pub length_number : ℕ
length_number = 255

-- "a buffer of exactly 13,776 bytes"
unfoldable pub fits_state : List ℕ → Bool
fits_state b = eqb (length b) 13776

-- START: the start state of the table

-- 0 or 1 to 12; then 255 for a buffer of another length
unfoldable pub start_number : List ℕ → List ℕ → ℕ
start_number t b = cond (fits_state b) (answer_number (start base t).answer) (table_first t length_number)

-- The start state; a refused start too leaves a state, that of zeros. A buffer of another length stays as it was.
unfoldable pub start_bytes : List ℕ → List ℕ → List ℕ
start_bytes t b = cond (fits_state b) (encode_state (start base t).state) b

-- STEP: one step of activity i in the state that the bytes encode

-- 0, 100 plus the fault, or 1 to 17; 13 for bytes that encode no state
unfoldable pub step_number : List ℕ → List ℕ → ℕ → ℕ
step_number t b i = cond (encodes b) (answer_number (step base t (state_of b) i).answer) (unfit_number t)

-- The state after an accepted step; a refused one leaves the bytes.
unfoldable pub bytes_after : Stepped → List ℕ → List ℕ
bytes_after done b = cond (is_accepted done.answer) (encode_state done.state) b

-- Bytes that encode no state stay as they were.
unfoldable pub step_bytes : List ℕ → List ℕ → ℕ → List ℕ
step_bytes t b i = cond (encodes b) (bytes_after (step base t (state_of b) i) b) b

-- READY: who can step, bit i for activity i

-- 0 or 1 to 13; 13 for bytes that encode no state
unfoldable pub ready_number : List ℕ → List ℕ → ℕ
ready_number t b = cond (encodes b) (told (ready base t (state_of b))) (unfit_number t)

-- The set of a refused call is 0.
unfoldable pub ready_set : List ℕ → List ℕ → ℕ
ready_set t b = cond (encodes b) (members (ready base t (state_of b))) 0

-- AWAITED: how many activities activity i waits for

-- 0 or 1 to 15; 13 for bytes that encode no state
unfoldable pub awaits_number : List ℕ → List ℕ → ℕ → ℕ
awaits_number t b i = cond (encodes b) (awaited_number base t (state_of b) i) (unfit_number t)

-- The count of a refused call is 0.
unfoldable pub awaits_count : List ℕ → List ℕ → ℕ → ℕ
awaits_count t b i = cond (encodes b) (awaited_count base t (state_of b) i) 0

-- REGISTRATIONS: the standing sheet, sixty-four rows of sixteen bytes, row by row

-- a row's bytes are its entries
abbrev pub row_bytes : List ℕ → List ℕ
row_bytes row = row

-- room for a sheet
unfoldable pub fits_sheet : List ℕ → Bool
fits_sheet sheet = eqb (length sheet) 1024

-- 0 or 1 to 13; 13 for bytes that encode no state
unfoldable pub rows_number : List ℕ → List ℕ → ℕ
rows_number t b = cond (encodes b) (registrations_number base t (state_of b)) (unfit_number t)

-- then 255 for another room; sheet: the buffer for the sheet, as it was lent
unfoldable pub sheet_number : List ℕ → List ℕ → List ℕ → ℕ
sheet_number t b sheet = cond (eqb (rows_number t b) 0) (cond (fits_sheet sheet) 0 length_number) (rows_number t b)

-- The sheet of a refused call is zeros. A buffer of another length stays as it was.
unfoldable pub sheet_bytes : List ℕ → List ℕ → List ℕ → List ℕ
sheet_bytes t b sheet = cond (fits_sheet sheet) (cond (encodes b) (encode_each row_bytes (registrations base t (state_of b))) (replicate 1024 0)) sheet

-- RUN: the start, and a step for each byte of the order

-- 0 or 1 to 12; then 255 for a state's buffer of another length, or too little room for the answers
unfoldable pub run_number : List ℕ → List ℕ → ℕ → List ℕ → ℕ
run_number t order room b = table_first t (cond (fits_state b) (cond (leb (length order) room) 0 length_number) length_number)

-- A byte for each step's answer; what is past them stays. A refused run leaves the buffer as it was.
unfoldable pub run_answers : List ℕ → List ℕ → List ℕ → List ℕ → List ℕ
run_answers t order buffer b =
    let filled = map answer_number (answers base t order) ++ drop (length order) buffer in
    cond (eqb (run_number t order (length buffer) b) 0) filled buffer

-- The state after the last step. A refused run leaves the bytes.
unfoldable pub run_bytes : List ℕ → List ℕ → ℕ → List ℕ → List ℕ
run_bytes t order room b = cond (eqb (run_number t order room b) 0) (encode_state (run base t order)) b

-- TRACE: a run that tells how many each step waits for

-- A byte for each step, as far as the buffer reaches; what is past them stays. A refused run leaves the buffer as it was.
unfoldable pub trace_counts : List ℕ → List ℕ → ℕ → List ℕ → List ℕ → List ℕ
trace_counts t order room counts b =
    let filled = take (length counts) (awaiteds base t order) ++ drop (length order) counts in
    cond (eqb (run_number t order room b) 0) filled counts
