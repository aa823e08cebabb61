-- What a reading is, test by test, and what a whole command that was read tells of its command.
use mathlib.Core.Path.{◌≡◌, refl, sym, ap, ◌∙◌}
use mathlib.Core.Bool.{Bool, true, false, cond, ◌&&◌, ◌||◌}
use mathlib.Core.List.{List, [], ◌∷◌}
use Prim.Native.Nat.{ℕ, ◌+◌, ◌-◌, ◌<◌, ◌≤◌}
use native.Mathlib.Omega.{arith}
use native.Mathlib.Numerals.{add-one}
use lib.Dec.{leb}
use lib.ListN.{length, get_or, take, drop, length-drop, drop_of_length-le}
use lib.Seq.{take_all, drop-cons}
use borrow.Author.Tests.{leb-true, leb-false, le-leb, lt-leb, lt-ltb, le-ltb}
use Rattle.std.specs.Prelude.{Option, Some, None, Ok, Err}
use Rattle.std.specs.Option.{unwrap_or}
use Rattle.program.specs.Command.{Operand, clockName, accumulatorName, operatorCode, mask, bodyNumber, runCount, commandCount, cellNumber, valueByte, inside, rows, row_at, row_of, width_at, opcode, operands_of, padded, command_of}
use Rattle.program.specs.Inner.Coding.{commands, made}
use Rattle.program.specs.Reading.{whole, all_inside, read, bare}
use Rattle.program.specs.declared.command.Command.{Command}
use Rattle.program.specs.declared.command.Command.TheVariants.{End}
use Rattle.program.specs.declared.reading.Whole.{Whole}
use Rattle.program.specs.declared.refusal.Refusal.TheVariants.{Unknown, Cut, Operand as Outside}
use Rattle.program.proofs.Basic.{apart, and_true, true_false}
use Rattle.program.proofs.RowLaws.{Missed, is_in, missed, width_alone}
use Rattle.program.proofs.ShapeReading.{each_op, firsts_inside, kept, read_as}

-- The part of a slice from a place on.
pub tail_part : (s : List ℕ) (k : ℕ) → take (length s - k) (drop k s) ≡ drop k s
tail_part s k = take_all (length s - k) (drop k s) (simp length-drop (omega arith))

-- THE COMMAND OF A BYTE

-- Four operand bytes are enough.
made_padded : (op : ℕ) (s : List ℕ) → made op (padded s) ≡ made op s
unfolding made command_of
made_padded op s = refl

-- The same of what is behind a place of a slice.
pub made_at : (s : List ℕ) (op k : ℕ) {m : Option Command} → m ≡ made op (take (length s - k) (drop k s)) → m ≡ made op (padded (drop k s))
made_at s op k e = e ∙ ap (made op) (tail_part s k) ∙ sym (made_padded op (drop k s))

-- No command has the byte, or this one.
made_none : (op : ℕ) (s : List ℕ) → made op s ≡ None → commands ≤ op
unfolding made rows
made_none op s h = by (leb commands op) refl h
  where
    by : (b : Bool) → leb commands op ≡ b → cond b None (Some (command_of op s)) ≡ None → commands ≤ op
    by true e g = leb-true _ _ e
    by false e g = apart (cc)

made_some : (op : ℕ) (s : List ℕ) {c : Command} → made op s ≡ Some c → (op < commands) × (command_of op s ≡ c)
unfolding made rows
made_some op s {c} h = by (leb commands op) refl h
  where
    by : (b : Bool) → leb commands op ≡ b → cond b None (Some (command_of op s)) ≡ Some c → (op < commands) × (command_of op s ≡ c)
    by true e g = apart (cc)
    by false e g = (leb-false _ _ e, cc)

-- RANGES

-- Whether the operands of a command byte are inside their ranges, whatever list of enough bytes they stand at the start of, the first x and the second y.
abbrev pub Fitting : ℕ → ℕ → ℕ → Bool → Type 0
Fitting op x y r = (s : List ℕ) → get_or s 0 0 ≡ x → get_or s 1 0 ≡ y → length (row_at op).operands ≤ length s → r ≡ all_inside (row_at op).operands s

-- Operands of which any byte will do.
abbrev free : Operand → Bool
free clockName = false
free accumulatorName = false
free operatorCode = false
free mask = true
free bodyNumber = true
free runCount = true
free commandCount = false
free cellNumber = false
free valueByte = true

abbrev all_free : List Operand → Bool
all_free [] = true
all_free (kind ∷ kinds) = free kind && all_free kinds

inside_free : (kind : Operand) (x : ℕ) → free kind ≡ true → inside kind x ≡ true
inside_free clockName x e = absurd (true_false false e refl)
inside_free accumulatorName x e = absurd (true_false false e refl)
inside_free operatorCode x e = absurd (true_false false e refl)
inside_free mask x e = refl
inside_free bodyNumber x e = refl
inside_free runCount x e = refl
inside_free commandCount x e = absurd (true_false false e refl)
inside_free cellNumber x e = absurd (true_false false e refl)
inside_free valueByte x e = refl

all_free_lem : (kinds : List Operand) → all_free kinds ≡ true → (s : List ℕ) → true ≡ all_inside kinds s
all_free_lem [] e s = refl
all_free_lem (kind ∷ kinds) e [] = refl
all_free_lem (kind ∷ kinds) e (x ∷ s) =
    let q = and_true (free kind) (all_free kinds) e in
    rw (inside_free kind x q.0) (all_free_lem kinds q.1 s)

-- The command bytes with a range; the last arm has another, whose operands may be any bytes.
abbrev ranged : List ℕ
ranged = 16 ∷ 15 ∷ 14 ∷ 13 ∷ 11 ∷ 10 ∷ 9 ∷ 8 ∷ 4 ∷ 3 ∷ 2 ∷ []

pub free_fits : (op : ℕ) {x y : ℕ} → op < commands → Missed op ranged → Fitting op x y true
unfolding row_at rows
free_fits op few h s first second room =
    let all : (is_in op ranged || all_free (row_at op).operands) ≡ true =
    each_op (λ (k : ℕ). (is_in k ranged || all_free (row_at k).operands) ≡ true) refl refl refl refl refl refl refl refl refl refl refl refl refl refl refl refl refl refl op few in
    all_free_lem (row_at op).operands (rw (missed op ranged h) at all) s

-- WHAT A READING IS

pub read_empty : (s : List ℕ) → length s < 1 → Err Cut ≡ read s
unfolding read
read_empty [] h = refl
read_empty (x ∷ s) h = absurd (let y : ⊥ = omega arith in y)

-- The tests of a reading of some bytes, in their order: which command it is,
pub read_unknown : (s : List ℕ) → 1 ≤ length s → made (get_or s 0 0) (padded (drop 1 s)) ≡ None → Err Unknown ≡ read s
unfolding read rows
read_unknown [] some none = absurd (let y : ⊥ = omega arith in y)
read_unknown (op ∷ s) some none = rw (le-leb _ _ (made_none op s (sym (made_padded op s) ∙ none)))

-- whether its bytes are there: the byte of no command is alone,
pub read_cut : (s : List ℕ) → 1 ≤ length s → length s < width_at (get_or s 0 0) → Err Cut ≡ read s
unfolding read rows width_at
read_cut [] some h = absurd (let y : ⊥ = omega arith in y)
read_cut (op ∷ s) some h = by (leb commands op) refl
  where
    by : (b : Bool) → leb commands op ≡ b → Err Cut ≡ read (op ∷ s)
    by true e = let w = width_alone op (leb-true _ _ e) in absurd (let y : ⊥ = omega arith in y)
    by false e = rw (e, lt-ltb _ _ (let z : length s < length (row_at op).operands = omega arith in z))

module _ (s : List ℕ) (some : 1 ≤ length s) {c : Command} (is : made (get_or s 0 0) (padded (drop 1 s)) ≡ Some c) where
  -- and whether its operands are inside their ranges.
  module _ (fits : width_at (get_or s 0 0) ≤ length s) where
    pub read_tested : read s ≡ cond (all_inside (row_of c).operands (operands_of c)) (whole c (width_at (get_or s 0 0))) (Err Outside)
    unfolding read rows width_at row_of
    read_tested = by s some is fits
      where
        by : (s : List ℕ) → 1 ≤ length s → made (get_or s 0 0) (padded (drop 1 s)) ≡ Some c → width_at (get_or s 0 0) ≤ length s
            → read s ≡ cond (all_inside (row_of c).operands (operands_of c)) (whole c (width_at (get_or s 0 0))) (Err Outside)
        by [] some is h = absurd (let y : ⊥ = omega arith in y)
        by (op ∷ s) some is h =
            let k = made_some op s (sym (made_padded op s) ∙ is) in
            let f = kept s op k.0 in
            let room : length (row_at op).operands ≤ length s = omega arith in
            let same : all_inside (row_at op).operands s ≡ all_inside (row_at (opcode c)).operands (operands_of c)
            = firsts_inside (row_at op).operands s 0 (omega arith) ∙ f.1 ∙ rw (← k.1, f.0) in
            rw (lt-leb _ _ k.0, le-ltb _ _ room, same, k.1)

    pub read_outside : all_inside (row_of c).operands (operands_of c) ≡ false → Err Outside ≡ read s
    read_outside bad = sym (read_tested ∙ rw bad)

    pub read_whole : all_inside (row_of c).operands (operands_of c) ≡ true → whole c (width_at (get_or s 0 0)) ≡ read s
    read_whole good = sym (read_tested ∙ rw good)

-- A WHOLE COMMAND

-- Its command is that of its byte and of what stands behind it.
pub whole_bare : (s : List ℕ) {w : Whole} → read s ≡ Ok w → bare s ≡ w.command
unfolding bare rows read
whole_bare [] e = apart (cc)
whole_bare (op ∷ s) e = let r = read_as op s e in rw (lt-leb _ _ r.listed) r.same

module _ (code : List ℕ) (offset : ℕ) where
  -- Nothing stands past the end.
  pub bare_none : length code ≤ offset → End ≡ bare (drop offset code)
  unfolding bare
  bare_none h = rw (drop_of_length-le code h)

  pub bare_made : offset < length code → bare (drop offset code) ≡ unwrap_or (made (get_or code offset 0) (padded (drop (offset + 1) code))) End
  unfolding bare made rows command_of
  bare_made more =
      rw (drop-cons code offset 0 more, add-one) (by (leb commands (get_or code offset 0)) _)
    where
      by : (b : Bool) (c : Command) → cond b End c ≡ unwrap_or (cond b None (Some c)) End
      by true c = refl
      by false c = refl
