-- The ready set, how many an activity waits for, and the standing sheet: turned down by the check, or told of the lent bytes.
use Prim.Native.Nat.{ℕ, zero, suc, ◌≤◌}
use native.Mathlib.Omega.{arith}
use mathlib.Core.Path.{◌≡◌, refl, sym, ap, ◌∙◌}
use mathlib.Core.List.{List}
use mathlib.Core.Bool.{Bool, true, false, cond}
use lib.ListN.{length, replicate}
use lib.Dec.{eqb, ltb}
use borrow.Author.Tests.{eq-eqb, ne_eqb, lt-ltb, le-ltb}
use Rattle.std.specs.Prelude.{Option, None, Some, Ok, Err}
use Rattle.program.specs.declared.refusal.Refusal.{Refusal}
use Rattle.program.specs.Bodies.{program_of}
use Rattle.program.specs.Refusal.{refusal_number, answered}
use Rattle.program.specs.Table.{work_limit, number_of}
use Rattle.program.proofs.Basic.{Bytes}
use Rattle.rules.specs.declared.state.Fault.{Fault}
use Rattle.rules.specs.Steps.{base, unfit, ready, awaited_number, awaited_count, no_sheet, registrations, registrations_number}
use Rattle.rules.specs.Steps.{ready_set as members}
use Rattle.rules.proofs.AnswerNumbers.{refusal_range}
use Rattle.rules.proofs.AnswerNumbers.{ready_number as number_of_ready}
use Rattle.rules.proofs.Awaited.{awaited_zero}
use Rattle.rules.proofs.StepLaws.{fit}
use Rattle.encoding.specs.Bytes.{encode_each}
use Rattle.encoding.specs.Decode.{encodes, state_of}
use Rattle.rules.specs.State.{taken_number}
use Rattle.turns.specs.declared.Reply.{Reply}
use Rattle.turns.specs.Turns.{Looks, Readies}
use Rattle.wellformed.specs.Passing.{unfit_bytes}
use Rattle.calls.specs.Calls.{length_number, ready_number, ready_set, awaits_number, awaits_count, row_bytes, fits_sheet, rows_number, sheet_number, sheet_bytes}
use Rattle.calls.specs.Sheet.{Tells}
use Rattle.calls.proofs.Lending.{lent_bytes}
use Rattle.calls.proofs.Checking.{number_whole, number_none, Passed}

-- A sheet of zeros.
none : encode_each row_bytes no_sheet ≡ replicate 1024 0
unfolding encode_each
none = refl

-- The set of a refused call.
empty : (n x : ℕ) → (n ≡ 0 → ⊥) → 0 ≡ members (answered n x)
empty zero x h = absurd (h refl)
empty (suc n) x h = refl

-- Of one that is not turned down.
taken_zero : (x : Option Fault) {n : ℕ} → taken_number (Ok x) ≡ n → ((n ≡ 0 → ⊥) → (14 ≤ n) × (n ≤ 16)) → n ≡ 0
taken_zero None e h = sym e
taken_zero (Some f) e h = let k = (h (λ z. omega arith)).1 in absurd (omega arith)

-- TURNED DOWN BY THE CHECK

module _ (t b : List ℕ) {n : ℕ} (e : n ≡ unfit_bytes (number_of work_limit t) (program_of t) b) (h : n ≡ 0 → ⊥) where
  -- The number of bytes that encode a state.
  whole : encodes b ≡ true → n ≡ unfit base (number_of work_limit t) (program_of t) (state_of b)
  whole w = e ∙ number_whole t b w

  none_ready : encodes b ≡ true → 0 ≡ members (ready base t (state_of b))
  unfolding ready
  none_ready w = empty (unfit base (number_of work_limit t) (program_of t) (state_of b)) _ (λ z. h (whole w ∙ z))

  -- The ready set is empty.
  pub ready_refused : (n ≡ ready_number t b) × (0 ≡ ready_set t b)
  unfolding ready_number ready_set
  ready_refused = go (encodes b) refl
    where
      go : (x : Bool) → encodes b ≡ x → (n ≡ ready_number t b) × (0 ≡ ready_set t b)
      go true w = (rw w (whole w ∙ sym (number_of_ready base t (state_of b))), rw w (none_ready w))
      go false w = (rw w (e ∙ number_none t b w), rw w)

  -- Nobody is waited for.
  pub awaits_refused : (i : ℕ) → (n ≡ awaits_number t b i) × (0 ≡ awaits_count t b i)
  unfolding awaits_number awaits_count awaited_number awaited_count
  awaits_refused i = go (encodes b) refl
    where
      go : (x : Bool) → encodes b ≡ x → (n ≡ awaits_number t b i) × (0 ≡ awaits_count t b i)
      go true w = let q = whole w in (rw (w, sym q, ne_eqb n 0 h), rw (w, sym q, ne_eqb n 0 h))
      go false w = (rw w (e ∙ number_none t b w), rw w)

  rows_refused : n ≡ rows_number t b
  unfolding rows_number registrations_number
  rows_refused = go (encodes b) refl
    where
      go : (x : Bool) → encodes b ≡ x → n ≡ rows_number t b
      go true w = rw w (whole w)
      go false w = rw w (e ∙ number_none t b w)

  -- The sheet is zeros, where there is room.
  pub sheet_refused : (sheet : List ℕ) {c : List ℕ} → c ≡ cond (fits_sheet sheet) (replicate 1024 0) sheet → (n ≡ sheet_number t b sheet) × (c ≡ sheet_bytes t b sheet)
  unfolding sheet_number sheet_bytes registrations registrations_number
  sheet_refused sheet {c} f = (rw (sym rows_refused, ne_eqb n 0 h), go (encodes b) refl)
    where
      go : (x : Bool) → encodes b ≡ x → c ≡ sheet_bytes t b sheet
      go true w = rw (w, sym (whole w), ne_eqb n 0 h, none) f
      go false w = rw w f

-- TOLD OF A WELL-FORMED STATE

module _ (t b : List ℕ) (p : Passed t b) where
  fits : unfit base (number_of work_limit t) (program_of t) (state_of b) ≡ 0
  fits = fit base t (state_of b) p.accepted p.formed

  -- Another room for the sheet.
  rows_zero : rows_number t b ≡ 0
  unfolding rows_number registrations_number
  rows_zero = rw p.whole fits

  pub sheet_length : (sheet : List ℕ) → (length sheet ≡ 1024 → ⊥) → (length_number ≡ sheet_number t b sheet) × (sheet ≡ sheet_bytes t b sheet)
  unfolding sheet_number sheet_bytes fits_sheet
  sheet_length sheet h = let q = ne_eqb (length sheet) 1024 h in (rw (rows_zero, q), rw q)

  module _ (y : Bytes b) where
    -- The ready set.
    pub ready_told : {r : ℕ} → Readies t b r → (0 ≡ ready_number t b) × (r ≡ ready_set t b)
    unfolding ready_number ready_set ready
    ready_told m = (rw (p.whole, fits), m.tells (state_of b) (lent_bytes b y p.whole) p.formed ∙ rw (p.whole, fits))

    -- How many it waits for: 16 is no number of this call.
    module _ {i : ℕ} {r : Reply} (m : Looks t b i r) where
      told_of : (cond (eqb (taken_number r.answer) 16) 0 (taken_number r.answer) ≡ awaits_number t b i) × (r.awaited ≡ awaits_count t b i)
      unfolding awaits_number awaits_count awaited_number awaited_count
      told_of = let d = m.sees (state_of b) (lent_bytes b y p.whole) p.formed in (rw (p.whole, fits, d.number), rw (p.whole, fits) d.count)

      sixteen : eqb (taken_number r.answer) 16 ≡ ltb 0 r.awaited
      sixteen =
          let d = m.sees (state_of b) (lent_bytes b y p.whole) p.formed in
          rw (d.number, d.count) (sym (awaited_zero (program_of t) (state_of b) i))

      pub awaits_some : (r.awaited ≡ 0 → ⊥) → (0 ≡ awaits_number t b i) × (r.awaited ≡ awaits_count t b i)
      awaits_some h = let q = sixteen ∙ lt-ltb 0 r.awaited (omega arith) in (rw q at told_of.0, told_of.1)

      module _ (z : r.awaited ≡ 0) where
        none_waits : taken_number r.answer ≡ awaits_number t b i
        none_waits = let q = sixteen ∙ le-ltb 0 r.awaited (omega arith) in rw q at told_of.0

        pub awaits_err : {x : Refusal} → r.answer ≡ Err x → (refusal_number x ≡ awaits_number t b i) × (0 ≡ awaits_count t b i)
        awaits_err q = (sym (ap taken_number q) ∙ none_waits, sym z ∙ told_of.1)

        pub awaits_ok : {x : Option Fault} → r.answer ≡ Ok x → (0 ≡ awaits_number t b i) × (r.awaited ≡ awaits_count t b i)
        awaits_ok {x} q =
            let d = m.sees (state_of b) (lent_bytes b y p.whole) p.formed in
            let n : taken_number r.answer ≡ 0 = d.number ∙ taken_zero x (sym (ap taken_number q) ∙ d.number) (refusal_range (program_of t) (state_of b) i) in
            (sym n ∙ none_waits, told_of.1)

    -- The sheet.
    pub sheet_told : (sheet : List ℕ) {c : List ℕ} → length sheet ≡ 1024 → Tells b c → (0 ≡ sheet_number t b sheet) × (c ≡ sheet_bytes t b sheet)
    unfolding sheet_number sheet_bytes fits_sheet registrations registrations_number
    sheet_told sheet l m =
        let f = eq-eqb (length sheet) 1024 l in
        (rw (rows_zero, f), m.tells (state_of b) (lent_bytes b y p.whole) ∙ rw (f, p.whole, fits))
