-- What the reader of tables and number 13's check give.
use Prim.Native.Nat.{ℕ}
use native.Mathlib.Omega.{arith}
use mathlib.Core.Path.{◌≡◌, refl, sym, ap, ◌∙◌}
use mathlib.Core.List.{List}
use mathlib.Core.Bool.{Bool, true, false, cond}
use lib.Dec.{eqb}
use borrow.Author.Tests.{eqb-true, eqb-false}
use Rattle.std.specs.Prelude.{Result, Ok, Err}
use Rattle.program.specs.declared.refusal.Refusal.{Refusal}
use Rattle.program.specs.declared.table.Table.{Table}
use Rattle.program.specs.Bodies.{program_of}
use Rattle.program.specs.Refusal.{refusal_number}
use Rattle.program.specs.Table.{work_limit, number_of, counted, table_of}
use Rattle.program.proofs.NumberLaws.{number_small}
use Rattle.program.proofs.Refusals.{answered_err}
use Rattle.rules.specs.WellFormed.{well_formed}
use Rattle.rules.specs.Steps.{base, unfit}
use Rattle.encoding.specs.Decode.{encodes, state_of}
use Rattle.wellformed.specs.declared.unfit.Unfit.{Unfit}
use Rattle.wellformed.specs.Judged.{judged, refusal_of, refused}
use Rattle.wellformed.specs.Passing.{passes, unfit_bytes}
use Rattle.wellformed.proofs.Numbers.{Read, refused_checked, checked_ok, checked_err}
use Rattle.calls.specs.Calls.{table_first, unfit_number}

-- THE TABLE

module _ (t : List ℕ) where
  -- It was turned down.
  pub read_err : {r : Result Table Refusal} {e : Refusal} → r ≡ table_of work_limit t → r ≡ Err e → (refusal_number e ≡ number_of work_limit t) × (refusal_number e ≡ 0 → ⊥)
  unfolding table_of
  read_err is e =
      let h = answered_err (number_of work_limit t) (counted t) (sym is ∙ e) (let k = number_small work_limit t in omega arith) in
      (h.0, λ z. omega arith)

  -- An accepted table is read so again.
  pub read_back : {x : Table} → Read t x → table_of work_limit t ≡ Ok x
  unfolding table_of
  read_back r = rw (r.accepted, r.is)

-- THE CHECK

-- The bytes encode a state, the table is accepted, the state well-formed.
pub record Passed (t b : List ℕ) : Type 0 where
  pub whole : encodes b ≡ true
  pub accepted : number_of work_limit t ≡ 0
  pub formed : well_formed 65535 (program_of t) (state_of b) ≡ true

module _ (t b : List ℕ) where
  -- The number of bytes that encode a state, and of others.
  pub number_whole : encodes b ≡ true → unfit_bytes (number_of work_limit t) (program_of t) b ≡ unfit base (number_of work_limit t) (program_of t) (state_of b)
  unfolding unfit_bytes
  number_whole h = rw h

  pub number_none : encodes b ≡ false → unfit_bytes (number_of work_limit t) (program_of t) b ≡ unfit_number t
  unfolding unfit_bytes unfit_number table_first
  number_none h = rw h

  module _ {r : Result Table Unfit} (is : r ≡ judged (table_of work_limit t) (passes (program_of t) b)) where
    -- A number.
    pub turned_down : {u : Unfit} → r ≡ Err u → (refusal_number (refusal_of u) ≡ unfit_bytes (number_of work_limit t) (program_of t) b) × (refusal_number (refusal_of u) ≡ 0 → ⊥)
    turned_down h = let k = checked_err t b (refused_checked t b is) (ap refused h) in (k.0, λ z. omega arith)

    -- No number.
    pub passed : {x : Table} → r ≡ Ok x → Passed t b × Read t x
    unfolding unfit_bytes unfit
    passed h =
        let k = checked_ok t b (refused_checked t b is) (ap refused h) in
        let q = parts (encodes b) (number_of work_limit t) (well_formed 65535 (program_of t) (state_of b)) (eqb (number_of work_limit t) 0) refl k.0 in
        (record { whole = q.0; accepted = q.1.0; formed = q.1.1 }, k.1)
      where
        parts : (x : Bool) (n : ℕ) (w y : Bool) → eqb n 0 ≡ y → cond x (cond (eqb n 0) (cond w 0 13) n) (cond (eqb n 0) 13 n) ≡ 0 → (x ≡ true) × ((n ≡ 0) × (w ≡ true))
        parts true n true true h e = (refl, (eqb-true n 0 h, refl))
        parts true n false true h e = let z : ◌≡◌ {A = ℕ} 13 0 = rw h at e in absurd (omega arith)
        parts true n w false h e = absurd (eqb-false n 0 h (rw h at e))
        parts false n w true h e = let z : ◌≡◌ {A = ℕ} 13 0 = rw h at e in absurd (omega arith)
        parts false n w false h e = absurd (eqb-false n 0 h (rw h at e))
