-- What is known of a table that was read and is accepted, and what the check of a table and a state answers.
use Prim.Native.Nat.{ℕ, ◌≤◌, ◌<◌}
use native.Mathlib.Omega.{arith}
use mathlib.Core.Path.{◌≡◌, refl, sym, ap, ◌∙◌}
use mathlib.Core.List.{List}
use mathlib.Core.Bool.{Bool, true, false, cond, ◌&&◌}
use lib.Dec.{eqb}
use borrow.Author.Tests.{eq-eqb, ne_eqb, eqb-true}
use Rattle.std.specs.Prelude.{Result, Ok, Err}
use Rattle.program.specs.Bodies.{Program, program_of}
use Rattle.program.specs.Count.{work_of}
use Rattle.program.specs.Refusal.{refusal_number, told, answered}
use Rattle.program.specs.Table.{work_limit, number_of, counted, table_of}
use Rattle.program.specs.declared.refusal.Refusal.{Refusal}
use Rattle.program.specs.declared.table.Table.{Table}
use Rattle.program.specs.declared.refusal.Refusal.TheVariants.{State}
use Rattle.program.proofs.NumberLaws.{number_small}
use Rattle.program.proofs.Refusals.{told_answered, answered_ok, answered_err, answered_at}
use Rattle.program.proofs.TableLaws.{table_read}
use Rattle.program.proofs.ShapeLaws.{numbered, numbered_counted}
use Rattle.rules.specs.WellFormed.{well_formed}
use Rattle.rules.specs.Steps.{unfit}
use Rattle.encoding.specs.Decode.{encodes, state_of}
use Rattle.places.specs.Known.{Known}
use Rattle.wellformed.specs.declared.unfit.Unfit.{Unfit}
use Rattle.wellformed.specs.Judged.{judged, refused}
use Rattle.wellformed.specs.Passing.{passes, unfit_bytes}

-- An accepted table and what was read of it: its starts and its work.
pub record Read (t : List ℕ) (x : Table) : Type 0 where
  pub accepted : number_of work_limit t ≡ 0
  pub is : x ≡ counted t
  pub known : Known t x.layout.starts
  pub work : x.work ≡ work_of (program_of t)
  pub small : x.work ≤ work_limit

read_at : (t : List ℕ) {x : Table} → (number_of work_limit t ≡ 0) × (x ≡ counted t) → Read t x
unfolding counted
read_at t {x} h =
    let work : x.work ≡ work_of (program_of t) = ap (λ (y : Table). y.work) h.1 in
    record {
      accepted = h.0;
      is = h.1;
      known = record { scanned = numbered work_limit t h.0; laid = ap (λ (y : Table). y.layout.starts) h.1 };
      work = work;
      small = rw work (numbered_counted work_limit t h.0).work;
    }

-- A table that the reader accepts.
pub read_ok : (t : List ℕ) {r : Result Table Refusal} {x : Table} → r ≡ table_of work_limit t → r ≡ Ok x → Read t x
read_ok t is e = read_at t (table_read work_limit t is e)

-- NUMBERS 1 TO 13

-- The bytes decide as one test.
bytes_number : (n : ℕ) (p : Program) (b : List ℕ) → cond (eqb n 0) (cond (passes p b) 0 13) n ≡ unfit_bytes n p b
unfolding unfit_bytes unfit passes
bytes_number n p b = by (eqb n 0) (encodes b) (well_formed 65535 p (state_of b))
  where
    by : (z e w : Bool) → cond z (cond (e && w) 0 13) n ≡ cond e (cond z (cond w 0 13) n) (cond z 13 n)
    by true true w = refl
    by true false w = refl
    by false true w = refl
    by false false w = refl

unfit_small : (n : ℕ) (p : Program) (b : List ℕ) → n ≤ 12 → unfit_bytes n p b ≤ 18
unfit_small n p b h = rw (← bytes_number n p b) (by (eqb n 0) (passes p b))
  where
    by : (z q : Bool) → cond z (cond q 0 13) n ≤ 18
    by true true = omega arith
    by true false = omega arith
    by false q = omega arith

module _ (t b : List ℕ) where
  -- What the check of a table and a state's bytes answers, by its number.
  abbrev pub checked : Result Table Refusal
  checked = answered (unfit_bytes (number_of work_limit t) (program_of t) b) (counted t)

  -- A table that is turned down.
  pub unread : {r : Result Table Refusal} {e : Refusal} → r ≡ table_of work_limit t → r ≡ Err e → Err e ≡ checked
  unfolding table_of
  unread is h =
      let at = answered_at (number_of work_limit t) (counted t) (sym is ∙ h) in
      sym (sym is ∙ h) ∙ ap (λ n. answered n (counted t)) (rw (ne_eqb (number_of work_limit t) 0 at.0) at (bytes_number (number_of work_limit t) (program_of t) b))

  -- Of an accepted table the state decides.
  pub fit : {x : Table} → Read t x → passes (program_of t) b ≡ true → Ok x ≡ checked
  fit r h = ap Ok r.is ∙ ap (λ n. answered n (counted t)) (rw (eq-eqb (number_of work_limit t) 0 r.accepted, h) at (bytes_number (number_of work_limit t) (program_of t) b))

  pub not_fit : {x : Table} → Read t x → passes (program_of t) b ≡ false → Err State ≡ checked
  not_fit r h = ap (λ n. answered n (counted t)) (rw (eq-eqb (number_of work_limit t) 0 r.accepted, h) at (bytes_number (number_of work_limit t) (program_of t) b))

  -- The number of this answer.
  pub checked_told : {r : Result Table Refusal} → r ≡ checked → told r ≡ unfit_bytes (number_of work_limit t) (program_of t) b
  checked_told is = ap told is ∙ told_answered (unfit_bytes (number_of work_limit t) (program_of t) b) (counted t) (unfit_small _ (program_of t) b (number_small work_limit t))

  -- The answer that tells the table of an unfit state too, by its refusal.
  pub refused_checked : {r : Result Table Unfit} → r ≡ judged (table_of work_limit t) (passes (program_of t) b) → refused r ≡ checked
  refused_checked is = ap refused is ∙ go (table_of work_limit t) (passes (program_of t) b) refl refl
    where
      go : (x : Result Table Refusal) (q : Bool) → table_of work_limit t ≡ x → passes (program_of t) b ≡ q → refused (judged x q) ≡ checked
      go (Ok x) true e h = fit (read_ok t refl e) h
      go (Ok x) false e h = not_fit (read_ok t refl e) h
      go (Err e) q h k = unread refl h

  -- WHAT AN ANSWER SAYS

  module _ {r : Result Table Refusal} (is : r ≡ checked) where
    -- Of a state that is fit: no number, and the table as it was read;
    pub checked_ok : {x : Table} → r ≡ Ok x → (unfit_bytes (number_of work_limit t) (program_of t) b ≡ 0) × Read t x
    checked_ok h =
        let at = answered_ok (unfit_bytes (number_of work_limit t) (program_of t) b) (counted t) (sym is ∙ h) in
        (at.0, read_at t (accepted (eqb (number_of work_limit t) 0) (passes (program_of t) b) refl (bytes_number (number_of work_limit t) (program_of t) b ∙ at.0), at.1))
      where
        accepted : (z q : Bool) → eqb (number_of work_limit t) 0 ≡ z → cond z (cond q 0 13) (number_of work_limit t) ≡ 0 → number_of work_limit t ≡ 0
        accepted true q e h = eqb-true _ _ e
        accepted false q e h = h

    -- of what is turned down, its number.
    pub checked_err : {e : Refusal} → r ≡ Err e → (refusal_number e ≡ unfit_bytes (number_of work_limit t) (program_of t) b) × (0 < unfit_bytes (number_of work_limit t) (program_of t) b)
    checked_err h =
        answered_err (unfit_bytes (number_of work_limit t) (program_of t) b) (counted t) (sym is ∙ h) (unfit_small _ (program_of t) b (number_small work_limit t))
