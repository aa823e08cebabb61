-- The start: the table's number, then the buffer's length.
use Prim.Native.Nat.{ℕ}
use mathlib.Core.Path.{◌≡◌, refl, ◌∙◌}
use mathlib.Core.List.{List}
use mathlib.Core.Bool.{Bool, true, false, cond}
use lib.ListN.{length}
use lib.Dec.{eqb}
use borrow.Author.Tests.{eq-eqb, ne_eqb}
use Rattle.program.specs.Table.{work_limit, number_of}
use Rattle.rules.specs.State.{zero_state}
use Rattle.rules.specs.Steps.{base, start_state, start_with, start}
use Rattle.rules.proofs.AnswerNumbers.{start_number as answer_of_start}
use Rattle.encoding.specs.Encode.{encode_state}
use Rattle.calls.specs.Calls.{table_first, length_number, fits_state, start_number, start_bytes}

-- The table is turned down: the state of zeros, where there is room.
module _ (t b : List ℕ) {n : ℕ} (e : n ≡ number_of work_limit t) (h : n ≡ 0 → ⊥) where
  refused : eqb (number_of work_limit t) 0 ≡ false
  refused = ne_eqb (number_of work_limit t) 0 (λ z. h (e ∙ z))

  refused_number : n ≡ start_number t b
  unfolding start_number fits_state table_first
  refused_number = rw (answer_of_start base t, refused, ← e) (go (eqb (length b) 13776))
    where
      go : (x : Bool) → n ≡ cond x n n
      go true = refl
      go false = refl

  refused_bytes : {c : List ℕ} → c ≡ cond (eqb (length b) 13776) (encode_state zero_state) b → c ≡ start_bytes t b
  unfolding start_bytes fits_state start start_with
  refused_bytes f = rw (f, refused)

  pub start_refused : {c : List ℕ} → c ≡ cond (eqb (length b) 13776) (encode_state zero_state) b → (n ≡ start_number t b) × (c ≡ start_bytes t b)
  start_refused f = (refused_number, refused_bytes f)

module _ (t b : List ℕ) (z : number_of work_limit t ≡ 0) where
  -- The buffer has another length.
  pub start_length : (length b ≡ 13776 → ⊥) → (length_number ≡ start_number t b) × (b ≡ start_bytes t b)
  unfolding start_number start_bytes fits_state table_first
  start_length h = let q = ne_eqb (length b) 13776 h in (rw (q, z), rw q)

  -- The start state.
  pub start_done : {c : List ℕ} → length b ≡ 13776 → c ≡ cond (eqb (length b) 13776) (encode_state start_state) b → (0 ≡ start_number t b) × (c ≡ start_bytes t b)
  unfolding start_number start_bytes fits_state start start_with
  start_done h f = let q = eq-eqb (length b) 13776 h in (rw (q, z), f ∙ rw (q, z))
