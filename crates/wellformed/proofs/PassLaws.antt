-- Number 13 over the bytes of a state: the order of the tests.
use Prim.Native.Nat.{ℕ}
use mathlib.Core.Path.{◌≡◌, refl, ◌∙◌}
use mathlib.Core.List.{List}
use mathlib.Core.Bool.{Bool, true, false, ◌&&◌}
use lib.ListN.{length}
use lib.Dec.{leb, eqb}
use borrow.Author.Tests.{eq-eqb, ne_eqb}
use Rattle.program.specs.Bodies.{Program}
use Rattle.rules.specs.WellFormed.{counts_fit, activity_fits, activities_fit, accumulators_fit, well_formed}
use Rattle.encoding.specs.Bytes.{number_of, part, byte_at, all_zero, parts_pass}
use Rattle.encoding.specs.Decode.{state_of, accumulator_encodes, activity_encodes, fields_encode, encodes}
use Rattle.wellformed.specs.declared.made.Made.{Made}
use Rattle.wellformed.specs.Entries.{activity_is_fit, accumulator_entry, accumulator_entries}
use Rattle.wellformed.specs.Passing.{passes, head_passes, accumulators_pass, activities_pass}

-- THE WHOLE

-- The order of the tests against that of the definitions.
shuffle : (len v st rz ae te cf tf af : Bool) → len && (((v && (st && rz)) && cf) && ((ae && af) && (te && tf))) ≡ (len && (v && (st && (rz && (ae && te))))) && (cf && (tf && af))
shuffle false v st rz ae te cf tf af = refl
shuffle true false st rz ae te cf tf af = refl
shuffle true true false rz ae te cf tf af = refl
shuffle true true true false ae te cf tf af = refl
shuffle true true true true false te true tf af = refl
shuffle true true true true false te false tf af = refl
shuffle true true true true true false true tf true = refl
shuffle true true true true true false true tf false = refl
shuffle true true true true true false false tf af = refl
shuffle true true true true true true false tf af = refl
shuffle true true true true true true true true true = refl
shuffle true true true true true true true true false = refl
shuffle true true true true true true true false true = refl
shuffle true true true true true true true false false = refl

-- What is made, of a state's bytes.
abbrev pub made_in : List ℕ → Made
made_in b = record { activities = byte_at b 1; clocks = byte_at b 2; accumulators = byte_at b 3 }

-- The length, the fields before the cells, the accumulators and the activities are one test.
whole : (p : Program) (b : List ℕ)
    → eqb (length b) 13776 && (head_passes p b && (accumulators_pass (made_in b) (part b 80 384) && activities_pass p (made_in b) (part b 464 13312))) ≡ passes p b
unfolding passes encodes fields_encode well_formed head_passes accumulators_pass activities_pass accumulator_entries accumulator_entry accumulators_fit activities_fit activity_fits activity_is_fit state_of
whole p b =
    shuffle (eqb (length b) 13776) (eqb (byte_at b 0) 1) (leb (number_of (part b 4 4)) 65535) (all_zero (part b 8 8)) (parts_pass 24 16 accumulator_encodes (part b 80 384))
    (parts_pass 208 64 activity_encodes (part b 464 13312)) (counts_fit p (state_of b)) (activities_fit 65535 p (state_of b)) (accumulators_fit (state_of b))

module _ (p : Program) (b : List ℕ) where
  -- Another length.
  pub other_length : (length b ≡ 13776 → ⊥) → false ≡ passes p b
  other_length h = rw (ne_eqb (length b) 13776 h) at (whole p b)

  module _ (l : length b ≡ 13776) where
    -- The fields before the cells fail.
    pub head_unfit : head_passes p b ≡ false → false ≡ passes p b
    head_unfit h = rw (eq-eqb (length b) 13776 l, h) at (whole p b)

    module _ (h : head_passes p b ≡ true) where
      -- The accumulators fail.
      pub accumulators_unfit : accumulators_pass (made_in b) (part b 80 384) ≡ false → false ≡ passes p b
      accumulators_unfit a = rw (eq-eqb (length b) 13776 l, h, a) at (whole p b)

      -- The activities decide.
      pub activities_left : {r : Bool} → accumulators_pass (made_in b) (part b 80 384) ≡ true → r ≡ activities_pass p (made_in b) (part b 464 13312) → r ≡ passes p b
      activities_left a e = e ∙ rw (eq-eqb (length b) 13776 l, h, a) at (whole p b)
