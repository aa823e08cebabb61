-- Bytes that pass the tests come back from their state: over each part first.
use Prim.Native.Nat.{ℕ, ◌+◌, ◌*◌, ◌≤◌}
use native.Mathlib.Omega.{arith}
use mathlib.Core.List.{List}
use mathlib.Core.Bool.{Bool, true}
use mathlib.Core.Path.{◌≡◌, refl, sym}
use lib.ListN.{length}
use Rattle.encoding.specs.Bytes.{bytes_of, number_of, part, byte_at, untested, encode_each, parts_at, parts_pass}
use Rattle.encoding.specs.Encode.{encode_frame, encode_hold, encode_activity, encode_accumulator, encode_state}
use Rattle.encoding.specs.Decode.{frame_at, hold_at, activity_at, accumulator_at, state_of, frame_encodes, hold_encodes, activity_encodes, accumulator_encodes, fields_encode}
use Rattle.program.proofs.Basic.{Bytes}
use Rattle.encoding.proofs.NumberLaws.{bytes_of_number}
use Rattle.encoding.proofs.FieldLaws.{none_yet, byte, field, all, sized, part_bytes, number_part, zero_part}
use Rattle.encoding.proofs.PartLaws.{parts_pass_all}
use Rattle.encoding.proofs.RoundLaws.{Back, each_back}
use Rattle.encoding.proofs.EnumLaws.{registration_back, operator_back, status_back}
use Rattle.encoding.proofs.Passed.{hold_passes, accumulator_passes_lem, activity_passes_lem, state_passes}

-- n parts of k bytes each that stand from a place on
parts_back : {A : Type 0} {e : A → List ℕ} {f : List ℕ → A} {p : List ℕ → Bool} {k : ℕ} (n at : ℕ) (b : List ℕ) → Back e f p k → Bytes b → at + n * k ≤ length b
    → parts_pass k n p (part b at (n * k)) ≡ true → part b at (n * k) ≡ encode_each e (parts_at k n f (part b at (n * k)))
parts_back {k = k} n at b h y l t = sym ((each_back n h).same (part b at (n * k)) (sized b at (n * k) (n * k) refl l) (part_bytes b at (n * k) y) t)

-- a body
pub frame_back : Back encode_frame frame_at frame_encodes 8
unfolding encode_frame frame_at frame_encodes bytes_of
frame_back =
    record {
      same =
          λ b l y t.
          let start = field 2 _ (none_yet b 8 l) (number_part b 0 2 y (omega arith)) in
          let named = byte _ (byte _ (byte _ start (omega arith) refl) (omega arith) refl) (omega arith) refl in
          sym (all (field 3 _ named (zero_part b 5 3 t (omega arith))));
    }

-- a clock name
pub hold_back : Back encode_hold hold_at hold_encodes 8
unfolding encode_hold hold_at bytes_of
hold_back =
    record {
      same =
          λ b l y t.
          let h = hold_passes b t in
          let start = field 4 _ (none_yet b 8 l) (number_part b 0 4 y (omega arith)) in
          let named = byte _ (byte _ start (omega arith) refl) (omega arith) (registration_back (byte_at b 5) h.registration) in
          sym (all (field 2 _ named (zero_part b 6 2 h.reserved (omega arith))));
    }

-- an accumulator
pub accumulator_back : Back encode_accumulator accumulator_at accumulator_encodes 24
unfolding encode_accumulator accumulator_at bytes_of
accumulator_back =
    record {
      same =
          λ b l y t.
          let h = accumulator_passes_lem b t in
          let start = field 4 _ (none_yet b 24 l) (number_part b 0 4 y (omega arith)) in
          let named = byte _ (byte _ start (omega arith) refl) (omega arith) (operator_back (byte_at b 5) h.operator) in
          sym (all (field 18 _ named (zero_part b 6 18 h.reserved (omega arith))));
    }

-- an activity
pub activity_back : Back encode_activity activity_at activity_encodes 208
unfolding encode_activity activity_at bytes_of
activity_back =
    record {
      same =
          λ b l y t.
          let h = activity_passes_lem b t in
          let s = status_back (byte_at b 4) (byte_at b 5) h.status in
          let start = field 4 _ (none_yet b 208 l) (number_part b 0 4 y (omega arith)) in
          let standing = byte _ (byte _ start (omega arith) s.0) (omega arith) s.1 in
          let named = field 8 _ (byte _ (byte _ standing (omega arith) refl) (omega arith) refl) refl in
          let held = field 64 _ named (parts_back 8 16 b hold_back y (omega arith) h.holds) in
          sym (all (field 128 _ held (parts_back 16 80 b frame_back y (omega arith) h.frames)));
    }

-- a cell
cell_back : Back (bytes_of 4) number_of untested 4
cell_back = record { same = λ b l y t. rw l at (bytes_of_number b y) }

-- the state
pub state_back : Back encode_state state_of fields_encode 13776
unfolding encode_state state_of bytes_of
state_back =
    record {
      same =
          λ b l y t.
          let h = state_passes b t in
          let counted = byte _ (byte _ (byte _ (byte 1 (none_yet b 13776 l) (omega arith) h.version) (omega arith) refl) (omega arith) refl) (omega arith) refl in
          let stepped = field 4 _ counted (number_part b 4 4 y (omega arith)) in
          let reserved = field 8 _ stepped (zero_part b 8 8 h.reserved (omega arith)) in
          let celled = field 64 _ reserved (parts_back 16 16 b cell_back y (omega arith) (parts_pass_all 4 16 (part b 16 64))) in
          let accumulated = field 384 _ celled (parts_back 16 80 b accumulator_back y (omega arith) h.accs) in
          sym (all (field 13312 _ accumulated (parts_back 64 464 b activity_back y (omega arith) h.acts)));
    }
