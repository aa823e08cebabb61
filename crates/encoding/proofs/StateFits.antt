-- The state of bytes that pass the tests has the sizes of the declared types, and its numbers fit them.
use Prim.Native.Nat.{ℕ, ◌+◌, ◌*◌, ◌≤◌, ◌<◌, ◌^◌}
use native.Mathlib.Omega.{arith}
use mathlib.Core.List.{List}
use mathlib.Core.Bool.{Bool, true}
use mathlib.Core.Path.{◌≡◌, refl}
use lib.ListN.{length, get_or}
use Rattle.rules.specs.State.{no_frame, no_hold, no_accumulator, absent}
use Rattle.rules.proofs.Sized.{SizedActivity, Sized}
use Rattle.encoding.specs.Bytes.{number_of, part, untested, parts_at, parts_pass}
use Rattle.encoding.specs.Decode.{frame_at, hold_at, activity_at, accumulator_at, state_of, frame_encodes, hold_encodes, activity_encodes, accumulator_encodes, fields_encode}
use Rattle.program.proofs.Basic.{Bytes}
use Rattle.encoding.proofs.NumberLaws.{number_below}
use Rattle.encoding.proofs.FieldLaws.{sized, part_bytes}
use Rattle.encoding.proofs.PartLaws.{turn_fits, parts_at_at, parts_at_length, parts_pass_at, parts_pass_all}
use Rattle.encoding.proofs.Passed.{hold_passes, activity_passes_lem, state_passes}
use Rattle.encoding.proofs.Fits.{FitsFrame, FitsHold, FitsAccumulator, FitsActivity, FitsState}

-- what holds of the entry of each part that passes holds of each entry
parts_fit : {A : Type 0} (P : A → Type 0) (k n : ℕ) (f : List ℕ → A) (p : List ℕ → Bool) (b : List ℕ) (d : A) → length b ≡ k * n → Bytes b → parts_pass k n p b ≡ true
    → ((c : List ℕ) → length c ≡ k → Bytes c → p c ≡ true → P (f c)) → (i : ℕ) → i < n → P (get_or (parts_at k n f b) i d)
parts_fit P k n f p b d l y t h i j =
    rw (parts_at_at k n i f b d j)
    (h (part b (k * i) k) (sized b (k * i) k k refl (rw l (turn_fits k j))) (part_bytes b (k * i) k y) (parts_pass_at k n i p b t j))

-- as many bytes as a field has bound its number
number_fits : (b : List ℕ) (at k : ℕ) → Bytes b → at + k ≤ length b → number_of (part b at k) < 256 ^ k
number_fits b at k y h = number_below k (part b at k) (part_bytes b at k y) (rw (sized b at k k refl h) (omega arith))

-- a body
frame_fits_lem : (b : List ℕ) → length b ≡ 8 → Bytes b → frame_encodes b ≡ true → FitsFrame (frame_at b)
unfolding frame_at
frame_fits_lem b l y t = record { offset = number_fits b 0 2 y (omega arith); body = y 2; runs = y 3; first = y 4 }

-- a clock name
hold_fits_lem : (b : List ℕ) → length b ≡ 8 → Bytes b → hold_encodes b ≡ true → FitsHold (hold_at b)
unfolding hold_at
hold_fits_lem b l y t = record { phase = omega (arith, (hold_passes b t).phase); clock = y 4 }

-- an accumulator
accumulator_fits : (b : List ℕ) → length b ≡ 24 → Bytes b → accumulator_encodes b ≡ true → FitsAccumulator (accumulator_at b)
unfolding accumulator_at
accumulator_fits b l y t = record { value = number_fits b 0 4 y (omega arith); owner = y 4 }

-- an activity
activity_sized : (b : List ℕ) → length b ≡ 208 → Bytes b → activity_encodes b ≡ true → SizedActivity (activity_at b)
unfolding activity_at
activity_sized b l y t =
    record {
      frames16 = parts_at_length 8 16 frame_at (part b 80 128);
      holds8 = parts_at_length 8 8 hold_at (part b 16 64);
      names8 = sized b 8 8 8 refl (omega arith);
    }

-- and its numbers
activity_fits_lem : (b : List ℕ) → length b ≡ 208 → Bytes b → activity_encodes b ≡ true → FitsActivity (activity_at b)
unfolding activity_at
activity_fits_lem b l y t =
    let h = activity_passes_lem b t in
    record {
      register = number_fits b 0 4 y (omega arith);
      spawner = y 6;
      depth = y 7;
      names = λ n j. part_bytes b 8 8 y n;
      holds = parts_fit FitsHold 8 8 hold_at hold_encodes (part b 16 64) no_hold (sized b 16 64 64 refl (omega arith)) (part_bytes b 16 64 y) h.holds hold_fits_lem;
      frames = parts_fit FitsFrame 8 16 frame_at frame_encodes (part b 80 128) no_frame (sized b 80 128 128 refl (omega arith)) (part_bytes b 80 128 y) h.frames frame_fits_lem;
    }

-- a cell
cell_fits_lem : (b : List ℕ) → length b ≡ 4 → Bytes b → untested b ≡ true → number_of b < 2 ^ 32
cell_fits_lem b l y t = number_below 4 b y (omega arith)

-- the state
pub state_sized : (b : List ℕ) → length b ≡ 13776 → Bytes b → fields_encode b ≡ true → Sized (state_of b)
unfolding state_of
state_sized b l y t =
    record {
      acts64 = parts_at_length 208 64 activity_at (part b 464 13312);
      accs16 = parts_at_length 24 16 accumulator_at (part b 80 384);
      cells16 = parts_at_length 4 16 number_of (part b 16 64);
      each =
          parts_fit SizedActivity 208 64 activity_at activity_encodes (part b 464 13312) absent (sized b 464 13312 13312 refl (omega arith)) (part_bytes b 464 13312 y)
          (state_passes b t).acts
          activity_sized;
    }

-- and its numbers
pub state_fits : (b : List ℕ) → length b ≡ 13776 → Bytes b → fields_encode b ≡ true → FitsState (state_of b)
unfolding state_of
state_fits b l y t =
    let h = state_passes b t in
    record {
      steps = omega (arith, h.steps);
      activities = y 1;
      clocks = y 2;
      accumulators = y 3;
      cells =
          parts_fit (λ x. x < 2 ^ 32) 4 16 number_of untested (part b 16 64) 0 (sized b 16 64 64 refl (omega arith)) (part_bytes b 16 64 y) (parts_pass_all 4 16 (part b 16 64)) cell_fits_lem;
      accs =
          parts_fit FitsAccumulator 24 16 accumulator_at accumulator_encodes (part b 80 384) no_accumulator (sized b 80 384 384 refl (omega arith)) (part_bytes b 80 384 y) h.accs
          accumulator_fits;
      acts =
          parts_fit FitsActivity 208 64 activity_at activity_encodes (part b 464 13312) absent (sized b 464 13312 13312 refl (omega arith)) (part_bytes b 464 13312 y) h.acts
          activity_fits_lem;
    }
