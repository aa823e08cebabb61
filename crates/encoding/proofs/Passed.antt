-- What bytes that pass a test say, field by field.
use Prim.Native.Nat.{ℕ, ◌≤◌}
use mathlib.Core.List.{List}
use mathlib.Core.Bool.{true, ◌&&◌}
use mathlib.Core.Path.{◌≡◌}
use lib.Dec.{leb, eqb}
use borrow.Author.Tests.{leb-true, eqb-true}
use Rattle.rules.proofs.Tests.{and_true}
use Rattle.encoding.specs.Bytes.{number_of, part, byte_at, all_zero, parts_pass}
use Rattle.encoding.specs.Encode.{version}
use Rattle.encoding.specs.Decode.{limit, status_passes, frame_encodes, hold_encodes, activity_encodes, accumulator_encodes, fields_encode}

-- a clock name
pub record HoldPasses (b : List ℕ) : Type 0 where
  pub phase : number_of (part b 0 4) ≤ limit
  pub registration : byte_at b 5 ≤ 2
  pub reserved : all_zero (part b 6 2) ≡ true

-- by its test
pub hold_passes : (b : List ℕ) → hold_encodes b ≡ true → HoldPasses b
unfolding hold_encodes
hold_passes b h =
    let q = and_true (leb (number_of (part b 0 4)) limit) (leb (byte_at b 5) 2 && all_zero (part b 6 2)) h in
    let r = and_true (leb (byte_at b 5) 2) (all_zero (part b 6 2)) q.1 in
    record { phase = leb-true _ _ q.0; registration = leb-true _ _ r.0; reserved = r.1 }

-- an accumulator
pub record AccumulatorPasses (b : List ℕ) : Type 0 where
  pub operator : byte_at b 5 ≤ 2
  pub reserved : all_zero (part b 6 18) ≡ true

-- by its test
pub accumulator_passes_lem : (b : List ℕ) → accumulator_encodes b ≡ true → AccumulatorPasses b
unfolding accumulator_encodes
accumulator_passes_lem b h =
    let q = and_true (leb (byte_at b 5) 2) (all_zero (part b 6 18)) h in
    record { operator = leb-true _ _ q.0; reserved = q.1 }

-- an activity
pub record ActivityPasses (b : List ℕ) : Type 0 where
  pub status : status_passes (byte_at b 4) (byte_at b 5) ≡ true
  pub holds : parts_pass 8 8 hold_encodes (part b 16 64) ≡ true
  pub frames : parts_pass 8 16 frame_encodes (part b 80 128) ≡ true

-- by its test
pub activity_passes_lem : (b : List ℕ) → activity_encodes b ≡ true → ActivityPasses b
unfolding activity_encodes
activity_passes_lem b h =
    let q = and_true (status_passes (byte_at b 4) (byte_at b 5)) (parts_pass 8 8 hold_encodes (part b 16 64) && parts_pass 8 16 frame_encodes (part b 80 128)) h in
    let r = and_true (parts_pass 8 8 hold_encodes (part b 16 64)) (parts_pass 8 16 frame_encodes (part b 80 128)) q.1 in
    record { status = q.0; holds = r.0; frames = r.1 }

-- the fields of a state
pub record StatePasses (b : List ℕ) : Type 0 where
  pub version : byte_at b 0 ≡ 1
  pub steps : number_of (part b 4 4) ≤ limit
  pub reserved : all_zero (part b 8 8) ≡ true
  pub accs : parts_pass 24 16 accumulator_encodes (part b 80 384) ≡ true
  pub acts : parts_pass 208 64 activity_encodes (part b 464 13312) ≡ true

-- by their test
pub state_passes : (b : List ℕ) → fields_encode b ≡ true → StatePasses b
unfolding fields_encode
state_passes b h =
    let t = parts_pass 24 16 accumulator_encodes (part b 80 384) && parts_pass 208 64 activity_encodes (part b 464 13312) in
    let q = and_true (eqb (byte_at b 0) version) (leb (number_of (part b 4 4)) limit && (all_zero (part b 8 8) && t)) h in
    let r = and_true (leb (number_of (part b 4 4)) limit) (all_zero (part b 8 8) && t) q.1 in
    let s = and_true (all_zero (part b 8 8)) t r.1 in
    let u = and_true (parts_pass 24 16 accumulator_encodes (part b 80 384)) (parts_pass 208 64 activity_encodes (part b 464 13312)) s.1 in
    record { version = eqb-true _ _ q.0; steps = leb-true _ _ r.0; reserved = s.0; accs = u.0; acts = u.1 }
