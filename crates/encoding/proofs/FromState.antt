-- A state comes back from its bytes, which pass the tests: over each part first.
use Prim.Native.Nat.{ℕ, ◌+◌, ◌<◌, ◌^◌}
use native.Mathlib.Omega.{arith}
use mathlib.Core.List.{List, ◌++◌, append_assoc}
use mathlib.Core.Path.{◌≡◌, refl, sym, ◌∙◌}
use lib.ListN.{length, take, drop, length-append}
use lib.Seq.{take_at, drop_at, drop-drop, take-length}
use borrow.Author.Tests.{le-leb}
use Rattle.rules.specs.declared.state.Frame.{Frame}
use Rattle.rules.specs.declared.state.Hold.{Hold}
use Rattle.rules.specs.declared.state.Activity.{Activity}
use Rattle.rules.specs.declared.state.Accumulator.{Accumulator}
use Rattle.rules.specs.declared.state.State.{State}
use Rattle.rules.specs.State.{no_frame, no_hold, no_accumulator, absent}
use Rattle.rules.proofs.Sized.{SizedActivity, Sized}
use Rattle.encoding.specs.Bytes.{bytes_of, number_of, all_zero, untested, encode_each}
use Rattle.encoding.specs.Encode.{encode_frame, encode_hold, encode_activity, encode_accumulator, encode_state}
use Rattle.encoding.specs.Decode.{limit, frame_at, hold_at, activity_at, accumulator_at, state_of, frame_encodes, hold_encodes, activity_encodes, accumulator_encodes, fields_encode}
use Rattle.encoding.proofs.NumberLaws.{bytes_of_length, number_of_bytes}
use Rattle.encoding.proofs.RoundLaws.{Round, each_round}
use Rattle.encoding.proofs.EnumLaws.{registration_there, registration_passes, operator_there, operator_passes, status_there, status_passes_lem}
use Rattle.encoding.proofs.Fits.{FitsFrame, FitsHold, FitsAccumulator, FitsActivity, FitsState}

-- three lists one after the other, by their lengths
thirds : (p q r : List ℕ) (i j k : ℕ) → length p ≡ i → length q ≡ j → length r ≡ k
    → (take i (p ++ q ++ r) ≡ p) × (take j (drop i (p ++ q ++ r)) ≡ q) × (take k (drop (i + j) (p ++ q ++ r)) ≡ r)
thirds p q r i j k hp hq hr =
    let e : p ++ q ++ r ≡ p ++ (q ++ r) = append_assoc p q r in
    let d : drop i (p ++ q ++ r) ≡ q ++ r = rw e (drop_at p (q ++ r) i hp) in
    let f : drop (i + j) (p ++ q ++ r) ≡ r = sym (drop-drop j i (p ++ q ++ r)) ∙ rw d (drop_at q r j hq) in
    (rw e (take_at p (q ++ r) i hp), rw d (take_at q r j hq), rw f (rw (← hr) (take-length r)))

-- a body
pub frame_round : {f : Frame} → FitsFrame f → Round encode_frame frame_at frame_encodes 8 f
unfolding encode_frame frame_at frame_encodes bytes_of all_zero
frame_round {f} h = record { size = refl; back = rw (number_of_bytes 2 f.offset h.offset); passes = refl }

-- a clock name
pub hold_round : {c : Hold} → FitsHold c → Round encode_hold hold_at hold_encodes 8 c
unfolding encode_hold hold_at hold_encodes bytes_of all_zero
hold_round {c} h =
    let small : c.phase < 2 ^ 16 = h.phase in
    let e = number_of_bytes 4 c.phase (omega arith) in
    record {
      size = refl;
      back = rw (e, registration_there c.registration);
      passes = rw (e, le-leb c.phase limit (omega arith), le-leb _ 2 (registration_passes c.registration));
    }

-- an accumulator
pub accumulator_round : {c : Accumulator} → FitsAccumulator c → Round encode_accumulator accumulator_at accumulator_encodes 24 c
unfolding encode_accumulator accumulator_at accumulator_encodes bytes_of all_zero
accumulator_round {c} h =
    record {
      size = refl;
      back = rw (number_of_bytes 4 c.value h.value, operator_there c.operator);
      passes = rw (le-leb _ 2 (operator_passes c.operator));
    }

-- an activity
pub activity_round : {a : Activity} → SizedActivity a → FitsActivity a → Round encode_activity activity_at activity_encodes 208 a
unfolding encode_activity activity_at activity_encodes bytes_of
activity_round {a} z h =
    let hs = rw z.holds8 at (each_round no_hold a.holds (λ i j. hold_round (h.holds i (rw z.holds8 at j)))) in
    let fs = rw z.frames16 at (each_round no_frame a.frames (λ i j. frame_round (h.frames i (rw z.frames16 at j)))) in
    let t = thirds a.accumulators (encode_each encode_hold a.holds) (encode_each encode_frame a.frames) 8 64 128 z.names8 hs.size fs.size in
    let e = number_of_bytes 4 a.register h.register in
    record {
      size = rw (length-append, length-append, z.names8, hs.size, fs.size);
      back = rw (e, status_there a.status, t.0, t.1, t.2, hs.back, fs.back);
      passes = rw (status_passes_lem a.status, t.1, t.2, hs.passes, fs.passes);
    }

-- a cell
cell_round : (x : ℕ) → x < 2 ^ 32 → Round (bytes_of 4) number_of untested 4 x
cell_round x h = record { size = bytes_of_length 4 x; back = number_of_bytes 4 x h; passes = refl }

-- the state
pub state_round : {s : State} → Sized s → FitsState s → Round encode_state state_of fields_encode 13776 s
unfolding encode_state state_of fields_encode bytes_of all_zero
state_round {s} z h =
    let cs = rw z.cells16 at (each_round 0 s.cells (λ i j. cell_round _ (h.cells i (rw z.cells16 at j)))) in
    let ns = rw z.accs16 at (each_round no_accumulator s.accs (λ i j. accumulator_round (h.accs i (rw z.accs16 at j)))) in
    let ts = rw z.acts64 at (each_round absent s.acts (λ i j. activity_round (z.each i (rw z.acts64 at j)) (h.acts i (rw z.acts64 at j)))) in
    let t = thirds (encode_each (bytes_of 4) s.cells) (encode_each encode_accumulator s.accs) (encode_each encode_activity s.acts) 64 384 13312 cs.size ns.size ts.size in
    let small : s.steps < 2 ^ 16 = h.steps in
    let e = number_of_bytes 4 s.steps (omega arith) in
    record {
      size = rw (length-append, length-append, cs.size, ns.size, ts.size);
      back = rw (e, t.0, t.1, t.2, cs.back, ns.back, ts.back);
      passes = rw (e, le-leb s.steps limit (omega arith), t.1, t.2, ns.passes, ts.passes);
    }
