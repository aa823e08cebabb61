-- The bytes of a state whose numbers fit are bytes: each is below 256.
use Prim.Native.Nat.{ℕ, zero, suc, ◌≤◌, ◌<◌}
use native.Mathlib.Omega.{arith}
use mathlib.Core.List.{List, [], ◌∷◌, ◌++◌}
use mathlib.Core.Bool.{true, false}
use mathlib.Core.Path.{◌≡◌}
use mathlib.Core.Logic.{◌⊎◌, inl, inr}
use lib.ListN.{length, get_or, replicate, get_or-eq_default}
use lib.Dec.{ltb}
use borrow.Author.Tests.{ltb-true, ltb-false}
use Rattle.rules.specs.declared.state.Status.{Status}
use Rattle.rules.specs.declared.state.Status.TheVariants.{Running, AtBarrier, Ended, Faulted}
use Rattle.rules.specs.declared.state.Fault.{Fault}
use Rattle.rules.specs.declared.state.Frame.{Frame}
use Rattle.rules.specs.declared.state.Hold.{Hold}
use Rattle.rules.specs.declared.state.Activity.{Activity}
use Rattle.rules.specs.declared.state.Accumulator.{Accumulator}
use Rattle.rules.specs.declared.state.State.{State}
use Rattle.rules.specs.State.{no_frame, no_hold, no_accumulator, absent, fault_number}
use Rattle.rules.proofs.FaultNumbers.{fault_range}
use Rattle.rules.proofs.Tests.{decide}
use Rattle.rules.proofs.Sized.{SizedActivity, Sized}
use Rattle.encoding.specs.Bytes.{bytes_of, encode_each}
use Rattle.encoding.specs.Encode.{status_byte, fault_byte, encode_frame, encode_hold, encode_activity, encode_accumulator, encode_state}
use Rattle.program.proofs.Basic.{Bytes}
use Rattle.encoding.proofs.NumberLaws.{bytes_of_bytes}
use Rattle.encoding.proofs.EnumLaws.{registration_passes, operator_passes}
use Rattle.encoding.proofs.Fits.{FitsFrame, FitsHold, FitsAccumulator, FitsActivity, FitsState}

-- a list of bytes
record AreBytes (b : List ℕ) : Type 0 where
  pub each : Bytes b

-- no byte
no_bytes : AreBytes []
no_bytes = record { each = λ i. omega arith }

-- one byte more
cons_bytes : {x : ℕ} {b : List ℕ} → x < 256 → AreBytes b → AreBytes (x ∷ b)
cons_bytes {x} {b} h y = record { each = go }
  where
    go : Bytes (x ∷ b)
    go zero = h
    go (suc i) = y.each i

-- reserved bytes
zero_bytes : (k : ℕ) → AreBytes (replicate k 0)
zero_bytes zero = no_bytes
zero_bytes (suc k) = cons_bytes (omega arith) (zero_bytes k)

-- bytes behind bytes
append_bytes : {p q : List ℕ} → AreBytes p → AreBytes q → AreBytes (p ++ q)
append_bytes {p} x y = go p x.each y
  where
    go : (l : List ℕ) {q : List ℕ} → Bytes l → AreBytes q → AreBytes (l ++ q)
    go [] b c = c
    go (a ∷ l) b c = cons_bytes (b 0) (go l (λ i. b (suc i)) c)

-- the bytes of a number
number_bytes : (k x : ℕ) → AreBytes (bytes_of k x)
number_bytes k x = record { each = bytes_of_bytes k x }

-- the bytes of each entry
each_bytes : {A : Type 0} (e : A → List ℕ) (d : A) (l : List A) → ((i : ℕ) → i < length l → AreBytes (e (get_or l i d))) → AreBytes (encode_each e l)
unfolding encode_each
each_bytes e d [] h = no_bytes
each_bytes e d (x ∷ l) h = append_bytes (h 0 (omega arith)) (each_bytes e d l (λ i j. h (suc i) (omega arith)))

-- entries below the length are all there is
below_bytes : (l : List ℕ) (n : ℕ) → length l ≡ n → ((i : ℕ) → i < n → get_or l i 0 < 256) → AreBytes l
below_bytes l n e h = record { each = λ i. go i (decide (ltb i n)) }
  where
    go : (i : ℕ) → (ltb i n ≡ true) ⊎ (ltb i n ≡ false) → get_or l i 0 < 256
    go i (inl t) = h i (ltb-true i n t)
    go i (inr t) = let past : length l ≤ i = rw e (ltb-false i n t) in rw (get_or-eq_default l 0 past) (omega arith)

-- a fault
fault_byte_lem : (f : Fault) → fault_number f < 256
fault_byte_lem f = let h = (fault_range f).1 in omega arith

-- a standing
standing_bytes : (s : Status) → (status_byte s < 256) × (fault_byte s < 256)
standing_bytes Running = omega arith
standing_bytes AtBarrier = omega arith
standing_bytes Ended = omega arith
standing_bytes (Faulted f) = (omega arith, fault_byte_lem f)

-- a body
frame_bytes_lem : {f : Frame} → FitsFrame f → AreBytes (encode_frame f)
unfolding encode_frame
frame_bytes_lem {f} h =
    append_bytes (append_bytes (number_bytes 2 f.offset) (cons_bytes h.body (cons_bytes h.runs (cons_bytes h.first no_bytes)))) (zero_bytes 3)

-- a clock name
hold_bytes_lem : {c : Hold} → FitsHold c → AreBytes (encode_hold c)
unfolding encode_hold
hold_bytes_lem {c} h =
    let r = registration_passes c.registration in
    append_bytes (append_bytes (number_bytes 4 c.phase) (cons_bytes h.clock (cons_bytes (omega arith) no_bytes))) (zero_bytes 2)

-- an accumulator
accumulator_bytes : {c : Accumulator} → FitsAccumulator c → AreBytes (encode_accumulator c)
unfolding encode_accumulator
accumulator_bytes {c} h =
    let r = operator_passes c.operator in
    append_bytes (append_bytes (number_bytes 4 c.value) (cons_bytes h.owner (cons_bytes (omega arith) no_bytes))) (zero_bytes 18)

-- an activity
activity_bytes : {a : Activity} → SizedActivity a → FitsActivity a → AreBytes (encode_activity a)
unfolding encode_activity
activity_bytes {a} z h =
    let s = standing_bytes a.status in
    let head = append_bytes (number_bytes 4 a.register) (cons_bytes s.0 (cons_bytes s.1 (cons_bytes h.spawner (cons_bytes h.depth no_bytes)))) in
    let named = append_bytes head (below_bytes a.accumulators 8 z.names8 h.names) in
    let held = append_bytes named (each_bytes encode_hold no_hold a.holds (λ i j. hold_bytes_lem (h.holds i (rw z.holds8 at j)))) in
    append_bytes held (each_bytes encode_frame no_frame a.frames (λ i j. frame_bytes_lem (h.frames i (rw z.frames16 at j))))

-- the state
pub state_bytes : (s : State) → Sized s → FitsState s → Bytes (encode_state s)
unfolding encode_state
state_bytes s z h =
    let head = cons_bytes {x = 1} (omega arith) (cons_bytes h.activities (cons_bytes h.clocks (cons_bytes h.accumulators no_bytes))) in
    let stepped = append_bytes (append_bytes head (number_bytes 4 s.steps)) (zero_bytes 8) in
    let celled = append_bytes stepped (each_bytes (bytes_of 4) 0 s.cells (λ i j. number_bytes 4 _)) in
    let accumulated = append_bytes celled (each_bytes encode_accumulator no_accumulator s.accs (λ i j. accumulator_bytes (h.accs i (rw z.accs16 at j)))) in
    let acted = append_bytes accumulated (each_bytes encode_activity absent s.acts (λ i j. activity_bytes (z.each i (rw z.acts64 at j)) (h.acts i (rw z.acts64 at j)))) in
    acted.each
