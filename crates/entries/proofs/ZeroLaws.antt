-- Laws of bytes that are all 0: a part that is all 0 is exactly one that encodes an entry not in use.
use Prim.Native.Nat.{ℕ, max, zero, suc, ◌+◌, ◌*◌, ◌<◌, suc-le-suc}
use native.Mathlib.Omega.{arith}
use native.Mathlib.Nat.{mul-suc, mul-zero, add_comm}
use mathlib.Core.List.{List, [], ◌∷◌, ◌++◌}
use mathlib.Core.Bool.{Bool, true, false, ◌&&◌}
use mathlib.Core.Path.{◌≡◌, refl, sym, ap, ◌∙◌}
use lib.ListN.{length, get_or, take, drop, replicate, take-append-drop, length-drop}
use lib.Seq.{take-suc, take_all, take-add, drop-drop}
use lib.Dec.{eqb}
use borrow.Author.Tests.{ne_eqb}
use Rattle.std.specs.List.{fold}
use Rattle.rules.specs.declared.state.Status.{Status}
use Rattle.rules.specs.declared.state.Status.TheVariants.{Running, AtBarrier, Ended, Faulted}
use Rattle.rules.specs.Search.{all_below}
use Rattle.rules.specs.State.{no_frame, no_hold, frame, hold, bound}
use Rattle.rules.specs.WellFormed.{is_no_frame, is_no_hold, is_no_accumulator, is_no_activity, is_running}
use Rattle.rules.proofs.Tests.{and_true, and_intro, true_false}
use Rattle.rules.proofs.Search.{all_below_at, both}
use Rattle.encoding.specs.Bytes.{number_of, part, byte_at, all_zero, parts_at, parts_pass}
use Rattle.encoding.specs.Encode.{status_byte, fault_byte}
use Rattle.encoding.specs.Decode.{status_of, status_passes, frame_at, hold_at, activity_at, accumulator_at, frame_encodes, hold_encodes, activity_encodes, accumulator_encodes}
use Rattle.encoding.proofs.NumberLaws.{zeros}
use Rattle.encoding.proofs.FieldLaws.{sized}
use Rattle.encoding.proofs.PartLaws.{parts_at_at, parts_pass_at, turn_fits}
use Rattle.encoding.proofs.EnumLaws.{registration_back, operator_back, status_back}
use Rattle.encoding.proofs.Passed.{hold_passes, accumulator_passes_lem, activity_passes_lem}

-- BYTES THAT ARE 0

-- two lists
pub zero_append : (p q : List ℕ) → all_zero (p ++ q) ≡ all_zero p && all_zero q
unfolding all_zero
zero_append [] q = refl
zero_append (x ∷ p) q = rw (zero_append p q) (by (eqb x 0))
  where
    by : (y : Bool) → y && (all_zero p && all_zero q) ≡ (y && all_zero p) && all_zero q
    by true = refl
    by false = refl

-- a part
pub zero_take : (k : ℕ) (b : List ℕ) → all_zero b ≡ true → all_zero (take k b) ≡ true
unfolding all_zero
zero_take zero b e = refl
zero_take (suc k) [] e = refl
zero_take (suc k) (x ∷ b) e = let h = and_true (eqb x 0) (all_zero b) e in and_intro (eqb x 0) _ h.0 (zero_take k b h.1)

-- what is behind it
pub zero_drop : (k : ℕ) (b : List ℕ) → all_zero b ≡ true → all_zero (drop k b) ≡ true
unfolding all_zero
zero_drop zero b e = e
zero_drop (suc k) [] e = refl
zero_drop (suc k) (x ∷ b) e = zero_drop k b (and_true (eqb x 0) (all_zero b) e).1

-- of each byte
zero_each : (b : List ℕ) → ((i : ℕ) → i < length b → eqb (get_or b i 0) 0 ≡ true) → all_zero b ≡ true
unfolding all_zero
zero_each [] h = refl
zero_each (x ∷ b) h = and_intro (eqb x 0) _ (h 0 (omega arith)) (zero_each b (λ i j. h (suc i) (suc-le-suc j)))

-- a number is 0 where its bytes are
pub zero_number : (b : List ℕ) → eqb (number_of b) 0 ≡ all_zero b
unfolding all_zero number_of
zero_number [] = refl
zero_number (x ∷ b) = sum x (number_of b) ∙ ap (λ q. eqb x 0 && q) (zero_number b)
  where
    sum : (x n : ℕ) → eqb (x + 256 * n) 0 ≡ eqb x 0 && eqb n 0
    sum zero zero = refl
    sum zero (suc n) = rw (ne_eqb (0 + 256 * suc n) 0 (λ e. omega arith), ne_eqb (suc n) 0 (λ e. omega arith))
    sum (suc x) n = rw (ne_eqb (suc x + 256 * n) 0 (λ e. omega arith), ne_eqb (suc x) 0 (λ e. omega arith))

-- each of n parts
pub zero_parts : (k n : ℕ) (b : List ℕ) → length b ≡ k * n → ((i : ℕ) → i < n → all_zero (part b (k * i) k) ≡ true) → all_zero b ≡ true
unfolding all_zero
zero_parts k zero b l h = none b (l ∙ mul-zero k)
  where
    none : (c : List ℕ) → length c ≡ 0 → all_zero c ≡ true
    none [] e = refl
    none (x ∷ c) e = absurd (omega arith)
zero_parts k (suc n) b l h =
    let m : length b ≡ k * n + k = l ∙ mul-suc k n in
    let first : all_zero (take k b) ≡ true = rw mul-zero at (h 0 (omega arith)) in
    let rest = zero_parts k n (drop k b) (rw length-drop (omega arith)) (λ i j. rw (drop-drop, add_comm k (k * i), ← mul-suc) (h (suc i) (suc-le-suc j))) in
    rw take-append-drop at (zero_append (take k b) (drop k b) ∙ and_intro (all_zero (take k b)) _ first rest)

-- THE GREATEST BYTE

-- the greater of two is 0 where both are
both_zero : (m x : ℕ) → eqb (max m x) 0 ≡ eqb m 0 && eqb x 0
both_zero zero zero = refl
both_zero zero (suc x) = rw (ne_eqb (max 0 (suc x)) 0 (λ e. omega arith), ne_eqb (suc x) 0 (λ e. omega arith))
both_zero (suc m) x = rw (ne_eqb (max (suc m) x) 0 (λ e. omega arith), ne_eqb (suc m) 0 (λ e. omega arith))

-- the greatest of bytes is 0 where each is
pub greatest : (m : ℕ) (b : List ℕ) → eqb (fold max m b) 0 ≡ eqb m 0 && all_zero b
unfolding all_zero
greatest m [] = by (eqb m 0)
  where
    by : (q : Bool) → q ≡ q && true
    by true = refl
    by false = refl
greatest m (x ∷ b) = greatest (max m x) b ∙ rw (both_zero m x) (by (eqb m 0))
  where
    by : (q : Bool) → (q && eqb x 0) && all_zero b ≡ q && (eqb x 0 && all_zero b)
    by true = refl
    by false = refl

-- ONE FIELD AFTER THE OTHER

-- the first so many bytes are 0
record Clear (b : List ℕ) (at : ℕ) : Type 0 where
  pub clear : all_zero (take at b) ≡ true

-- none
clear_none : (b : List ℕ) → Clear b 0
unfolding all_zero
clear_none b = record { clear = refl }

-- one part more
clear_field : {b : List ℕ} {at : ℕ} (k : ℕ) → Clear b at → all_zero (part b at k) ≡ true → Clear b (at + k)
clear_field {b} {at} k h e = record { clear = rw take-add (zero_append (take at b) (part b at k) ∙ and_intro (all_zero (take at b)) _ h.clear e) }

-- one number more
clear_number : {b : List ℕ} {at : ℕ} (k : ℕ) → Clear b at → eqb (number_of (part b at k)) 0 ≡ true → Clear b (at + k)
clear_number {b} {at} k h e = clear_field k h (sym (zero_number (part b at k)) ∙ e)

-- one byte more
clear_byte : {b : List ℕ} {at : ℕ} → Clear b at → at < length b → eqb (byte_at b at) 0 ≡ true → Clear b (suc at)
unfolding all_zero
clear_byte {b} {at} h l e =
    let one = and_intro (eqb (byte_at b at) 0) true e refl in
    record { clear = rw (take-suc b at 0 l) (zero_append (take at b) (byte_at b at ∷ []) ∙ and_intro (all_zero (take at b)) _ h.clear one) }

-- all
clear_all : {b : List ℕ} {n : ℕ} → Clear b n → length b ≡ n → all_zero b ≡ true
clear_all {b} {n} h l = rw (take_all n b (omega arith)) at h.clear

-- bytes that are all 0 are the zeros
zero_is : {b : List ℕ} {k : ℕ} → length b ≡ k → all_zero b ≡ true → b ≡ replicate k 0
zero_is {b} {k} l e = sym (zeros b e) ∙ ap (λ n. replicate n 0) l

-- ENTRIES NOT IN USE

-- bytes that are all 0 are exactly those that encode an entry not in use
pub record Unused {A : Type 0} (k : ℕ) (p : List ℕ → Bool) (f : List ℕ → A) (isNo : A → Bool) : Type 0 where
  pub is : (b : List ℕ) → length b ≡ k → all_zero b ≡ p b && isNo (f b)

-- from the zeros by computing, to them field by field
unused_by : {A : Type 0} {k : ℕ} {p : List ℕ → Bool} {f : List ℕ → A} {isNo : A → Bool}
    → p (replicate k 0) && isNo (f (replicate k 0)) ≡ true
    → ((b : List ℕ) → length b ≡ k → p b ≡ true → isNo (f b) ≡ true → all_zero b ≡ true)
    → Unused k p f isNo
unused_by {k = k} {p = p} {f = f} {isNo = isNo} z g =
    record {
      is = λ b l. both (all_zero b) (p b && isNo (f b)) (λ e. rw (zero_is l e) z) (λ e. let h = and_true (p b) (isNo (f b)) e in g b l h.0 h.1);
    }

-- a body
pub frame_unused : Unused 8 frame_encodes frame_at is_no_frame
unfolding frame_encodes frame_at all_zero number_of
frame_unused = unused_by refl go
  where
    go : (b : List ℕ) → length b ≡ 8 → frame_encodes b ≡ true → is_no_frame (frame_at b) ≡ true → all_zero b ≡ true
    go b l t e =
        let x = and_true (eqb (frame_at b).offset 0) _ e in
        let y = and_true (eqb (frame_at b).body 0) _ x.1 in
        let z = and_true (eqb (frame_at b).runs 0) _ y.1 in
        let start = clear_number 2 (clear_none b) x.0 in
        let named = clear_byte (clear_byte (clear_byte start (omega arith) y.0) (omega arith) z.0) (omega arith) z.1 in
        clear_all (clear_field 3 named t) l

-- a clock name
pub hold_unused : Unused 8 hold_encodes hold_at is_no_hold
unfolding hold_encodes hold_at all_zero number_of
hold_unused = unused_by refl go
  where
    go : (b : List ℕ) → length b ≡ 8 → hold_encodes b ≡ true → is_no_hold (hold_at b) ≡ true → all_zero b ≡ true
    go b l t e =
        let h = hold_passes b t in
        let x = and_true (eqb (hold_at b).phase 0) _ e in
        let y = and_true (eqb (hold_at b).clock 0) _ x.1 in
        let start = clear_number 4 (clear_none b) x.0 in
        let named = clear_byte (clear_byte start (omega arith) y.0) (omega arith) (rw (registration_back (byte_at b 5) h.registration) y.1) in
        clear_all (clear_field 2 named h.reserved) l

-- an accumulator
pub accumulator_unused : Unused 24 accumulator_encodes accumulator_at is_no_accumulator
unfolding accumulator_encodes accumulator_at all_zero number_of
accumulator_unused = unused_by refl go
  where
    go : (b : List ℕ) → length b ≡ 24 → accumulator_encodes b ≡ true → is_no_accumulator (accumulator_at b) ≡ true → all_zero b ≡ true
    go b l t e =
        let h = accumulator_passes_lem b t in
        let x = and_true (eqb (accumulator_at b).value 0) _ e in
        let y = and_true (eqb (accumulator_at b).owner 0) _ x.1 in
        let start = clear_number 4 (clear_none b) x.0 in
        let named = clear_byte (clear_byte start (omega arith) y.0) (omega arith) (rw (operator_back (byte_at b 5) h.operator) y.1) in
        clear_all (clear_field 18 named h.reserved) l

-- all of n entries
each_unused : {A : Type 0} {k : ℕ} {p : List ℕ → Bool} {f : List ℕ → A} {isNo : A → Bool} → Unused k p f isNo → (n : ℕ) (d : A) (b : List ℕ) → length b ≡ k * n → parts_pass k n p b ≡ true
    → all_below n (λ i. isNo (get_or (parts_at k n f b) i d)) ≡ true → all_zero b ≡ true
each_unused {k = k} {p = p} {f = f} {isNo = isNo} u n d b l t e =
    zero_parts k n b l
    (λ i j.
    let c = part b (k * i) k in
    let q : isNo (f c) ≡ true = rw (parts_at_at k n i f b d j) at (all_below_at n (λ x. isNo (get_or (parts_at k n f b) x d)) e i j) in
    u.is c (sized b (k * i) k k refl (rw l (turn_fits k j))) ∙ and_intro (p c) _ (parts_pass_at k n i p b t j) q)

-- a standing that is running
running : (n f : ℕ) → status_passes n f ≡ true → is_running (status_of n f) ≡ true → (eqb n 0 ≡ true) × (eqb f 0 ≡ true)
running n f t e = let q = status_back n f t in let z = go (status_of n f) e in (ap (λ x. eqb x 0) q.0 ∙ z.0, ap (λ x. eqb x 0) q.1 ∙ z.1)
  where
    go : (x : Status) → is_running x ≡ true → (eqb (status_byte x) 0 ≡ true) × (eqb (fault_byte x) 0 ≡ true)
    go Running i = (refl, refl)
    go AtBarrier i = absurd (true_false false i refl)
    go Ended i = absurd (true_false false i refl)
    go (Faulted g) i = absurd (true_false false i refl)

unused_activity : (b : List ℕ) → length b ≡ 208 → activity_encodes b ≡ true → is_no_activity (activity_at b) ≡ true → all_zero b ≡ true
unfolding activity_at is_no_activity
unused_activity b l t e =
    let a = activity_at b in
    let h = activity_passes_lem b t in
    let x = and_true (eqb a.register 0) _ e in
    let y = and_true (all_below 16 (λ d. is_no_frame (frame a d))) _ x.1 in
    let z = and_true (all_below 8 (λ k. is_no_hold (hold a k))) _ y.1 in
    let u = and_true (all_below 8 (λ n. eqb (bound a n) 0)) _ z.1 in
    let v = and_true (is_running a.status) _ u.1 in
    let w = and_true (eqb a.spawner 0) _ v.1 in
    let s = running (byte_at b 4) (byte_at b 5) h.status v.0 in
    let start = clear_number 4 (clear_none b) x.0 in
    let standing = clear_byte (clear_byte start (omega arith) s.0) (omega arith) s.1 in
    let spawned = clear_byte (clear_byte standing (omega arith) w.0) (omega arith) w.1 in
    let n8 : length (part b 8 8) ≡ 8 = sized b 8 8 8 refl (omega arith) in
    let named = clear_field 8 spawned (zero_each (part b 8 8) (λ i j. all_below_at 8 (λ n. eqb (bound a n) 0) u.0 i (rw n8 at j))) in
    let held = clear_field 64 named (each_unused hold_unused 8 no_hold (part b 16 64) (sized b 16 64 64 refl (omega arith)) h.holds z.0) in
    let framed = clear_field 128 held (each_unused frame_unused 16 no_frame (part b 80 128) (sized b 80 128 128 refl (omega arith)) h.frames y.0) in
    clear_all framed l

-- an activity
pub activity_unused : Unused 208 activity_encodes activity_at is_no_activity
unfolding activity_encodes activity_at is_no_activity hold_encodes hold_at frame_encodes frame_at all_zero number_of parts_at parts_pass all_below
activity_unused = unused_by refl unused_activity
