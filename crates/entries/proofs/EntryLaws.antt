-- Laws of the entries within an activity's bytes.
use Prim.Native.Nat.{ℕ, zero, suc, ◌+◌, ◌-◌, ◌*◌, ◌≤◌, ◌<◌}
use native.Mathlib.Omega.{arith}
use mathlib.Core.List.{List, [], ◌∷◌, ◌++◌}
use mathlib.Core.Bool.{true, ◌&&◌}
use mathlib.Core.Path.{◌≡◌, refl, sym, ap, ◌∙◌}
use lib.ListN.{get_or, take, drop}
use lib.Dec.{eqb}
use borrow.Author.Tests.{ne_eqb}
use lib.Seq.{take-take, take-add, drop-drop, get_or-take, get_or-drop}
use Rattle.rules.specs.State.{frame, hold, no_frame, no_hold}
use Rattle.encoding.specs.Bytes.{number_of, part, byte_at, all_zero}
use Rattle.encoding.specs.Decode.{registration_of, frame_at, hold_at, activity_at, hold_encodes}
use Rattle.entries.specs.Entries.{frame_bytes, hold_bytes}
use Rattle.encoding.proofs.PartLaws.{parts_at_at}
use Rattle.encoding.proofs.Passed.{hold_passes}
use Rattle.fields.proofs.Within.{lent_part, get_part}
use Rattle.entries.proofs.ZeroLaws.{zero_append, zero_number}

-- a part of the first n bytes
inner : (k i n : ℕ) (c : List ℕ) → i + k ≤ n → take k (drop i (take n c)) ≡ take k (drop i c)
inner k zero n c h = take-take k n c (omega arith)
inner k (suc i) zero c h = absurd (omega arith)
inner k (suc i) (suc n) [] h = refl
inner k (suc i) (suc n) (x ∷ c) h = inner k i n c (omega arith)

-- a part of a part
part_part : (b : List ℕ) (at n i k : ℕ) → i + k ≤ n → part (part b at n) i k ≡ part b (at + i) k
part_part b at n i k h = inner k i n (drop at b) h ∙ rw (drop-drop)

-- the bytes of body d of the stack
pub frame_bytes_lem : (b : List ℕ) (d : ℕ) → d < 16 → take (80 + 8 * d + 8 - (80 + 8 * d)) (drop (80 + 8 * d) b) ≡ frame_bytes b d
frame_bytes_lem b d h = lent_part (80 + 8 * d) 8 b ∙ sym (part_part b 80 128 (8 * d) 8 (omega arith))

-- and the body
pub frame_is : (b : List ℕ) (d : ℕ) → d < 16 → frame_at (frame_bytes b d) ≡ frame (activity_at b) d
unfolding activity_at
frame_is b d h = sym (parts_at_at 8 16 d frame_at (part b 80 128) no_frame h)

-- the bytes of clock name k
pub hold_bytes_lem : (b : List ℕ) (k : ℕ) → k < 8 → take (16 + 8 * k + 8 - (16 + 8 * k)) (drop (16 + 8 * k) b) ≡ hold_bytes b k
hold_bytes_lem b k h = lent_part (16 + 8 * k) 8 b ∙ sym (part_part b 16 64 (8 * k) 8 (omega arith))

-- and the name
hold_is : (b : List ℕ) (k : ℕ) → k < 8 → hold_at (hold_bytes b k) ≡ hold (activity_at b) k
unfolding activity_at
hold_is b k h = sym (parts_at_at 8 8 k hold_at (part b 16 64) no_hold h)

-- its bytes are all 0 where its first four and its last four are
module _ (b : List ℕ) (k : ℕ) (h : k < 8) where
  halves : all_zero (hold_bytes b k) ≡ eqb (number_of (part b (16 + 8 * k) 4)) 0 && eqb (number_of (part b (16 + 8 * k + 4) 4)) 0
  halves =
      let at = 16 + 8 * k in
      let o : hold_bytes b k ≡ part b at 4 ++ part b (at + 4) 4 = part_part b 16 64 (8 * k) 8 (omega arith) ∙ take-add 4 4 (drop at b) ∙ rw (drop-drop) in
      ap all_zero o ∙ zero_append (part b at 4) (part b (at + 4) 4) ∙ rw (zero_number (part b at 4), zero_number (part b (at + 4) 4))

  module _ {x : ℕ} (is : x ≡ number_of (take (16 + 8 * k + 4 - (16 + 8 * k)) (drop (16 + 8 * k) b))) where
    first : eqb (number_of (part b (16 + 8 * k) 4)) 0 ≡ eqb x 0
    first = ap (λ n. eqb n 0) (sym (get_part b (16 + 8 * k) 4 is))

    pub first_not : (x ≡ 0 → ⊥) → eqb x 0 ≡ all_zero (hold_bytes b k)
    first_not n = ne_eqb x 0 n ∙ sym (halves ∙ rw (first, ne_eqb x 0 n))

    pub first_zero : {y : ℕ} → y ≡ number_of (take (16 + 8 * k + 4 + 4 - (16 + 8 * k + 4)) (drop (16 + 8 * k + 4) b)) → x ≡ 0 → eqb y 0 ≡ all_zero (hold_bytes b k)
    first_zero w z = ap (λ n. eqb n 0) (get_part b (16 + 8 * k + 4) 4 w) ∙ sym (halves ∙ rw (first, z))

-- a number below 65,536 is in its lower two bytes
low_half : (b : List ℕ) → number_of (take 4 b) ≤ 65535 → number_of (take 2 b) ≡ number_of (take 4 b)
unfolding number_of
low_half [] h = refl
low_half (x ∷ []) h = refl
low_half (x ∷ y ∷ []) h = refl
low_half (x ∷ y ∷ z ∷ []) h = omega arith
low_half (x ∷ y ∷ z ∷ w ∷ b) h = omega arith

-- what is read of a clock name's bytes
pub hold_read : (b : List ℕ) (k n : ℕ) → k < 8 → n ≡ number_of (take (16 + 8 * k + 2 - (16 + 8 * k)) (drop (16 + 8 * k) b)) → hold_encodes (hold_bytes b k) ≡ true
    → record { phase = n; clock = get_or b (16 + 8 * k + 4) 0; registration = registration_of (get_or b (16 + 8 * k + 5) 0) } ≡ hold (activity_at b) k
unfolding hold_at
hold_read b k n j q t =
    let c = hold_bytes b k in
    let at = 16 + 8 * k in
    let o : c ≡ part b at 8 = part_part b 16 64 (8 * k) 8 (omega arith) in
    let low : take 2 (drop at b) ≡ take 2 c = sym (take-take 2 8 (drop at b) (omega arith)) ∙ ap (take 2) (sym o) in
    let phase : n ≡ number_of (part c 0 4) = q ∙ ap number_of (lent_part at 2 b ∙ low) ∙ low_half c (hold_passes c t).phase in
    let byte : (i : ℕ) → i < 8 → get_or b (at + i) 0 ≡ byte_at c i = λ i l. sym (ap (λ x. get_or x i 0) o ∙ get_or-take 8 (drop at b) i 0 l ∙ get_or-drop at b i 0) in
    rw (phase, byte 4 (omega arith), byte 5 (omega arith)) (hold_is b k j)
