-- Laws of numbers as bytes, over the number of bytes: a number comes back from its bytes, and bytes come back from their number.
use Prim.Native.Nat.{ℕ, zero, suc, ◌+◌, ◌-◌, ◌*◌, ◌/◌, ◌%◌, ◌^◌, ◌≤◌, ◌<◌}
use native.Mathlib.Omega.{arith}
use native.Mathlib.Nat.{not-suc-le-zero, pow-succ', le_of_suc-le-suc}
use mathlib.Core.List.{List, [], ◌∷◌, ◌++◌}
use mathlib.Core.Bool.{true, ◌&&◌}
use mathlib.Core.Path.{◌≡◌, refl, sym, ap, ◌∙◌}
use lib.ListN.{length, get_or, set, replicate, length-append, length-replicate}
use borrow.Rule.Slice.PartMut.{put_mid}
use lib.Dec.{eqb}
use borrow.Author.Tests.{eqb-true}
use Rattle.std.specs.Int.{w16, w32, from_le_bytes, to_le_bytes}
use Rattle.std.specs.List.{list_all}
use Rattle.std.proofs.lemmas.Nat.{le_bytes_2, le_bytes_4}
use Rattle.std.proofs.lemmas.List.{drop-replicate}
use Rattle.program.proofs.Basic.{Bytes}
use Rattle.rules.proofs.Tests.{and_true}
use Rattle.encoding.specs.Bytes.{bytes_of, number_of, all_zero}

-- NUMBERS

-- some number has as many bytes
pub power_positive : (k : ℕ) → 0 < 256 ^ k
power_positive zero = omega arith
power_positive (suc k) = rw pow-succ' (let h = power_positive k in omega arith)

-- as many bytes as asked for
pub bytes_of_length : (k x : ℕ) → length (bytes_of k x) ≡ k
unfolding bytes_of
bytes_of_length zero x = refl
bytes_of_length (suc k) x = ap suc (bytes_of_length k (x / 256))

-- each of them a byte
pub bytes_of_bytes : (k x : ℕ) → Bytes (bytes_of k x)
unfolding bytes_of
bytes_of_bytes zero x i = omega arith
bytes_of_bytes (suc k) x zero = omega arith
bytes_of_bytes (suc k) x (suc i) = bytes_of_bytes k (x / 256) i

-- as many bytes as are read bound the number
pub number_below : (k : ℕ) (b : List ℕ) → Bytes b → length b ≤ k → number_of b < 256 ^ k
unfolding number_of
number_below k [] h l = power_positive k
number_below zero (x ∷ b) h l = absurd (not-suc-le-zero l)
number_below (suc k) (x ∷ b) h l =
    let r : number_of b < 256 ^ k = number_below k b (λ i. h (suc i)) (le_of_suc-le-suc l) in
    let x<256 : x < 256 = h 0 in
    rw pow-succ' (omega arith)

-- a number that fits comes back from its bytes
pub number_of_bytes : (k x : ℕ) → x < 256 ^ k → number_of (bytes_of k x) ≡ x
unfolding bytes_of number_of
number_of_bytes zero x h = omega arith
number_of_bytes (suc k) x h =
    let h' : x < 256 * 256 ^ k = rw pow-succ' at h in
    rw (number_of_bytes k (x / 256) (omega arith)) (omega arith)

-- bytes come back from their number
pub bytes_of_number : (b : List ℕ) → Bytes b → bytes_of (length b) (number_of b) ≡ b
unfolding bytes_of number_of
bytes_of_number [] h = refl
bytes_of_number (x ∷ b) h =
    let x<256 : x < 256 = h 0 in
    let low : (x + 256 * number_of b) % 256 ≡ x = omega arith in
    let high : (x + 256 * number_of b) / 256 ≡ number_of b = omega arith in
    rw (low, high, bytes_of_number b (λ i. h (suc i)))

-- THE BYTES OF A WIDTH

-- the number of one byte
pub number_of_one : (b : List ℕ) → length b ≡ 1 → get_or b 0 0 ≡ number_of b
unfolding number_of
number_of_one [] h = absurd (omega arith)
number_of_one (p ∷ []) h = omega arith
number_of_one (p ∷ q ∷ b) h = absurd (omega arith)

-- and the byte of a number
pub one_byte : (b : List ℕ) (x : ℕ) → length b ≡ 1 → x < 256 → set b 0 x ≡ bytes_of 1 x
unfolding bytes_of
one_byte [] x h l = absurd (omega arith)
one_byte (p ∷ []) x h l = let e : x % 256 ≡ x = omega arith in rw e
one_byte (p ∷ q ∷ b) x h l = absurd (omega arith)

-- std's number of four bytes
pub number_of_four : (b : List ℕ) → length b ≡ 4 → from_le_bytes w32 b ≡ number_of b
unfolding number_of
number_of_four [] h = absurd (omega arith)
number_of_four (p ∷ []) h = absurd (omega arith)
number_of_four (p ∷ q ∷ []) h = absurd (omega arith)
number_of_four (p ∷ q ∷ r ∷ []) h = absurd (omega arith)
number_of_four (p ∷ q ∷ r ∷ s ∷ []) h = omega arith
number_of_four (p ∷ q ∷ r ∷ s ∷ t ∷ b) h = absurd (omega arith)

-- and of two
pub number_of_two : (b : List ℕ) → length b ≡ 2 → from_le_bytes w16 b ≡ number_of b
unfolding number_of
number_of_two [] h = absurd (omega arith)
number_of_two (p ∷ []) h = absurd (omega arith)
number_of_two (p ∷ q ∷ []) h = omega arith
number_of_two (p ∷ q ∷ r ∷ b) h = absurd (omega arith)

-- std's four bytes of a number
pub four_bytes : (x : ℕ) → x < 2 ^ 32 → to_le_bytes w32 x ≡ bytes_of 4 x
four_bytes x h = le_bytes_4 (bytes_of 4 x) x (bytes_of_length 4 x) (bytes_of_bytes 4 x) (sym (number_of_four (bytes_of 4 x) (bytes_of_length 4 x) ∙ number_of_bytes 4 x (omega arith)))

-- and two
pub two_bytes : (x : ℕ) → x < 2 ^ 16 → to_le_bytes w16 x ≡ bytes_of 2 x
two_bytes x h = le_bytes_2 (bytes_of 2 x) x (bytes_of_length 2 x) (bytes_of_bytes 2 x) (sym (number_of_two (bytes_of 2 x) (bytes_of_length 2 x) ∙ number_of_bytes 2 x (omega arith)))

-- zeros behind bytes add nothing to their number
number_of-zeros : (b : List ℕ) (k : ℕ) → number_of (b ++ replicate k 0) ≡ number_of b
unfolding number_of
number_of-zeros [] zero = refl
number_of-zeros [] (suc k) = rw (number_of-zeros [] k)
number_of-zeros (x ∷ b) k = rw (number_of-zeros b k)

-- at most four bytes, copied over four zeros
pub number_of_padded : (b e : List ℕ) (m : ℕ) → e ≡ b → m ≡ length b → length b ≤ 4 → from_le_bytes w32 (put_mid 0 m (replicate 4 0) e) ≡ number_of b
number_of_padded b e m v w h =
    let p : put_mid 0 m (replicate 4 0) e ≡ b ++ replicate (4 - length b) 0 = rw (v, w, drop-replicate {X = ℕ} (length b) 4 0) in
    let l : length (b ++ replicate (4 - length b) 0) ≡ 4 = rw (length-append, length-replicate) (omega arith) in
    rw p (number_of_four (b ++ replicate (4 - length b) 0) l ∙ number_of-zeros b (4 - length b))

-- RESERVED BYTES

-- reserved bytes, as the library's method reads them
pub all_zero-list_all : (b : List ℕ) → list_all (λ x. eqb x 0) b ≡ all_zero b
unfolding all_zero
all_zero-list_all [] = refl
all_zero-list_all (x ∷ b) = ap (λ t. eqb x 0 && t) (all_zero-list_all b)

-- reserved bytes are the zeros
pub zeros : (b : List ℕ) → all_zero b ≡ true → replicate (length b) 0 ≡ b
unfolding all_zero
zeros [] e = refl
zeros (x ∷ b) e =
    let q = and_true (eqb x 0) (all_zero b) e in
    rw (eqb-true x 0 q.0, zeros b q.1)
