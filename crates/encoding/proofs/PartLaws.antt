-- Laws of n parts of k bytes each: the loops that test, read and write them.
use Prim.Native.Nat.{ℕ, zero, suc, ◌+◌, ◌-◌, ◌*◌, ◌≤◌, ◌<◌}
use native.Mathlib.Omega.{arith}
use native.Mathlib.Nat.{not-suc-le-zero, le_of_suc-le-suc, mul-suc, mul-zero, mul-le-mul_left, add_comm, add-sub_cancel_left}
use native.Mathlib.Numerals.{add-one}
use mathlib.Core.List.{List, [], ◌∷◌, ◌++◌, append-nil, append_assoc}
use mathlib.Core.Bool.{Bool, true, false, ◌&&◌}
use mathlib.Core.Path.{◌≡◌, refl, sym, ap, ◌∙◌}
use lib.ListN.{length, get_or, take, drop, set, length-set}
use lib.Seq.{take-suc-set, take_all, drop-drop}
use borrow.Rule.Slice.PartMut.{put_mid}
use Rattle.rules.proofs.Tests.{and_true}
use Rattle.encoding.specs.Bytes.{part, encode_each, parts_at, parts_pass}
use Rattle.encoding.proofs.FieldLaws.{Upto, none_yet, put, all}

-- THE PART OF A TURN

-- the part of a turn of a loop
pub turn : (k i : ℕ) → k * i + k - k * i ≡ k
turn k i = add-sub_cancel_left (k * i) k

-- lies within all parts
pub turn_fits : {i n : ℕ} (k : ℕ) → i < n → k * i + k ≤ k * n
turn_fits {i} k h = rw (← mul-suc) (mul-le-mul_left k h)

-- ONE PART MORE

-- the next part from one part on
drop_turn : (k i : ℕ) (b : List ℕ) → drop (k * i) (drop k b) ≡ drop (k * suc i) b
drop_turn k i b = rw (drop-drop, mul-suc, add_comm (k * i) k)

-- the bytes of one entry more
pub encode_each_more : {A : Type 0} (f : A → List ℕ) (l : List A) (i : ℕ) (d : A) → i < length l → encode_each f (take (suc i) l) ≡ encode_each f (take i l) ++ f (get_or l i d)
unfolding encode_each
encode_each_more f [] i d h = absurd (not-suc-le-zero h)
encode_each_more f (x ∷ l) zero d h = append-nil (f x)
encode_each_more f (x ∷ l) (suc i) d h = rw (encode_each_more f l i d (le_of_suc-le-suc h), ← append_assoc)

-- one entry more
pub parts_at_more : {A : Type 0} (k i : ℕ) (f : List ℕ → A) (b : List ℕ) → parts_at k (suc i) f b ≡ parts_at k i f b ++ (f (part b (k * i) k) ∷ [])
unfolding parts_at
parts_at_more k zero f b = rw mul-zero
parts_at_more k (suc i) f b =
    ap (λ l. f (take k b) ∷ l) (parts_at_more k i f (drop k b)) ∙ rw (drop_turn k i b)

-- one test more
pub parts_pass_more : (k n i : ℕ) (p : List ℕ → Bool) (b : List ℕ) → i < n
    → parts_pass k (n - i) p (drop (k * i) b) ≡ p (part b (k * i) k) && parts_pass k (n - (i + 1)) p (drop (k * (i + 1)) b)
unfolding parts_pass
parts_pass_more k n i p b h =
    let q : n - i ≡ suc (n - (i + 1)) = omega arith in
    rw (q, drop-drop, add-one i, mul-suc)

-- what passes whole passes at each part
pub parts_pass_at : (k n i : ℕ) (p : List ℕ → Bool) (b : List ℕ) → parts_pass k n p b ≡ true → i < n → p (part b (k * i) k) ≡ true
unfolding parts_pass
parts_pass_at k zero i p b e h = absurd (not-suc-le-zero h)
parts_pass_at k (suc n) zero p b e h = rw mul-zero (and_true (p (take k b)) _ e).0
parts_pass_at k (suc n) (suc i) p b e h =
    let r = parts_pass_at k n i p (drop k b) (and_true (p (take k b)) _ e).1 (le_of_suc-le-suc h) in
    rw (drop_turn k i b) at r

-- the entry of a part
pub parts_at_at : {A : Type 0} (k n i : ℕ) (f : List ℕ → A) (b : List ℕ) (d : A) → i < n → get_or (parts_at k n f b) i d ≡ f (part b (k * i) k)
unfolding parts_at
parts_at_at k zero i f b d h = absurd (not-suc-le-zero h)
parts_at_at k (suc n) zero f b d h = rw mul-zero
parts_at_at k (suc n) (suc i) f b d h = parts_at_at k n i f (drop k b) d (le_of_suc-le-suc h) ∙ rw (drop_turn k i b)

-- a test that everything passes
pub parts_pass_all : (k n : ℕ) (b : List ℕ) → parts_pass k n (λ c. true) b ≡ true
unfolding parts_pass
parts_pass_all k zero b = refl
parts_pass_all k (suc n) b = parts_pass_all k n (drop k b)

-- as many entries as parts
pub parts_at_length : {A : Type 0} (k n : ℕ) (f : List ℕ → A) (b : List ℕ) → length (parts_at k n f b) ≡ n
unfolding parts_at
parts_at_length k zero f b = refl
parts_at_length k (suc n) f b = ap suc (parts_at_length k n f (drop k b))

-- THE LOOP THAT TESTS

-- the parts from i on decide
pub record Passing (p : List ℕ → Bool) (b : List ℕ) (k n i : ℕ) : Type 0 where
  pub within : i ≤ n
  pub left : parts_pass k (n - i) p (drop (k * i) b) ≡ parts_pass k n p b

-- the part of a turn and those after it
pass_turned : {p : List ℕ → Bool} {b : List ℕ} {k n i : ℕ} {t : Bool} → Passing p b k n i → i < n → t ≡ p (take (k * i + k - k * i) (drop (k * i) b))
    → t && parts_pass k (n - (i + 1)) p (drop (k * (i + 1)) b) ≡ parts_pass k n p b
pass_turned {p} {b} {k} {n} {i} l h w = rw (w, turn k i) (sym (parts_pass_more k n i p b h) ∙ l.left)

-- the part of a turn passes
pub pass_on : {p : List ℕ → Bool} {b : List ℕ} {k n i : ℕ} {t : Bool} → Passing p b k n i → i < n → t ≡ p (take (k * i + k - k * i) (drop (k * i) b)) → t ≡ true
    → Passing p b k n (i + 1)
pass_on l h w e = record { within = omega arith; left = rw e at (pass_turned l h w) }

-- it does not pass
pub pass_not : {p : List ℕ → Bool} {b : List ℕ} {k n i : ℕ} {t : Bool} → Passing p b k n i → i < n → t ≡ p (take (k * i + k - k * i) (drop (k * i) b)) → t ≡ false
    → false ≡ parts_pass k n p b
pass_not l h w e = rw e at (pass_turned l h w)

-- all passed
pub pass_done : {p : List ℕ → Bool} {b : List ℕ} {k n i : ℕ} → Passing p b k n i → n ≤ i → true ≡ parts_pass k n p b
unfolding parts_pass
pass_done {n = n} {i = i} l h = let q : n - i ≡ 0 = omega arith in rw q at l.left

-- where all passed, the part of a turn does
pub pass_turn : (k n i : ℕ) (p : List ℕ → Bool) (b : List ℕ) → parts_pass k n p b ≡ true → i < n → p (take (k * i + k - k * i) (drop (k * i) b)) ≡ true
pass_turn k n i p b e h = rw (turn k i) (parts_pass_at k n i p b e h)

-- THE LOOP THAT READS

-- the first i entries are read
pub record Reads {A : Type 0} (f : List ℕ → A) (b : List ℕ) (k n i : ℕ) (a : List A) : Type 0 where
  pub within : i ≤ n
  pub size : length a ≡ n
  pub done : take i a ≡ parts_at k i f b

-- none is read
pub read_none : {A : Type 0} (f : List ℕ → A) (b : List ℕ) (k n : ℕ) (a : List A) → length a ≡ n → Reads f b k n 0 a
unfolding parts_at
read_none f b k n a h = record { within = omega arith; size = h; done = refl }

-- one entry more is read
pub read_more : {A : Type 0} {f : List ℕ → A} {b : List ℕ} {a : List A} {k n i : ℕ} (v : A) → Reads f b k n i a → i < n → v ≡ f (take (k * i + k - k * i) (drop (k * i) b))
    → Reads f b k n (i + 1) (set a i v)
read_more {f = f} {b = b} {a = a} {k = k} {i = i} v l j w =
    record {
      within = omega arith;
      size = simp length-set l.size;
      done = rw (add-one, take-suc-set a i v (rw l.size j), l.done, parts_at_more k i f b, w, turn k i);
    }

-- THE LOOP THAT WRITES

-- the first i entries are written
abbrev pub Each : {A : Type 0} → (A → List ℕ) → List A → ℕ → ℕ → ℕ → List ℕ → Type 0
Each f xs k n i l = (i ≤ n) × Upto l (k * n) (k * i) (encode_each f (take i xs))

pub write_none : {A : Type 0} (f : A → List ℕ) (xs : List A) (k n : ℕ) (l : List ℕ) → length l ≡ k * n → Each f xs k n 0 l
unfolding encode_each
write_none f xs k n l h = (omega arith, rw mul-zero (none_yet l (k * n) h))

pub write_more : {A : Type 0} (f : A → List ℕ) (xs : List A) (k n i : ℕ) (d : A) (l e : List ℕ) → Each f xs k n i l → length xs ≡ n → i < n
    → length e ≡ length (take (k * i + k - k * i) (drop (k * i) l)) → e ≡ f (get_or xs i d) → Each f xs k n (i + 1) (put_mid (k * i) (k * i + k - k * i) l e)
write_more f xs k n i d l e u h j w v =
    let r = put k (k * i + k - k * i) e (f (get_or xs i d)) u.1 (turn_fits k j) (turn k i) w v in (
      omega arith,
      record {
        full = r.full;
        done =
            ap (λ (x : ℕ). take x (put_mid (k * i) (k * i + k - k * i) l e)) (rw (add-one, mul-suc))
            ∙ r.done
            ∙ sym (encode_each_more f xs i d (omega arith))
            ∙ rw add-one;
      },
    )

pub write_done : {A : Type 0} (f : A → List ℕ) (xs : List A) (k n i : ℕ) (l : List ℕ) → Each f xs k n i l → length xs ≡ n → n ≤ i → l ≡ encode_each f xs
write_done f xs k n i l u h j =
    let q : i ≡ n = omega arith in
    let v : Upto l (k * n) (k * n) (encode_each f (take n xs)) = rw q at u.1 in
    all v ∙ rw (take_all n xs (omega arith))
