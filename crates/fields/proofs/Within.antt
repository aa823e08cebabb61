-- Writing in place: within one of the fields that stand one after the other, and of one entry among many.
use Prim.Native.Nat.{ℕ, zero, suc, ◌+◌, ◌-◌, ◌*◌, ◌%◌, ◌≤◌, ◌<◌, suc-le-suc}
use native.Mathlib.Omega.{arith}
use native.Mathlib.Numerals.{add-one}
use native.Mathlib.Nat.{not-suc-le-zero, le_of_suc-le-suc, mul-suc, mul-zero, add_comm, zero-add, zero-lt-suc}
use mathlib.Core.List.{List, [], ◌∷◌, ◌++◌, append_assoc}
use mathlib.Core.Path.{◌≡◌, sym, ap, ◌∙◌}
use lib.ListN.{length, get_or, take, drop, set, length-append, length-drop}
use lib.Seq.{drop_at, set_split, drop-drop, drop-cons, take-append-le, drop-append-le, take-append-add, drop-append-add}
use borrow.Rule.Slice.PartMut.{put_mid}
use Rattle.encoding.specs.Bytes.{bytes_of, number_of, part, encode_each}

-- within the first of two
pub put_first : (q r e : List ℕ) (a k : ℕ) → a + k ≤ length q → put_mid a k (q ++ r) e ≡ put_mid a k q e ++ r
put_first q r e a k h =
    rw (take-append-le a q r (omega arith), drop-append-le a q r (omega arith), drop-append-le k (drop a q) r (rw length-drop (omega arith)))
    (ap (λ l. take a q ++ l) (sym (append_assoc e (drop k (drop a q)) r)) ∙ sym (append_assoc (take a q) (e ++ drop k (drop a q)) r))

-- within the second of two
pub put_second : (p q e : List ℕ) (a k : ℕ) → put_mid (length p + a) k (p ++ q) e ≡ p ++ put_mid a k q e
put_second p q e a k =
    rw (take-append-add p q a, drop-append-add p q a) (append_assoc p (take a q) (e ++ drop k (drop a q)))

-- one entry among many
pub put_entry : {A : Type 0} (f : A → List ℕ) (k : ℕ) → ((x : A) → length (f x) ≡ k) → (l : List A) (i : ℕ) (x : A) → i < length l
    → put_mid (k * i) k (encode_each f l) (f x) ≡ encode_each f (set l i x)
unfolding encode_each
put_entry f k h [] i x j = absurd (not-suc-le-zero j)
put_entry f k h (y ∷ l) zero x j = rw mul-zero (ap (λ r. f x ++ r) (drop_at (f y) (encode_each f l) k (h y)))
put_entry f k h (y ∷ l) (suc i) x j =
    let e : k * suc i ≡ length (f y) + k * i = rw (mul-suc, h y) (add_comm (k * i) k) in
    rw e (put_second (f y) (encode_each f l) (f x) (k * i) k ∙ ap (λ r. f y ++ r) (put_entry f k h l i x (le_of_suc-le-suc j)))

-- within one entry among many, each of its own length
pub put_inside : {A : Type 0} (f : A → List ℕ) (k : ℕ) (d : A) (l : List A) → ((n : ℕ) → n < length l → length (f (get_or l n d)) ≡ k) → (i a m : ℕ) (e : List ℕ) (x : A) → i < length l
    → a + m ≤ k → put_mid a m (f (get_or l i d)) e ≡ f x → put_mid (k * i + a) m (encode_each f l) e ≡ encode_each f (set l i x)
unfolding encode_each
put_inside f k d [] h i a m e x j b q = absurd (not-suc-le-zero j)
put_inside f k d (y ∷ l) h zero a m e x j b q =
    let z : k * 0 + a ≡ a = rw mul-zero (zero-add a) in
    rw z (put_first (f y) (encode_each f l) e a m (rw (h 0 j) b) ∙ ap (λ r. r ++ encode_each f l) q)
put_inside f k d (y ∷ l) h (suc i) a m e x j b q =
    let n : length (f y) ≡ k = h 0 (zero-lt-suc (length l)) in
    let z : k * suc i + a ≡ length (f y) + (k * i + a) = rw (mul-suc, n) (omega arith) in
    rw z (put_second (f y) (encode_each f l) e (k * i + a) m ∙ ap (λ r. f y ++ r) (put_inside f k d l (λ n g. h (suc n) (suc-le-suc g)) i a m e x (le_of_suc-le-suc j) b q))

-- the bytes of all
pub each_length : {A : Type 0} (f : A → List ℕ) (k : ℕ) (d : A) (l : List A) → ((n : ℕ) → n < length l → length (f (get_or l n d)) ≡ k) → length (encode_each f l) ≡ k * length l
unfolding encode_each
each_length f k d [] h = sym (mul-zero k)
each_length f k d (y ∷ l) h =
    length-append (f y) (encode_each f l) ∙ rw (h 0 (zero-lt-suc (length l)), each_length f k d l (λ n g. h (suc n) (suc-le-suc g)), mul-suc) (add_comm k (k * length l))

-- READING

pub part_first : (q r : List ℕ) (a k : ℕ) → a + k ≤ length q → part (q ++ r) a k ≡ part q a k
part_first q r a k h = rw (drop-append-le a q r (omega arith)) (take-append-le k (drop a q) r (rw length-drop (omega arith)))

pub part_second : (p q : List ℕ) (a k : ℕ) → part (p ++ q) (length p + a) k ≡ part q a k
part_second p q a k = rw (drop-append-add p q a)

pub part_inside : {A : Type 0} (f : A → List ℕ) (k : ℕ) (d : A) (l : List A) → ((n : ℕ) → n < length l → length (f (get_or l n d)) ≡ k) → (i a m : ℕ) → i < length l → a + m ≤ k
    → part (encode_each f l) (k * i + a) m ≡ part (f (get_or l i d)) a m
unfolding encode_each
part_inside f k d [] h i a m j b = absurd (not-suc-le-zero j)
part_inside f k d (y ∷ l) h zero a m j b =
    let z : k * 0 + a ≡ a = rw mul-zero (zero-add a) in
    rw z (part_first (f y) (encode_each f l) a m (rw (h 0 j) b))
part_inside f k d (y ∷ l) h (suc i) a m j b =
    let n : length (f y) ≡ k = h 0 (zero-lt-suc (length l)) in
    let z : k * suc i + a ≡ length (f y) + (k * i + a) = rw (mul-suc, n) (omega arith) in
    rw z (part_second (f y) (encode_each f l) (k * i + a) m ∙ part_inside f k d l (λ n g. h (suc n) (suc-le-suc g)) i a m (le_of_suc-le-suc j) b)

-- SINGLE BYTES

-- a byte that is stored
pub put_one : (b : List ℕ) (at v : ℕ) → at < length b → v < 256 → set b at v ≡ put_mid at 1 b (bytes_of 1 v)
unfolding bytes_of
put_one b at v h l =
    let q : v % 256 ≡ v = omega arith in
    rw (q, drop-drop, add-one at) (set_split b at v h)

-- a byte that is read
pub get_one : (b : List ℕ) (at : ℕ) → at < length b → get_or b at 0 ≡ number_of (part b at 1)
unfolding number_of
get_one b at h = rw (drop-cons b at 0 h) (omega arith)

-- PARTS

turn_off : (at k : ℕ) → at + k - at ≡ k
turn_off at k = omega arith

-- a number that is read
pub get_part : {x : ℕ} (b : List ℕ) (at k : ℕ) → x ≡ number_of (take (at + k - at) (drop at b)) → x ≡ number_of (part b at k)
get_part b at k e = e ∙ rw (turn_off at k)

-- a part that is lent
pub lent_part : (at k : ℕ) (b : List ℕ) → take (at + k - at) (drop at b) ≡ part b at k
lent_part at k b = rw (turn_off at k)

pub lent_back : (at k : ℕ) (b e : List ℕ) → put_mid at (at + k - at) b e ≡ put_mid at k b e
lent_back at k b e = rw (turn_off at k)
