-- Small laws of tests and lists that know nothing of tables.
use Prim.Native.Nat.{ℕ, zero, suc, ◌+◌, ◌-◌, ◌≤◌, ◌<◌}
use native.Mathlib.Omega.{arith}
use native.Mathlib.Decide.{ℕ_discrete}
use mathlib.Core.List.{List, [], ◌∷◌, ◌++◌}
use mathlib.Core.Bool.{Bool, true, false, cond, ◌||◌, ◌&&◌, not}
use mathlib.Core.Path.{◌≡◌, refl, sym, ap}
use mathlib.Core.Logic.{◌⊎◌, inl, inr}
use lib.ListN.{get_or, take, drop, replicate}
use lib.Seq.{get_or-drop}
use lib.Dec.{eqb}
use borrow.Author.Tests.{ne_eqb}
-- TESTS

-- A negated test.
pub use borrow.Author.Tests.{not-true, not-false}

-- Two different numbers are not equal.
pub apart : {A : Type 0} → ◌≡◌ {A = ℕ} 0 1 → A
apart z = absurd (let y : ⊥ = omega arith in y)

-- A test that passes does not fail.
pub true_false : (a : Bool) → a ≡ true → a ≡ false → ⊥
true_false a p q = apart (cc)

-- A test goes one way or the other.
pub decide : (a : Bool) → (a ≡ true) ⊎ (a ≡ false)
decide true = inl refl
decide false = inr refl

-- Both tests pass.
pub and_true : (a b : Bool) → a && b ≡ true → (a ≡ true) × (b ≡ true)
and_true true b e = (refl, e)
and_true false b e = absurd (true_false false e refl)

-- And the other way.
pub and_intro : (a b : Bool) → a ≡ true → b ≡ true → a && b ≡ true
and_intro a b p q = rw (p, q)

-- Not both pass, and the first does.
pub and_false : (a b : Bool) → a && b ≡ false → a ≡ true → b ≡ false
and_false true b p q = p
and_false false b p q = absurd (true_false false q refl)

-- The same, where the second is negated.
pub and_not : (a b : Bool) → a && not b ≡ false → a ≡ true → b ≡ true
and_not a b p q = not-false b (and_false a (not b) p q)

-- One of two tests passes.
pub or_true : (a b : Bool) → a || b ≡ true → (a ≡ true) ⊎ (b ≡ true)
or_true true b e = inl refl
or_true false b e = inr e

-- And the other way, by the first,
pub or_left : (a b : Bool) → a ≡ true → a || b ≡ true
or_left a b p = rw p

-- and by the second.
pub or_right : (a b : Bool) → b ≡ true → a || b ≡ true
or_right true b e = refl
or_right false b e = e

-- Neither of two tests passes.
pub or_false : (a b : Bool) → a || b ≡ false → (a ≡ false) × (b ≡ false)
or_false true b e = absurd (true_false true refl e)
or_false false b e = (refl, e)

-- And the other way.
pub or_none : (a b : Bool) → a ≡ false → b ≡ false → a || b ≡ false
or_none a b p q = rw (p, q)

-- The second passes where the first does.
pub implied : (a b : Bool) → not a || b ≡ true → a ≡ true → b ≡ true
implied true b e p = e
implied false b e p = absurd (true_false false p refl)

-- A number is 0 where another branch is not 0: the test passed.
pub passed : (b : Bool) (x m : ℕ) → cond b x (suc m) ≡ 0 → (b ≡ true) × (x ≡ 0)
passed true x m e = (refl, e)
passed false x m e = absurd (let y : ⊥ = omega arith in y)

-- The same, where the test failed.
pub cond_zero : (b : Bool) (n m : ℕ) → cond b (suc n) m ≡ 0 → (b ≡ false) × (m ≡ 0)
cond_zero true n m e = absurd (let y : ⊥ = omega arith in y)
cond_zero false n m e = (refl, e)

-- The first of two numbers that is not 0 is 0: so are both.
pub neither : (x y : ℕ) → cond (eqb x 0) y x ≡ 0 → (x ≡ 0) × (y ≡ 0)
neither zero y e = (refl, e)
neither (suc x) y e = let h : eqb (suc x) 0 ≡ false = ne_eqb (suc x) 0 (λ z. omega arith) in absurd (let z : suc x ≡ 0 = rw h at e in omega arith)

-- LISTS

-- One element less, as a walk with a count of elements to skip passes it.
pub drop_pos : {A : Type 0} (x : A) (l : List A) {k : ℕ} → 0 < k → drop (k - 1) l ≡ drop k (x ∷ l)
drop_pos x l {k} h = let e : k ≡ suc (k - 1) = omega arith in ap (λ (j : ℕ). drop j (x ∷ l)) (sym e)

-- Default elements after a list are read as no elements.
pub get_or_padded : {A : Type 0} (l : List A) (n j : ℕ) (d : A) → get_or (l ++ replicate n d) j d ≡ get_or l j d
get_or_padded [] zero j d = refl
get_or_padded [] (suc n) zero d = refl
get_or_padded [] (suc n) (suc j) d = get_or_padded [] n j d
get_or_padded (x ∷ l) n zero d = refl
get_or_padded (x ∷ l) n (suc j) d = get_or_padded l n j d

-- BYTES

-- Each entry is below 256, and so is the 0 that stands past the end.
abbrev pub Bytes : List ℕ → Type 0
Bytes b = (i : ℕ) → get_or b i 0 < 256

-- What lies behind some bytes is bytes,
pub bytes_drop : (k : ℕ) (b : List ℕ) → Bytes b → Bytes (drop k b)
bytes_drop k b h i = rw get_or-drop (h (k + i))

-- and so are the first of them.
pub bytes_take : (k : ℕ) (b : List ℕ) → Bytes b → Bytes (take k b)
bytes_take zero b h i = omega arith
bytes_take (suc k) [] h i = omega arith
bytes_take (suc k) (x ∷ b) h zero = h 0
bytes_take (suc k) (x ∷ b) h (suc i) = bytes_take k b (λ j. h (suc j)) i

-- NUMBERS

-- A fact of each number from k on: of k, and of each from k + 1 on.
pub each_from : (P : ℕ → Type 0) (k : ℕ) → P k → ((n : ℕ) → suc k ≤ n → P n) → (n : ℕ) → k ≤ n → P n
each_from P k here later n h = by (ℕ_discrete k n)
  where
    by : Dec (k ≡ n) → P n
    by (yes e) = rw e at here
    by (no e) = later n (omega arith)
