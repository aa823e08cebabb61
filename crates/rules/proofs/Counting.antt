-- Counts of what passes below an index: along a loop, beside a search, and of two tests that agree.
use Prim.Native.Nat.{ℕ, zero, suc, ◌+◌, ◌≤◌, ◌<◌}
use mathlib.Core.Bool.{Bool, true, false, cond, ◌||◌, ◌&&◌}
use mathlib.Core.Path.{◌≡◌, refl, sym, ap, ◌∙◌}
use native.Mathlib.Nat.{le_antisymm}
use native.Mathlib.Numerals.{add-one}
use native.Mathlib.Omega.{arith}
use lib.Dec.{ltb}
use borrow.Author.Tests.{lt-ltb}
use Rattle.rules.specs.Search.{some_below, count_below}

-- ALONG A LOOP

-- An index more.
after : (f : ℕ → Bool) (n : ℕ) (b : Bool) → f n ≡ b → count_below (n + 1) f ≡ cond b 1 0 + count_below n f
unfolding count_below
after f n b t = ap (λ (k : ℕ). count_below k f) (add-one n) ∙ ap (λ (x : Bool). cond x 1 0 + count_below n f) t

pub counted : (f : ℕ → Bool) (n count : ℕ) (b : Bool) → count ≡ count_below n f → b ≡ f n → b ≡ true → count + 1 ≡ count_below (n + 1) f
counted f n count b e g h = omega (arith, after f n true (sym g ∙ h))

pub uncounted : (f : ℕ → Bool) (n count : ℕ) (b : Bool) → count ≡ count_below n f → b ≡ f n → b ≡ false → count ≡ count_below (n + 1) f
uncounted f n count b e g h = omega (arith, after f n false (sym g ∙ h))

-- The last index.
pub last : (f : ℕ → Bool) (i n count : ℕ) → i ≤ n → n ≤ i → count ≡ count_below i f → count ≡ count_below n f
last f i n count h g e = e ∙ ap (λ (k : ℕ). count_below k f) (le_antisymm h g)

-- SEARCH AND COUNT

-- Some pass exactly where the count is not 0.
pub count_some : (n : ℕ) (f : ℕ → Bool) → ltb 0 (count_below n f) ≡ some_below n f
unfolding count_below some_below
count_some zero f = refl
count_some (suc n) f = go (f n) (count_some n f)
  where
    go : (b : Bool) → ltb 0 (count_below n f) ≡ some_below n f → ltb 0 (cond b 1 0 + count_below n f) ≡ b || some_below n f
    go true h = lt-ltb 0 (1 + count_below n f) (omega arith)
    go false h = let e : 0 + count_below n f ≡ count_below n f = omega arith in rw e h

-- TESTS THAT AGREE

pub count_alike : (n : ℕ) (f g : ℕ → Bool) → ((k : ℕ) → k < n → f k ≡ g k) → count_below n f ≡ count_below n g
unfolding count_below
count_alike zero f g h = refl
count_alike (suc n) f g h = rw (h n (omega arith), count_alike n f g (λ k m. h k (omega arith)))

-- Nobody passes.
pub count_none : (n : ℕ) (f : ℕ → Bool) → ((x : ℕ) → x < n → f x ≡ false) → count_below n f ≡ 0
unfolding count_below
count_none zero f h = refl
count_none (suc n) f h = rw (h n (omega arith), count_none n f (λ k m. h k (omega arith)))

-- A test that all share, r, and the count that it guards.
module _ (n : ℕ) (f g : ℕ → Bool) {b r : Bool} (shared : (x : ℕ) → f x ≡ b && g x) (tested : r ≡ b) where
  pub guard_shut : r ≡ false → 0 ≡ count_below n f
  guard_shut e = sym (count_none n f (λ x l. shared x ∙ rw (sym tested ∙ e)))

  pub guard_open : {q : ℕ} → r ≡ true → q ≡ count_below n g → q ≡ count_below n f
  guard_open e h = h ∙ sym (count_alike n f g (λ k l. shared k ∙ rw (sym tested ∙ e)))
