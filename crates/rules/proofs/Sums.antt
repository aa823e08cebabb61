-- Sums below a bound, and a function changed at one place.
use Prim.Native.Nat.{ℕ, zero, suc, ◌+◌, ◌-◌, ◌*◌, ◌≤◌, ◌<◌}
use native.Mathlib.Omega.{arith}
use native.Mathlib.Nat.{not-suc-le-zero, suc-mul}
use native.Mathlib.Decide.{ℕ_discrete}
use mathlib.Core.Bool.{cond}
use mathlib.Core.Path.{◌≡◌, refl, sym}
use lib.Dec.{eqb}
use borrow.Author.Tests.{eq-eqb, ne_eqb}

-- The sum of f i for the i below n.
unfoldable pub sum_below : ℕ → (ℕ → ℕ) → ℕ
sum_below zero f = zero
sum_below (suc n) f = f n + sum_below n f

pub times_pred : (n w : ℕ) → 0 < n → n * w ≡ w + (n - 1) * w
times_pred zero w h = absurd (not-suc-le-zero h)
times_pred (suc n) w h = let e : suc n - 1 ≡ n = omega arith in rw e (omega (arith, suc-mul n w))

pub sum_below_at : (n : ℕ) (f : ℕ → ℕ) (k : ℕ) → k < n → f k ≤ sum_below n f
unfolding sum_below
sum_below_at zero f k h = absurd (not-suc-le-zero h)
sum_below_at (suc n) f k h = go (sum_below_at n f k) (ℕ_discrete k n)
  where
    go : (k < n → f k ≤ sum_below n f) → Dec (k ≡ n) → f k ≤ f n + sum_below n f
    go ih (yes e) = rw e (omega arith)
    go ih (no e) = omega (arith, ih (omega arith))

pub sum_below_same : (n : ℕ) (f g : ℕ → ℕ) → ((k : ℕ) → k < n → f k ≡ g k) → sum_below n f ≡ sum_below n g
unfolding sum_below
sum_below_same zero f g h = refl
sum_below_same (suc n) f g h = let p = h n (omega arith) in let q = sum_below_same n f g (λ k l. h k (omega arith)) in omega arith

pub sum_below_zero : (f : ℕ → ℕ) (m : ℕ) → m ≡ 0 → sum_below m f ≡ 0
unfolding sum_below
sum_below_zero f m e = rw e

-- all but one stay
pub sum_below_one : (n : ℕ) (f g : ℕ → ℕ) (i : ℕ) → i < n → ((k : ℕ) → k < n → (k ≡ i → ⊥) → f k ≡ g k) → sum_below n f + g i ≡ sum_below n g + f i
unfolding sum_below
sum_below_one zero f g i l h = absurd (not-suc-le-zero l)
sum_below_one (suc n) f g i l h = go (λ m. sum_below_one n f g i m (λ k r q. h k (omega arith) q)) (ℕ_discrete i n)
  where
    go : (i < n → sum_below n f + g i ≡ sum_below n g + f i) → Dec (i ≡ n) → f n + sum_below n f + g i ≡ g n + sum_below n g + f i
    go ih (yes e) = let q = sum_below_same n f g (λ k r. h k (omega arith) (λ z. omega arith)) in rw e (omega arith)
    go ih (no e) = let p = h n (omega arith) (λ z. e (sym z)) in let q = ih (omega arith) in omega arith

-- a function changed at one place
unfoldable pub upd : (ℕ → ℕ) → ℕ → ℕ → ℕ → ℕ
upd f i v x = cond (eqb x i) v (f x)

pub upd_same : (f : ℕ → ℕ) (i v : ℕ) → upd f i v i ≡ v
unfolding upd
upd_same f i v = rw (eq-eqb i i refl)

pub upd_other : (f : ℕ → ℕ) (i v x : ℕ) → (x ≡ i → ⊥) → upd f i v x ≡ f x
unfolding upd
upd_other f i v x h = rw (ne_eqb x i h)
