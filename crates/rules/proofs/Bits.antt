-- The bits of a number made of tests: bit i is test i below the bound, and 0 from there on. So the number is 0 exactly when no test passes.
use Prim.Native.Nat.{ℕ, zero, suc, ◌+◌, ◌*◌, ◌^◌, ◌≤◌, ◌<◌}
use native.Mathlib.Omega.{arith}
use native.Mathlib.Nat.{not-suc-le-zero, pow-suc, div-eq_of_lt, add-div_right}
use native.Mathlib.Decide.{ℕ_discrete}
use mathlib.Core.Bool.{Bool, true, false, cond}
use mathlib.Core.Path.{◌≡◌, refl, sym, ◌∙◌}
use mathlib.Core.Logic.{◌⊎◌, inl, inr}
use lib.Pow.{pow_pos}
use Rattle.std.proofs.lemmas.Nat.Bits.{bit_at_above, bit_at_cat_low, bit_at-zero}
use Rattle.rules.specs.Search.{bits_below}
use Rattle.rules.specs.Faults.{bit}
use Rattle.rules.proofs.Tests.{decide}

-- the number is below the power of the bound
pub bits_below_lem : (n : ℕ) (f : ℕ → Bool) → bits_below n f < 2 ^ n
unfolding bits_below
bits_below_lem zero f = pow_pos 0
bits_below_lem (suc n) f = go (bits_below_lem n f) (decide (f n))
  where
    go : bits_below n f < 2 ^ n → (f n ≡ true) ⊎ (f n ≡ false) → bits_below n f + cond (f n) (2 ^ n) 0 < 2 ^ suc n
    go h (inl e) = rw e (omega (arith, pow-suc 2 n))
    go h (inr e) = rw e (omega (arith, pow-suc 2 n))

-- bit i is test i
pub bit_at : (n : ℕ) (f : ℕ → Bool) (i : ℕ) → i < n → bit (bits_below n f) i ≡ f i
unfolding bits_below
bit_at zero f i h = absurd (not-suc-le-zero h)
bit_at (suc n) f i h = go (bit_at n f i) (ℕ_discrete i n) (decide (f n))
  where
    b : ℕ
    b = bits_below n f

    none : b + 0 ≡ b
    none = omega arith

    top : b + 2 ^ n ≡ 1 * 2 ^ n + b
    top = omega arith

    go : (i < n → bit (bits_below n f) i ≡ f i) → Dec (i ≡ n) → (f n ≡ true) ⊎ (f n ≡ false) → bit (bits_below n f + cond (f n) (2 ^ n) 0) i ≡ f i
    go ih (yes e) (inl p) = rw (e, p, add-div_right b (pow_pos n), div-eq_of_lt (bits_below_lem n f))
    go ih (yes e) (inr p) = rw (e, p, none, bit_at_above b n n (bits_below_lem n f) (omega arith))
    go ih (no e) (inl p) = rw (p, top, bit_at_cat_low 1 n b i (omega arith)) (ih (omega arith))
    go ih (no e) (inr p) = rw (p, none) (ih (omega arith))

-- and nothing is set past the bound
pub bit_past : (n : ℕ) (f : ℕ → Bool) (i : ℕ) → n ≤ i → bit (bits_below n f) i ≡ false
bit_past n f i h = rw (bit_at_above (bits_below n f) n i (bits_below_lem n f) h)

-- no test passes
pub bits_zero : (n : ℕ) (f : ℕ → Bool) → ((i : ℕ) → i < n → f i ≡ false) → bits_below n f ≡ 0
unfolding bits_below
bits_zero zero f h = refl
bits_zero (suc n) f h = rw (h n (omega arith), bits_zero n f (λ i l. h i (omega arith)))

-- and back
pub zero_bits : (n : ℕ) (f : ℕ → Bool) → bits_below n f ≡ 0 → (i : ℕ) → i < n → f i ≡ false
zero_bits n f e i h = sym (bit_at n f i h) ∙ rw (e, bit_at-zero i)
