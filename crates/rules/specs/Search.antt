-- Searches and lists by an index below a bound.
use Rattle.std.specs.Prelude.{ℕ, zero, suc, ◌+◌, ◌^◌, List, [], ◌∷◌, Bool, true, false, cond, ◌||◌, ◌&&◌, ltb, eqb}

-- Some i below n passes.
unfoldable pub some_below : ℕ → (ℕ → Bool) → Bool
some_below zero f = false
some_below (suc n) f = let r = some_below n f in f n || r

-- Every i below n passes.
unfoldable pub all_below : ℕ → (ℕ → Bool) → Bool
all_below zero f = true
all_below (suc n) f = let r = all_below n f in f n && r

-- How many i below n pass.
unfoldable pub count_below : ℕ → (ℕ → Bool) → ℕ
count_below zero f = zero
count_below (suc n) f = cond (f n) 1 0 + count_below n f

-- A number whose bit i is set where i passes, for the i below n.
unfoldable pub bits_below : ℕ → (ℕ → Bool) → ℕ
bits_below zero f = zero
bits_below (suc n) f = bits_below n f + cond (f n) (2 ^ n) 0

-- The list f k, f (k + 1), .. of n elements.
unfoldable pub list_from : {A : Type 0} → ℕ → ℕ → (ℕ → A) → List A
list_from zero k f = []
list_from (suc n) k f = f k ∷ list_from n (suc k) f

-- The chain x, link x, link (link x) .. comes to w by a last link from a y that passes. Links fall, so the chain is looked at only above w; the
-- number after w bounds its length.
unfoldable pub chain : (ℕ → ℕ) → (ℕ → Bool) → ℕ → ℕ → ℕ → Bool
chain link test w zero x = false
chain link test w (suc n) x = let r = chain link test w n (link x) in ltb w x && ((eqb (link x) w && test x) || r)
