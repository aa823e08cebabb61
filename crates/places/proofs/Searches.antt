-- Laws of searches: one turn of a loop, two searches over the same, and the order of two searches.
use Prim.Native.Nat.{ℕ, zero, suc, ◌+◌, ◌≤◌, ◌<◌}
use native.Mathlib.Omega.{arith}
use native.Mathlib.Numerals.{add-one}
use mathlib.Core.Path.{◌≡◌, refl, sym, ◌∙◌}
use mathlib.Core.Bool.{Bool, true, false, ◌||◌, ◌&&◌}
use Rattle.rules.specs.Search.{some_below}
use Rattle.rules.proofs.Tests.{and_true, and_intro}
use Rattle.rules.proofs.Search.{some_below_witness, some_below_intro, both}

-- One index more.
pub some_more : (k : ℕ) (f : ℕ → Bool) → some_below (k + 1) f ≡ f k || some_below k f
unfolding some_below
some_more k f = rw (add-one k)

-- A search by a loop over f: it stops at k, goes on past k, or comes to the end.
module _ (f : ℕ → Bool) (k : ℕ) where
  pub found : (n : ℕ) {r : Bool} → k < n → r ≡ f k → r ≡ true → true ≡ some_below n f
  found n h e t = sym (some_below_intro n f k h (sym e ∙ t))

  pub passed : {r : Bool} → some_below k f ≡ false → r ≡ f k → r ≡ false → some_below (k + 1) f ≡ false
  passed a e t = some_more k f ∙ rw (sym e ∙ t, a)

  pub none : (n : ℕ) → k ≤ n → n ≤ k → some_below k f ≡ false → false ≡ some_below n f
  none n h l e = let q : k ≡ n = omega arith in sym (rw q at e)

-- Two searches over tests that agree.
pub some_alike : (n : ℕ) (f g : ℕ → Bool) → ((k : ℕ) → k < n → f k ≡ g k) → some_below n f ≡ some_below n g
unfolding some_below
some_alike zero f g h = refl
some_alike (suc n) f g h = rw (h n (omega arith), some_alike n f g (λ k m. h k (omega arith)))

-- own clocks first, or activities first
pub some_below_swap : (n m : ℕ) (f : ℕ → Bool) (g : ℕ → ℕ → Bool) → some_below m (λ k. f k && some_below n (g k)) ≡ some_below n (λ x. some_below m (λ k. f k && g k x))
some_below_swap n m f g = both _ _ there back
  where
    there : some_below m (λ k. f k && some_below n (g k)) ≡ true → some_below n (λ x. some_below m (λ k. f k && g k x)) ≡ true
    there e =
        let u = some_below_witness m (λ k. f k && some_below n (g k)) e in
        let q = and_true (f u.at) (some_below n (g u.at)) u.passes in
        let v = some_below_witness n (g u.at) q.1 in
        some_below_intro n (λ x. some_below m (λ k. f k && g k x)) v.at v.below
        (some_below_intro m (λ k. f k && g k v.at) u.at u.below (and_intro (f u.at) (g u.at v.at) q.0 v.passes))

    back : some_below n (λ x. some_below m (λ k. f k && g k x)) ≡ true → some_below m (λ k. f k && some_below n (g k)) ≡ true
    back e =
        let u = some_below_witness n (λ x. some_below m (λ k. f k && g k x)) e in
        let v = some_below_witness m (λ k. f k && g k u.at) u.passes in
        let q = and_true (f v.at) (g v.at u.at) v.passes in
        some_below_intro m (λ k. f k && some_below n (g k)) v.at v.below
        (and_intro (f v.at) (some_below n (g v.at)) q.0 (some_below_intro n (g v.at) u.at u.below q.1))
