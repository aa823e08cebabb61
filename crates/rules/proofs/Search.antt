-- Laws of searches below a bound and of chains of links.
use Prim.Native.Nat.{ℕ, zero, suc, ◌≤◌, ◌<◌}
use native.Mathlib.Omega.{arith}
use native.Mathlib.Nat.{not-suc-le-zero}
use native.Mathlib.Decide.{ℕ_discrete}
use mathlib.Core.Bool.{Bool, true, false, ◌||◌, ◌&&◌}
use mathlib.Core.Path.{◌≡◌, refl, sym}
use mathlib.Core.Logic.{◌⊎◌, inl, inr}
use lib.Dec.{ltb, eqb}
use borrow.Author.Tests.{ltb-true, lt-ltb, eqb-true}
use Rattle.rules.specs.Search.{some_below, all_below, chain}
use Rattle.rules.proofs.Tests.{and_true, and_intro, or_true, or_left, or_right, true_false, decide}

pub record Witness (n : ℕ) (f : ℕ → Bool) : Type 0 where
  pub at : ℕ
  pub below : at < n
  pub passes : f at ≡ true

pub some_below_witness : (n : ℕ) (f : ℕ → Bool) → some_below n f ≡ true → Witness n f
unfolding some_below
some_below_witness zero f e = let z : ◌≡◌ {A = ℕ} 0 1 = cc in absurd (omega arith)
some_below_witness (suc n) f e = go (some_below_witness n f) (or_true (f n) (some_below n f) e)
  where
    go : (some_below n f ≡ true → Witness n f) → (f n ≡ true) ⊎ (some_below n f ≡ true) → Witness (suc n) f
    go ih (inl h) = record { at = n; below = omega arith; passes = h }
    go ih (inr h) = let w = ih h in record { at = w.at; below = omega (arith, w.below); passes = w.passes }

pub some_below_intro : (n : ℕ) (f : ℕ → Bool) (i : ℕ) → i < n → f i ≡ true → some_below n f ≡ true
unfolding some_below
some_below_intro zero f i h e = absurd (not-suc-le-zero h)
some_below_intro (suc n) f i h e = go (some_below_intro n f i) (ℕ_discrete i n)
  where
    go : (i < n → f i ≡ true → some_below n f ≡ true) → Dec (i ≡ n) → f n || some_below n f ≡ true
    go ih (yes p) = or_left (f n) _ (rw p at e)
    go ih (no p) = or_right (f n) _ (ih (omega arith) e)

-- The same answer, from the one to the other and back.
pub both : (a b : Bool) → (a ≡ true → b ≡ true) → (b ≡ true → a ≡ true) → a ≡ b
both true b p q = sym (p refl)
both false true p q = q refl
both false false p q = refl

pub some_below_none : (n : ℕ) (f : ℕ → Bool) → some_below n f ≡ false → (i : ℕ) → i < n → f i ≡ false
some_below_none n f e i h = go (decide (f i))
  where
    go : (f i ≡ true) ⊎ (f i ≡ false) → f i ≡ false
    go (inl p) = absurd (true_false (some_below n f) (some_below_intro n f i h p) e)
    go (inr p) = p

pub some_below_all : (n : ℕ) (f : ℕ → Bool) → ((i : ℕ) → i < n → f i ≡ true → ⊥) → some_below n f ≡ false
some_below_all n f h = go (decide (some_below n f))
  where
    go : (some_below n f ≡ true) ⊎ (some_below n f ≡ false) → some_below n f ≡ false
    go (inl p) = let w = some_below_witness n f p in absurd (h w.at w.below w.passes)
    go (inr p) = p

pub all_below_at : (n : ℕ) (f : ℕ → Bool) → all_below n f ≡ true → (i : ℕ) → i < n → f i ≡ true
unfolding all_below
all_below_at zero f e i h = absurd (not-suc-le-zero h)
all_below_at (suc n) f e i h = go (all_below_at n f (and_true (f n) _ e).1 i) (ℕ_discrete i n)
  where
    go : (i < n → f i ≡ true) → Dec (i ≡ n) → f i ≡ true
    go ih (yes p) = rw p (and_true (f n) _ e).0
    go ih (no p) = ih (omega arith)

pub all_below_intro : (n : ℕ) (f : ℕ → Bool) → ((i : ℕ) → i < n → f i ≡ true) → all_below n f ≡ true
unfolding all_below
all_below_intro zero f h = refl
all_below_intro (suc n) f h = and_intro (f n) _ (h n (omega arith)) (all_below_intro n f (λ i l. h i (omega arith)))

-- CHAINS

pub chain_above : (sp : ℕ → ℕ) (ok : ℕ → Bool) (w f x : ℕ) → chain sp ok w f x ≡ true → w < x
unfolding chain
chain_above sp ok w zero x e = absurd (true_false false e refl)
chain_above sp ok w (suc f) x e = ltb-true w x (and_true (ltb w x) _ e).0

-- two chains over the same links and tests: what bounds their length does not matter
pub chain_same : (sp sp' : ℕ → ℕ) (ok ok' : ℕ → Bool) (w f g x : ℕ) → ((y : ℕ) → y ≤ x → w < y → (sp y ≡ sp' y) × (ok y ≡ ok' y) × (sp y < y)) → x < f → x < g
    → chain sp ok w f x ≡ chain sp' ok' w g x
unfolding chain
chain_same sp sp' ok ok' w zero g x h a b = absurd (not-suc-le-zero a)
chain_same sp sp' ok ok' w (suc f) zero x h a b = absurd (not-suc-le-zero b)
chain_same sp sp' ok ok' w (suc f) (suc g) x h a b = go (chain_same sp sp' ok ok' w f g (sp x)) (decide (ltb w x))
  where
    go : (((y : ℕ) → y ≤ sp x → w < y → (sp y ≡ sp' y) × (ok y ≡ ok' y) × (sp y < y)) → sp x < f → sp x < g → chain sp ok w f (sp x) ≡ chain sp' ok' w g (sp x))
        → (ltb w x ≡ true) ⊎ (ltb w x ≡ false)
        → ltb w x && ((eqb (sp x) w && ok x) || chain sp ok w f (sp x)) ≡ ltb w x && ((eqb (sp' x) w && ok' x) || chain sp' ok' w g (sp' x))
    go ih (inl l) =
        let q = h x (omega arith) (ltb-true w x l) in
        let r = ih (λ y m n. h y (omega (arith, q.2)) n) (omega (arith, q.2)) (omega (arith, q.2)) in
        rw (r, q.0, q.1)
    go ih (inr l) = rw l

module _ (sp : ℕ → ℕ) (n : ℕ) (falls : (y : ℕ) → 0 < y → y < n → sp y < y) where
  pub chain_step : (ok : ℕ → Bool) (w f x : ℕ) → x < n → x < f → chain sp ok w f x ≡ ltb w x && ((eqb (sp x) w && ok x) || chain sp ok w f (sp x))
  unfolding chain
  chain_step ok w f x b h = chain_same sp sp ok ok w f (suc f) x (λ y m l. (refl, refl, falls y (omega arith) (omega arith))) h (omega arith)

  pub chain_on : (ok : ℕ → Bool) (w f x : ℕ) → x < n → x < f → w < x → chain sp ok w f (sp x) ≡ true → chain sp ok w f x ≡ true
  chain_on ok w f x b h l e = rw (chain_step ok w f x b h) (and_intro _ _ (lt-ltb w x l) (or_right (eqb (sp x) w && ok x) _ e))

  -- the last link, or a longer chain
  pub chain_cases : (ok : ℕ → Bool) (w f x : ℕ) → x < n → x < f → chain sp ok w f x ≡ true → ((sp x ≡ w) × (ok x ≡ true)) ⊎ (chain sp ok w f (sp x) ≡ true)
  chain_cases ok w f x b h e = go (or_true (eqb (sp x) w && ok x) _ (and_true (ltb w x) _ (rw (chain_step ok w f x b h) at e)).1)
    where
      go : (eqb (sp x) w && ok x ≡ true) ⊎ (chain sp ok w f (sp x) ≡ true) → ((sp x ≡ w) × (ok x ≡ true)) ⊎ (chain sp ok w f (sp x) ≡ true)
      go (inl q) = let r = and_true (eqb (sp x) w) (ok x) q in inl (eqb-true (sp x) w r.0, r.1)
      go (inr q) = inr q

  pub chain_closed : (ok : ℕ → Bool) (w f x g y : ℕ) → y < n → y < f → chain sp ok w f x ≡ true → chain sp (λ z. true) x g y ≡ true → chain sp ok w f y ≡ true
  unfolding chain
  chain_closed ok w f x zero y m h a b = absurd (true_false false b refl)
  chain_closed ok w f x (suc g) y m h a b = go (chain_closed ok w f x g (sp y)) (or_true (eqb (sp y) x && true) _ (and_true (ltb x y) _ b).1)
    where
      x<y : x < y
      x<y = ltb-true x y (and_true (ltb x y) _ b).0

      w<x : w < x
      w<x = chain_above sp ok w f x a

      less : sp y < y
      less = falls y (omega (arith, x<y)) m

      go : (sp y < n → sp y < f → chain sp ok w f x ≡ true → chain sp (λ z. true) x g (sp y) ≡ true → chain sp ok w f (sp y) ≡ true)
          → (eqb (sp y) x && true ≡ true) ⊎ (chain sp (λ z. true) x g (sp y) ≡ true) → chain sp ok w f y ≡ true
      go ih (inl e) = chain_on ok w f y m h (omega (arith, x<y, w<x)) (rw (eqb-true (sp y) x (and_true (eqb (sp y) x) true e).0) a)
      go ih (inr e) = chain_on ok w f y m h (omega (arith, x<y, w<x)) (ih (omega (arith, less)) (omega (arith, less)) a e)

-- a weaker test
pub chain_mono : (sp : ℕ → ℕ) (ok ok' : ℕ → Bool) → ((y : ℕ) → ok y ≡ true → ok' y ≡ true) → (w f x : ℕ) → chain sp ok w f x ≡ true → chain sp ok' w f x ≡ true
unfolding chain
chain_mono sp ok ok' h w zero x e = e
chain_mono sp ok ok' h w (suc f) x e =
    let q = and_true (ltb w x) _ e in
    and_intro (ltb w x) _ q.0 (go (chain_mono sp ok ok' h w f (sp x)) (or_true (eqb (sp x) w && ok x) _ q.1))
  where
    go : (chain sp ok w f (sp x) ≡ true → chain sp ok' w f (sp x) ≡ true) → (eqb (sp x) w && ok x ≡ true) ⊎ (chain sp ok w f (sp x) ≡ true)
        → (eqb (sp x) w && ok' x) || chain sp ok' w f (sp x) ≡ true
    go ih (inl b) = let r = and_true (eqb (sp x) w) (ok x) b in or_left (eqb (sp x) w && ok' x) _ (and_intro (eqb (sp x) w) (ok' x) r.0 (h x r.1))
    go ih (inr b) = or_right (eqb (sp x) w && ok' x) _ (ih b)
