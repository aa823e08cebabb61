-- A loop that tests every entry below n and leaves at the first that fails, and what an `if` says of a call's answer.
use Prim.Native.Nat.{ℕ, zero, suc, ◌+◌, ◌≤◌, ◌<◌}
use native.Mathlib.Numerals.{add-one}
use native.Mathlib.Omega.{arith}
use mathlib.Core.Path.{◌≡◌, refl, sym, ◌∙◌}
use mathlib.Core.Bool.{Bool, true, false, ◌&&◌, not}
use borrow.Author.Tests.{not-true, not-false}
use Rattle.rules.specs.Search.{all_below}
use Rattle.rules.proofs.Tests.{true_false, decide, and_intro}
use Rattle.rules.proofs.Search.{all_below_at}
use mathlib.Core.Logic.{◌⊎◌, inl, inr}

-- Every entry that the loop has passed passes the test f.
pub record Passed (n : ℕ) (f : ℕ → Bool) (i : ℕ) : Type 0 where
  pub within : i ≤ n
  pub all : all_below i f ≡ true

pub none_yet : (n : ℕ) (f : ℕ → Bool) → Passed n f 0
unfolding all_below
none_yet n f = record { within = omega arith; all = refl }

pub one_more : {n : ℕ} {f : ℕ → Bool} {i : ℕ} → Passed n f i → i < n → f i ≡ true → Passed n f (i + 1)
unfolding all_below
one_more {f = f} {i = i} h l e = record { within = omega arith; all = rw add-one (and_intro (f i) _ e h.all) }

pub at_end : {n : ℕ} {f : ℕ → Bool} {i : ℕ} → Passed n f i → n ≤ i → true ≡ all_below n f
at_end {n = n} {i = i} h l = let e : i ≡ n = omega (arith, h.within) in sym (rw e at h.all)

pub one_fails : (n : ℕ) (f : ℕ → Bool) (i : ℕ) → i < n → f i ≡ false → false ≡ all_below n f
one_fails n f i l e = go (decide (all_below n f))
  where
    go : (all_below n f ≡ true) ⊎ (all_below n f ≡ false) → false ≡ all_below n f
    go (inl p) = absurd (true_false (f i) (all_below_at n f p i l) e)
    go (inr p) = sym p

-- Every entry passes where each does.
pub all_pass : (n : ℕ) (f : ℕ → Bool) → ((i : ℕ) → f i ≡ true) → true ≡ all_below n f
unfolding all_below
all_pass zero f each = refl
all_pass (suc n) f each = rw (each n) (all_pass n f each)

-- THE ANSWER OF A CALL

-- A call answers what its contract says, and an `if` took the answer as true or false, or its negation.
pub so : {r q : Bool} → r ≡ q → r ≡ true → q ≡ true
so e h = sym e ∙ h

pub not_so : {r q : Bool} → r ≡ q → r ≡ false → q ≡ false
not_so e h = sym e ∙ h

pub fails_so : {r q : Bool} → r ≡ q → not r ≡ true → q ≡ false
fails_so {r = r} e h = sym e ∙ not-true r h

pub holds_so : {r q : Bool} → r ≡ q → not r ≡ false → q ≡ true
holds_so {r = r} e h = sym e ∙ not-false r h

-- PARTS IN USE, AND ZEROS BEHIND THEM

-- A part in use fails.
pub part_fails : {w : Bool} (m : ℕ) (f : ℕ → Bool) (z : Bool) (i : ℕ) → all_below m f && z ≡ w → i < m → f i ≡ false → false ≡ w
part_fails m f z i e l h = rw (sym (one_fails m f i l h)) at e

-- All parts in use pass.
pub parts_end : {r w : Bool} {m : ℕ} {f : ℕ → Bool} (z : Bool) {i : ℕ} → all_below m f && z ≡ w → Passed m f i → m ≤ i → r ≡ z → r ≡ w
parts_end z e h l q = q ∙ rw (sym (at_end h l)) at e
