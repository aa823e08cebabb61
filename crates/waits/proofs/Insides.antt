-- How many inside a finish have not ended, and whether one has faulted, in lent bytes.
use Prim.Native.Nat.{ℕ, zero, suc, ◌+◌, ◌*◌, ◌≤◌, ◌<◌, max}
use native.Mathlib.Omega.{arith}
use mathlib.Core.Path.{◌≡◌, refl, ap, ◌∙◌}
use mathlib.Core.List.{List}
use mathlib.Core.Logic.{◌⊎◌, inl, inr}
use mathlib.Core.Bool.{Bool, true, false, ◌||◌, ◌&&◌, not, and-true as and_right}
use lib.ListN.{get_or, set, replicate}
use lib.Dec.{ltb, leb, eqb}
use borrow.Author.Tests.{ltb-true, ltb-false, lt-ltb, le-ltb, leb-true, le-leb, eq-eqb, ne_eqb}
use Rattle.rules.specs.declared.state.Status.{Status}
use Rattle.rules.specs.declared.state.Status.TheVariants.{Running, AtBarrier, Ended, Faulted}
use Rattle.rules.specs.declared.state.Activity.{Activity}
use Rattle.rules.specs.declared.state.State.{State}
use Rattle.rules.specs.State.{act, is_ended, is_faulted, ended}
use Rattle.rules.specs.Search.{chain}
use Rattle.rules.specs.Tree.{spawner_of, inside}
use Rattle.rules.proofs.Tests.{decide, true_false, and_true, or_true}
use Rattle.encoding.specs.Encode.{status_byte}
use Rattle.places.specs.Rooted.{Rooted}
use Rattle.places.proofs.Chains.{Passed, outside, none_unended, none_faulted, joined, passed_outside, passed_ended, passed_faulted, passed_unended, passed_none}
use Rattle.fields.specs.Lent.{Lent, Gets, Reads, ReadsAct}
use Rattle.fields.proofs.Stands.{own_number}
use Rattle.fields.proofs.Own.{status_byte_lem}
use Rattle.waits.specs.declared.inside.Inside.{Inside}
use Rattle.waits.specs.Waits.{Sees}

-- STANDINGS, BY THE BYTE

pub standing_there : {b : List ℕ} {x at r : ℕ} → Gets 1 b at r → at ≡ 468 + 208 * x → ReadsAct (λ (a : Activity). status_byte a.status) b x r
standing_there {x = x} g e = record { reads = λ s l j. own_number l j 4 1 g (omega arith) (omega arith) ∙ status_byte_lem (act s x) }

status_below : (t : Status) → ltb (status_byte t) 2 ≡ not (is_ended t)
status_below Running = refl
status_below AtBarrier = refl
status_below Ended = refl
status_below (Faulted f) = refl

status_three : (t : Status) → eqb (status_byte t) 3 ≡ is_faulted t
status_three Running = refl
status_three AtBarrier = refl
status_three Ended = refl
status_three (Faulted f) = refl

-- NOBODY WHO IS TOO LOW

-- The last link of a chain to the owner is not lower than `first`, so neither is its start.
chain_from : (sp : ℕ → ℕ) (n : ℕ) → ((y : ℕ) → 0 < y → y < n → sp y < y) → (first w f x : ℕ) → x < n → chain sp (leb first) w f x ≡ true → first ≤ x
unfolding chain
chain_from sp n falls first w zero x m e = absurd (true_false false e refl)
chain_from sp n falls first w (suc f) x m e =
    let q = and_true (ltb w x) _ e in
    let l : w < x = ltb-true w x q.0 in
    let d : sp x < x = falls x (omega arith) m in
    go d (chain_from sp n falls first w f (sp x) (omega arith)) (or_true (eqb (sp x) w && leb first x) _ q.1)
  where
    go : sp x < x → (chain sp (leb first) w f (sp x) ≡ true → first ≤ sp x) → (eqb (sp x) w && leb first x ≡ true) ⊎ (chain sp (leb first) w f (sp x) ≡ true) → first ≤ x
    go d ih (inl h) = leb-true first x (and_true (eqb (sp x) w) (leb first x) h).1
    go d ih (inr h) = let k = ih h in omega arith

low_outside : (s : State) → Rooted s → (w first x : ℕ) → x < s.activities → x < first → inside s w first x ≡ false
unfolding inside
low_outside s r w first x m h = go (decide (inside s w first x))
  where
    go : (inside s w first x ≡ true) ⊎ (inside s w first x ≡ false) → inside s w first x ≡ false
    go (inl e) = let l = chain_from (spawner_of s) s.activities r.falls first w 64 x m e in absurd (let z : ⊥ = omega arith in z)
    go (inr e) = e

-- Nobody below the lowest number is inside.
none_low : (s : State) → Rooted s → (w first n : ℕ) → n ≡ max first (w + 1) → (x : ℕ) → x < s.activities → x < n → inside s w first x ≡ false
none_low s r w first n b x m h = go (decide (ltb w x))
  where
    go : (ltb w x ≡ true) ⊎ (ltb w x ≡ false) → inside s w first x ≡ false
    go (inl e) = let l = ltb-true w x e in low_outside s r w first x m (omega arith)
    go (inr e) = outside s w first x (ltb-false w x e)

-- THE PASS

-- Those below x are passed, so many of them counted, and whether one has faulted.
pub record InsideTo (b : List ℕ) (w first : ℕ) (marks : List Bool) (count : ℕ) (found : Bool) (x : ℕ) : Type 0 where
  pub few : count ≤ x
  pub passed : (s : State) → Lent b s → Rooted s → Passed s w first marks count found x

module _ {b : List ℕ} {w first made : ℕ} (made_of : Reads (λ (s : State). s.activities) b made) where
  -- more activities than there can be
  pub too_many : {r : Inside} → 64 < made → Sees b w first r
  too_many {r} h = record { counts = λ s l k. absurd (never s l k); finds = λ s l k. absurd (never s l k) }
    where
      never : (s : State) → Lent b s → Rooted s → ⊥
      never s l k = let e = made_of.reads s l in let f = k.few in omega arith

  -- where nobody is inside
  nobody_there : {r : Inside} → (r.unended ≡ 0) × (r.faulted ≡ false) → ((s : State) → Lent b s → Rooted s → (x : ℕ) → x < s.activities → inside s w first x ≡ false) → Sees b w first r
  nobody_there n h = record {
    counts = λ s l k. n.0 ∙ none_unended s w first s.activities (h s l k);
    finds = λ s l k. n.1 ∙ none_faulted s w first s.activities (h s l k);
  }

  -- nobody is above the owner
  pub nobody_above : {r : Inside} → (r.unended ≡ 0) × (r.faulted ≡ false) → made ≤ w → Sees b w first r
  nobody_above n h = nobody_there n (λ s l k x m. let e = made_of.reads s l in outside s w first x (omega arith))

  module _ {n : ℕ} (q : n ≡ max first (w + 1)) where
    -- nobody reaches the lowest number
    pub nobody_inside : {r : Inside} → (r.unended ≡ 0) × (r.faulted ≡ false) → made ≤ n → Sees b w first r
    nobody_inside z h = nobody_there z (λ s l k x m. let e = made_of.reads s l in none_low s k w first n q x m (omega arith))

    pub inside_yet : n < made → InsideTo b w first (replicate 64 false) 0 false n
    inside_yet h = record {
      few = omega arith;
      passed = λ s l k. let e = made_of.reads s l in let f = k.few in passed_none s w first n (λ x g. none_low s k w first n q x (omega arith) g) (omega arith);
    }

  module _ {marks : List Bool} {count : ℕ} {found : Bool} {x : ℕ} (p : InsideTo b w first marks count found x) where
    module _ (above : w < x) (from : first ≤ x) (below : x < made) {y : ℕ} (spawner : ReadsAct (λ (a : Activity). a.spawner) b x y) where
      module _ {r : Bool} (join : r ≡ eqb y w || get_or marks y false) where
        there : (s : State) → Lent b s → x < s.activities
        there s l = let e = made_of.reads s l in omega arith

        is_inside : (s : State) → Lent b s → Rooted s → r ≡ inside s w first x
        is_inside s l k =
            let f = k.few in
            let m = there s l in
            let q : y ≡ spawner_of s x = spawner.reads s l (omega arith) in
            joined s k w first (p.passed s l k) above m (join ∙ rw (q, le-leb first x from, and_right (eqb (spawner_of s x) w)))

        pub inside_out : r ≡ false → InsideTo b w first (set marks x r) count found (x + 1)
        inside_out n = record {
          few = let f = p.few in omega arith;
          passed = λ s l k. passed_outside s k w first (p.passed s l k) above (there s l) (is_inside s l k) n;
        }

        module _ (i : r ≡ true) {n : ℕ} (looked : ReadsAct (λ (a : Activity). status_byte a.status) b x n) where
          stands : (s : State) → Lent b s → Rooted s → n ≡ status_byte (act s x).status
          stands s l k = let f = k.few in let m = there s l in looked.reads s l (omega arith)

          unended : (s : State) → Lent b s → Rooted s → ltb n 2 ≡ not (ended s x)
          unended s l k = ap (λ (n : ℕ). ltb n 2) (stands s l k) ∙ status_below (act s x).status

          faulted : (s : State) → Lent b s → Rooted s → eqb n 3 ≡ is_faulted (act s x).status
          faulted s l k = ap (λ (n : ℕ). eqb n 3) (stands s l k) ∙ status_three (act s x).status

          pub inside_unended : n < 2 → InsideTo b w first (set marks x r) (count + 1) found (x + 1)
          inside_unended h = record {
            few = let f = p.few in omega arith;
            passed = λ s l k. passed_unended s k w first (p.passed s l k) above (there s l) (is_inside s l k) i (unended s l k) (lt-ltb n 2 h);
          }

          pub inside_ended : 2 ≤ n → (n ≡ 3 → ⊥) → InsideTo b w first (set marks x r) count found (x + 1)
          inside_ended h o = record {
            few = let f = p.few in omega arith;
            passed = λ s l k. passed_ended s k w first (p.passed s l k) above (there s l) (is_inside s l k) i (unended s l k) (le-ltb n 2 h) (faulted s l k) (ne_eqb n 3 o);
          }

          pub inside_faulted : 2 ≤ n → n ≡ 3 → InsideTo b w first (set marks x r) count true (x + 1)
          inside_faulted h o = record {
            few = let f = p.few in omega arith;
            passed = λ s l k. passed_faulted s k w first (p.passed s l k) above (there s l) (is_inside s l k) i (unended s l k) (le-ltb n 2 h) (faulted s l k) (eq-eqb n 3 o);
          }
