-- Who is inside a finish, found in one pass upwards: the marks of those passed, how many of them are inside and unended, and whether one of them has faulted.
use Prim.Native.Nat.{ℕ, zero, suc, ◌+◌, ◌≤◌, ◌<◌}
use native.Mathlib.Omega.{arith}
use mathlib.Core.Path.{◌≡◌, refl, sym, ap, ◌∙◌}
use mathlib.Core.List.{List}
use mathlib.Core.Logic.{◌⊎◌, inl, inr}
use mathlib.Core.Bool.{Bool, true, false, ◌||◌, ◌&&◌, not}
use lib.ListN.{length, get_or, set, replicate, length-set, length-replicate, get_or-replicate}
use lib.Seq.{get_or-set_same, get_or-set_other}
use lib.Dec.{leb, eqb}
use borrow.Author.Count.{below_more}
use borrow.Author.Tests.{lt-ltb, le-leb}
use Rattle.rules.specs.declared.state.State.{State}
use Rattle.rules.specs.State.{act, is_faulted, ended}
use Rattle.rules.specs.Search.{some_below, count_below, chain}
use Rattle.rules.specs.Tree.{spawner_of, descends, inside}
use Rattle.rules.specs.Faults.{faulted_inside}
use Rattle.rules.specs.Waiting.{unended_below, unended_inside}
use Rattle.rules.proofs.Tests.{decide, true_false, not-true}
use Rattle.rules.proofs.Search.{some_below_all, chain_above, chain_step}
use Rattle.rules.proofs.Delivered.{unended_faultless}
use Rattle.rules.proofs.Counting.{counted, uncounted, count_alike, count_none}
use Rattle.places.specs.Rooted.{Rooted}
use Rattle.places.proofs.Searches.{some_more}

-- Of the activities below x: the marks are of those inside, so many of these are unended, and whether one of these has faulted.
pub record Passed (s : State) (w first : ℕ) (marks : List Bool) (count : ℕ) (found : Bool) (x : ℕ) : Type 0 where
  pub sized : length marks ≡ 64
  pub marked : (k : ℕ) → k < x → get_or marks k false ≡ inside s w first k
  pub counts : count ≡ count_below x (unended_inside s w first)
  pub finds : found ≡ some_below x (faulted_inside s w first)

-- Nobody up to the owner is inside.
pub outside : (s : State) (w first x : ℕ) → x ≤ w → inside s w first x ≡ false
unfolding inside
outside s w first x h = go (decide (inside s w first x))
  where
    go : (inside s w first x ≡ true) ⊎ (inside s w first x ≡ false) → inside s w first x ≡ false
    go (inl e) = let l = chain_above (spawner_of s) (leb first) w 64 x e in absurd (let z : ⊥ = omega arith in z)
    go (inr e) = e

not_unended : (s : State) (w first x : ℕ) → inside s w first x ≡ false → unended_inside s w first x ≡ false
unfolding unended_inside
not_unended s w first x e = rw e

not_faulted : (s : State) (w first x : ℕ) → inside s w first x ≡ false → faulted_inside s w first x ≡ false
unfolding faulted_inside
not_faulted s w first x e = rw e

-- Where nobody below x is inside, nobody is counted or found.
module _ (s : State) (w first x : ℕ) (h : (k : ℕ) → k < x → inside s w first k ≡ false) where
  pub none_unended : 0 ≡ count_below x (unended_inside s w first)
  none_unended = sym (count_none x (unended_inside s w first) (λ k l. not_unended s w first k (h k l)))

  pub none_faulted : false ≡ some_below x (faulted_inside s w first)
  none_faulted = sym (some_below_all x (faulted_inside s w first) (λ k l e. true_false (faulted_inside s w first k) e (not_faulted s w first k (h k l))))

  pub passed_none : x ≤ 64 → Passed s w first (replicate 64 false) 0 false x
  passed_none few = record {
    sized = length-replicate 64 false;
    marked = λ k l. get_or-replicate 64 k false false (omega arith) ∙ sym (h k l);
    counts = none_unended;
    finds = none_faulted;
  }

module _ (s : State) (r : Rooted s) (w first : ℕ) {marks : List Bool} {count : ℕ} {found : Bool} {x : ℕ} (p : Passed s w first marks count found x) (low : w < x) (made : x < s.activities) where
  -- An activity is inside by its own spawning, or with its spawner.
  pub joined : {b : Bool} → b ≡ (eqb (spawner_of s x) w && leb first x) || get_or marks (spawner_of s x) false → b ≡ inside s w first x
  unfolding inside
  joined {b} e =
      let few = r.few in
      let falls = r.falls x (omega arith) made in
      let q = chain_step (spawner_of s) s.activities r.falls (leb first) w 64 x made (omega arith) in
      e ∙ ap (λ (u : Bool). (eqb (spawner_of s x) w && leb first x) || u) (p.marked (spawner_of s x) falls) ∙ sym (rw (lt-ltb w x low) at q)

  module _ {b : Bool} (e : b ≡ inside s w first x) where
    -- One more is passed, with the count after it, and by whether it has faulted.
    passed_on_lem : {next : ℕ} {f : Bool} → next ≡ count_below (x + 1) (unended_inside s w first) → f ≡ faulted_inside s w first x → {now : Bool} → now ≡ f || found
        → Passed s w first (set marks x b) next now (x + 1)
    passed_on_lem n f o =
        let few = r.few in
        let long = p.sized in
        record {
          sized = length-set marks x b ∙ p.sized;
          marked =
              below_more (λ (k : ℕ). get_or (set marks x b) k false ≡ inside s w first k) x (λ k l. get_or-set_other marks x k b false (λ q. omega arith) ∙ p.marked k l)
              (get_or-set_same marks x b false (omega arith) ∙ e);
          counts = n;
          finds = o ∙ rw (f, p.finds) (sym (some_more x (faulted_inside s w first)));
        }

    -- It is not inside.
    pub passed_outside : b ≡ false → Passed s w first (set marks x b) count found (x + 1)
    passed_outside f =
        let n : inside s w first x ≡ false = sym e ∙ f in
        passed_on_lem (uncounted (unended_inside s w first) x count false p.counts (sym (not_unended s w first x n)) refl) (sym (not_faulted s w first x n)) refl

    -- It is inside, and has not ended, ended well, or faulted.
    module _ (f : b ≡ true) {u : Bool} (g : u ≡ not (ended s x)) where
      looked : u ≡ unended_inside s w first x
      unfolding unended_inside
      looked = g ∙ rw (sym e ∙ f)

      fault_looked : {v : Bool} → v ≡ is_faulted (act s x).status → v ≡ faulted_inside s w first x
      unfolding faulted_inside
      fault_looked h = h ∙ rw (sym e ∙ f)

      pub passed_unended : u ≡ true → Passed s w first (set marks x b) (count + 1) found (x + 1)
      passed_unended h =
          passed_on_lem (counted (unended_inside s w first) x count u p.counts looked h)
          (fault_looked (sym (unended_faultless (act s x).status (not-true (ended s x) (sym g ∙ h))))) refl

      module _ (h : u ≡ false) {v : Bool} (k : v ≡ is_faulted (act s x).status) where
        same_count : count ≡ count_below (x + 1) (unended_inside s w first)
        same_count = uncounted (unended_inside s w first) x count u p.counts looked h

        pub passed_ended : v ≡ false → Passed s w first (set marks x b) count found (x + 1)
        passed_ended n = passed_on_lem same_count (fault_looked k) (rw n)

        pub passed_faulted : v ≡ true → Passed s w first (set marks x b) count true (x + 1)
        passed_faulted n = passed_on_lem same_count (fault_looked k) (rw n)

-- ALL DESCENDANTS

chain_any : (sp : ℕ → ℕ) (w n x : ℕ) → chain sp (λ y. true) w n x ≡ chain sp (leb 0) w n x
unfolding chain
chain_any sp w zero x = refl
chain_any sp w (suc n) x = let e : leb 0 x ≡ true = le-leb 0 x (omega arith) in rw (chain_any sp w n (sp x), e)

-- A descendant is one inside a finish that began before anyone was spawned.
pub descends_inside : (s : State) (w x : ℕ) → descends s w x ≡ inside s w 0 x
unfolding descends inside
descends_inside s w x = chain_any (spawner_of s) w 64 x

-- So READ and RESET count those inside from number 0 on.
pub unended_below_lem : (s : State) (w : ℕ) → count_below s.activities (unended_below s w) ≡ count_below s.activities (unended_inside s w 0)
unfolding unended_below unended_inside
unended_below_lem s w = count_alike s.activities (unended_below s w) (unended_inside s w 0) (λ k l. rw (descends_inside s w k))
