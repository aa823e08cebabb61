-- The faults of ASYNC.
use Prim.Native.Nat.{ℕ, ◌+◌, ◌-◌, ◌≤◌, ◌<◌}
use native.Mathlib.Omega.{arith}
use mathlib.Core.Path.{◌≡◌, refl, sym, ap, ◌∙◌}
use mathlib.Core.List.{List}
use mathlib.Core.Bool.{Bool, true, false, cond, ◌&&◌, not}
use borrow.Author.Tests.{lt-ltb}
use Rattle.program.specs.Bodies.{Program}
use Rattle.rules.specs.declared.state.Registration.{Registration}
use Rattle.rules.specs.declared.state.Registration.TheVariants.{Free, Live, Quiesced}
use Rattle.rules.specs.declared.state.Frame.{Frame}
use Rattle.rules.specs.declared.state.Hold.{Hold}
use Rattle.rules.specs.declared.state.Activity.{Activity}
use Rattle.rules.specs.declared.state.State.{State}
use Rattle.rules.specs.Search.{some_below}
use Rattle.rules.specs.State.{act, frame, hold}
use Rattle.rules.specs.Clocks.{is_live, holds}
use Rattle.rules.specs.Tree.{here, is_finish, finishes, in_own_finish}
use Rattle.rules.specs.WellFormed.{is_placed}
use Rattle.rules.specs.Faults.{bit, lends_unheld, lends_quiesced, async_fault}
use Rattle.rules.proofs.Search.{some_below_intro}
use Rattle.places.proofs.Searches.{some_more}
use Rattle.places.specs.Stack.{Stacked}
use Rattle.fields.specs.Lent.{Lent, ReadsAct}
use Rattle.bodies.specs.Lends.{ReadsIn, lend_fault}

-- F1 AND F2

-- name k is lent, and not held
abbrev unheld : ℕ → Activity → ℕ → Bool
unheld m a k = bit m k && not (holds a k)

-- name k is lent, held and not live
abbrev quiet : ℕ → Activity → ℕ → Bool
quiet m a k = bit m k && (holds a k && not (is_live (hold a k).registration))

-- What the first k names come to: no F1, and F2 or not.
pub record LendsTo (m k : ℕ) (b : List ℕ) (i found : ℕ) : Type 0 where
  pub within : k ≤ 8
  pub held : (s : State) → Lent b s → i < 64 → some_below k (unheld m (act s i)) ≡ false
  pub noted : (s : State) → Lent b s → i < 64 → found ≡ cond (some_below k (quiet m (act s i))) 2 0

pub lend_none : {m : ℕ} {b : List ℕ} {i : ℕ} → LendsTo m 0 b i 0
unfolding some_below
lend_none = record { within = omega arith; held = λ s l j. refl; noted = λ s l j. refl }

module _ {m : ℕ} {b : List ℕ} {i found k : ℕ} (g : LendsTo m k b i found) where
  pub lend_done : 8 ≤ k → ReadsAct (λ (a : Activity). lend_fault a m) b i found
  unfolding lends_unheld lends_quiesced
  lend_done h =
      let w = g.within in
      let e : k ≡ 8 = omega arith in
      record { reads = λ s l j. let u = rw e at (g.held s l j) in let v = rw e at (g.noted s l j) in v ∙ rw u }

  module _ (low : k < 8) where
    -- name k is not lent
    pub lend_skip : bit m k ≡ false → LendsTo m (k + 1) b i found
    lend_skip f =
        record {
          within = omega arith;
          held = λ s l j. some_more k (unheld m (act s i)) ∙ rw f (g.held s l j);
          noted = λ s l j. g.noted s l j ∙ rw (some_more k (quiet m (act s i)), f);
        }

    module _ (f : bit m k ≡ true) {h : Hold} (read : k < 8 → ReadsAct (λ (a : Activity). hold a k) b i h) where
      stands : {x : Registration} → h.registration ≡ x → (s : State) → Lent b s → i < 64 → (hold (act s i) k).registration ≡ x
      stands e s l j = ap (λ (o : Hold). o.registration) (sym ((read low).reads s l j)) ∙ e

      -- it is, of a clock that is not held
      pub lend_free : h.registration ≡ Free → ReadsAct (λ (a : Activity). lend_fault a m) b i 1
      unfolding lends_unheld
      lend_free e = record { reads = λ s l j. rw (some_below_intro 8 (unheld m (act s i)) k low (rw (f, stands e s l j))) }

      -- of one that is live
      pub lend_live : h.registration ≡ Live → LendsTo m (k + 1) b i found
      lend_live e =
          record {
            within = omega arith;
            held = λ s l j. some_more k (unheld m (act s i)) ∙ rw (f, stands e s l j) (g.held s l j);
            noted = λ s l j. g.noted s l j ∙ rw (some_more k (quiet m (act s i)), f, stands e s l j);
          }

      -- of one that is quiesced
      pub lend_quiet : h.registration ≡ Quiesced → LendsTo m (k + 1) b i 2
      lend_quiet e =
          record {
            within = omega arith;
            held = λ s l j. some_more k (unheld m (act s i)) ∙ rw (f, stands e s l j) (g.held s l j);
            noted = λ s l j. rw (some_more k (quiet m (act s i)), f, stands e s l j);
          }

-- F3

-- The test of frame d, below the top.
pub tested : {p : Program} {b : List ℕ} {s : State} {i d : ℕ} {f : Frame} {x : Bool} → Lent b s → i < 64 → Stacked p (act s i) → d < (act s i).depth - 1
    → (d < 16 → ReadsAct (λ (a : Activity). frame a d) b i f) → (is_placed p f ≡ true → x ≡ is_finish (here p f).command) → x ≡ finishes p (act s i) d
unfolding finishes
tested {s = s} {i} {d} {f} l j w h read test =
    let few = w.few in
    let q : f ≡ frame (act s i) d = (read (omega arith)).reads s l j in
    test (rw q (w.placed d (omega arith))) ∙ rw q

-- ALL THREE

module _ {t b : List ℕ} {i m : ℕ} where
  pub lends_nothing : m ≡ 0 → ReadsIn (λ (p : Program) (a : Activity). async_fault p a m) t b i 0
  unfolding async_fault lends_unheld lends_quiesced some_below
  lends_nothing e = record { reads = λ s l j w. rw e }

  module _ (some : m ≡ 0 → ⊥) {x : Bool} (own : ReadsIn in_own_finish t b i x) where
    pub lends_inside : x ≡ true → ReadsIn (λ (p : Program) (a : Activity). async_fault p a m) t b i 3
    unfolding async_fault
    lends_inside e = record { reads = λ s l j w. rw (lt-ltb 0 m (omega arith), sym (own.reads s l j w) ∙ e) }

    pub lends_outside : {r : ℕ} → x ≡ false → ReadsAct (λ (a : Activity). lend_fault a m) b i r → ReadsIn (λ (p : Program) (a : Activity). async_fault p a m) t b i r
    unfolding async_fault
    lends_outside e g = record { reads = λ s l j w. g.reads s l j ∙ rw (lt-ltb 0 m (omega arith), sym (own.reads s l j w) ∙ e) }
