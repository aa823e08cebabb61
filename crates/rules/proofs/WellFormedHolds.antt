-- The clock names of a well-formed activity as facts: a held clock was made and its phase is in range, a free entry is all 0, no clock has two names. They are
-- kept when one entry is set, all are changed alike, none is left, or some are lent to a child.
use Prim.Native.Nat.{ℕ, zero, suc, ◌+◌, ◌≤◌, ◌<◌}
use native.Mathlib.Omega.{arith}
use mathlib.Core.List.{List, [], ◌∷◌, map}
use mathlib.Core.Bool.{Bool, true, false, cond, ◌||◌, ◌&&◌, not}
use mathlib.Core.Path.{◌≡◌, refl, sym, ap, ◌∙◌, subst}
use mathlib.Core.Logic.{◌⊎◌, inl, inr}
use lib.ListN.{get_or, set, replicate, get_or-map}
use lib.Dec.{ltb, leb, eqb}
use borrow.Author.Tests.{ltb-true, lt-ltb, leb-true, le-leb, eqb-true, eq-eqb, ne_eqb}
use Rattle.rules.specs.declared.state.Registration.{Registration}
use Rattle.rules.specs.declared.state.Registration.TheVariants.{Free, Live, Quiesced}
use Rattle.rules.specs.declared.state.Hold.{Hold}
use Rattle.rules.specs.declared.state.Activity.{Activity}
use Rattle.rules.specs.Search.{all_below}
use Rattle.rules.specs.State.{registration_number, no_hold, no_holds, hold}
use Rattle.rules.specs.Clocks.{is_held, holds, quiesced, revived}
use Rattle.rules.specs.Faults.{bit}
use Rattle.rules.specs.Effects.{lent}
use Rattle.rules.specs.WellFormed.{is_no_hold, hold_fits, names_fit}
use Rattle.rules.proofs.Tests.{and_true, and_intro, not-true, true_false, decide}
use Rattle.rules.proofs.Search.{all_below_at, all_below_intro}
use Rattle.rules.proofs.Lists.{Stored, new, old, stored}

-- The hold under a name.
abbrev pub under : List Hold → ℕ → Hold
under hs k = get_or hs k no_hold

-- ONE HOLD

-- What a hold is like: held, or all 0.
pub record Fits (limit made : ℕ) (h : Hold) : Type 0 where
  pub low : is_held h.registration ≡ true → h.phase ≤ limit
  pub known : is_held h.registration ≡ true → h.clock < made
  pub free : is_held h.registration ≡ false → h ≡ no_hold

-- an entry that is 0 is no hold
no_hold_lem : (h : Hold) → is_no_hold h ≡ true → h ≡ no_hold
no_hold_lem h e =
    let q = and_true (eqb h.phase 0) _ e in
    let r = and_true (eqb h.clock 0) _ q.1 in
    go h.registration (eqb-true h.phase 0 q.0) (eqb-true h.clock 0 r.0) (eqb-true (registration_number h.registration) 0 r.1)
  where
    go : (r : Registration) → h.phase ≡ 0 → h.clock ≡ 0 → registration_number r ≡ 0 → record { phase = h.phase; clock = h.clock; registration = r } ≡ no_hold
    go Free x y z = rw (x, y)
    go Live x y z = absurd (omega arith)
    go Quiesced x y z = absurd (omega arith)

-- The test of a hold.
abbrev fitting : ℕ → ℕ → Hold → Bool
fitting limit made h = cond (is_held h.registration) (leb h.phase limit && ltb h.clock made) (is_no_hold h)

-- what the test says
fits_out : (limit made : ℕ) (h : Hold) → fitting limit made h ≡ true → Fits limit made h
fits_out limit made h e =
    record {
      low = λ q. leb-true h.phase limit (and_true (leb h.phase limit) _ (rw q at e)).0;
      known = λ q. ltb-true h.clock made (and_true (leb h.phase limit) _ (rw q at e)).1;
      free = λ q. no_hold_lem h (rw q at e);
    }

-- and back
fits_in : (limit made : ℕ) (h : Hold) → Fits limit made h → fitting limit made h ≡ true
fits_in limit made h x = go (decide (is_held h.registration))
  where
    go : (is_held h.registration ≡ true) ⊎ (is_held h.registration ≡ false) → fitting limit made h ≡ true
    go (inl q) = rw q (and_intro (leb h.phase limit) _ (le-leb h.phase limit (x.low q)) (lt-ltb h.clock made (x.known q)))
    go (inr q) = rw (x.free q)

-- a free name
pub fits_none : (limit made : ℕ) → Fits limit made no_hold
fits_none limit made = record { low = λ q. absurd (true_false false q refl); known = λ q. absurd (true_false false q refl); free = λ q. refl }

-- more clocks do no harm
pub fits_more : {limit made : ℕ} {h : Hold} (made' : ℕ) → made ≤ made' → Fits limit made h → Fits limit made' h
fits_more made' l x = record { low = x.low; known = λ q. omega (arith, x.known q); free = x.free }

-- a hold of the same clock, in range
pub fits_like : {limit made : ℕ} {h : Hold} (g : Hold) → (is_held g.registration ≡ true → is_held h.registration ≡ true) → (is_held g.registration ≡ true → g.phase ≤ limit)
    → g.clock ≡ h.clock → (is_held g.registration ≡ false → g ≡ no_hold) → Fits limit made h → Fits limit made g
fits_like {limit} {made} {h} g same low clock free x = record { low = low; known = λ q. rw clock (x.known (same q)); free = free }

-- QUIESCING AND PASSING

-- quiescing neither takes nor leaves a clock
pub quiesced_held : (r : Registration) → is_held (quiesced r) ≡ is_held r
quiesced_held Free = refl
quiesced_held Live = refl
quiesced_held Quiesced = refl

-- nor does passing
pub revived_held : (r : Registration) → is_held (revived r) ≡ is_held r
revived_held Free = refl
revived_held Live = refl
revived_held Quiesced = refl

-- ALL CLOCK NAMES

-- What the holds of an activity are like.
pub record Held (limit made : ℕ) (hs : List Hold) : Type 0 where
  pub fits : (k : ℕ) → k < 8 → Fits limit made (under hs k)
  pub distinct : (j k : ℕ) → j < k → k < 8 → is_held (under hs j).registration ≡ true → is_held (under hs k).registration ≡ true → (under hs j).clock ≡ (under hs k).clock → ⊥

-- what their tests say
pub held : (limit made : ℕ) (a : Activity) → all_below 8 (hold_fits limit made a) ≡ true → names_fit a ≡ true → Held limit made a.holds
unfolding hold_fits names_fit
held limit made a e n =
    record {
      fits = λ k l. fits_out limit made (hold a k) (all_below_at 8 (hold_fits limit made a) e k l);
      distinct =
          λ j k l m p q c. true_false (eqb (hold a j).clock (hold a k).clock) (eq-eqb (hold a j).clock (hold a k).clock c)
          (not-true _ (apart (all_below_at k (λ j. not (holds a j && holds a k) || not (eqb (hold a j).clock (hold a k).clock))
          (all_below_at 8 (λ k. all_below k (λ j. not (holds a j && holds a k) || not (eqb (hold a j).clock (hold a k).clock))) n k m) j l) p q));
    }
  where
    apart : {x y z : Bool} → not (x && y) || z ≡ true → x ≡ true → y ≡ true → z ≡ true
    apart {x} {y} {z} h p q = rw (p, q) at h

-- and back
pub held_back : (limit made : ℕ) (a : Activity) → Held limit made a.holds → (all_below 8 (hold_fits limit made a) ≡ true) × (names_fit a ≡ true)
unfolding hold_fits names_fit
held_back limit made a x = (
  all_below_intro 8 (hold_fits limit made a) (λ k l. fits_in limit made (hold a k) (x.fits k l)),
  all_below_intro 8 (λ k. all_below k (λ j. not (holds a j && holds a k) || not (eqb (hold a j).clock (hold a k).clock))) (λ k m. all_below_intro k _ (λ j l. go j k l m (decide (holds a j)) (decide (holds a k)))),
)
  where
    go : (j k : ℕ) → j < k → k < 8 → (holds a j ≡ true) ⊎ (holds a j ≡ false) → (holds a k ≡ true) ⊎ (holds a k ≡ false)
        → not (holds a j && holds a k) || not (eqb (hold a j).clock (hold a k).clock) ≡ true
    go j k l m (inl p) (inl q) = rw (p, q, ne_eqb (hold a j).clock (hold a k).clock (x.distinct j k l m p q))
    go j k l m (inl p) (inr q) = rw (p, q)
    go j k l m (inr p) q = rw p

-- more clocks do no harm
pub held_more : {limit made : ℕ} {hs : List Hold} (made' : ℕ) → made ≤ made' → Held limit made hs → Held limit made' hs
held_more made' l x = record { fits = λ k m. fits_more made' l (x.fits k m); distinct = x.distinct }

-- holds that are like others: of the same clocks, and none is held that was not
pub held_like : {limit made : ℕ} {hs : List Hold} (gs : List Hold) → ((k : ℕ) → k < 8 → is_held (under gs k).registration ≡ true → is_held (under hs k).registration ≡ true)
    → ((k : ℕ) → k < 8 → is_held (under gs k).registration ≡ true → (under gs k).clock ≡ (under hs k).clock) → ((k : ℕ) → k < 8 → Fits limit made (under gs k)) → Held limit made hs → Held limit made gs
held_like gs same clock fits x =
    record {
      fits = fits;
      distinct = λ j k l m p q c. x.distinct j k l m (same j (omega arith) p) (same k m q) (sym (clock j (omega arith) p) ∙ c ∙ clock k m q);
    }

-- where no clock is held, no name has one
pub under_none : (n k : ℕ) → under (replicate n no_hold) k ≡ no_hold
under_none zero k = refl
under_none (suc n) zero = refl
under_none (suc n) (suc k) = under_none n k

-- the hold under a name after all were changed
pub under_map : (f : Hold → Hold) → f no_hold ≡ no_hold → (hs : List Hold) (k : ℕ) → under (map f hs) k ≡ f (under hs k)
under_map f e hs k = ap (λ d. get_or (map f hs) k d) (sym e) ∙ get_or-map f hs k no_hold

-- no clock is held
pub held_none : {limit made : ℕ} → Held limit made no_holds
held_none {limit} {made} =
    record { fits = λ k l. rw (under_none 8 k) (fits_none limit made); distinct = λ j k l m p q c. true_false false (rw (under_none 8 j) at p) refl }

-- all changed alike
pub held_map : {limit made : ℕ} {hs : List Hold} (f : Hold → Hold) → f no_hold ≡ no_hold → ((h : Hold) → is_held (f h).registration ≡ is_held h.registration) → ((h : Hold) → (f h).clock ≡ h.clock)
    → ((k : ℕ) → k < 8 → is_held (under hs k).registration ≡ true → (f (under hs k)).phase ≤ limit) → Held limit made hs → Held limit made (map f hs)
held_map {limit} {made} {hs} f e same clock low x =
    held_like (map f hs) (λ k l q. sym (same (under hs k)) ∙ rw (under_map f e hs k) at q) (λ k l q. rw (under_map f e hs k) (clock (under hs k)))
    (λ k l. rw (under_map f e hs k)
    (fits_like (f (under hs k)) (λ q. sym (same (under hs k)) ∙ q) (λ q. low k l (sym (same (under hs k)) ∙ q)) (clock (under hs k))
    (λ q. ap f ((x.fits k l).free (sym (same (under hs k)) ∙ q)) ∙ e) (x.fits k l))) x

-- one set, to a hold of the same clock or to none
pub held_set : {limit made : ℕ} {hs : List Hold} (n : ℕ) (h : Hold) → (is_held h.registration ≡ true → is_held (under hs n).registration ≡ true)
    → (is_held h.registration ≡ true → h.clock ≡ (under hs n).clock) → Fits limit made h → Held limit made hs → Held limit made (set hs n h)
held_set {limit} {made} {hs} n h same clock fits x =
    held_like (set hs n h) (λ k l. go₁ k (stored hs n h k no_hold)) (λ k l. go₂ k (stored hs n h k no_hold)) (λ k l. go₃ k l (stored hs n h k no_hold)) x
  where
    go₁ : (k : ℕ) → Stored hs n h k no_hold → is_held (under (set hs n h) k).registration ≡ true → is_held (under hs k).registration ≡ true
    go₁ k (new e p) q = subst (λ k. is_held (under hs k).registration ≡ true) (sym e) (same (rw p at q))
    go₁ k (old p) q = rw p at q

    go₂ : (k : ℕ) → Stored hs n h k no_hold → is_held (under (set hs n h) k).registration ≡ true → (under (set hs n h) k).clock ≡ (under hs k).clock
    go₂ k (new e p) q = rw p (clock (rw p at q) ∙ ap (λ k. (under hs k).clock) (sym e))
    go₂ k (old p) q = rw p

    go₃ : (k : ℕ) → k < 8 → Stored hs n h k no_hold → Fits limit made (under (set hs n h) k)
    go₃ k l (new e p) = rw p fits
    go₃ k l (old p) = rw p (x.fits k l)

-- a new clock
pub held_new : {limit made : ℕ} {hs : List Hold} (n : ℕ) → Held limit made hs → Held limit (made + 1) (set hs n (record { phase = 0; clock = made; registration = Live }))
held_new {limit} {made} {hs} n x =
    record { fits = λ k l. go k l (stored hs n h k no_hold); distinct = λ j k l m p q c. apart j k l m (stored hs n h j no_hold) (stored hs n h k no_hold) p q c }
  where
    h : Hold
    h = record { phase = 0; clock = made; registration = Live }

    go : (k : ℕ) → k < 8 → Stored hs n h k no_hold → Fits limit (made + 1) (under (set hs n h) k)
    go k l (new e p) = rw p (record { low = λ q. omega arith; known = λ q. omega arith; free = λ q. absurd (true_false true refl q) })
    go k l (old p) = rw p (fits_more (made + 1) (omega arith) (x.fits k l))

    apart : (j k : ℕ) → j < k → k < 8 → Stored hs n h j no_hold → Stored hs n h k no_hold → is_held (under (set hs n h) j).registration ≡ true → is_held (under (set hs n h) k).registration ≡ true
        → (under (set hs n h) j).clock ≡ (under (set hs n h) k).clock → ⊥
    apart j k l m (new e p) (new e' p') q q' c = omega arith
    apart j k l m (new e p) (old p') q q' c = let z = (x.fits k m).known (rw p' at q') in let y : made ≡ (under hs k).clock = rw (p, p') at c in omega arith
    apart j k l m (old p) (new e' p') q q' c = let z = (x.fits j (omega arith)).known (rw p at q) in let y : (under hs j).clock ≡ made = rw (p, p') at c in omega arith
    apart j k l m (old p) (old p') q q' c = x.distinct j k l m (rw p at q) (rw p' at q') (rw (p, p') at c)

-- WHAT IS LENT

-- What a child gets under name k, whose bit of the mask is at `at`: its spawner's clock, live, or nothing.
pub data Lent (m : ℕ) (hs : List Hold) (at k : ℕ) (h : Hold) : Type 0 where
  lends : bit m at ≡ true → h ≡ record { phase = (under hs k).phase; clock = (under hs k).clock; registration = Live } → Lent m hs at k h
  keeps : h ≡ no_hold → Lent m hs at k h

-- each name is one of the two, where the first is name j
pub lent_at : (m j : ℕ) (hs : List Hold) (k : ℕ) → Lent m hs (j + k) k (under (lent m j hs) k)
unfolding lent
lent_at m j [] k = keeps refl
lent_at m j (x ∷ hs) zero = let z : j + 0 ≡ j = omega arith in rw z (go (bit m j) refl)
  where
    go : (v : Bool) → bit m j ≡ v → Lent m (x ∷ hs) j 0 (cond v (record { phase = x.phase; clock = x.clock; registration = Live }) no_hold)
    go true e = lends e refl
    go false e = keeps refl
lent_at m j (x ∷ hs) (suc k) = let z : j + suc k ≡ suc j + k = omega arith in rw z (go (lent_at m (suc j) hs k))
  where
    go : Lent m hs (suc j + k) k (under (lent m (suc j) hs) k) → Lent m (x ∷ hs) (suc j + k) (suc k) (under (lent m (suc j) hs) k)
    go (lends e p) = lends e p
    go (keeps p) = keeps p

-- the same from name 0 on
pub lent_held : (m : ℕ) (hs : List Hold) (k : ℕ) → Lent m hs k k (under (lent m 0 hs) k)
lent_held m hs k = let z : 0 + k ≡ k = omega arith in rw z at (lent_at m 0 hs k)

-- what is lent is held
pub held_lent : {limit made : ℕ} {hs : List Hold} (m : ℕ) → ((k : ℕ) → k < 8 → bit m k ≡ true → is_held (under hs k).registration ≡ true) → Held limit made hs → Held limit made (lent m 0 hs)
held_lent {limit} {made} {hs} m h x =
    held_like (lent m 0 hs) (λ k l q. go₁ k l (under (lent m 0 hs) k) q (lent_held m hs k)) (λ k l q. go₂ k (under (lent m 0 hs) k) q (lent_held m hs k))
    (λ k l. go₃ k l (under (lent m 0 hs) k) (lent_held m hs k)) x
  where
    go₁ : (k : ℕ) → k < 8 → (g : Hold) → is_held g.registration ≡ true → Lent m hs k k g → is_held (under hs k).registration ≡ true
    go₁ k l g q (lends b e) = h k l b
    go₁ k l g q (keeps e) = absurd (true_false false (rw e at q) refl)

    go₂ : (k : ℕ) (g : Hold) → is_held g.registration ≡ true → Lent m hs k k g → g.clock ≡ (under hs k).clock
    go₂ k g q (lends b e) = rw e
    go₂ k g q (keeps e) = absurd (true_false false (rw e at q) refl)

    go₃ : (k : ℕ) → k < 8 → (g : Hold) → Lent m hs k k g → Fits limit made g
    go₃ k l g (lends b e) =
        rw e (record { low = λ q. (x.fits k l).low (h k l b); known = λ q. (x.fits k l).known (h k l b); free = λ q. absurd (true_false true refl q) })
    go₃ k l g (keeps e) = rw e (fits_none limit made)
