-- The holds of an activity: what a step makes of each, and facts of each hold of a list.
use Prim.Native.Nat.{ℕ, zero, suc, ◌+◌, ◌/◌, ◌^◌, ◌<◌}
use native.Mathlib.Omega.{arith}
use native.Mathlib.Nat.{zero-div}
use mathlib.Core.List.{List, [], ◌∷◌, map}
use mathlib.Core.Bool.{Bool, true, false, cond, ◌&&◌, not}
use mathlib.Core.Path.{◌≡◌, refl, sym, ap, ◌∙◌, subst}
use lib.ListN.{length, get_or, set, replicate, get_or-map}
use lib.Dec.{ltb, leb}
use borrow.Author.Tests.{lt-ltb}
use Rattle.program.specs.declared.command.Command.{Command}
use Rattle.program.specs.declared.command.Command.TheVariants.{Async}
use Rattle.rules.specs.declared.state.Status.TheVariants.{Ended}
use Rattle.rules.specs.declared.state.Registration.{Registration}
use Rattle.rules.specs.declared.state.Registration.TheVariants.{Free, Live, Quiesced}
use Rattle.rules.specs.declared.state.Hold.{Hold}
use Rattle.rules.specs.declared.state.Activity.{Activity}
use Rattle.program.specs.Bodies.{Program}
use Rattle.rules.specs.State.{no_hold, hold, top, is_at_barrier}
use Rattle.rules.specs.Clocks.{is_held, quiesce, quiesced, revived, holds, is_live, pass}
use Rattle.rules.specs.Tree.{in_own_finish}
use Rattle.rules.specs.Faults.{bit, Env, fault_for, async_fault, lends_unheld, lends_quiesced}
use Rattle.rules.specs.Effects.{lent, end_of, again, popped, past, stopped, next_of, Effect, pushed}
use Rattle.rules.proofs.Tests.{true_false, cond_zero, and_not, and_false}
use Rattle.rules.proofs.Search.{some_below_none}
use Rattle.rules.proofs.Lists.{old, stored, Stored, new}
use Rattle.rules.proofs.Shapes.{ends, Replaced, dropped, resumed, created, Reheld, kept, replaced, Kind, meets, forks, opens, enters, moves}

-- EACH HOLD OF A LIST

-- A fact of what stands under each name.
unfoldable pub EachHold : (Hold → Type 0) → List Hold → Type 0
EachHold P l = (k : ℕ) → P (get_or l k no_hold)

-- What stands under a name after a change of all.
pub get_or_mapped : (f : Hold → Hold) → f no_hold ≡ no_hold → (l : List Hold) (k : ℕ) → get_or (map f l) k no_hold ≡ f (get_or l k no_hold)
get_or_mapped f e l k = ap (λ d. get_or (map f l) k d) (sym e) ∙ get_or-map f l k no_hold

-- An empty array holds nothing.
pub get_or_none : (n k : ℕ) → get_or (replicate n no_hold) k no_hold ≡ no_hold
get_or_none zero k = refl
get_or_none (suc n) zero = refl
get_or_none (suc n) (suc k) = get_or_none n k

-- All are changed alike.
pub each_map : (P Q : Hold → Type 0) (f : Hold → Hold) → f no_hold ≡ no_hold → ((h : Hold) → P h → Q (f h)) → (l : List Hold) → EachHold P l → EachHold Q (map f l)
unfolding EachHold
each_map P Q f e g l p k = subst Q (sym (get_or_mapped f e l k)) (g (get_or l k no_hold) (p k))

-- One gets another value.
pub each_set : (P : Hold → Type 0) (l : List Hold) (j : ℕ) (h : Hold) → P h → EachHold P l → EachHold P (set l j h)
unfolding EachHold
each_set P l j h q p k = go (stored l j h k no_hold)
  where
    go : Stored l j h k no_hold → P (get_or (set l j h) k no_hold)
    go (new e v) = subst P (sym v) q
    go (old v) = subst P (sym v) (p k)

-- None is held.
pub each_none : (P : Hold → Type 0) → P no_hold → (n : ℕ) → EachHold P (replicate n no_hold)
unfolding EachHold
each_none P q n k = subst P (sym (get_or_none n k)) q

-- What a child gets: each hold of a bit of the mask, live, and nothing else.
pub each_lent : (P Q : Hold → Type 0) → Q no_hold → (m j : ℕ) (l : List Hold)
    → ((k : ℕ) → bit m (j + k) ≡ true → P (get_or l k no_hold) → k < length l
    → Q (record { phase = (get_or l k no_hold).phase; clock = (get_or l k no_hold).clock; registration = Live }))
    → EachHold P l → EachHold Q (lent m j l)
unfolding EachHold lent
each_lent P Q q m j [] g p k = q
each_lent P Q q m j (x ∷ l) g p zero = go (bit m j) refl
  where
    go : (v : Bool) → bit m j ≡ v → Q (cond v (record { phase = x.phase; clock = x.clock; registration = Live }) no_hold)
    go true e = let z : j + 0 ≡ j = omega arith in g 0 (rw z e) (p 0) (omega arith)
    go false e = q
each_lent P Q q m j (x ∷ l) g p (suc k) =
    each_lent P Q q m (suc j) l (λ n e r h. let z : suc j + n ≡ j + suc n = omega arith in g (suc n) (rw z at e) r (omega arith)) (λ n. p (suc n)) k

-- A clock lent is one of the list's, under the same name, with a bit in the mask.
pub lent_held : (m j : ℕ) (l : List Hold) (k : ℕ) → is_held (get_or (lent m j l) k no_hold).registration ≡ true
    → (k < length l) × (bit m (j + k) ≡ true) × ((get_or l k no_hold).clock ≡ (get_or (lent m j l) k no_hold).clock)
unfolding lent
lent_held m j [] k h = absurd (true_false false h refl)
lent_held m j (x ∷ l) zero h = go (bit m j) refl h
  where
    go : (v : Bool) → bit m j ≡ v → is_held (cond v (record { phase = x.phase; clock = x.clock; registration = Live }) no_hold).registration ≡ true
        → (0 < suc (length l)) × (bit m (j + 0) ≡ true) × (x.clock ≡ (cond v (record { phase = x.phase; clock = x.clock; registration = Live }) no_hold).clock)
    go true e h = let z : j + 0 ≡ j = omega arith in (omega arith, rw z e, refl)
    go false e h = absurd (true_false false h refl)
lent_held m j (x ∷ l) (suc k) h =
    let r = lent_held m (suc j) l k h in
    let z : j + suc k ≡ suc j + k = omega arith in
    (omega (arith, r.0), rw z r.1, r.2)

-- Quiescing takes nothing up.
pub held_quiesced : (r : Registration) → is_held (quiesced r) ≡ true → is_held r ≡ true
held_quiesced Free e = e
held_quiesced Live e = refl
held_quiesced Quiesced e = refl

-- Nor does passing.
pub held_revived : (r : Registration) → is_held (revived r) ≡ true → is_held r ≡ true
held_revived Free e = e
held_revived Live e = refl
held_revived Quiesced e = refl

-- A MASK THAT LENDS WITHOUT A FAULT

-- A mask with a bit is not 0.
bit_some : (m k : ℕ) → bit m k ≡ true → 0 < m
bit_some zero k h = let z : 0 / (2 ^ k) ≡ 0 = zero-div (2 ^ k) in absurd (true_false false (rw z at h) refl)
bit_some (suc m) k h = omega arith

-- No fault: each clock lent is held and live, and who lends one is in no own FINISH body.
pub record Lends (p : Program) (a : Activity) (m : ℕ) : Type 0 where
  pub outside : (k : ℕ) → bit m k ≡ true → in_own_finish p a ≡ false
  pub held : (k : ℕ) → k < 8 → bit m k ≡ true → holds a k ≡ true
  pub live : (k : ℕ) → k < 8 → bit m k ≡ true → is_live (hold a k).registration ≡ true

-- F3, F1 and F2 are tried and not met.
pub lends : (p : Program) (e : Env) (i : ℕ) (a : Activity) (b m : ℕ) → fault_for p e i a (Async b m) ≡ 0 → Lends p a m
unfolding fault_for async_fault lends_unheld lends_quiesced
lends p e i a b m f =
    let u = cond_zero (ltb 0 m && in_own_finish p a) 2 _ f in
    let v = cond_zero (lends_unheld a m) 0 _ u.1 in
    let w = cond_zero (lends_quiesced a m) 1 0 v.1 in
    let held : (k : ℕ) → k < 8 → bit m k ≡ true → holds a k ≡ true
    = λ k l q. and_not (bit m k) (holds a k) (some_below_none 8 (λ k. bit m k && not (holds a k)) v.0 k l) q in
    record {
      outside = λ k q. and_false (ltb 0 m) (in_own_finish p a) u.0 (lt-ltb 0 m (bit_some m k q));
      held = held;
      live = λ k l q.
          and_not (holds a k) (is_live (hold a k).registration)
          (and_false (bit m k) _ (some_below_none 8 (λ k. bit m k && (holds a k && not (is_live (hold a k).registration))) w.0 k l) q)
          (held k l q);
    }

-- WHAT A STEP MAKES OF A HOLD

-- It stays, is gone, is quiesced, passes, or is of a new clock.
pub data Became (made : ℕ) (h h' : Hold) : Type 0 where
  unchanged : h' ≡ h → Became made h h'
  vacated : h' ≡ no_hold → Became made h h'
  quieted : h' ≡ quiesce h → Became made h h'
  raised : h' ≡ pass h → Became made h h'
  begun : h' ≡ record { phase = 0; clock = made; registration = Live } → Became made h h'

-- The same under each name.
unfoldable pub Turned : ℕ → List Hold → List Hold → Type 0
Turned made l l' = (k : ℕ) → Became made (get_or l k no_hold) (get_or l' k no_hold)

module _ (made : ℕ) (l : List Hold) where
  -- No hold changes.
  turned_same : Turned made l l
  unfolding Turned
  turned_same k = unchanged refl

  -- All are gone.
  pub turned_none : (n : ℕ) → Turned made l (replicate n no_hold)
  unfolding Turned
  turned_none n k = vacated (get_or_none n k)

  -- One gets another value.
  turned_set : {clocked : Bool} (n : ℕ) (h : Hold) → Replaced made clocked (get_or l n no_hold) h → Turned made l (set l n h)
  unfolding Turned
  turned_set {clocked} n h r k = go (stored l n h k no_hold) r
    where
      go : Stored l n h k no_hold → Replaced made clocked (get_or l n no_hold) h → Became made (get_or l k no_hold) (get_or (set l n h) k no_hold)
      go (new e v) (dropped q) = vacated (v ∙ q)
      go (new e v) (resumed q) = quieted (v ∙ q ∙ ap (λ n. quiesce (get_or l n no_hold)) (sym e))
      go (new e v) (created y q) = begun (v ∙ q)
      go (old v) r = unchanged v

  -- One at most.
  turned_held : {clocked : Bool} (l' : List Hold) → Reheld made clocked l l' → Turned made l l'
  turned_held l' (kept q) = rw q turned_same
  turned_held l' (replaced n h r q) = rw q (turned_set n h r)

-- Each outcome of END.
turned_end : (p : Program) (made : ℕ) (a : Activity) → Turned made a.holds (end_of p a).holds
unfolding end_of again popped past
turned_end p made a = go (leb a.depth 1) (ltb 1 (top a).runs)
  where
    go : (x y : Bool) → Turned made a.holds (cond x (stopped a Ended) (cond y (again a) (popped p a))).holds
    go true y = turned_none made a.holds 8
    go false true = turned_same made a.holds
    go false false = turned_same made a.holds

-- Both steps of NEXT.
turned_next : (p : Program) (made : ℕ) (a : Activity) (b : Bool) → Turned made a.holds (next_of p a b).holds
unfolding next_of past Turned
turned_next p made a true k = raised (get_or_mapped pass refl a.holds k)
turned_next p made a false k = quieted (get_or_mapped quiesce refl a.holds k)

-- By the kind of the command.
pub turned : {p : Program} {e : Env} {i : ℕ} {a : Activity} {c : Command} {x : Effect} → Kind p e i a c x → Turned e.clock a.holds x.self.holds
unfolding past pushed
turned {p} {e} {i} {a} (ends q s n) = rw s (turned_end p e.clock a)
turned {p} {e} {i} {a} (meets q s n) = rw s (turned_next p e.clock a (is_at_barrier a.status))
turned {p} {e} {i} {a} (forks b m q s n) = rw s (turned_same e.clock a.holds)
turned {p} {e} {i} {a} (opens b q s n) = rw s (turned_same e.clock a.holds)
turned {p} {e} {i} {a} (enters k b q s n) = rw s (turned_same e.clock a.holds)
turned {p} {e} {i} {a} (moves b g h t k s n) = rw s (turned_held e.clock a.holds b.holds k.holds)
