-- Applying an effect: the activity itself and the one it spawns are new, all others stay. A fact of each activity after a step comes from three: of the
-- activity, of its child, and of those that were there.
use Prim.Native.Nat.{ℕ, ◌+◌, ◌≤◌, ◌<◌}
use native.Mathlib.Omega.{arith}
use native.Mathlib.Decide.{ℕ_discrete}
use mathlib.Core.Bool.{true}
use mathlib.Core.Path.{◌≡◌, refl, ap, ◌∙◌}
use lib.ListN.{get_or, set, length-set}
use lib.Seq.{get_or-set_same, get_or-set_other}
use Rattle.rules.specs.declared.state.Activity.{Activity}
use Rattle.rules.specs.declared.state.State.{State}
use Rattle.rules.specs.State.{act, absent}
use Rattle.rules.specs.Effects.{Spawned, nobody, one, spawned_count, with_spawned, Effect, applied, clocked_count, written_count}
use Rattle.rules.specs.Steps.{spawns}
use Rattle.rules.proofs.Sized.{Sized}
use Rattle.rules.proofs.Shapes.{OfChild, spawned_count_lem, clocked_count_lem, written_count_lem}

-- The arrays have their sizes, and no more activities are counted than there is room for.
pub record Bounded (s : State) : Type 0 where
  pub sized : Sized s
  pub count : s.activities ≤ 64

-- There is room for who is spawned.
unfoldable pub Fits : State → Spawned → Type 0
Fits s nobody = Unit {0}
Fits s (one c) = s.activities < 64

-- There is, where spawning exceeds nothing.
pub fits : (s : State) (ch : Spawned) → (spawns ch ≡ true → s.activities < 64) → Fits s ch
unfolding Fits
fits s nobody r = tt
fits s (one c) r = r refl

module _ (s : State) (z : Bounded s) (i : ℕ) (h : i < s.activities) (self : Activity) where
  -- A fact of each activity, from the facts of those that stay, of self and of the child.
  each' : (P : ℕ → Activity → Type 0) (ch : Spawned) → Fits s ch → ((x : ℕ) → x < s.activities → (x ≡ i → ⊥) → P x (act s x)) → P i self
      → OfChild (P s.activities) ch → (x : ℕ) → x < spawned_count s.activities ch → P x (get_or (with_spawned s.activities (set s.acts i self) ch) x absent)
  unfolding OfChild Fits
  each' P nobody f p q r x l = go (ℕ_discrete x i)
    where
      go : Dec (x ≡ i) → P x (get_or (set s.acts i self) x absent)
      go (yes e) = rw (e, get_or-set_same s.acts i self absent (omega (arith, z.sized.acts64, z.count))) q
      go (no e) = rw (get_or-set_other s.acts i x self absent e) (p x l e)
  each' P (one c) f p q r x l = go (ℕ_discrete x s.activities) (ℕ_discrete x i)
    where
      go : Dec (x ≡ s.activities) → Dec (x ≡ i) → P x (get_or (set (set s.acts i self) s.activities c) x absent)
      go (yes e) d = rw (e, get_or-set_same (set s.acts i self) s.activities c absent (rw length-set (omega (arith, z.sized.acts64)))) r
      go (no n) (yes e) =
          rw
          (get_or-set_other (set s.acts i self) s.activities x c absent n, e, get_or-set_same s.acts i self absent (omega (arith, z.sized.acts64, z.count)))
          q
      go (no n) (no e) =
          rw (get_or-set_other (set s.acts i self) s.activities x c absent n, get_or-set_other s.acts i x self absent e) (p x (omega arith) e)

-- The same of the state after an effect.
pub each : (s : State) → Bounded s → (i : ℕ) → i < s.activities → (e : Effect) → Fits s e.spawned → (P : ℕ → Activity → Type 0)
    → ((x : ℕ) → x < s.activities → (x ≡ i → ⊥) → P x (act s x)) → P i e.self → OfChild (P s.activities) e.spawned
    → (x : ℕ) → x < (applied s i e).activities → P x (act (applied s i e) x)
unfolding applied
each s z i h e f P p q r = each' s z i h e.self P e.spawned f p q r

-- THE COUNTS

-- An accepted step is counted.
pub steps_applied : (s : State) (i : ℕ) (e : Effect) → (applied s i e).steps ≡ s.steps + 1
unfolding applied
steps_applied s i e = refl

-- What is spawned is counted.
pub activities_applied : (s : State) (i : ℕ) (e : Effect) → (applied s i e).activities ≡ s.activities + spawned_count 0 e.spawned
unfolding applied
activities_applied s i e = spawned_count_lem s.activities e.spawned

-- What clock is made is counted.
pub clocks_applied : (s : State) (i : ℕ) (e : Effect) → (applied s i e).clocks ≡ s.clocks + clocked_count 0 e.clocked
unfolding applied
clocks_applied s i e = clocked_count_lem s.clocks e.clocked

-- What accumulator is made is counted.
pub accumulators_applied : (s : State) (i : ℕ) (e : Effect) → (applied s i e).accumulators ≡ s.accumulators + written_count 0 e.write
unfolding applied
accumulators_applied s i e = written_count_lem s.accumulators e.write

-- WHAT STANDS AT EACH NUMBER

-- The activity itself is as the effect says.
pub act_self : (s : State) → Bounded s → (i : ℕ) → i < s.activities → (e : Effect) → Fits s e.spawned → act (applied s i e) i ≡ e.self
unfolding applied
act_self s z i h e f = go e.spawned f
  where
    here : get_or (set s.acts i e.self) i absent ≡ e.self
    here = get_or-set_same s.acts i e.self absent (omega (arith, z.sized.acts64, z.count))

    go : (ch : Spawned) → Fits s ch → get_or (with_spawned s.activities (set s.acts i e.self) ch) i absent ≡ e.self
    go nobody f = here
    go (one c) f = get_or-set_other (set s.acts i e.self) s.activities i c absent (λ q. omega arith) ∙ here

-- Another that was there stays.
pub act_old : (s : State) (i : ℕ) (e : Effect) (x : ℕ) → x < s.activities → (x ≡ i → ⊥) → act (applied s i e) x ≡ act s x
unfolding applied
act_old s i e x h n = go e.spawned
  where
    go : (ch : Spawned) → get_or (with_spawned s.activities (set s.acts i e.self) ch) x absent ≡ act s x
    go nobody = get_or-set_other s.acts i x e.self absent n
    go (one c) =
        get_or-set_other (set s.acts i e.self) s.activities x c absent (λ q. omega arith) ∙ get_or-set_other s.acts i x e.self absent n

-- The one spawned has the next number.
pub act_child : (s : State) → Bounded s → (i : ℕ) (e : Effect) (c : Activity) → e.spawned ≡ one c → s.activities < 64
    → act (applied s i e) s.activities ≡ c
unfolding applied
act_child s z i e c q h =
    rw q (get_or-set_same (set s.acts i e.self) s.activities c absent (rw length-set (omega (arith, z.sized.acts64))))

-- What entry x is after an effect.
pub data Now (s : State) (i : ℕ) (e : Effect) (x : ℕ) : Type 0 where
  self : x ≡ i → act (applied s i e) x ≡ e.self → Now s i e x
  newborn : (c : Activity) → e.spawned ≡ one c → x ≡ s.activities → act (applied s i e) x ≡ c → Now s i e x
  other : (x ≡ i → ⊥) → (x < (applied s i e).activities → x < s.activities) → act (applied s i e) x ≡ act s x → Now s i e x

-- Each entry is one of the three.
pub now : (s : State) → Bounded s → (i : ℕ) → i < s.activities → (e : Effect) → Fits s e.spawned → (x : ℕ) → Now s i e x
unfolding applied Fits
now s z i h e f x = go e.spawned refl f (ℕ_discrete x i) (ℕ_discrete x s.activities)
  where
    go : (ch : Spawned) → e.spawned ≡ ch → Fits s ch → Dec (x ≡ i) → Dec (x ≡ s.activities) → Now s i e x
    go ch q f (yes d) g = self d (ap (λ y. act (applied s i e) y) d ∙ act_self s z i h e (rw q f))
    go nobody q f (no d) g = other d (λ l. rw q at l) (rw q (get_or-set_other s.acts i x e.self absent d))
    go (one c) q f (no d) (yes g) = newborn c q g (ap (λ y. act (applied s i e) y) g ∙ act_child s z i e c q f)
    go (one c) q f (no d) (no g) =
        other d (λ l. let m : x < s.activities + 1 = rw q at l in omega arith)
        (rw q (get_or-set_other (set s.acts i e.self) s.activities x c absent g ∙ get_or-set_other s.acts i x e.self absent d))
