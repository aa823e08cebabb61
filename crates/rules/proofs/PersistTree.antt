-- The tree of activities after a step: spawners stay, the child's spawner is the one who stepped, and so chains of spawners from those who were there stay too.
use Prim.Native.Nat.{ℕ, ◌<◌}
use native.Mathlib.Omega.{arith}
use mathlib.Core.Bool.{Bool, true}
use mathlib.Core.Path.{◌≡◌, refl, sym, ap, ◌∙◌, subst}
use mathlib.Core.Logic.{◌⊎◌, inl, inr}
use Rattle.program.specs.Bodies.{Program}
use Rattle.program.proofs.Shape.{Accepted}
use Rattle.rules.specs.declared.state.Activity.{Activity}
use Rattle.rules.specs.declared.state.State.{State}
use Rattle.rules.specs.Search.{chain}
use Rattle.rules.specs.State.{act, top}
use Rattle.rules.specs.Tree.{here, spawner_of}
use Rattle.rules.specs.Effects.{one, child, applied}
use Rattle.rules.specs.Steps.{Limits, effect, spawns}
use Rattle.rules.proofs.Search.{chain_same, chain_cases}
use Rattle.rules.proofs.Sized.{Sized}
use Rattle.rules.proofs.WellFormedFacts.{Facts}
use Rattle.rules.proofs.WellFormedShape.{born, Shape}
use Rattle.rules.proofs.Turn.{Turn, after}
use Rattle.rules.proofs.Applied.{fits, Now, self, newborn, other, now}
use Rattle.rules.proofs.WellFormedApply.{Room, step_shape}
use Rattle.rules.proofs.WellFormedStep.{step_facts}

module _ (l : Limits) {p : Program} (ok : Accepted p) {s : State} (f : Facts l.phase p s) (z : Sized s) (i : ℕ) (t : Turn p s i) (r : Room l p s (effect p s i)) where
  -- the shape of the step
  shape_of : Shape p s i (act s i) (here p (top (act s i))).command (effect p s i)
  shape_of = step_shape ok f i t.spawned t.unended

  -- what each entry is after it
  pub entry : (y : ℕ) → Now s i (effect p s i) y
  entry y = now s (record { sized = z; count = f.acts64 }) i t.spawned (effect p s i) (fits s (effect p s i).spawned r.acts) y

  -- spawners stay
  pub spawner_old : (y : ℕ) → y < s.activities → spawner_of (after p s i) y ≡ spawner_of s y
  spawner_old y h = go (entry y)
    where
      go : Now s i (effect p s i) y → spawner_of (after p s i) y ≡ spawner_of s y
      go (self d q) = ap (λ a. a.spawner) q ∙ shape_of.spawner ∙ ap (spawner_of s) (sym d)
      go (newborn c d n q) = absurd (omega arith)
      go (other d n q) = ap (λ a. a.spawner) q

  -- a chain from one who was there
  pub chain_old : (test : ℕ → Bool) (x y : ℕ) → y < s.activities → chain (spawner_of (after p s i)) test x 64 y ≡ chain (spawner_of s) test x 64 y
  chain_old test x y h =
      chain_same (spawner_of (after p s i)) (spawner_of s) test test x 64 64 y
      (λ w m n. (spawner_old w (omega arith), refl, rw (spawner_old w (omega arith)) ((f.spawned w (omega arith)).lower (omega arith)))) (omega (arith, f.acts64)) (omega (arith, f.acts64))

  -- the child's spawner is the one who stepped
  pub spawner_new : (c : Activity) → (effect p s i).spawned ≡ one c → c.spawner ≡ i
  unfolding child
  spawner_new c q = rw (born shape_of.offspring q).like

  -- there is one more
  pub grown : (c : Activity) → (effect p s i).spawned ≡ one c → s.activities < (after p s i).activities
  unfolding applied
  grown c q = rw q (omega arith)

  -- a chain from the child goes through the one who stepped
  pub chain_child : (test : ℕ → Bool) (x : ℕ) → (x ≡ i → ⊥) → (c : Activity) → (effect p s i).spawned ≡ one c → act (after p s i) s.activities ≡ c
      → chain (spawner_of (after p s i)) test x 64 s.activities ≡ true → chain (spawner_of s) test x 64 i ≡ true
  chain_child test x d c q n h =
      go (chain_cases (spawner_of (after p s i)) (after p s i).activities (λ y a b. ((step_facts l ok f z i t r).spawned y b).lower a) test x 64 s.activities
      (grown c q) (r.acts (ap spawns q)) h)
    where
      to : spawner_of (after p s i) s.activities ≡ i
      to = ap (λ a. a.spawner) n ∙ spawner_new c q

      go : ((spawner_of (after p s i) s.activities ≡ x) × (test s.activities ≡ true))
          ⊎ (chain (spawner_of (after p s i)) test x 64 (spawner_of (after p s i) s.activities) ≡ true)
          → chain (spawner_of s) test x 64 i ≡ true
      go (inl m) = absurd (d (sym m.0 ∙ to))
      go (inr m) = sym (chain_old test x i t.spawned) ∙ subst (λ y. chain (spawner_of (after p s i)) test x 64 y ≡ true) to m
