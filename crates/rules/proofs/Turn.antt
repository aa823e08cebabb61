-- Who may step, and what the step does: its command's effect, or a fault.
use Prim.Native.Nat.{ℕ, ◌<◌}
use native.Mathlib.Omega.{arith}
use native.Mathlib.Decide.{ℕ_discrete}
use mathlib.Core.Bool.{Bool, true, false, cond}
use mathlib.Core.Path.{◌≡◌, refl}
use mathlib.Core.Logic.{◌⊎◌, inl, inr}
use lib.Dec.{ltb}
use borrow.Author.Tests.{ltb-true, lt-ltb, eq-eqb, ne_eqb}
use Rattle.program.specs.Bodies.{Program}
use Rattle.rules.specs.declared.state.Status.TheVariants.{Faulted}
use Rattle.rules.specs.declared.state.State.{State}
use Rattle.rules.specs.State.{act, ended, fault_of}
use Rattle.rules.specs.Effects.{Effect, env_of, effect_of, failing, applied}
use Rattle.rules.specs.Steps.{at, breach, fault, waits, effect, refusal}
use Rattle.rules.specs.Faults.{spoilt}

-- An activity that numbers 14 to 16 do not turn down.
pub record Turn (p : Program) (s : State) (i : ℕ) : Type 0 where
  pub spawned : i < s.activities
  pub unended : ended s i ≡ false
  pub moves : waits p s i ≡ false

-- What it says that there is no such number.
pub turn : (p : Program) (s : State) (i : ℕ) → refusal p s i ≡ 0 → Turn p s i
unfolding refusal
turn p s i e = go (ltb i s.activities) refl (ended s i) refl (waits p s i) refl e
  where
    go : (x : Bool) → ltb i s.activities ≡ x → (y : Bool) → ended s i ≡ y → (z : Bool) → waits p s i ≡ z → ◌≡◌ {A = ℕ} (cond x (cond y 15 (cond z 16 0)) 14) 0 → Turn p s i
    go true h true m z w e = absurd (omega arith)
    go true h false m true w e = absurd (omega arith)
    go true h false m false w e = record { spawned = ltb-true i s.activities h; unended = m; moves = w }
    go false h y m z w e = absurd (omega arith)

-- And back.
pub turn_back : (p : Program) (s : State) (i : ℕ) → Turn p s i → refusal p s i ≡ 0
unfolding refusal
turn_back p s i t = rw (lt-ltb i s.activities t.spawned, t.unended, t.moves)

-- No fault: no breach, and nothing that the END of a FINISH body passes on.
pub faultless : (p : Program) (s : State) (i : ℕ) → fault p s i ≡ 0 → (breach p s i ≡ 0) × (spoilt p s i (act s i) (at p s i).command ≡ false)
unfolding fault
faultless p s i = go (spoilt p s i (act s i) (at p s i).command)
  where
    go : (b : Bool) → cond b 8 (breach p s i) ≡ 0 → (breach p s i ≡ 0) × (b ≡ false)
    go true e = absurd (omega arith)
    go false e = (e, refl)

-- A fault is one of the two.
pub fault_ways : (p : Program) (s : State) (i : ℕ) → (fault p s i ≡ 0 → ⊥) → (breach p s i ≡ 0 → ⊥) ⊎ (spoilt p s i (act s i) (at p s i).command ≡ true)
unfolding fault
fault_ways p s i = go (spoilt p s i (act s i) (at p s i).command)
  where
    go : (b : Bool) → (cond b 8 (breach p s i) ≡ 0 → ⊥) → (breach p s i ≡ 0 → ⊥) ⊎ (b ≡ true)
    go true f = inr refl
    go false f = inl f

-- The effect of the command.
abbrev pub doing : Program → State → ℕ → Effect
doing p s i = effect_of p (env_of s) i (act s i) (at p s i).command (at p s i).inner

-- The effect of a fault.
abbrev pub failed : Program → State → ℕ → Effect
failed p s i = failing (act s i) (Faulted (fault_of (fault p s i)))

-- No fault: the command's.
pub effect_doing : (p : Program) (s : State) (i : ℕ) → fault p s i ≡ 0 → effect p s i ≡ doing p s i
unfolding effect
effect_doing p s i e = rw (eq-eqb _ _ e)

-- A fault: that.
pub effect_failed : (p : Program) (s : State) (i : ℕ) → (fault p s i ≡ 0 → ⊥) → effect p s i ≡ failed p s i
unfolding effect
effect_failed p s i e = rw (ne_eqb _ _ e)

-- So a fact of both is one of the step's effect.
pub by_fault : (p : Program) (s : State) (i : ℕ) (P : Effect → Type 0) → (fault p s i ≡ 0 → P (doing p s i)) → ((fault p s i ≡ 0 → ⊥) → P (failed p s i)) → P (effect p s i)
by_fault p s i P f g = go (ℕ_discrete (fault p s i) 0)
  where
    go : Dec (fault p s i ≡ 0) → P (effect p s i)
    go (yes e) = rw (effect_doing p s i e) (f e)
    go (no e) = rw (effect_failed p s i e) (g e)

-- The state after the step.
abbrev pub after : Program → State → ℕ → State
after p s i = applied s i (effect p s i)
