-- A step of a well-formed state: what there is room for, its shape, and the counts and accumulators after it.
use Prim.Native.Nat.{ℕ, ◌+◌, ◌-◌, ◌≤◌, ◌<◌}
use native.Mathlib.Omega.{arith}
use mathlib.Core.Bool.{Bool, true, false, ◌&&◌}
use mathlib.Core.Path.{◌≡◌, refl, sym, ap, ◌∙◌}
use lib.ListN.{length, get_or, set}
use lib.Seq.{get_or-set_other}
use lib.Dec.{ltb, leb}
use borrow.Author.Tests.{ltb-false, leb-false}
use Rattle.program.specs.Bodies.{Program}
use Rattle.program.specs.Count.{work_of}
use Rattle.program.proofs.Shape.{Accepted, Sound}
use Rattle.rules.specs.declared.state.Activity.{Activity}
use Rattle.rules.specs.declared.state.State.{State}
use Rattle.rules.specs.Search.{some_below}
use Rattle.rules.specs.State.{no_accumulator, act, top, hold, accumulator, ended}
use Rattle.rules.specs.Tree.{here}
use Rattle.rules.specs.Effects.{Spawned, nobody, one, Write, keep, make, offer, reset, Effect, spawned_count, clocked_count, written_count, with_value, applied}
use Rattle.rules.specs.Steps.{Limits, at, breach, effect, spawns, makes, exceeds}
use Rattle.rules.proofs.Tests.{and_false, or_false}
use Rattle.rules.proofs.Search.{some_below_none}
use Rattle.rules.proofs.Lists.{Stored, new, old, stored}
use Rattle.rules.proofs.Turn.{faultless, by_fault}
use Rattle.rules.proofs.WellFormedPlaces.{placed_sound}
use Rattle.rules.proofs.WellFormedFacts.{Facts}
use Rattle.rules.proofs.WellFormedShape.{Shape, fails, shape, Naming, keeps, adds, offers, resets}
-- who may step
pub use Rattle.rules.proofs.Turn.{turn}

-- WHAT THERE IS ROOM FOR

-- Number 17 does not turn the effect down.
pub record Room (l : Limits) (p : Program) (s : State) (e : Effect) : Type 0 where
  pub acts : spawns e.spawned ≡ true → s.activities < 64
  pub clocks : e.clocked ≡ true → s.clocks < 16
  pub accs : makes e.write ≡ true → s.accumulators < 16
  pub phases : (k : ℕ) → k < 8 → (hold e.self k).phase ≤ l.phase
  pub steps : s.steps < work_of p

-- what it says that nothing is exceeded
pub room : (l : Limits) (p : Program) (s : State) (e : Effect) → exceeds l p s e ≡ false → Room l p s e
unfolding exceeds
room l p s e x =
    let q₁ = or_false (spawns e.spawned && leb 64 s.activities) _ x in
    let q₂ = or_false (e.clocked && leb 16 s.clocks) _ q₁.1 in
    let q₃ = or_false (makes e.write && leb 16 s.accumulators) _ q₂.1 in
    let q₄ = or_false (some_below 8 (λ k. ltb l.phase (hold e.self k).phase)) _ q₃.1 in
    record {
      acts = λ h. leb-false 64 s.activities (and_false (spawns e.spawned) _ q₁.0 h);
      clocks = λ h. leb-false 16 s.clocks (and_false e.clocked _ q₂.0 h);
      accs = λ h. leb-false 16 s.accumulators (and_false (makes e.write) _ q₃.0 h);
      phases = λ k h. ltb-false l.phase (hold e.self k).phase (some_below_none 8 (λ k. ltb l.phase (hold e.self k).phase) q₄.0 k h);
      steps = leb-false (work_of p) s.steps q₄.1;
    }

-- THE SHAPE OF A STEP

module _ {limit : ℕ} {p : Program} {s : State} (ok : Accepted p) (f : Facts limit p s) (i : ℕ) where
  -- the command of who has not ended is sound
  pub at_sound : i < s.activities → ended s i ≡ false → Sound (length p) (top (act s i)).body (here p (top (act s i)))
  at_sound l u =
      let x = f.spawned i l in
      placed_sound ok (top (act s i)) (x.stack.placed ((act s i).depth - 1) (omega (arith, x.bodied u)))

  -- what its step does has a shape, a fault too
  pub step_shape : i < s.activities → ended s i ≡ false → Shape p s i (act s i) (here p (top (act s i))).command (effect p s i)
  unfolding breach at
  step_shape l u =
      by_fault p s i (Shape p s i (act s i) (here p (top (act s i))).command)
      (λ e.
      shape p s i (act s i) u (f.spawned i l).bounds (here p (top (act s i))).command (here p (top (act s i))).inner (f.spawned i l).barrier (at_sound l u).ranged
      (faultless p s i e).0)
      (λ e. fails _ refl)

-- COUNTS

-- how a count changes: it stays, or rises by one where there is room below a bound
pub record Counted (b : ℕ) (grows : Bool) (n m : ℕ) : Type 0 where
  pub up : n ≤ m
  pub fits : n ≤ b → (grows ≡ true → n < b) → m ≤ b

-- a count that stays
stays : {b n : ℕ} {grows : Bool} → Counted b grows n n
stays = record { up = omega arith; fits = λ h g. h }

-- a count that rises
rises : {b n : ℕ} → Counted b true n (n + 1)
rises = record { up = omega arith; fits = λ h g. omega (arith, g refl) }

-- the activities
pub acts_after : (s : State) (i : ℕ) (e : Effect) → Counted 64 (spawns e.spawned) s.activities (applied s i e).activities
unfolding applied
acts_after s i e = go e.spawned
  where
    go : (c : Spawned) → Counted 64 (spawns c) s.activities (spawned_count s.activities c)
    go nobody = stays
    go (one c) = rises

-- the clocks
pub clocks_after : (s : State) (i : ℕ) (e : Effect) → Counted 16 e.clocked s.clocks (applied s i e).clocks
unfolding applied
clocks_after s i e = go e.clocked
  where
    go : (c : Bool) → Counted 16 c s.clocks (clocked_count s.clocks c)
    go false = stays
    go true = rises

-- the accumulators
pub accs_after : (s : State) (i : ℕ) (e : Effect) → Counted 16 (makes e.write) s.accumulators (applied s i e).accumulators
unfolding applied
accs_after s i e = go e.write
  where
    go : (w : Write) → Counted 16 (makes w) s.accumulators (written_count s.accumulators w)
    go keep = stays
    go (make c) = rises
    go (offer x v) = stays
    go (reset x v) = stays

-- THE ACCUMULATORS AFTER AN EFFECT

-- a value set anew leaves the owners
set_owner : (s : State) (x v n : ℕ) → (get_or (set s.accs x (with_value (accumulator s x) v)) n no_accumulator).owner ≡ (accumulator s n).owner
set_owner s x v n = go (stored s.accs x (with_value (accumulator s x) v) n no_accumulator)
  where
    go : Stored s.accs x (with_value (accumulator s x) v) n no_accumulator → (get_or (set s.accs x (with_value (accumulator s x) v)) n no_accumulator).owner ≡ (accumulator s n).owner
    go (new e q) = ap (λ c. c.owner) q ∙ ap (λ k. (accumulator s k).owner) (sym e)
    go (old q) = ap (λ c. c.owner) q

-- an accumulator that was made keeps its owner
pub owner_old : (s : State) {i : ℕ} {a : Activity} (e : Effect) → Naming s.accumulators i a e.self e.write → (n : ℕ) → n < s.accumulators
    → (accumulator (applied s i e) n).owner ≡ (accumulator s n).owner
unfolding applied
owner_old s {i} {a} e (keeps w b) n l = rw w
owner_old s {i} {a} e (adds k o w b) n l = rw w (ap (λ c. c.owner) (get_or-set_other s.accs s.accumulators n _ no_accumulator (λ q. omega arith)))
owner_old s {i} {a} e (offers x v w m b) n l = rw w (set_owner s x _ n)
owner_old s {i} {a} e (resets x v w m b) n l = rw w (set_owner s x v n)
