-- Number 17 never comes: no step from a reached state exceeds a limit.
use Prim.Native.Nat.{ℕ, ◌≤◌, ◌<◌}
use native.Mathlib.Omega.{arith}
use mathlib.Core.Bool.{Bool, true, false, ◌&&◌}
use mathlib.Core.Path.{◌≡◌, refl, subst}
use lib.Dec.{ltb, leb}
use borrow.Author.Tests.{ltb-true, lt-leb}
use Rattle.rules.specs.declared.state.State.{State}
use Rattle.program.specs.Bodies.{Program}
use Rattle.program.specs.Count.{work_of}
use Rattle.program.proofs.Shape.{Accepted, Counted}
use Rattle.rules.specs.State.{act, hold}
use Rattle.rules.specs.Effects.{make, applied, Effect, one, Spawned, spawned_count, nobody, clocked_count, Write, written_count, keep, offer, reset}
use Rattle.rules.specs.Steps.{makes, refusal, effect, spawns, exceeds, Limits}
use Rattle.rules.proofs.Tests.{or_none, true_false}
use Rattle.rules.proofs.Search.{some_below_all}
use Rattle.rules.proofs.Applied.{act_self, activities_applied, clocks_applied, accumulators_applied, steps_applied}
use Rattle.rules.proofs.Holders.{EachHold}
use Rattle.rules.proofs.VirtualTime.{phase_slow}
use Rattle.rules.proofs.Turn.{Turn, turn}
use Rattle.rules.proofs.Reached.{Reached}
use Rattle.rules.proofs.ReachedStep.{reached_step, fits_step}

-- A limit above what there is.
and_less : (a : Bool) (n m : ℕ) → (a ≡ true → m < n) → a && leb n m ≡ false
and_less true n m h = lt-leb n m (h refl)
and_less false n m h = refl

-- Who spawns, spawns one.
spawns_one : (ch : Spawned) → spawns ch ≡ true → spawned_count 0 ch ≡ 1
spawns_one nobody e = absurd (true_false false e refl)
spawns_one (one c) e = refl

-- A clock made is one.
clocks_one : (b : Bool) → b ≡ true → clocked_count 0 b ≡ 1
clocks_one true e = refl
clocks_one false e = absurd (true_false false e refl)

-- An accumulator made is one.
makes_one : (w : Write) → makes w ≡ true → written_count 0 w ≡ 1
makes_one keep e = absurd (true_false false e refl)
makes_one (make c) e = refl
makes_one (offer x v) e = absurd (true_false false e refl)
makes_one (reset x v) e = absurd (true_false false e refl)

-- "no state reached from a start meets this": what a step makes comes out of what was pending, and a phase is at most the steps taken.
pub never_exceeds : (l : Limits) (p : Program) (ok : Accepted p) → Counted l.work p → l.work ≤ l.phase → (s : State) → Reached p s → (i : ℕ) → refusal p s i ≡ 0
    → exceeds l p s (effect p s i) ≡ false
unfolding exceeds EachHold
never_exceeds l p ok w m s g i e =
    or_none _ _
    (and_less (spawns x.spawned) 64 s.activities
    (λ q. omega (arith, spawns_one x.spawned q, after.activities, w.activities, activities_applied s i x)))
    (or_none _ _
    (and_less x.clocked 16 s.clocks (λ q. omega (arith, clocks_one x.clocked q, after.clocks, w.clocks, clocks_applied s i x)))
    (or_none _ _
    (and_less (makes x.write) 16 s.accumulators
    (λ q. omega (arith, makes_one x.write q, after.accumulators, w.accumulators, accumulators_applied s i x)))
    (or_none _ _
    (some_below_all 8 (λ k. ltb l.phase (hold x.self k).phase)
    (λ k b q. absurd (low k (ltb-true l.phase (hold x.self k).phase q))))
    (lt-leb (work_of p) s.steps (omega (arith, after.work, steps_applied s i x))))))
  where
    x : Effect
    x = effect p s i

    after : Reached p (applied s i (effect p s i))
    after = reached_step p ok w.activities s g i e

    r : Turn p s i
    r = turn p s i e

    there : i < (applied s i (effect p s i)).activities
    there = omega (arith, r.spawned, activities_applied s i (effect p s i))

    me : act (applied s i (effect p s i)) i ≡ (effect p s i).self
    me = act_self s g.inv.bounded i r.spawned (effect p s i) (fits_step p ok w.activities s g i e)

    phase : (k : ℕ) → (hold (effect p s i).self k).phase ≤ after.vt i
    phase k = subst (λ a. (hold a k).phase ≤ after.vt i) me (phase_slow ((after.inv.fine i there).timed k))

    low : (k : ℕ) → l.phase < (hold (effect p s i).self k).phase → ⊥
    low k q = omega (arith, phase k, w.work, after.work, steps_applied s i (effect p s i), after.inv.slow i there)
