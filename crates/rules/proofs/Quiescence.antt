-- A quiescent phase of a made clock stays so over each step from a reached state.
use Prim.Native.Nat.{ℕ, ◌≤◌, ◌<◌}
use native.Mathlib.Omega.{arith}
use mathlib.Core.Bool.{true}
use mathlib.Core.Path.{◌≡◌}
use lib.ListN.{length}
use Rattle.rules.specs.declared.state.State.{State}
use Rattle.program.specs.Bodies.{Program}
use Rattle.program.specs.Count.{activities_of}
use Rattle.program.proofs.Shape.{Accepted}
use Rattle.rules.specs.State.{act}
use Rattle.rules.specs.Clocks.{quiescent}
use Rattle.rules.specs.Effects.{env_of, applied}
use Rattle.rules.specs.Steps.{at, refusal, effect, breach}
use Rattle.rules.proofs.Shapes.{OfChild, Kind, kind}
use Rattle.rules.proofs.Applied.{Fits}
use Rattle.rules.proofs.Holders.{turned, turned_none}
use Rattle.rules.proofs.Stable.{quiet_applied, quiet_turned, quiet_born}
use Rattle.rules.proofs.Turn.{Turn, turn, faultless, doing, failed, by_fault}
use Rattle.rules.proofs.Reached.{Reached}
use Rattle.rules.proofs.ReachedStep.{doing_fits}

-- A quiescent phase of a made clock is quiescent after a step.
pub stable_step : (c q : ℕ) (p : Program) (ok : Accepted p) → activities_of p ≤ 64 → (s : State) → Reached p s → (i : ℕ) → refusal p s i ≡ 0
    → c < s.clocks → quiescent s c q ≡ true → quiescent (applied s i (effect p s i)) c q ≡ true
unfolding OfChild Fits breach
stable_step c q p ok few s g i e l h =
    by_fault p s i (λ x. quiescent (applied s i x) c q ≡ true)
    (λ f.
    quiet_applied c q s g.inv.bounded i r.spawned (doing p s i) (doing_fits p ok few s g i r.spawned r.unended)
    (quiet_turned c q s.clocks l (act s i).holds (doing p s i).self.holds (turned its)) (quiet_born c q eight (faultless p s i f).0 its) h)
    (λ f.
    quiet_applied c q s g.inv.bounded i r.spawned (failed p s i) tt
    (quiet_turned c q s.clocks l (act s i).holds (failed p s i).self.holds (turned_none s.clocks (act s i).holds 8)) tt h)
  where
    r : Turn p s i
    r = turn p s i e

    its : Kind p (env_of s) i (act s i) (at p s i).command (doing p s i)
    its = kind p (env_of s) i (act s i) (at p s i).command (at p s i).inner

    eight : length (act s i).holds ≡ 8
    eight = (g.inv.bounded.sized.each i (omega (arith, r.spawned, g.inv.bounded.count))).holds8
