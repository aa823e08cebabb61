-- The sizes of a state's arrays, as the declared types fix them.
use Prim.Native.Nat.{ℕ, ◌<◌}
use mathlib.Core.Path.{◌≡◌}
use lib.ListN.{length}
use Rattle.rules.specs.declared.state.Activity.{Activity}
use Rattle.rules.specs.declared.state.State.{State}
use Rattle.rules.specs.State.{act}

pub record SizedActivity (a : Activity) : Type 0 where
  pub frames16 : length a.frames ≡ 16
  pub holds8 : length a.holds ≡ 8
  pub names8 : length a.accumulators ≡ 8

pub record Sized (s : State) : Type 0 where
  pub acts64 : length s.acts ≡ 64
  pub accs16 : length s.accs ≡ 16
  pub cells16 : length s.cells ≡ 16
  pub each : (i : ℕ) → i < 64 → SizedActivity (act s i)
