-- A body that begins.
use Rattle.std.specs.Prelude.{ℕ, ◌+◌, ◌<◌, ◌≡◌, List}
use Rattle.rules.specs.declared.state.State.{State}
use Rattle.rules.specs.State.{act}
use Rattle.rules.specs.Effects.{pushed}
use Rattle.fields.specs.Lent.{Lent, with_act, with_steps}

-- A body with its runs and its first number begins on top of the stack of activity i, and one step more is counted.
pub record Pushes (body runs first : ℕ) (b c : List ℕ) (i r : ℕ) : Type 0 where
  pub number : r ≡ 0
  pub pushes : (s : State) → Lent b s → i < 64 → s.steps < 65535 → (act s i).depth < 16 → Lent c (with_steps (with_act s i (pushed (act s i) body runs first)) (s.steps + 1))
