-- What a child gets.
use Rattle.std.specs.Prelude.{ℕ, ◌<◌, ◌≡◌, List}
use Rattle.rules.specs.declared.state.State.{State}
use Rattle.rules.specs.State.{no_holds, act}
use Rattle.rules.specs.Effects.{with_holds, with_names, lent}
use Rattle.fields.specs.Lent.{Lent, with_act}

-- A child, activity n, that has no clocks gets the accumulator names of activity i, and the clocks of a mask.
pub record Gives (m : ℕ) (b c : List ℕ) (i n : ℕ) : Type 0 where
  pub gives : (s : State) → Lent b s → i < 64 → n < 64 → (i ≡ n → ⊥) → (act s n).holds ≡ no_holds
      → Lent c (with_act s n (with_holds (with_names (act s n) (act s i).accumulators) (act s n).status (lent m 0 (act s i).holds)))
