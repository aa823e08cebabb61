-- The holds of an activity, changed alike.
use Rattle.std.specs.Prelude.{ℕ, ◌<◌, ◌≡◌, true, false, List, map}
use Rattle.rules.specs.declared.state.Hold.{Hold}
use Rattle.rules.specs.declared.state.State.{State}
use Rattle.rules.specs.State.{act, hold}
use Rattle.rules.specs.Clocks.{is_held}
use Rattle.rules.specs.Effects.{with_holds}
use Rattle.fields.specs.Lent.{Lent, with_act}

-- A function tells what a hold becomes: of a clock that is held, whatever the change answers; without one it stays.
pub record Tells (Change : Hold → Hold → Type 0) (f : Hold → Hold) (h : Hold) : Type 0 where
  pub held : is_held h.registration ≡ true → (r : Hold) → Change h r → r ≡ f h
  pub free : is_held h.registration ≡ false → h ≡ f h

-- Each hold of activity i is changed alike.
pub record Maps (Change : Hold → Hold → Type 0) (b c : List ℕ) (i : ℕ) : Type 0 where
  pub maps : (f : Hold → Hold) (s : State) → Lent b s → i < 64 → ((k : ℕ) → k < 8 → Tells Change f (hold (act s i) k))
      → Lent c (with_act s i (with_holds (act s i) (act s i).status (map f (act s i).holds)))
