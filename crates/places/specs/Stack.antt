-- Stacks: what the frames of an activity that has not ended are.
use Rattle.std.specs.Prelude.{ℕ, ◌+◌, ◌≤◌, ◌<◌, ◌≡◌, true, false}
use Rattle.program.specs.Command.{is_end}
use Rattle.program.specs.Bodies.{Program}
use Rattle.rules.specs.declared.state.Activity.{Activity}
use Rattle.rules.specs.State.{frame, top}
use Rattle.rules.specs.Tree.{here}
use Rattle.rules.specs.WellFormed.{is_placed}

-- The stack of a well-formed activity that has not ended.
pub record Stacked (p : Program) (a : Activity) : Type 0 where
  pub some : 0 < a.depth
  pub few : a.depth ≤ 16
  pub placed : (d : ℕ) → d < a.depth → is_placed p (frame a d) ≡ true
  -- below the top a FINISH, REPEAT or CHOOSE stands
  pub goes : (d : ℕ) → d + 1 < a.depth → is_end (here p (frame a d)).command ≡ false
  -- stacked bodies rise
  pub high : a.depth ≤ (top a).body + 1
