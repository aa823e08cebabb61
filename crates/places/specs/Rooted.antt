-- What is known of the activities of a well-formed state: their spawners and their stacks.
use Rattle.std.specs.Prelude.{ℕ, ◌≤◌, ◌<◌, List}
use Rattle.program.specs.Bodies.{program_of}
use Rattle.rules.specs.declared.state.Activity.{Activity}
use Rattle.rules.specs.declared.state.State.{State}
use Rattle.rules.specs.Tree.{spawner_of}
use Rattle.places.specs.Stack.{Stacked}

-- "a spawner is not lower than its child" is not so.
pub record Rooted (s : State) : Type 0 where
  pub few : s.activities ≤ 64
  pub falls : (x : ℕ) → 0 < x → x < s.activities → spawner_of s x < x

-- An activity that has a stack, beside a state in which spawners are lower than their children.
pub record Placed (t : List ℕ) (s : State) (a : Activity) : Type 0 where
  pub stack : Stacked (program_of t) a
  pub rooted : Rooted s
