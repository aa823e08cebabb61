-- What a well-formed state gives of its activities.
use Prim.Native.Nat.{ℕ, ◌<◌}
use mathlib.Core.Path.{◌≡◌}
use mathlib.Core.List.{List}
use mathlib.Core.Bool.{false}
use Rattle.program.specs.Bodies.{program_of}
use Rattle.rules.specs.declared.state.State.{State}
use Rattle.rules.specs.State.{act, is_ended}
use Rattle.rules.proofs.WellFormedStack.{stack_back}
use Rattle.rules.proofs.WellFormedFacts.{ActivityFacts, Facts, facts}
use Rattle.places.specs.Known.{Fit}
use Rattle.places.specs.Stack.{Stacked}
use Rattle.places.specs.Rooted.{Rooted, Placed}
use Rattle.places.proofs.Stacks.{stacked}

module _ {t : List ℕ} {starts : List ℕ} {s : State} (fit : Fit t starts s) where
  fact : Facts 65535 (program_of t) s
  fact = facts 65535 (program_of t) s fit.formed

  -- Spawners are lower than their children.
  pub rooted : Rooted s
  rooted = record { few = fact.acts64; falls = λ x h m. (fact.spawned x m).lower h }

  module _ {i : ℕ} (made : i < s.activities) (runs : is_ended (act s i).status ≡ false) where
    own : ActivityFacts 65535 (program_of t) s.activities s.clocks s.accumulators i (act s i)
    own = fact.spawned i made

    -- An activity that has not ended has a stack.
    pub stack_of : Stacked (program_of t) (act s i)
    stack_of = stacked (program_of t) s.activities (act s i) (stack_back (program_of t) s.activities (act s i) own.stack) (own.bodied runs)

    -- It can be asked whether it waits.
    pub placed : Placed t s (act s i)
    placed = record { stack = stack_of; rooted = rooted }
