-- What is presumed of the table: it was accepted, and the starts are those of its bodies.
use Rattle.std.specs.Prelude.{ℕ, ◌≡◌, List, true}
use Rattle.program.specs.Bodies.{program_of}
use Rattle.program.specs.Scan.{scan, layout_of}
use Rattle.program.specs.declared.command.Command.{Command}
use Rattle.rules.specs.declared.state.Frame.{Frame}
use Rattle.rules.specs.declared.state.State.{State}
use Rattle.rules.specs.Tree.{here}
use Rattle.rules.specs.WellFormed.{is_placed, well_formed}

pub record Known (t : List ℕ) (starts : List ℕ) : Type 0 where
  pub scanned : scan t ≡ 0
  pub laid : starts ≡ (layout_of t).starts

-- An accepted table and a well-formed state.
pub record Fit (t : List ℕ) (starts : List ℕ) (s : State) : Type 0 where
  pub known : Known t starts
  pub formed : well_formed 65535 (program_of t) s ≡ true

-- A frame stands on a command of an accepted table.
pub record On (t : List ℕ) (f : Frame) (command : Command) : Type 0 where
  pub scanned : scan t ≡ 0
  pub placed : is_placed (program_of t) f ≡ true
  pub stands : command ≡ (here (program_of t) f).command
