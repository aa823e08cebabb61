-- The one function of RESUME and DROP.
use Rattle.std.specs.Prelude.{ℕ, ◌≡◌, List}
use Rattle.program.specs.Bodies.{Program}
use Rattle.program.specs.declared.command.Command.TheVariants.{Resume, Drop}
use Rattle.rules.specs.declared.state.Hold.{Hold}
use Rattle.rules.specs.declared.state.State.{State}
use Rattle.rules.specs.State.{act, no_hold, hold}
use Rattle.rules.specs.Clocks.{quiesce}
use Rattle.fields.specs.Lent.{Lent}
use Rattle.moves.specs.Moves.{Standing, Turned}

-- With the clock quiesced it is the turn of RESUME, and with no clock that of DROP.
pub record Reholds (k : ℕ) (new : Hold) (b c : List ℕ) (work i r : ℕ) : Type 0 where
  pub resumes : (p : Program) (s : State) → Lent b s → Standing p s i work (Resume k) → new ≡ quiesce (hold (act s i) k) → Turned p s i c r
  pub drops : (p : Program) (s : State) → Lent b s → Standing p s i work (Drop k) → new ≡ no_hold → Turned p s i c r
