-- What a step in place tells, as the call by value answers it.
use Rattle.std.specs.Prelude.{Result, Option, Ok, Err}
use Rattle.program.specs.declared.refusal.Refusal.{Refusal}
use Rattle.rules.specs.declared.state.Fault.{Fault}
use Rattle.rules.specs.declared.state.Status.{Status}
use Rattle.rules.specs.State.{Answer}

-- The answer of a step that was told so, with or without a fault, after which the activity stands so.
abbrev pub answer_of : Result (Option Fault) Refusal → Status → Answer
answer_of (Ok fault) status = Ok status
answer_of (Err refusal) status = Err refusal
