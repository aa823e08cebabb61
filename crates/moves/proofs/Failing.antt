-- An activity that stops.
use Rattle.std.proofs.Common.{◌≡◌, ℕ, false, leb, List, refl}
use Rattle.program.specs.Bodies.{Program}
use Rattle.program.specs.declared.command.Command.{Command}
use Rattle.rules.specs.declared.state.Fault.{Fault}
use Rattle.rules.specs.declared.state.Status.{Status}
use Rattle.rules.specs.declared.state.Status.TheVariants.{Faulted}
use Rattle.rules.specs.declared.state.Activity.{Activity}
use Rattle.rules.specs.declared.state.State.{State}
use Rattle.rules.specs.State.{fault_number, status_answer}
use Rattle.rules.specs.Effects.{stopped}
use Rattle.rules.specs.Steps.{fault}
use Rattle.fields.specs.Lent.{Lent, WritesAct, with_act, with_status, with_depth, cleared}
use Rattle.moves.specs.Moves.{Standing, Turned, Counts}
use Rattle.moves.proofs.Withs.{then}
use Rattle.moves.proofs.Standings.{few, steps_room, done_failed}

pub stops : {b b₁ b₂ b₃ : List ℕ} {i : ℕ} (st : Status) → WritesAct (λ (a : Activity). with_status a st) b b₁ i → WritesAct (λ (a : Activity). with_depth a 0) b₁ b₂ i → WritesAct cleared b₂ b₃ i
    → WritesAct (λ (a : Activity). stopped a st) b b₃ i
stops st f g h = then (then f g) h

pub failed : {b b₁ b₂ : List ℕ} {p : Program} {s : State} {command : Command} {i work k : ℕ} (f : Fault) → Lent b s → Standing p s i work command → false ≡ leb work s.steps
    → fault p s i ≡ fault_number f → WritesAct (λ (a : Activity). stopped a (Faulted f)) b b₁ i → Counts b₁ b₂ k → Turned p s i b₂ (status_answer (Faulted f))
unfolding with_act
failed {s = s} {i = i} f l w left e t n =
    done_failed w f e left (n.counts _ (t.writes s l (few w)) (steps_room w left)) refl
