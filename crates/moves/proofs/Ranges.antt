-- The operands of the command that an activity stands on are inside their ranges.
use Rattle.std.proofs.Common.{◌≡◌, ℕ, ◌-◌, ◌<◌, true, false, List, subst, arith}
use Rattle.program.specs.Bodies.{program_of}
use Rattle.program.specs.declared.command.Command.{Command}
use Rattle.program.proofs.Shape.{Ranged}
use Rattle.rules.specs.declared.state.State.{State}
use Rattle.rules.specs.State.{act, top, ended}
use Rattle.rules.specs.WellFormed.{is_placed, well_formed}
use Rattle.rules.specs.Steps.{at}
use Rattle.rules.proofs.Turn.{turn}
use Rattle.rules.proofs.WellFormedFacts.{facts}
use Rattle.places.specs.Known.{Known}
use Rattle.places.proofs.Places.{sound_here}
use Rattle.moves.specs.Moves.{Standing}

-- The command that an activity of a well-formed state stands on.
pub ranged_at : {t starts : List ℕ} (s : State) {i : ℕ} → Known t starts → well_formed 65535 (program_of t) s ≡ true → i < s.activities → ended s i ≡ false → Ranged (at (program_of t) s i).command
unfolding at
ranged_at {t} s {i = i} k formed spawned unended =
    let p = program_of t in
    let a = (facts 65535 p s formed).spawned i spawned in
    let d : 0 < (act s i).depth = a.bodied unended in
    let on : is_placed p (top (act s i)) ≡ true = a.stack.placed ((act s i).depth - 1) (omega arith) in
    (sound_here t k.scanned (top (act s i)) on).ranged

pub ranged_here : {t starts : List ℕ} {s : State} {i work : ℕ} {c : Command} → Known t starts → Standing (program_of t) s i work c → Ranged c
ranged_here {t} {s = s} {i = i} k w = let u = turn (program_of t) s i w.goes in subst Ranged w.stands (ranged_at s k w.formed u.spawned u.unended)
