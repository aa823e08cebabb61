-- PUT.
use Rattle.std.proofs.Common.{◌≡◌, ℕ, false, leb, List, sym, refl, ap, ◌∙◌, arith}
use Rattle.program.specs.Command.{is_end}
use Rattle.program.specs.Bodies.{Program}
use Rattle.program.specs.declared.command.Command.TheVariants.{Put}
use Rattle.program.proofs.ShapeRows.{span_is}
use Rattle.rules.specs.declared.state.Activity.{Activity}
use Rattle.rules.specs.declared.state.State.{State}
use Rattle.rules.specs.State.{act}
use Rattle.rules.specs.Faults.{fault_for}
use Rattle.rules.specs.Effects.{with_register, past, effect_of}
use Rattle.moves.specs.Exceeding.{overfull}
use Rattle.fields.specs.Lent.{Lent, WritesAct, with_act}
use Rattle.moves.specs.Moves.{Standing, Turned, GoesOn}
use Rattle.moves.proofs.Withs.{act_with, with_with, steps_with}
use Rattle.moves.proofs.Standings.{few, fault_here, plain, calm, went, done_alone}

pub put_done : {b b₁ b₂ : List ℕ} {p : Program} {s : State} {i work v r : ℕ} → Lent b s → Standing p s i work (Put v) → false ≡ leb work s.steps
    → WritesAct (λ (a : Activity). with_register a v) b b₁ i → GoesOn b₁ b₂ i 5 r → Turned p s i b₂ r
unfolding fault_for effect_of overfull past is_end
put_done {p = p} {s = s} {i = i} {v = v} l w h f g =
    let x = with_register (act s i) v in
    let e : act (with_act s i x) i ≡ x = act_with x l (few w) in
    let m = went w refl (span_is (Put v)) h (f.writes s l (few w)) (ap (λ (a : Activity). a.frames) e) (ap (λ (a : Activity). a.depth) e) (steps_with s i x) g in
    done_alone w (fault_here w refl) (plain w h refl (λ q. omega arith)) (past p x) refl (rw (e, with_with) at m) (g.number ∙ sym (calm w))
