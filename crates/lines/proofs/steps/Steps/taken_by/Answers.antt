-- An answer more, and at the end all of them.
use Rattle.std.proofs.Common.{sym, ℕ, get_or, take, ap, ◌∙◌, arith}
use Rattle.std.proofs.Math.Seq.{take_all}
use Rattle.std.proofs.lemmas.List.{take_min}
use Rattle.lines.specs.Walk.{steps_in}
use Rattle.lines.proofs.Paging.{steps_le, steps_more, steps_none}
use Rattle.lines.proofs.steps.Steps.taken_by.Goals as goal

pub loop-answer-init : goal.loop-answer-init
loop-answer-init c = (omega arith, sym steps_none)

pub overflow_add-taken : goal.overflow_add-taken
overflow_add-taken c = omega (arith, steps_le (get_or (take c.min.result c.args.self.answers.now) c.loop-answer.answer-index 0))

pub loop-answer-preserved : goal.loop-answer-preserved
loop-answer-preserved c =
    let answers = take c.min.result c.args.self.answers.now in
    let i = c.loop-answer.answer-index in
    (omega (arith, steps_le (get_or answers i 0)), omega (arith, steps_more answers i c.loop-answer-test.true))

pub returns : goal.returns
returns c =
    let answers = c.args.self.answers.now in
    c.loop-answer.invariant.1
    ∙ ap steps_in (take_all c.loop-answer.answer-index (take c.min.result answers) c.loop-answer-test.false)
    ∙ ap (λ (n : ℕ). steps_in (take n answers)) c.min.ensures
    ∙ ap steps_in (take_min c.args.line answers)
