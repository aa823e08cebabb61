-- The check decides, then the turn.
use Rattle.std.proofs.Common.{rules}
use Rattle.std.proofs.lemmas.Result.{err_from_is_err_and}
use Rattle.calls.proofs.Checking.{read_back, turned_down, passed}
use Rattle.calls.proofs.Stepping.{step_kept, step_turned}
use Rattle.calls.proofs.step.Goals as goal

pub returns-in_err-read : goal.returns-in_err-read
returns-in_err-read c =
    let t = c.args.table.now in
    let b = c.args.state.now in
    let p = err_from_is_err_and c.from_residual.result c.from_residual.ensures.1 in
    let k = turned_down t b c.check_state.ensures.value c.in_err-read.was in
    rw (p.1, p.2) (step_kept t b c.args.activity k.0 k.1)

pub accepted-requires : goal.accepted-requires
accepted-requires c = read_back c.args.table.now (passed c.args.table.now c.args.state.now c.check_state.ensures.value c.in_ok-read.was).1

pub returns : goal.returns
returns c =
    let t = c.args.table.now in
    let b = c.args.state.now in
    let k = passed t b c.check_state.ensures.value c.in_ok-read.was in
    step_turned t b c.args.activity k.0 (λ i. search rules) (rw c.accepted.ensures at c.turn.ensures)
