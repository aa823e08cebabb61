-- The table's number decides, then the length, then the room; then the order is followed from the start.
use Rattle.std.proofs.lemmas.Result.{err_from_is_err_and}
use Rattle.calls.specs.Calls.{length_number}
use Rattle.wellformed.proofs.Numbers.{read_ok}
use Rattle.calls.proofs.Checking.{read_err}
use Rattle.calls.proofs.Running.{Ends, run_refused, run_length, run_short, run_followed}
use Rattle.calls.proofs.trace.Goals as goal
use Rattle.calls.proofs.trace.Goals.{then-state-ne13776-via-then-state-ne13776, then-state-ne13776-via-else-state-ne13776+then-answers-order}

pub returns-in_err-read : goal.returns-in_err-read
returns-in_err-read c =
    let t = c.args.table.now in
    let p = err_from_is_err_and c.from_residual.result c.from_residual.ensures.1 in
    let k = read_err t c.read_table.ensures c.in_err-read.was in
    let whole = run_refused t c.args.order.now c.args.answers.now c.args.counts.now c.args.state.now k.0 k.1 in
    record { value = rw (p.1, p.2) whole.0; answers_after = whole.1.0; counts_after = whole.1.1.0; state_after = whole.1.1.1 }

pub returns-then-state-ne13776 : goal.returns-then-state-ne13776
returns-then-state-ne13776 c =
    let t = c.args.table.now in
    let z = (read_ok t c.read_table.ensures c.in_ok-read.was).accepted in
    let whole : Ends t c.args.order.now c.args.answers.now c.args.counts.now c.args.state.now length_number c.args.answers.now c.args.counts.now c.args.state.now =
    elim c.then-state-ne13776.branch [
      | then-state-ne13776-via-then-state-ne13776 w ↦ run_length t c.args.order.now c.args.answers.now c.args.counts.now c.args.state.now z w.if-state-ne13776.true
      | then-state-ne13776-via-else-state-ne13776+then-answers-order w ↦
          run_short t c.args.order.now c.args.answers.now c.args.counts.now c.args.state.now z w.if-state-ne13776.false w.if-answers-order.true
    ]
    in
    record { value = whole.0; answers_after = whole.1.0; counts_after = whole.1.1.0; state_after = whole.1.1.1 }

pub returns : goal.returns
returns c =
    let t = c.args.table.now in
    let z = (read_ok t c.read_table.ensures c.in_ok-read.was).accepted in
    let whole =
    run_followed t c.args.order.now c.args.answers.now c.args.counts.now c.args.state.now z c.if-state-ne13776.false c.if-answers-order.false c.put_start.ensures
    (rw c.accepted.ensures at c.follow.ensures)
    in
    record { value = whole.0; answers_after = whole.1.0; counts_after = whole.1.1.0; state_after = whole.1.1.1 }
