-- The check decides, then what the activity meets.
use native.Mathlib.Omega.{arith}
use Rattle.std.proofs.lemmas.Result.{err_from_is_err_and}
use Rattle.calls.proofs.Checking.{read_back, turned_down, passed}
use Rattle.calls.proofs.Telling.{awaits_refused, awaits_some, awaits_err, awaits_ok}
use Rattle.calls.proofs.awaited.Goals as goal

pub returns-in_err-read : goal.returns-in_err-read
returns-in_err-read c =
    let t = c.args.table.now in
    let b = c.args.state.now in
    let p = err_from_is_err_and c.from_residual.result c.from_residual.ensures.1 in
    let k = turned_down t b c.check_state.ensures.value c.in_err-read.was in
    rw (p.1, p.2) (awaits_refused t b k.0 k.1 c.args.activity)

pub accepted-requires : goal.accepted-requires
accepted-requires c = read_back c.args.table.now (passed c.args.table.now c.args.state.now c.check_state.ensures.value c.in_ok-read.was).1

pub returns-in_err-seen : goal.returns-in_err-seen
returns-in_err-seen c =
    let t = c.args.table.now in
    let b = c.args.state.now in
    let k = passed t b c.check_state.ensures.value c.in_ok-read.was in
    let p = err_from_is_err_and c.from_residual-in_err-seen.result c.from_residual-in_err-seen.ensures.1 in
    rw (p.1, p.2) (awaits_err t b k.0 (λ i. omega (arith, c.type_inv.state i)) (rw c.accepted.ensures at c.look-seen.ensures) c.if-seen-eq0.true c.in_err-seen.was)

pub returns-in_ok-seen : goal.returns-in_ok-seen
returns-in_ok-seen c =
    let t = c.args.table.now in
    let b = c.args.state.now in
    let k = passed t b c.check_state.ensures.value c.in_ok-read.was in
    awaits_ok t b k.0 (λ i. omega (arith, c.type_inv.state i)) (rw c.accepted.ensures at c.look-seen.ensures) c.if-seen-eq0.true c.in_ok-seen.was

pub returns-else-seen-eq0 : goal.returns-else-seen-eq0
returns-else-seen-eq0 c =
    let t = c.args.table.now in
    let b = c.args.state.now in
    let k = passed t b c.check_state.ensures.value c.in_ok-read.was in
    awaits_some t b k.0 (λ i. omega (arith, c.type_inv.state i)) (rw c.accepted.ensures at c.look-seen.ensures) c.if-seen-eq0.false
