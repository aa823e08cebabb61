-- The table is read first, with its places; then the state decides.
use Rattle.wellformed.proofs.Loops.{so, not_so}
use Rattle.wellformed.proofs.Numbers.{Read, read_ok, unread, fit, not_fit, checked_told}
use Rattle.wellformed.proofs.check_state.Goals as goal

pub returns-in-Err-clause-number : goal.returns-in-Err-clause-number
returns-in-Err-clause-number c = checked_told c.args.table.now c.args.state.now (unread c.args.table.now c.args.state.now c.read_places.ensures.value c.in-Err.is)

pub invariant_of-accepted : goal.invariant_of-accepted
invariant_of-accepted c =
    let r : Read c.args.table.now c.in-Ok.known = read_ok c.args.table.now c.read_places.ensures.value c.in-Ok.is in
    record { known = r.known; counted = r.work; small = r.small }

pub returns-then-state_passes-clause-number : goal.returns-then-state_passes-clause-number
returns-then-state_passes-clause-number c =
    let r = read_ok c.args.table.now c.read_places.ensures.value c.in-Ok.is in
    checked_told c.args.table.now c.args.state.now (fit _ _ r (so c.state_passes.ensures c.if-state_passes.true))

pub returns-else-state_passes-clause-number : goal.returns-else-state_passes-clause-number
returns-else-state_passes-clause-number c =
    let r = read_ok c.args.table.now c.read_places.ensures.value c.in-Ok.is in
    checked_told c.args.table.now c.args.state.now (not_fit _ _ r (not_so c.state_passes.ensures c.if-state_passes.false))
