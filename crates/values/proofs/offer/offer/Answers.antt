-- F5, number 17, and the offer.
use Rattle.moves.proofs.Standings.{left, turns_down}
use Rattle.values.proofs.Offers.{unbound_fault, offered}
use Rattle.values.proofs.offer.offer.Goals as goal

pub returns-then-entry-eq0 : goal.returns-then-entry-eq0
returns-then-entry-eq0 c =
    λ h.
    record { turns = λ p s l w. c.fail.ensures.fails p s _ l w (unbound_fault l w h (c.name_at-entry.ensures h) c.if-entry-eq0.true) }

pub returns-in_err-unspent : goal.returns-in_err-unspent
returns-in_err-unspent c = λ h. turns_down c.unspent.ensures c.in_err-unspent.was _ c.from_residual.ensures

pub returns : goal.returns
returns c =
    λ h.
    record {
      turns =
          λ p s l w.
          offered l w h (c.name_at-entry.ensures h) c.if-entry-eq0.false (left _ l c.unspent.ensures c.in_ok-unspent.was) c.accumulator_at-c.ensures c.register_at-register.ensures
          c.reduce.ensures c.put_value.ensures c.go_on.ensures;
    }
