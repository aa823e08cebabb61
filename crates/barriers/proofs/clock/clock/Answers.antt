-- F4, number 17 twice, and the clock.
use Rattle.moves.proofs.Standings.{left, over, turns_down}
use Rattle.barriers.proofs.Clocking.{held_fault, full, clocked}
use Rattle.barriers.proofs.clock.clock.Goals as goal

pub returns-then-is_held : goal.returns-then-is_held
returns-then-is_held c =
    λ h.
    record { turns = λ p s l w. c.fail.ensures.fails p s _ l w (held_fault l w (c.hold_at-h.ensures h) c.is_held.ensures c.if-is_held.true) }

pub returns-in_err-unspent : goal.returns-in_err-unspent
returns-in_err-unspent c = λ h. turns_down c.unspent.ensures c.in_err-unspent.was _ c.from_residual.ensures

pub returns-then-made-ge16 : goal.returns-then-made-ge16
returns-then-made-ge16 c =
    λ h.
    record {
      turns =
          λ p s l w.
          over w l
          (full l w (c.hold_at-h.ensures h) c.is_held.ensures c.if-is_held.false (left _ l c.unspent.ensures c.in_ok-unspent.was) c.clocks_of-made.ensures c.if-made-ge16.true);
    }

pub returns : goal.returns
returns c =
    λ h.
    record {
      turns =
          λ p s l w.
          clocked l w (c.hold_at-h.ensures h) c.is_held.ensures (left _ l c.unspent.ensures c.in_ok-unspent.was) c.clocks_of-made.ensures
          (c.put_hold.ensures h) c.put_clocks.ensures c.go_on.ensures c.if-is_held.false c.if-made-ge16.false;
    }
