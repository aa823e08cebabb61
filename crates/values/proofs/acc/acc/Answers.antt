-- Number 17 twice, and the accumulator, the count and the name.
use Rattle.std.proofs.Common.{refl}
use Rattle.moves.proofs.Standings.{left, over, turns_down}
use Rattle.values.proofs.Accs.{full, made}
use Rattle.values.proofs.acc.acc.Goals as goal

pub returns-in_err-unspent : goal.returns-in_err-unspent
returns-in_err-unspent c = λ h. turns_down c.unspent.ensures c.in_err-unspent.was _ c.from_residual.ensures

pub returns-then-made-ge16 : goal.returns-then-made-ge16
returns-then-made-ge16 c =
    λ h.
    record {
      turns =
          λ p s l w.
          over w l (full l w (left _ l c.unspent.ensures c.in_ok-unspent.was) (rw (c.accumulators_of-made.ensures.reads s l) at c.if-made-ge16.true));
    }

pub returns : goal.returns
returns c =
    λ h.
    record {
      turns =
          λ p s l w.
          made l w (left _ l c.unspent.ensures c.in_ok-unspent.was) h (c.accumulators_of-made.ensures.reads s l) c.if-made-ge16.false refl c.operator_of.ensures
          c.new_accumulator-fresh.ensures c.put_accumulator.ensures refl c.put_accumulators.ensures refl c.put_name.ensures c.go_on.ensures;
    }
