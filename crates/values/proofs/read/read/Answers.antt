-- The fault, number 17, and the value.
use Rattle.std.proofs.Common.{refl}
use Rattle.rules.specs.Faults.{fault_for}
use Rattle.moves.proofs.Standings.{fault_here, left, turns_down}
use Rattle.values.proofs.Owns.{unread, was_read}
use Rattle.values.proofs.read.read.Goals as goal

pub returns-in-Err : goal.returns-in-Err
unfolding fault_for
returns-in-Err c = λ h. record { turns = λ p s l w. unread l w h c.own_number.ensures (fault_here w refl) c.in-Err.is c.fail.ensures }

pub returns-in_err-unspent : goal.returns-in_err-unspent
returns-in_err-unspent c = λ h. turns_down c.unspent.ensures c.in_err-unspent.was _ c.from_residual.ensures

pub returns : goal.returns
returns c =
    λ h.
    record {
      turns =
          λ p s l w.
          was_read l h (left _ l c.unspent.ensures c.in_ok-unspent.was) c.own_number.ensures c.in-Ok.is c.go_on.ensures w c.accumulator_at-c.ensures c.put_register.ensures;
    }
