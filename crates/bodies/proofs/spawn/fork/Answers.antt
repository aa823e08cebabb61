-- Number 17, the child, and on.
use native.Mathlib.Omega.{arith}
use mathlib.Core.Path.{refl}
use Rattle.moves.proofs.Standings.{few, over, left, turned_down}
use Rattle.bodies.proofs.Spawns.{grown, crowded, born}
use Rattle.bodies.proofs.spawn.fork.Goals as goal

pub returns-in_err-unspent : goal.returns-in_err-unspent
returns-in_err-unspent c = record { does = λ p s l w q. turned_down w l c.unspent.ensures c.in_err-unspent.was _ c.from_residual.ensures }

pub returns-then-made-ge64 : goal.returns-then-made-ge64
returns-then-made-ge64 c =
    record {
      does = λ p s l w q. over w l (crowded l w q (left _ l c.unspent.ensures c.in_ok-unspent.was) (omega (arith, c.activities_of-made.ensures.reads s l, c.if-made-ge64.true)));
    }

pub returns : goal.returns
returns c =
    record {
      does =
          λ p s l w q.
          let i<64 = few w in
          born l w q (left _ l c.unspent.ensures c.in_ok-unspent.was) (c.activities_of-made.ensures.reads s l) c.if-made-ge64.false (c.register_at-register.ensures.reads s l (few w)) (omega arith)
          (grown _ _ _ c.stop.ensures c.put_register.ensures c.put_spawner.ensures (c.put_frame.ensures (omega arith)) c.put_depth.ensures)
          c.give.ensures refl c.put_activities.ensures c.go_on.ensures;
    }
