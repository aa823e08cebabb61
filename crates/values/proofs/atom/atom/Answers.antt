-- Number 17, or the frame at the top, the commands, and on.
use Rattle.std.proofs.Common.{refl}
use Rattle.moves.proofs.Standings.{left, turned_down}
use Rattle.values.proofs.Atoms.{atom_done}
use Rattle.values.proofs.atom.atom.Goals as goal

pub returns-in_err-unspent : goal.returns-in_err-unspent
returns-in_err-unspent c = record { turns = λ s l w. turned_down w l c.unspent.ensures c.in_err-unspent.was _ c.from_residual.ensures }

pub returns : goal.returns
returns c =
    record {
      turns =
          λ s l w.
          atom_done c.args.table.now.known w l (left _ l c.unspent.ensures c.in_ok-unspent.was) c.depth_at.ensures (rw c.saturating_sub-top.ensures at c.frame_at-f.ensures) c.touch_all.ensures refl refl c.go_on.ensures;
    }
