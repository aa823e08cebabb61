-- One hold after the other.
use Rattle.barriers.proofs.Mapping.{map_none, map_more, map_skip, map_done}
use Rattle.barriers.proofs.next.change_all.Goals as goal
use Rattle.barriers.proofs.next.change_all.Goals.{then-is_held, else-is_held}

pub loop-k-init : goal.loop-k-init
loop-k-init g c = map_none

pub loop-k-preserved : goal.loop-k-preserved
loop-k-preserved g c =
    let low = c.loop-k-test.true in
    let r = c.hold_at-h.ensures low in
    elim c.if-is_held.branch [ then-is_held w ↦ rw w.state-is (map_more c.loop-k.invariant low r c.is_held.ensures w.if-is_held.true w.change.ensures (w.put_hold.ensures low)) | else-is_held w ↦ rw w.state-is (map_skip c.loop-k.invariant low r c.is_held.ensures w.if-is_held.false) ]

pub returns : goal.returns
returns g c = map_done c.loop-k.invariant c.loop-k-test.false
