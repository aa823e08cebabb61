-- The body at the top, and the one that runs it.
use Rattle.waits.proofs.Waitings.{end_alone, end_elsewhere, end_inside}
use Rattle.waits.proofs.waiting.end_inside.Goals as goal

pub returns-then-depth-le1 : goal.returns-then-depth-le1
returns-then-depth-le1 c = end_alone c.depth_at-depth.ensures c.default.ensures c.if-depth-le1.true

pub returns-then-is_finish : goal.returns-then-is_finish
returns-then-is_finish c =
    end_inside c.depth_at-depth.ensures c.if-depth-le1.false c.frame_at-below.ensures c.is_finish.ensures c.frame_at-f.ensures c.if-is_finish.true c.inside_of.ensures

pub returns : goal.returns
returns c = end_elsewhere c.depth_at-depth.ensures c.if-depth-le1.false c.frame_at-below.ensures c.is_finish.ensures c.default-2.ensures c.if-is_finish.false
