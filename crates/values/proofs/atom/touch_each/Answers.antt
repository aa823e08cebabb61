-- One command after the other.
use Rattle.std.proofs.Common.{refl}
use Rattle.values.proofs.Atoms.{touch_none, touch_more, touch_end}
use Rattle.values.proofs.atom.touch_each.Goals as goal

pub loop-j-init : goal.loop-j-init
loop-j-init c = touch_none

pub loop-j-preserved : goal.loop-j-preserved
loop-j-preserved c = touch_more c.loop-j.invariant c.loop-j-test.true refl c.known.ensures c.touch.ensures

pub returns : goal.returns
returns c = touch_end c.loop-j.invariant c.loop-j-test.false
