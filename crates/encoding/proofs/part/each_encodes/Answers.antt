-- The parts from i on decide.
use Rattle.encoding.proofs.PartLaws.{pass_on, pass_not, pass_done}
use Rattle.encoding.proofs.part.each_encodes.Goals as goal

pub returns-then-not-encodes : goal.returns-then-not-encodes
returns-then-not-encodes g c =
    let e = rw (c.SIZE.ensures, c.SIZE-in-loop-i.ensures) at c.encodes.ensures in
    pass_not c.loop-i.invariant c.loop-i-test.true e c.if-not-encodes.true

pub loop-i-preserved : goal.loop-i-preserved
loop-i-preserved g c =
    let e = rw (c.SIZE.ensures, c.SIZE-in-loop-i.ensures) at c.encodes.ensures in
    pass_on c.loop-i.invariant c.loop-i-test.true e c.if-not-encodes.false

pub returns : goal.returns
returns g c = pass_done c.loop-i.invariant c.loop-i-test.false
