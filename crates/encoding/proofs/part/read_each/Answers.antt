-- The first i parts are read.
use mathlib.Core.Path.{refl}
use Rattle.encoding.proofs.PartLaws.{pass_turn, read_none, read_more}
use Rattle.encoding.proofs.part.read_each.Goals as goal

pub loop-i-init : goal.loop-i-init
loop-i-init g c = read_none g.P.Part.decode _ _ _ _ refl

pub at-requires-clause-bytes_value : goal.at-requires-clause-bytes_value
at-requires-clause-bytes_value g c = rw (c.SIZE.ensures, c.SIZE-in-loop-i.ensures) (pass_turn _ _ c.loop-i.i g.P.Part.readable _ c.requires.bytes_value c.loop-i-test.true)

pub loop-i-preserved : goal.loop-i-preserved
loop-i-preserved g c =
    let e = rw (c.SIZE.ensures, c.SIZE-in-loop-i.ensures) at c.at.ensures in
    read_more c.at.result c.loop-i.invariant c.loop-i-test.true e
