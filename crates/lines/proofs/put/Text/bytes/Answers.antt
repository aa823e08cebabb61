-- A byte more of the text.
use Rattle.lines.proofs.Putting.{more}
use Rattle.lines.proofs.put.Text.bytes.Goals as goal

pub loop-x-preserved : goal.loop-x-preserved
loop-x-preserved c = more _ _ c.loop-x-test.true c.loop-x.invariant c.byte.ensures
