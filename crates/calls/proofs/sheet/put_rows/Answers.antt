-- The first i rows are written.
use Rattle.calls.proofs.Rows.{rowed_none, rowed_more, rowed_all}
use Rattle.calls.proofs.sheet.put_rows.Goals as goal

pub loop-i-init : goal.loop-i-init
loop-i-init c = rowed_none c.requires

pub loop-i-preserved : goal.loop-i-preserved
loop-i-preserved c = rowed_more c.loop-i.invariant c.loop-i-test.true c.sheet_row.ensures c.copy_from_slice.auto.self c.copy_from_slice.ensures.after

pub returns : goal.returns
returns c = rowed_all c.loop-i.invariant c.loop-i-test.false
