-- By the command.
use Rattle.program.specs.declared.command.Command.TheVariants.{Fetch, Store, Add}
use Rattle.program.proofs.ShapeRanges.{within}
use Rattle.values.proofs.Touching.{touch_by, touch_other}
use Rattle.values.proofs.cells.touch.Goals as goal

pub returns-in-Fetch : goal.returns-in-Fetch
returns-in-Fetch c = touch_by c.in-Fetch.is (λ r. c.fetch_cell.ensures (within (Fetch c.in-Fetch.d) r))

pub returns-in-Store : goal.returns-in-Store
returns-in-Store c = touch_by c.in-Store.is (λ r. c.store_cell.ensures (within (Store c.in-Store.d) r))

pub returns-in-Add : goal.returns-in-Add
returns-in-Add c = touch_by c.in-Add.is (λ r. c.add_cell.ensures (within (Add c.in-Add.d) r))

pub returns-in_default : goal.returns-in_default
returns-in_default c = touch_other c.in_default.not-Fetch c.in_default.not-Store c.in_default.not-Add
