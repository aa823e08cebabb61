-- The cell is touched.
use Rattle.std.proofs.Common.{refl, rules}
use Rattle.program.specs.Command.{uses_cell}
use Rattle.program.specs.declared.command.Command.TheVariants.{Store}
use Rattle.values.proofs.cells.store.Goals as goal

pub returns : goal.returns
unfolding uses_cell
returns c = λ h. c.on_cell.ensures.turns (Store c.args.d) refl (λ d t. search rules)
