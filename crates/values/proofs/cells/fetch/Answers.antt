-- The cell is touched.
use Rattle.std.proofs.Common.{refl, rules}
use Rattle.program.specs.Command.{uses_cell}
use Rattle.program.specs.declared.command.Command.TheVariants.{Fetch}
use Rattle.values.proofs.cells.fetch.Goals as goal

pub returns : goal.returns
unfolding uses_cell
returns c = λ h. c.on_cell.ensures.turns (Fetch c.args.d) refl (λ d t. search rules)
