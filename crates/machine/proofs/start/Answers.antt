-- The table's number decides.
use mathlib.Core.Path.{◌∙◌, sym}
use Rattle.machine.proofs.Values.{start_refused, start_accepted}
use Rattle.machine.proofs.start.Goals as goal

pub returns-in-Ok : goal.returns-in-Ok
returns-in-Ok c = rw c.start_state.ensures (start_accepted c.args.table.now (sym c.in-Ok.is ∙ c.read_table.ensures))

pub returns-in-Err : goal.returns-in-Err
returns-in-Err c = rw c.zero_state.ensures (start_refused c.args.table.now (sym c.in-Err.is ∙ c.read_table.ensures))
