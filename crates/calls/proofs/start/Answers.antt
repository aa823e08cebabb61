-- The table's number decides, then the length.
use Rattle.wellformed.proofs.Numbers.{read_ok}
use Rattle.calls.proofs.Checking.{read_err}
use Rattle.calls.proofs.Starting.{start_refused, start_length, start_done}
use Rattle.calls.proofs.start.Goals as goal

pub returns-in-Err : goal.returns-in-Err
returns-in-Err c =
    let t = c.args.table.now in
    let k = read_err t c.read_table.ensures c.in-Err.is in
    start_refused t c.args.state.now k.0 k.1 c.put_none.ensures

pub returns-then-state-ne13776 : goal.returns-then-state-ne13776
returns-then-state-ne13776 c = start_length c.args.table.now c.args.state.now (read_ok c.args.table.now c.read_table.ensures c.in_default.is).accepted c.if-state-ne13776.true

pub returns : goal.returns
returns c = start_done c.args.table.now c.args.state.now (read_ok c.args.table.now c.read_table.ensures c.in_default.is).accepted c.if-state-ne13776.false c.put_start.ensures
