-- The state of zeros, with main.
use Rattle.calls.proofs.Beginning.{start_written}
use Rattle.calls.proofs.begin.put_start.Goals as goal

pub returns-then-state-eq13776 : goal.returns-then-state-eq13776
returns-then-state-eq13776 c = start_written c.args.state.now c.if-state-eq13776.true c.put_none.ensures c.put_activities.ensures c.put_depth.ensures
