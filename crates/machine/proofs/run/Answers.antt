-- A trace with a buffer of its own.
use Rattle.machine.proofs.run.Goals as goal

pub returns : goal.returns
returns c = c.trace.ensures.runs
