-- Numbers 14 and 15, or the turn at the command.
use Rattle.turns.proofs.Looking.{turned}
use Rattle.turns.proofs.Turning.{refused}
use Rattle.turns.proofs.turn.Goals as goal

pub returns-in-Ok : goal.returns-in-Ok
returns-in-Ok c = turned c.in-Ok.ensures c.carry_out.ensures

pub returns-in-Err : goal.returns-in-Err
returns-in-Err c = refused c.in-Err.ensures c.alone.ensures
