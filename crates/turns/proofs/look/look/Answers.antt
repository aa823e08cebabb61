-- Numbers 14 to 16 in their order.
use Rattle.turns.proofs.Looking.{turned_down, waiting, moving}
use Rattle.turns.proofs.look.look.Goals as goal
use mathlib.Core.Path.{refl}

pub returns-in-Err : goal.returns-in-Err
returns-in-Err c = turned_down c.in-Err.ensures c.alone.ensures

pub returns-then-awaited-eq0 : goal.returns-then-awaited-eq0
returns-then-awaited-eq0 c = moving c.in-Ok.ensures c.awaited_at-awaited.ensures c.if-awaited-eq0.true c.alone-then-awaited-eq0.ensures

pub returns : goal.returns
returns c = waiting c.in-Ok.ensures c.awaited_at-awaited.ensures c.if-awaited-eq0.false refl refl
