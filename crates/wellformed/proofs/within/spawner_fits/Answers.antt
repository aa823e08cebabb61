-- Main, or a child.
use Rattle.encoding.specs.Decode.{activity_at}
use Rattle.wellformed.proofs.Laws.{main_spawner, child_spawner}
use Rattle.wellformed.proofs.within.spawner_fits.Goals as goal

pub returns-then-i-eq0 : goal.returns-then-i-eq0
unfolding activity_at
returns-then-i-eq0 c = main_spawner c.args.i (activity_at c.args.a.now.bytes.now) c.if-i-eq0.true

pub returns : goal.returns
unfolding activity_at
returns c = child_spawner c.args.i (activity_at c.args.a.now.bytes.now) c.if-i-eq0.false
