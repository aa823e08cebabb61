-- Each entry in use is tested in turn, the bytes behind them at once.
use Prim.Native.Nat.{◌*◌}
use Rattle.std.proofs.Common.{rules}
use Rattle.program.specs.Bodies.{program_of}
use Rattle.encoding.specs.Bytes.{part}
use Rattle.encoding.proofs.PartLaws.{turn}
use Rattle.wellformed.specs.Passing.{activity_passes}
use Rattle.wellformed.proofs.Fronts.{front_fails, front_ends, activities_joined}
use Rattle.wellformed.proofs.Ranges.{all_tested}
use Rattle.wellformed.proofs.lent.activities_pass.Goals as goal

pub returns-then-all : goal.returns-then-all
returns-then-all c =
    front_ends (activities_joined _ _ _ c.requires.1 c.requires.0)
    (all_tested c.args.made.activities (λ i. activity_passes (program_of c.args.marked.now.table.bytes.now) c.args.made i (part c.args.bytes.now (208 * i) 208)) _ _ _ (cc) c.all.ensures.ran (λ x b q k. (search rules, λ l. let whole = turn 208 x in search rules)))
    c.if-all.true
    c.is_zero.ensures

pub returns-else-all : goal.returns-else-all
returns-else-all c =
    front_fails (activities_joined _ _ _ c.requires.1 c.requires.0)
    (all_tested c.args.made.activities (λ i. activity_passes (program_of c.args.marked.now.table.bytes.now) c.args.made i (part c.args.bytes.now (208 * i) 208)) _ _ _ (cc) c.all.ensures.ran (λ x b q k. (search rules, λ l. let whole = turn 208 x in search rules)))
    c.if-all.false
