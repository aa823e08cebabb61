-- Each entry in use is tested in turn, the bytes behind them at once.
use Prim.Native.Nat.{◌*◌}
use Rattle.std.proofs.Common.{rules}
use Rattle.encoding.specs.Bytes.{part}
use Rattle.encoding.proofs.PartLaws.{turn}
use Rattle.wellformed.specs.Passing.{accumulator_passes}
use Rattle.wellformed.proofs.Fronts.{front_fails, front_ends, accumulators_joined}
use Rattle.wellformed.proofs.Ranges.{all_tested}
use Rattle.wellformed.proofs.lent.accumulators_pass.Goals as goal

pub returns-then-all : goal.returns-then-all
returns-then-all c =
    front_ends (accumulators_joined _ _ c.requires.1 c.requires.0)
    (all_tested c.args.made.accumulators (λ i. accumulator_passes c.args.made (part c.args.bytes.now (24 * i) 24)) _ _ _ (cc) c.all.ensures.ran (λ x b q k. (search rules, λ l. let whole = turn 24 x in search rules)))
    c.if-all.true
    c.is_zero.ensures

pub returns-else-all : goal.returns-else-all
returns-else-all c =
    front_fails (accumulators_joined _ _ c.requires.1 c.requires.0)
    (all_tested c.args.made.accumulators (λ i. accumulator_passes c.args.made (part c.args.bytes.now (24 * i) 24)) _ _ _ (cc) c.all.ensures.ran (λ x b q k. (search rules, λ l. let whole = turn 24 x in search rules)))
    c.if-all.false
