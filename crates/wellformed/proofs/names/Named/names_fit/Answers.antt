-- Each name is tested in turn.
use Rattle.std.proofs.Common.{rules}
use Rattle.rules.specs.Search.{all_below}
use Rattle.rules.specs.State.{hold}
use Rattle.rules.specs.WellFormed.{names_fit}
use Rattle.encoding.specs.Decode.{activity_at}
use Rattle.wellformed.specs.Entries.{are_apart}
use Rattle.wellformed.proofs.Ranges.{all_tested}
use Rattle.wellformed.proofs.names.Named.names_fit.Goals as goal

pub returns : goal.returns
unfolding names_fit are_apart
returns c =
    all_tested 8 (λ k. all_below k (λ j. are_apart (hold (activity_at c.args.self.now.entry.bytes.now) j) (hold (activity_at c.args.self.now.entry.bytes.now) k))) _ _ _ (cc) c.all.ensures.ran (λ x b q k. search rules)
