-- Each clock name is tested in turn.
use mathlib.Core.Bool.{not}
use mathlib.Core.Path.{sym, ◌∙◌}
use Rattle.std.proofs.Common.{rules}
use Rattle.rules.specs.Clocks.{holds, holds_some}
use Rattle.encoding.specs.Decode.{activity_at}
use Rattle.wellformed.proofs.Laws.{not_some}
use Rattle.wellformed.proofs.Ranges.{all_tested}
use Rattle.wellformed.proofs.names.Named.holds_none.Goals as goal

pub returns : goal.returns
unfolding holds_some
returns c =
    all_tested 8 (λ k. not (holds (activity_at c.args.self.now.entry.bytes.now) k)) _ _ _ (cc) c.all.ensures.ran (λ x b q k. search rules) ∙ sym (not_some 8 (holds (activity_at c.args.self.now.entry.bytes.now)))
