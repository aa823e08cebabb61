-- Each clock name is tested in turn.
use mathlib.Core.Path.{◌∙◌}
use Rattle.std.proofs.Common.{rules}
use Rattle.wellformed.proofs.Ranges.{all_tested}
use Rattle.wellformed.proofs.WithinLaws.{holds_tested, hold_test}
use Rattle.wellformed.proofs.names.holds_pass.Goals as goal

pub returns : goal.returns
returns c = all_tested 8 (hold_test c.args.made c.args.a.now.bytes.now) _ _ _ (cc) c.all.ensures.ran (λ x b q k. search rules) ∙ holds_tested _ _
