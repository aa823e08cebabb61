-- The greatest byte is 0 where each byte is.
use mathlib.Core.Path.{ap, ◌∙◌}
use lib.Dec.{eqb}
use Prim.Native.Nat.{max}
use Rattle.std.proofs.Common.{rules, tests}
use Rattle.std.proofs.lemmas.Iterator.{YieldsList-from_slice}
use Rattle.std.proofs.lemmas.Iterator.Consumers.{fold_from_yields_List}
use Rattle.entries.proofs.ZeroLaws.{greatest}
use Rattle.entries.proofs.is_zero.Goals as goal

pub returns : goal.returns
returns c =
    ap (λ m. eqb m 0) (fold_from_yields_List _ max 0 c.fold.result c.fold.ensures.ran (YieldsList-from_slice c.args.bytes.now cc) (λ a x b q k. search (rules, tests)))
    ∙ greatest 0 c.args.bytes.now
