-- The greatest name decides.
use Prim.Native.Nat.{max}
use mathlib.Core.Path.{ap, ◌∙◌}
use lib.Dec.{leb}
use Rattle.std.proofs.Common.{rules}
use Rattle.std.proofs.lemmas.Iterator.{YieldsList-from_slice}
use Rattle.std.proofs.lemmas.Iterator.Consumers.{fold_from_yields_List}
use Rattle.encoding.specs.Bytes.{part}
use Rattle.wellformed.proofs.WithinLaws.{names_fit_most}
use Rattle.wellformed.proofs.within.bindings_fit.Goals as goal

pub returns : goal.returns
returns c =
    ap (λ m. leb m c.args.made) (fold_from_yields_List _ max 0 _ c.fold.ensures.ran (YieldsList-from_slice (part c.args.a.now.bytes.now 8 8) (cc)) (λ a x b q k. search rules))
    ∙ names_fit_most c.args.made c.args.a.now.bytes.now c.args.a.now.sized
