-- What was read of an accepted table is what the type keeps.
use mathlib.Core.Path.{refl, sym}
use Rattle.wellformed.proofs.Numbers.{read_ok}
use Rattle.calls.proofs.accepted.Goals as goal

pub invariant_of-result : goal.invariant_of-result
invariant_of-result c = let r = read_ok c.args.table.now (sym c.requires) refl in record { known = r.known; counted = r.work; small = r.small }
