-- A search over the eight.
use Rattle.std.proofs.Common.{◌≡◌, ◌<◌, true, false, refl, rules}
use Rattle.std.proofs.lemmas.Iterator.{cases_from_any, YieldsList-from_range}
use Rattle.rules.specs.State.{act}
use Rattle.rules.specs.Clocks.{holds, holds_some}
use Rattle.moves.proofs.Searching.{some_any}
use Rattle.moves.proofs.faults.holds_some.Goals as goal

pub returns : goal.returns
unfolding holds_some
returns c =
    record {
      reads =
          λ s l j.
          some_any 8 (holds (act s c.args.i)) _
          (cases_from_any _ _ _ (λ x. x < 8 → true ≡ holds (act s c.args.i) x) (λ x. x < 8 → false ≡ holds (act s c.args.i) x) c.any.ensures.ran (YieldsList-from_range 0 8 8 refl refl)
          (λ x q k h. search rules) (λ x q k. search rules));
    }
