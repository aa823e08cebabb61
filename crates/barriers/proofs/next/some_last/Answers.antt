-- A search over the eight.
use Rattle.std.proofs.Common.{◌≡◌, ℕ, ◌<◌, true, false, refl, rules}
use Rattle.std.proofs.lemmas.Iterator.{cases_from_any, YieldsList-from_range}
use Rattle.rules.specs.State.{act, hold}
use Rattle.moves.specs.Exceeding.{is_last, some_last}
use Rattle.moves.proofs.Searching.{some_any}
use Rattle.barriers.proofs.next.some_last.Goals as goal

pub returns : goal.returns
unfolding some_last
returns c =
    record {
      reads =
          λ s l j.
          let test = λ (n : ℕ). is_last (hold (act s c.args.i) n) in
          some_any 8 test _ (cases_from_any _ _ _ (λ x. x < 8 → true ≡ test x) (λ x. x < 8 → false ≡ test x) c.any.ensures.ran (YieldsList-from_range 0 8 8 refl refl) (λ x q k h. search rules) (λ x q k. search rules));
    }
