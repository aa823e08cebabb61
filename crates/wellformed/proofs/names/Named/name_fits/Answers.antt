-- A name that is free is apart from every other; where it is not, each name before it is tested in turn.
use mathlib.Core.Path.{sym, ap, ◌∙◌}
use Rattle.std.proofs.Common.{rules}
use Rattle.rules.specs.declared.state.Hold.{Hold}
use Rattle.rules.specs.State.{hold}
use Rattle.rules.specs.Clocks.{is_held}
use Rattle.encoding.specs.Decode.{activity_at}
use Rattle.wellformed.specs.Entries.{are_apart}
use Rattle.wellformed.proofs.Loops.{all_pass, fails_so}
use Rattle.wellformed.proofs.Laws.{apart_free}
use Rattle.wellformed.proofs.Ranges.{all_tested}
use Rattle.wellformed.proofs.names.Named.name_fits.Goals as goal

pub returns-then-not-is_held : goal.returns-then-not-is_held
returns-then-not-is_held c =
    let free = sym (ap (λ (h : Hold). is_held h.registration) c.hold-own.ensures) ∙ fails_so c.is_held.ensures c.if-not-is_held.true-raw in
    c.if-not-is_held.true-raw ∙ all_pass c.args.k _ (λ j. apart_free _ _ free)

pub returns-else-not-is_held : goal.returns-else-not-is_held
returns-else-not-is_held c =
    all_tested c.args.k (λ j. are_apart (hold (activity_at c.args.self.now.entry.bytes.now) j) (hold (activity_at c.args.self.now.entry.bytes.now) c.args.k)) _ _ _ (cc) c.all.ensures.ran (λ x b q k. search rules)
