-- A free name is all 0; another's bytes encode one, and then as in the definition.
use mathlib.Core.Bool.{true}
use mathlib.Core.Path.{◌≡◌, sym, ap, ◌∙◌}
use borrow.Author.Tests.{le-leb}
use Rattle.rules.specs.declared.state.Hold.{Hold}
use Rattle.rules.specs.State.{hold}
use Rattle.rules.specs.Clocks.{is_held}
use Rattle.encoding.specs.Decode.{activity_at, hold_encodes}
use Rattle.entries.specs.Entries.{hold_bytes}
use Rattle.wellformed.proofs.Loops.{so, not_so, holds_so, fails_so}
use Rattle.wellformed.proofs.WithinLaws.{name_free, name_not_free, name_held}
use Rattle.wellformed.proofs.names.hold_passes.Goals as goal

pub returns-then-hold_zero : goal.returns-then-hold_zero
returns-then-hold_zero c = name_free c.args.made c.args.a.now.bytes.now c.args.k c.requires c.args.a.now.sized (so (c.hold_zero.ensures c.requires) c.if-hold_zero.true)

pub returns-then-not-is_held : goal.returns-then-not-is_held
returns-then-not-is_held c =
    let whole : hold_encodes (hold_bytes c.args.a.now.bytes.now c.args.k) ≡ true = holds_so (c.hold_whole.ensures c.requires) c.if-not-hold_whole.false-raw in
    let is : c.hold-h.result ≡ hold (activity_at c.args.a.now.bytes.now) c.args.k = c.hold-h.ensures c.requires whole in
    name_not_free c.args.made c.args.a.now.bytes.now c.args.k c.requires c.args.a.now.sized (not_so (c.hold_zero.ensures c.requires) c.if-hold_zero.false) whole
    (sym (ap (λ (h : Hold). is_held h.registration) is) ∙ fails_so c.is_held.ensures c.if-not-is_held.true-raw)

pub returns-then-h-le-PHASES : goal.returns-then-h-le-PHASES
returns-then-h-le-PHASES c =
    let whole : hold_encodes (hold_bytes c.args.a.now.bytes.now c.args.k) ≡ true = holds_so (c.hold_whole.ensures c.requires) c.if-not-hold_whole.false-raw in
    let is : c.hold-h.result ≡ hold (activity_at c.args.a.now.bytes.now) c.args.k = c.hold-h.ensures c.requires whole in
    rw (← name_held c.args.made c.args.a.now.bytes.now c.args.k whole (sym (ap (λ (h : Hold). is_held h.registration) is) ∙ holds_so c.is_held.ensures c.if-not-is_held.false-raw), ← is, le-leb _ _ c.if-h-le-PHASES.true)
