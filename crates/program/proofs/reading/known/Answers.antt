-- Each answer is the definition's at the test that led to it.
use mathlib.Core.Path.{sym, ap, ◌∙◌}
use Prim.Native.Nat.{◌+◌}
use Rattle.std.specs.Prelude.{Option}
use Rattle.std.specs.Option.{unwrap_or}
use Rattle.program.specs.declared.command.Command.{Command}
use Rattle.program.specs.declared.command.Command.TheVariants.{End}
use Rattle.program.proofs.RangeLaws.{made_at, bare_none, bare_made}
use Rattle.program.proofs.reading.known.Goals as goal

pub returns-then-code-offset : goal.returns-then-code-offset
returns-then-code-offset c = bare_none c.args.code.now c.args.offset c.if-code-offset.true

pub returns-in-Some : goal.returns-in-Some
returns-in-Some c =
    let s = c.args.code.now in
    let at = c.args.offset in
    ap (λ (m : Option Command). unwrap_or m End) (sym c.in-Some.is ∙ made_at s _ (at + 1) c.command_of.ensures) ∙ sym (bare_made s at c.if-code-offset.false)

pub returns-in-None : goal.returns-in-None
returns-in-None c =
    let s = c.args.code.now in
    let at = c.args.offset in
    ap (λ (m : Option Command). unwrap_or m End) (sym c.in-None.is ∙ made_at s _ (at + 1) c.command_of.ensures) ∙ sym (bare_made s at c.if-code-offset.false)
