-- Each answer is the definition's at the tests that led to it.
use mathlib.Core.Path.{sym, ap, ◌∙◌}
use native.Mathlib.Omega.{arith}
use Rattle.program.specs.Reading.{whole}
use Rattle.program.proofs.RangeLaws.{made_at, read_empty, read_unknown, read_cut, read_outside, read_whole}
use Rattle.program.proofs.reading.read.Goals as goal

pub returns-in_default : goal.returns-in_default
returns-in_default c = read_empty c.args.code.now c.in_default.len_below

pub returns-in_default-command_of : goal.returns-in_default-command_of
returns-in_default-command_of c =
    let s = c.args.code.now in
    read_unknown s c.in-len1-up.len_at_least (sym (made_at s _ 1 c.command_of.ensures) ∙ c.in_default-command_of.is)

pub returns-then-code-size : goal.returns-then-code-size
returns-then-code-size c =
    let s = c.args.code.now in
    read_cut s c.in-len1-up.len_at_least (omega arith)

pub returns-then-not-operands_fit : goal.returns-then-not-operands_fit
returns-then-not-operands_fit c =
    let s = c.args.code.now in
    read_outside s c.in-len1-up.len_at_least (sym (made_at s _ 1 c.command_of.ensures) ∙ c.in-Some.is) (omega arith)
    (sym c.operands_fit.ensures ∙ c.if-not-operands_fit.true)

pub returns : goal.returns
returns c =
    let s = c.args.code.now in
    ap (whole c.in-Some.command) c.width_at-size.ensures
    ∙ read_whole s c.in-len1-up.len_at_least (sym (made_at s _ 1 c.command_of.ensures) ∙ c.in-Some.is) (omega arith)
    (sym c.operands_fit.ensures ∙ c.if-not-operands_fit.false)
