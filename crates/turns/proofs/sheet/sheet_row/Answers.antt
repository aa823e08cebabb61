-- Each turn enters one hold: the row is that of the names from n on.
use native.Mathlib.Omega.{arith}
use Rattle.std.proofs.Common.{rules}
use mathlib.Core.Path.{sym, ◌∙◌}
use Rattle.turns.proofs.Sheets.{entered_none, entered_store, entered_high, entered_free, entered_all}
use Rattle.turns.proofs.sheet.sheet_row.Goals as goal
use Rattle.turns.proofs.sheet.sheet_row.Goals.{else-is_held-via-then-is_held+else-clock-lt16, else-is_held-via-else-is_held}

pub loop-n-init : goal.loop-n-init
loop-n-init c = entered_none

pub loop-n-preserved-then-clock-lt16 : goal.loop-n-preserved-then-clock-lt16
loop-n-preserved-then-clock-lt16 c = entered_store c.loop-n.invariant (omega arith) c.hold_at-hold.ensures (sym c.is_held.ensures ∙ c.if-is_held.true) c.if-clock-lt16.true (search rules)

pub loop-n-preserved : goal.loop-n-preserved
loop-n-preserved c =
    elim c.else-is_held.branch [
      | else-is_held-via-then-is_held+else-clock-lt16 w ↦ entered_high c.loop-n.invariant (omega arith) c.hold_at-hold.ensures (sym c.is_held.ensures ∙ w.if-is_held.true) w.if-clock-lt16.false
      | else-is_held-via-else-is_held w ↦ entered_free c.loop-n.invariant (omega arith) c.hold_at-hold.ensures (sym c.is_held.ensures ∙ w.if-is_held.false)
    ]

pub returns : goal.returns
returns c = entered_all c.loop-n.invariant (omega arith)
