-- There is room: zeros.
use mathlib.Core.Path.{◌∙◌}
use borrow.Author.Tests.{eq-eqb}
use Rattle.calls.specs.Calls.{fits_sheet}
use Rattle.calls.proofs.sheet.put_none.Goals as goal

pub returns-then-out-eq1024 : goal.returns-then-out-eq1024
unfolding fits_sheet
returns-then-out-eq1024 c = c.fill.ensures.after (λ y e. e) ∙ rw (eq-eqb _ 1024 c.if-out-eq1024.true, c.if-out-eq1024.true)
