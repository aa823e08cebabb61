-- The marks stay where the scan passes, and are cleared where it does not.
use mathlib.Core.Path.{ap, ◌∙◌}
use Rattle.std.specs.Result.{is_err}
use Rattle.program.specs.Scan.{scan, layout_of}
use Rattle.program.proofs.Basic.{apart}
use Rattle.program.proofs.Refusals.{answered_none}
use Rattle.program.proofs.PlaceLaws.{places_none}
use Rattle.program.proofs.scan.scan.Goals as goal

pub returns-then-is_err-clause-marks_after : goal.returns-then-is_err-clause-marks_after
returns-then-is_err-clause-marks_after c =
    let t = c.args.table.now in
    places_none t (λ z.
    let passed = c.lay-found.ensures.value ∙ answered_none (scan t) (layout_of t) z in
    let told = ap is_err passed in
    apart (cc (told, c.is_err.ensures.value, c.if-is_err.true)))
