-- Numbers 1 to 13 of the state's bytes, or their sheet.
use mathlib.Core.Path.{refl, ap, ◌∙◌}
use Rattle.program.specs.Refusal.{refusal_number}
use Rattle.program.proofs.Refusals.{refusal_some}
use Rattle.wellformed.specs.Judged.{refusal_of}
use Rattle.fits.proofs.Fitting.{Fitting}
use Rattle.machine.proofs.Typed.{fitting}
use Rattle.machine.proofs.Values.{own_bytes, sheet_number_lem, sheet_unfit, sheet_fit}
use Rattle.machine.proofs.registrations.Goals as goal

pub returns-in-Ok : goal.returns-in-Ok
returns-in-Ok c =
    let fits : Fitting c.args.s = fitting c.args.s _ c.well_formed.1.0 in
    let own = own_bytes fits c.encode.ensures in
    let checked = rw c.in-Ok.is at c.check_state.ensures.number in
    (sheet_fit c.args.table.now fits own checked refl c.sheet_of.ensures, sheet_number_lem c.args.table.now fits own checked)

pub returns-in-Err : goal.returns-in-Err
returns-in-Err c =
    let fits : Fitting c.args.s = fitting c.args.s _ c.well_formed.1.0 in
    let own = own_bytes fits c.encode.ensures in
    let checked = rw c.in-Err.is at c.check_state.ensures.number in (
      sheet_unfit c.args.table.now fits own checked (refusal_some (refusal_of c.in-Err.unfit)),
      c.number.ensures ∙ ap refusal_number c.refusal.ensures ∙ sheet_number_lem c.args.table.now fits own checked,
    )
