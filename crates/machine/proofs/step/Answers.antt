-- The step in bytes of the call's own: what is told gives the answer, and what it can change is read from them.
use native.Mathlib.Omega.{arith}
use mathlib.Core.Path.{ap, ◌∙◌}
use Rattle.program.proofs.Basic.{Bytes}
use Rattle.encoding.proofs.Passed.{state_passes}
use Rattle.fits.proofs.Fitting.{Fitting}
use Rattle.machine.proofs.Kept.{entry, made}
use Rattle.machine.proofs.Typed.{fitting}
use Rattle.machine.proofs.Values.{own_bytes, after_passes, as_told}
use Rattle.machine.proofs.step.Goals as goal

pub activity_in-requires : goal.activity_in-requires
activity_in-requires c =
    let fits : Fitting c.args.s = fitting c.args.s _ c.well_formed.1.0 in
    let table-bytes : Bytes c.args.table.now = (λ i. omega (arith, c.type_inv.table i)) in
    let passes = after_passes c.args.table.now fits c.args.activity c.step-told.result (own_bytes fits c.encode.ensures) c.step-told.ensures.0 c.step-told.ensures.1 table-bytes in
    record { bytes_len = passes.0; bytes_value = passes.1; i_bound = omega (arith, c.min-own.ensures) }

pub activity_in-requires-2 : goal.activity_in-requires-2
activity_in-requires-2 c =
    let fits : Fitting c.args.s = fitting c.args.s _ c.well_formed.1.0 in
    let table-bytes : Bytes c.args.table.now = (λ i. omega (arith, c.type_inv.table i)) in
    let passes = after_passes c.args.table.now fits c.args.activity c.step-told.result (own_bytes fits c.encode.ensures) c.step-told.ensures.0 c.step-told.ensures.1 table-bytes in
    record { bytes_len = passes.0; bytes_value = passes.1; i_bound = omega (arith, c.min-free.ensures) }

pub overflow_cast-steps : goal.overflow_cast-steps
overflow_cast-steps c =
    let fits : Fitting c.args.s = fitting c.args.s _ c.well_formed.1.0 in
    let table-bytes : Bytes c.args.table.now = (λ i. omega (arith, c.type_inv.table i)) in
    let passes = after_passes c.args.table.now fits c.args.activity c.step-told.result (own_bytes fits c.encode.ensures) c.step-told.ensures.0 c.step-told.ensures.1 table-bytes in
    omega (arith, c.number-steps.ensures, (state_passes c.step-told.new.state passes.1).steps)

pub returns : goal.returns
returns c =
    let fits : Fitting c.args.s = fitting c.args.s _ c.well_formed.1.0 in
    let table-bytes : Bytes c.args.table.now = (λ i. omega (arith, c.type_inv.table i)) in
    as_told c.args.table.now fits c.args.activity c.step-told.result (own_bytes fits c.encode.ensures) c.step-told.ensures.0 c.step-told.ensures.1 table-bytes
    (made c.args.s c.step-told.new.state c.args.activity c.min-own.ensures (c.min-free.ensures ∙ ap entry c.wide.ensures.0) c.activity_in.ensures c.activity_in-2.ensures
    c.cells_at.ensures c.accumulators_at.ensures c.number-steps.ensures)
    c.status_at-status.ensures c.answer_of.ensures
