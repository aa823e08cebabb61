-- The check decides, then the room.
use native.Mathlib.Omega.{arith}
use Rattle.calls.proofs.Checking.{turned_down, passed}
use Rattle.calls.proofs.Telling.{sheet_refused, sheet_length, sheet_told}
use Rattle.calls.proofs.registrations.Goals as goal

pub returns-in-Err : goal.returns-in-Err
returns-in-Err c =
    let t = c.args.table.now in
    let b = c.args.state.now in
    let k = turned_down t b c.check_state.ensures.value c.in-Err.is in
    rw c.refusal.ensures (sheet_refused t b k.0 k.1 c.args.sheet.now c.put_none.ensures)

pub returns-then-sheet-ne1024 : goal.returns-then-sheet-ne1024
returns-then-sheet-ne1024 c =
    let t = c.args.table.now in
    let b = c.args.state.now in
    sheet_length t b (passed t b c.check_state.ensures.value c.in_default.is).0 c.args.sheet.now c.if-sheet-ne1024.true

pub returns : goal.returns
returns c =
    let t = c.args.table.now in
    let b = c.args.state.now in
    sheet_told t b (passed t b c.check_state.ensures.value c.in_default.is).0 (λ i. omega (arith, c.type_inv.state i)) c.args.sheet.now c.if-sheet-ne1024.false c.put_rows.ensures
