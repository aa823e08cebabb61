-- The scan from the place reached is the whole scan of the body: the loop goes on as the definition does, and the marks with it.
use mathlib.Core.Path.{◌≡◌, sym, ap, ◌∙◌}
use mathlib.Core.List.{List}
use Prim.Native.Nat.{ℕ, ◌+◌, ◌-◌, ◌≤◌, ◌<◌}
use native.Mathlib.Omega.{arith}
use lib.ListN.{length, take, drop, length-drop}
use lib.Seq.{drop-drop}
use Rattle.std.specs.Prelude.{Ok}
use Rattle.std.proofs.lemmas.Result.{err_from_is_err_and}
use Rattle.program.specs.Reading.{Reading, read}
use Rattle.program.specs.Scan.{placing}
use Rattle.program.specs.declared.reading.Whole.{Whole}
use Rattle.program.proofs.Basic.{apart}
use Rattle.program.proofs.Refusals.{answered_at, answered_ok}
use Rattle.program.proofs.RangeLaws.{tail_part}
use Rattle.program.proofs.ShapeReading.{known}
use Rattle.program.proofs.ScanLaws.{extent_refused, extent_end, extent_on, extent_stop}
use Rattle.program.proofs.PlaceLaws.{marking_on, marking_end, marking_open}
use Rattle.program.proofs.scan.body_extent.Goals as goal

-- What was read at a place of the code.
read_at : (code : List ℕ) (at : ℕ) {r x : Reading} → r ≡ read (take (length code - at) (drop at code)) → r ≡ x → x ≡ read (drop at code)
read_at code at e is = sym is ∙ e ∙ ap read (tail_part code at)

-- A whole command there lies inside the code.
inside : (code : List ℕ) (at : ℕ) {w : Whole} → Ok w ≡ read (drop at code) → at ≤ length code → (0 < w.size) × (at + w.size ≤ length code)
inside code at h i =
    let k = known (drop at code) (sym h) in
    let l = simp length-drop at k.inside in
    (k.some, omega arith)

pub returns-in_default : goal.returns-in_default
returns-in_default c =
    let a = c.args in
    let l = c.loop-command in
    let h = read_at a.code.now l.at c.read-found.ensures c.unwrap_err.ensures in
    record { value = sym (extent_stop a.bodies a.body l.left l.at (drop l.at a.code.now) c.unwrap_err.result h) ∙ l.invariant.1; marks_body = λ all e q. apart (cc) }

pub returns-in_err-placing : goal.returns-in_err-placing
returns-in_err-placing c =
    let a = c.args in
    let l = c.loop-command in
    let w = c.in-Ok.field-0 in
    let p = err_from_is_err_and c.from_residual.result c.from_residual.ensures.1 in
    let h = read_at a.code.now l.at c.read-found.ensures c.in-Ok.is in
    let f = answered_at (placing a.bodies a.body l.left w.command) (tt {0}) (sym c.placing.ensures ∙ c.in_err-placing.was) in
    record {
      value = rw (p.1, p.2) (sym (extent_refused a.bodies a.body l.left l.at (drop l.at a.code.now) w h f.0 f.1) ∙ l.invariant.1);
      marks_body = λ all e q. apart (cc (q, p.1));
    }

pub bounds-marks-first : goal.bounds-marks-first
bounds-marks-first c =
    let h = inside c.args.code.now c.loop-command.at (read_at c.args.code.now c.loop-command.at c.read-found.ensures c.in-Ok.is) c.loop-command.invariant.0 in
    omega arith

pub overflow_add-at : goal.overflow_add-at
overflow_add-at c =
    let h = inside c.args.code.now c.loop-command.at (read_at c.args.code.now c.loop-command.at c.read-found.ensures c.in-Ok.is) c.loop-command.invariant.0 in
    omega arith

pub loop-command-smaller : goal.loop-command-smaller
loop-command-smaller c =
    let h = inside c.args.code.now c.loop-command.at (read_at c.args.code.now c.loop-command.at c.read-found.ensures c.in-Ok.is) c.loop-command.invariant.0 in
    omega arith

pub returns-then-is_end : goal.returns-then-is_end
returns-then-is_end c =
    let a = c.args in
    let l = c.loop-command in
    let w = c.in-Ok.field-0 in
    let h = read_at a.code.now l.at c.read-found.ensures c.in-Ok.is in
    let i = inside a.code.now l.at h l.invariant.0 in
    let placed = (answered_ok (placing a.bodies a.body l.left w.command) (tt {0}) (sym c.placing.ensures ∙ c.in_ok-placing.was)).0 in
    let stop = sym c.is_end.ensures ∙ c.if-is_end.true in
    record {
      value = sym (extent_end a.bodies a.body l.left l.at (drop l.at a.code.now) w h placed stop) ∙ l.invariant.1;
      marks_body = λ all e q m.
          let same : e ≡ l.at + w.size = cc in
          rw (same, c.mark.ensures) (marking_end a.bodies a.body l.left w.command (marking_on (l.invariant.2 all m) h (omega arith)) placed stop);
    }

pub loop-command-preserved : goal.loop-command-preserved
loop-command-preserved c =
    let a = c.args in
    let l = c.loop-command in
    let w = c.in-Ok.field-0 in
    let h = read_at a.code.now l.at c.read-found.ensures c.in-Ok.is in
    let i = inside a.code.now l.at h l.invariant.0 in
    let placed = (answered_ok (placing a.bodies a.body l.left w.command) (tt {0}) (sym c.placing.ensures ∙ c.in_ok-placing.was)).0 in
    let go = sym c.is_end.ensures ∙ c.if-is_end.false in (
      i.1,
      rw (c.left_after-left.ensures, ← drop-drop) (sym (extent_on a.bodies a.body l.left l.at (drop l.at a.code.now) w h placed go) ∙ l.invariant.1),
      λ all m. rw (c.left_after-left.ensures, c.mark.ensures) (marking_open a.bodies a.body l.left w.command (marking_on (l.invariant.2 all m) h (omega arith)) go),
    )
