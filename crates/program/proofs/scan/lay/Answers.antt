-- Body by body the scan goes on as the table's numbers do, each start is noted, and the marks are those of the bodies so far.
use mathlib.Core.Path.{◌≡◌, sym, ap, ◌∙◌}
use Prim.Native.Nat.{ℕ, ◌+◌, ◌-◌, ◌≤◌}
use mathlib.Core.List.{List, ◌∷◌}
use native.Mathlib.Omega.{arith}
use lib.ListN.{length, take, drop, length-drop}
use Rattle.std.specs.Prelude.{Result, Ok}
use Rattle.std.proofs.lemmas.Result.{err_from_is_err_and}
use Rattle.program.specs.Reading.{readings, commands_of}
use Rattle.program.specs.Refusal.{answered}
use Rattle.program.specs.Scan.{layout_of}
use Rattle.program.specs.Places.{marks}
use Rattle.program.specs.Inner.Scanned.{opening, extent_of}
use Rattle.program.specs.declared.refusal.Refusal.{Refusal}
use Rattle.program.specs.declared.refusal.Refusal.TheVariants.{Surplus}
use Rattle.program.proofs.RangeLaws.{tail_part}
use Rattle.program.proofs.Refusals.{answered_ok}
use Rattle.program.proofs.LayoutLaws.{Opened, opened, scan_shut, scan_refused, laying_start, laying_refused, laying_on, laying_more, laying_all}
use Rattle.program.proofs.PlaceLaws.{marking_start, marking_next, marking_all}
use Rattle.program.proofs.scan.lay.Goals as goal

-- The marks of all commands.
abbrev all_marks : List ℕ → List ℕ
all_marks t = 0 ∷ marks 0 0 (commands_of t)

-- The limits of a table that was opened.
open_here : (t : List ℕ) {r : Result (Unit {0}) Refusal} → r ≡ answered (opening t) (tt {0}) → r ≡ Ok (tt {0}) → Opened t
open_here t is ok = opened t (answered_ok (opening t) (tt {0}) (sym is ∙ ok)).0

-- What was read of the body at a place.
extent_at : (t : List ℕ) (n body at : ℕ) {r x : Result ℕ Refusal} → r ≡ extent_of n body 0 0 (readings (take (length t - at) (drop at t))) → r ≡ x → x ≡ extent_of n body 0 0 (readings (drop at t))
extent_at t n body at is e = sym e ∙ is ∙ ap (λ (s : List ℕ). extent_of n body 0 0 (readings s)) (tail_part t at)

pub returns-in_err-opening : goal.returns-in_err-opening
returns-in_err-opening c =
    let t = c.args.table.now in
    let p = err_from_is_err_and c.from_residual.result c.from_residual.ensures.1 in
    let f = scan_refused t (scan_shut t (sym c.opening.ensures ∙ c.in_err-opening.was)) in
    record { value = rw (p.1, p.2) f.0; marks_after = λ z. absurd (f.1 z) }

pub bounds-table-0 : goal.bounds-table-0
bounds-table-0 c = let o = (open_here c.args.table.now c.opening.ensures c.in_ok-opening.was).least in omega arith

pub loop-body-init : goal.loop-body-init
loop-body-init c =
    let t = c.args.table.now in
    let o = (answered_ok (opening t) (tt {0}) (sym c.opening.ensures ∙ c.in_ok-opening.was)).0 in
    (rw c.wide-bodies.ensures.0 (laying_start t o), rw c.requires (marking_start t))

pub body_extent-requires : goal.body_extent-requires
body_extent-requires c =
    let t = c.args.table.now in
    let o = open_here t c.opening.ensures c.in_ok-opening.was in
    let f : c.wide-bodies.result ≤ 16 = rw c.wide-bodies.ensures.0 o.few in
    let m = o.most in
    let i = c.loop-body.invariant.0.inside in
    (omega arith, rw (tail_part t c.loop-body.at) (simp length-drop (omega arith)))

pub returns-in_err-size : goal.returns-in_err-size
returns-in_err-size c =
    let t = c.args.table.now in
    let l = c.loop-body in
    let few : c.wide-bodies.result ≤ 16 = rw c.wide-bodies.ensures.0 (open_here t c.opening.ensures c.in_ok-opening.was).few in
    let p = err_from_is_err_and c.from_residual-in_err-size.result c.from_residual-in_err-size.ensures.1 in
    let f = scan_refused t (laying_refused l.invariant.0 c.loop-body-test.true few (extent_at t c.wide-bodies.result l.body l.at c.body_extent.ensures.value c.in_err-size.was)) in
    record { value = rw (p.1, p.2) f.0; marks_after = λ z. absurd (f.1 z) }

pub bounds-starts-body : goal.bounds-starts-body
bounds-starts-body c =
    let few : c.wide-bodies.result ≤ 16 = rw c.wide-bodies.ensures.0 (open_here c.args.table.now c.opening.ensures c.in_ok-opening.was).few in
    omega arith

pub overflow_add-at : goal.overflow_add-at
overflow_add-at c =
    let t = c.args.table.now in
    let l = c.loop-body in
    let few : c.wide-bodies.result ≤ 16 = rw c.wide-bodies.ensures.0 (open_here t c.opening.ensures c.in_ok-opening.was).few in
    let on = laying_on l.invariant.0 c.loop-body-test.true few (extent_at t c.wide-bodies.result l.body l.at c.body_extent.ensures.value c.in_ok-size.was) in
    let f = on.inside in omega arith

pub loop-body-preserved : goal.loop-body-preserved
loop-body-preserved c =
    let t = c.args.table.now in
    let l = c.loop-body in
    let few : c.wide-bodies.result ≤ 16 = rw c.wide-bodies.ensures.0 (open_here t c.opening.ensures c.in_ok-opening.was).few in
    let code = tail_part t l.at in (
      laying_on l.invariant.0 c.loop-body-test.true few (extent_at t c.wide-bodies.result l.body l.at c.body_extent.ensures.value c.in_ok-size.was),
      marking_next t (l.body + 1) l.at c.in_ok-size.size
          (rw code at (c.body_extent.ensures.marks_body (all_marks t) c.in_ok-size.size (sym c.in_ok-size.was) (rw code l.invariant.1))),
    )

pub returns-then-at-table : goal.returns-then-at-table
returns-then-at-table c =
    let t = c.args.table.now in
    let f = scan_refused t {e = Surplus} (laying_more c.loop-body.invariant.0 c.loop-body-test.false c.if-at-table.true) in
    record { value = f.0; marks_after = λ z. absurd (f.1 z) }

pub returns : goal.returns
unfolding layout_of
returns c =
    let t = c.args.table.now in
    let all = laying_all c.loop-body.invariant.0 c.loop-body-test.false c.wide-bodies.ensures.0 c.if-at-table.false in
    record {
      value = rw (all.0, all.1, c.wide-bodies.ensures.0);
      marks_after = λ z. marking_all t c.loop-body.invariant.1 z c.if-at-table.false;
    }
