-- A page more, and at the order's end all lines.
use Rattle.std.proofs.Common.{◌≡◌, length, subst, sym, ap, ◌∙◌, arith}
use Rattle.std.specs.Io.KnownBytes.{Appends}
use Rattle.std.proofs.KnownBytes.{Appends-nil}
use Rattle.lines.specs.Paged.{lines_between}
use Rattle.lines.proofs.Paging.{between_none}
use Rattle.lines.proofs.Pages.{between_all}
use Rattle.walk.proofs.Written.{more_written}
use Rattle.walk.proofs.print.print_lines.Goals as goal

pub loop-line-init : goal.loop-line-init
loop-line-init g c =
    let to = g.W.Write.contents c.args.to.now in
    let steps = c.args.steps in
    (omega arith, subst (Appends to to) (sym (between_none steps.order.now steps.answers.now steps.awaited.now 0)) (Appends-nil to))

pub loop-line-preserved : goal.loop-line-preserved
loop-line-preserved g c =
    let steps = c.args.steps in
    let page = c.page-next.ensures in (
      page.within c.loop-line.invariant.0,
      more_written steps.order.now steps.answers.now steps.awaited.now c.requires.order_in_bounds c.requires.order_in_bounds_2
          (g.W.Write.contents c.args.to.now) (g.W.Write.contents c.loop-line.to) (g.W.Write.contents c.send.new.to) c.loop-line.invariant.0
          c.loop-line.invariant.1 c.new-page.ensures.empty page (rw c.text.ensures at c.in_ok-send.ensures.written),
    )

pub returns-clause-printed : goal.returns-clause-printed
returns-clause-printed g c =
    let steps = c.args.steps in
    let last : c.loop-line.line ≡ length steps.order.now = omega (arith, c.loop-line.invariant.0) in
    subst (Appends (g.W.Write.contents c.args.to.now) (g.W.Write.contents c.loop-line.to))
    (ap (lines_between steps.order.now steps.answers.now steps.awaited.now 0) last ∙ between_all steps.order.now steps.answers.now steps.awaited.now)
    c.loop-line.invariant.1
