-- The lines before the next are written, and it is never past the order.
use Rattle.std.proofs.Common.{◌≤◌, ◌-◌, length}
use Rattle.std.specs.Io.KnownBytes.{Appends}
use Rattle.lines.specs.Paged.{lines_between}
use Rattle.walk.proofs.print.print_lines.Given as goal

abbrev pub invariant-loop-line : goal.invariant-loop-line
invariant-loop-line g l =
    (l.line ≤ length l.steps.order.now)
    × Appends (g.W.Write.contents l.initial.to) (g.W.Write.contents l.to) (lines_between l.steps.order.now l.steps.answers.now l.steps.awaited.now 0 l.line)

abbrev pub decreases-loop-line : goal.decreases-loop-line
decreases-loop-line g l = length l.steps.order.now - l.line
