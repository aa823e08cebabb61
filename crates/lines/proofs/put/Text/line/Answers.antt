-- The parts, one after the other.
use Rattle.lines.specs.Text.{line_of}
use Rattle.lines.proofs.Putting.{both}
use Rattle.lines.proofs.put.Text.line.Goals as goal

pub returns : goal.returns
unfolding line_of
returns c =
    let fields = both (both c.field.ensures c.field-2.ensures) c.field-3.ensures in
    both (both (both fields c.number.ensures) c.awaited.ensures) c.byte.ensures
