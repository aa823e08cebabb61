-- Four bytes.
use mathlib.Core.Path.{refl}
use Rattle.fields.proofs.Head.{cell_there}
use Rattle.fields.proofs.cells.cell_at.Goals as goal

pub returns : goal.returns
returns c = λ h. record { reads = λ s l. cell_there l h (record { gets = c.get.ensures }) refl }
