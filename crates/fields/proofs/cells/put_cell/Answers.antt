-- Four bytes.
use native.Mathlib.Omega.{arith}
use mathlib.Core.Path.{refl}
use Rattle.fields.proofs.Head.{cell_write}
use Rattle.fields.proofs.cells.put_cell.Goals as goal

pub returns : goal.returns
returns c = λ h. record { writes = λ s l. cell_write l h c.put.ensures refl (omega arith) }
