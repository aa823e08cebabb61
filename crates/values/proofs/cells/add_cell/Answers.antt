-- Both, then the sum.
use Rattle.std.proofs.Common.{refl}
use Rattle.values.proofs.Touching.{adds}
use Rattle.values.proofs.cells.add_cell.Goals as goal

pub returns : goal.returns
returns c =
    λ h.
    adds h c.cell_at-v.ensures c.register_at-register.ensures refl c.put_cell.ensures
