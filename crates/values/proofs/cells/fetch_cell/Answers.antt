-- The cell, then the register.
use Rattle.values.proofs.Touching.{fetches}
use Rattle.values.proofs.cells.fetch_cell.Goals as goal

pub returns : goal.returns
returns c =
    λ h.
    fetches h c.cell_at-v.ensures c.put_register.ensures
