-- The register, then the cell.
use Rattle.values.proofs.Touching.{stores}
use Rattle.values.proofs.cells.store_cell.Goals as goal

pub returns : goal.returns
returns c =
    λ h.
    stores h c.register_at-register.ensures c.put_cell.ensures
