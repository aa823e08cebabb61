-- The ready set of the state's bytes.
use Rattle.fits.proofs.Fitting.{Fitting}
use Rattle.machine.proofs.Typed.{fitting}
use Rattle.machine.proofs.Values.{own_bytes, ready_is}
use Rattle.machine.proofs.ready.Goals as goal

pub returns : goal.returns
returns c =
    let fits : Fitting c.args.s = fitting c.args.s _ c.well_formed.1.0 in
    ready_is c.args.table.now fits (own_bytes fits c.encode.ensures) c.ready.ensures.0 c.ready.ensures.1
