-- What ends within its buffer goes on to.
use Rattle.lines.proofs.Putting.{within}
use Rattle.lines.proofs.fit.FitText.refused.Goals as goal

pub invariant_of-self : goal.invariant_of-self
invariant_of-self c = record { fits = within c.refused.ensures c.args.self.now.fits }
