-- What ends within its buffer goes on to.
use Rattle.lines.proofs.Putting.{within}
use Rattle.lines.proofs.fit.FitText.page.Goals as goal

pub invariant_of-self : goal.invariant_of-self
invariant_of-self c = record { fits = within c.page.ensures.put c.args.self.now.fits }
