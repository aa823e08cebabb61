-- That the text fits is what is asked. The check finds this alone; it stands here so that the edit any_text_fits is refused for it.
use Rattle.std.proofs.Common.{arith}
use Rattle.lines.proofs.fit.FitText.of.Goals as goal

pub invariant_of-result : goal.invariant_of-result
invariant_of-result c = record { fits = omega (arith, c.requires) }
