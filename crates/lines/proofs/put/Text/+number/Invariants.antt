-- The number falls with each digit that is left to the call.
use Rattle.lines.proofs.put.Text.+number.Given as goal

abbrev pub decreases-number : goal.decreases-number
decreases-number l = l.n
