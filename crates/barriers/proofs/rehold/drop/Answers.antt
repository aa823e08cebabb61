-- The name is freed.
use Rattle.barriers.proofs.rehold.drop.Goals as goal

pub returns : goal.returns
returns c = λ h. record { turns = λ p s l w. (c.rehold.ensures h).drops p s l w c.no_hold.ensures }
