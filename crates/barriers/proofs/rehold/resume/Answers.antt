-- What is read is quiesced.
use mathlib.Core.Path.{ap, ◌∙◌}
use Rattle.rules.specs.Clocks.{quiesce}
use Rattle.moves.proofs.Standings.{few}
use Rattle.barriers.proofs.rehold.resume.Goals as goal

pub returns : goal.returns
returns c =
    λ h.
    record { turns = λ p s l w. (c.rehold.ensures h).resumes p s l w (c.quiesce.ensures ∙ ap quiesce ((c.hold_at-h.ensures h).reads s l (few w))) }
