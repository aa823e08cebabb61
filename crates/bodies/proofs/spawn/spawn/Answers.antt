-- The child, or the fault.
use mathlib.Core.Path.{ap, ◌∙◌}
use Rattle.rules.specs.State.{fault_in}
use Rattle.bodies.proofs.Spawns.{met}
use Rattle.bodies.proofs.spawn.spawn.Goals as goal

pub returns-in-None : goal.returns-in-None
returns-in-None c = record { turns = λ s l w. c.fork.ensures.does _ s l w (met c.args.table.now.known l w c.async_fault.ensures ∙ ap fault_in c.in-None.is) }

pub returns-in-Some : goal.returns-in-Some
returns-in-Some c = record { turns = λ s l w. c.fail.ensures.fails _ s _ l w (met c.args.table.now.known l w c.async_fault.ensures ∙ ap fault_in c.in-Some.is) }
