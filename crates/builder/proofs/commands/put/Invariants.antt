-- The commands so far are passed, and their entries are written.
use mathlib.Core.List.{map}
use mathlib.Core.Path.{◌≡◌}
use Rattle.program.specs.Reading.{commands_of}
use Rattle.builder.specs.Build.{entry_of}
use Rattle.builder.proofs.Walking.{Walking}
use Rattle.builder.proofs.Copied.{copied}
use Rattle.builder.proofs.commands.put.Given as goal

abbrev pub invariant-loop-entry : goal.invariant-loop-entry
invariant-loop-entry l = Walking l.table l.at l.entry-index × (l.entries ≡ copied (map entry_of (commands_of l.table)) l.initial.entries l.entry-index)
