-- What the code looks up by a command's byte: how many there are, and the command that is made of it.
use Rattle.std.specs.Prelude.{ℕ, List, cond, leb, length, Option, Some, None}
use Rattle.program.specs.Command.{rows, command_of}
use Rattle.program.specs.declared.command.Command.{Command}

-- How many commands there are: as many as rows. Their bytes are the numbers below it.
abbrev pub commands : ℕ
commands = 18

-- The command of a byte whose operands stand at the start of a list, or none where no command has this byte.
unfoldable pub made : ℕ → List ℕ → Option Command
made op s = cond (leb (length rows) op) None (Some (command_of op s))
