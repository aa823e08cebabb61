-- What is put so far is the text's first bytes.
use Rattle.std.proofs.Common.{take}
use Rattle.lines.specs.Put.{Put}
use Rattle.lines.proofs.put.Text.bytes.Given as goal

abbrev pub invariant-loop-x : goal.invariant-loop-x
invariant-loop-x l = Put l.initial.self (take l.x-index l.text) l.self
