-- Each frame in use is tested in turn, the bytes behind them at once.
use Rattle.program.specs.Bodies.{program_of}
use Rattle.encoding.specs.Bytes.{byte_at}
use Rattle.wellformed.proofs.Loops.{Passed}
use Rattle.wellformed.proofs.WithinLaws.{frame_test}
use Rattle.wellformed.proofs.frames.stack_passes.Given as goal

abbrev pub invariant-loop-d : goal.invariant-loop-d
invariant-loop-d l = Passed (byte_at l.a.bytes.now 7) (frame_test (program_of l.marked.table.bytes.now) l.made l.a.bytes.now) l.d
