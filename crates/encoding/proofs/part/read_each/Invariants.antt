-- The first i parts are read.
use lib.ListN.{length}
use Rattle.encoding.proofs.PartLaws.{Reads}
use Rattle.encoding.proofs.part.read_each.Given as goal

abbrev pub invariant-loop-i : goal.invariant-loop-i
invariant-loop-i g l = let p = g.P.Part in Reads p.decode l.bytes p.SIZE (length l.initial.parts) l.i l.parts
