-- The first i parts are written.
use lib.ListN.{length}
use Rattle.encoding.proofs.PartLaws.{Each}
use Rattle.encoding.proofs.part.put_each.Given as goal

abbrev pub invariant-loop-i : goal.invariant-loop-i
invariant-loop-i g l = let p = g.P.Part in Each p.encode l.parts p.SIZE (length l.parts) l.i l.out
