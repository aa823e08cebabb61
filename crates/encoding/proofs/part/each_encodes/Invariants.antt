-- The parts from i on decide.
use Rattle.encoding.proofs.PartLaws.{Passing}
use Rattle.encoding.proofs.part.each_encodes.Given as goal

abbrev pub invariant-loop-i : goal.invariant-loop-i
invariant-loop-i g l = let p = g.P.Part in Passing p.passes l.bytes p.SIZE l.count l.i
