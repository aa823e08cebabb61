-- The first i parts are written.
use mathlib.Core.Path.{refl, ap, ◌∙◌}
use Rattle.encoding.proofs.PartLaws.{write_none, write_more}
use Rattle.encoding.proofs.part.put_each.Goals as goal

pub loop-i-init : goal.loop-i-init
loop-i-init g c = write_none g.P.Part.encode c.args.parts.now _ _ _ c.requires

pub loop-i-preserved : goal.loop-i-preserved
loop-i-preserved g c =
    let w = rw (c.SIZE.ensures, c.SIZE-in-loop-i.ensures) at c.put.auto.out in
    let v = c.put.ensures ∙ ap g.P.Part.encode c.index-parts-i.is in
    rw (c.SIZE.ensures, c.SIZE-in-loop-i.ensures)
    (write_more g.P.Part.encode c.args.parts.now _ _ c.loop-i.i c.index-parts-i.result _ c.put.new.out c.loop-i.invariant refl c.loop-i-test.true w v)
