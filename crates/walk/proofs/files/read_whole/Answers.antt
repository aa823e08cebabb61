-- What came goes behind what had come.
use Rattle.std.proofs.Common.{rules, ◌-◌, ◌≤◌, length, subst, sym}
use Rattle.std.specs.Io.KnownBytes.{Consumes}
use Rattle.std.proofs.KnownBytes.{Consumes-trans}
use Rattle.walk.proofs.Parts.{took}
use Rattle.walk.proofs.files.read_whole.Goals as goal

pub loop-done-preserved : goal.loop-done-preserved
loop-done-preserved g c =
    let came = c.in-Ok.came in
    let part = c.read.new.buf in
    let fits : came ≤ length part = c.in-Ok.ensures.bound.0 in
    let joined = took c.loop-done.done (length c.loop-done.buf - c.loop-done.done) came c.loop-done.buf part c.loop-done.invariant.0 fits in (
      search rules,
      subst (Consumes (g.R.Read.remaining c.args.file.now) (g.R.Read.remaining c.read.new.self)) (sym joined)
          (Consumes-trans _ _ _ _ _ c.loop-done.invariant.1 c.in-Ok.ensures.bytes.0),
    )
