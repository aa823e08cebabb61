-- The invariant: those below x are passed, those of them who are inside and unended counted, and a faulted one found.
use native.Mathlib.Omega.{arith}
use mathlib.Core.Path.{refl}
use Rattle.waits.proofs.Insides.{too_many, nobody_above, nobody_inside, inside_yet, inside_out, inside_unended, inside_ended, inside_faulted}
use Rattle.waits.proofs.inside.inside_of.Goals.{then-made-gt64-via-then-made-gt64, then-made-gt64-via-else-made-gt64+then-made-w, then-within+then-standing-lt2, then-within+else-standing-lt2+then-standing-eq3, then-within+else-standing-lt2+else-standing-eq3, else-within}
use Rattle.waits.proofs.inside.inside_of.Goals as goal

pub returns-then-made-gt64 : goal.returns-then-made-gt64
returns-then-made-gt64 c = elim c.then-made-gt64.branch [
  | then-made-gt64-via-then-made-gt64 w ↦ too_many c.activities_of-made.ensures w.if-made-gt64.true
  | then-made-gt64-via-else-made-gt64+then-made-w w ↦ nobody_above c.activities_of-made.ensures c.default.ensures w.if-made-w.true
]

pub returns-then-made-start : goal.returns-then-made-start
returns-then-made-start c = nobody_inside c.activities_of-made.ensures c.max-start.ensures c.default-then-made-start.ensures c.if-made-start.true

pub loop-x-init : goal.loop-x-init
loop-x-init c = (omega arith, omega arith, inside_yet c.activities_of-made.ensures c.max-start.ensures c.if-made-start.false)

pub loop-x-preserved : goal.loop-x-preserved
loop-x-preserved c =
    let made = c.activities_of-made.ensures in
    let l = c.loop-x in
    let above = l.invariant.0 in
    let from = l.invariant.1 in
    let passed = l.invariant.2 in
    let below = c.loop-x-test.true in
    let spawner = c.spawner_at-spawner in (
      omega arith,
      omega arith,
      elim c.if-within.branch [
        | then-within+then-standing-lt2 w ↦
            rw (w.unended-is, w.faulted-is)
            (inside_unended made passed above from below spawner.ensures refl w.if-within.true w.standing_at-standing.ensures w.if-standing-lt2.true)
        | then-within+else-standing-lt2+then-standing-eq3 w ↦
            rw (w.unended-is, w.faulted-is)
            (inside_faulted made passed above from below spawner.ensures refl w.if-within.true w.standing_at-standing.ensures w.if-standing-lt2.false w.if-standing-eq3.true)
        | then-within+else-standing-lt2+else-standing-eq3 w ↦
            rw (w.unended-is, w.faulted-is)
            (inside_ended made passed above from below spawner.ensures refl w.if-within.true w.standing_at-standing.ensures w.if-standing-lt2.false w.if-standing-eq3.false)
        | else-within w ↦ rw (w.unended-is, w.faulted-is) (inside_out made passed above from below spawner.ensures refl w.if-within.false)
      ],
    )
