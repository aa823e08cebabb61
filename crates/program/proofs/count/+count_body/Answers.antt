-- Each body is counted after those that it names; the distance to the last body falls.
use mathlib.Core.Path.{refl, sym, ap, ◌∙◌}
use Prim.Native.Nat.{ℕ, ◌+◌, ◌*◌}
use native.Mathlib.Omega.{arith}
use lib.ListN.{get_or}
use Rattle.program.specs.Command.{width_at, held}
use Rattle.program.specs.Inner.Counting.{Filled}
use Rattle.program.proofs.RangeLaws.{tail_part}
use Rattle.program.proofs.WalkLaws.{Summed, summed, run_named, run_none, asked_few, asked_inside, asked_named, walked_start, walked_small, walked_stride, walked_name, walked_done, walked_on, noted_at, noted_set}
use Rattle.program.proofs.count.+count_body.Goals as goal
use Rattle.program.proofs.count.+count_body.Goals.{then-runs-gt0, in-Some, in-None, else-runs-gt0}

pub loop-b-init : goal.loop-b-init
loop-b-init t c = walked_start c.requires

pub slice_bounds-count_body-count : goal.slice_bounds-count_body-count
slice_bounds-count_body-count t c =
    let n = walked_name c.requires c.loop-b.invariant c.known-command.ensures (rw c.times-runs.ensures.0 at c.if-runs-gt0.true) in
    asked_inside c.requires c.named-b.result (rw c.named-b.ensures.0 n.1)

pub slice_bounds-count_body-start : goal.slice_bounds-count_body-start
slice_bounds-count_body-start t c =
    let n = walked_name c.requires c.loop-b.invariant c.known-command.ensures (rw c.times-runs.ensures.0 at c.if-runs-gt0.true) in
    asked_inside c.requires c.named-b.result (rw c.named-b.ensures.0 n.1)

pub count_body-inner-requires : goal.count_body-inner-requires
count_body-inner-requires t c =
    let n = walked_name c.requires c.loop-b.invariant c.known-command.ensures (rw c.times-runs.ensures.0 at c.if-runs-gt0.true) in
    let f = asked_few c.requires in
    let e = c.named-b.ensures.0 in (
      omega arith,
      asked_named c.requires (rw e n.1) (tail_part c.args.table.now (get_or c.args.starts.now c.named-b.result 0)) c.loop-b.invariant.noted,
    )

pub bounds-notes-body : goal.bounds-notes-body
bounds-notes-body t c = let f = asked_few c.requires in let o = c.requires.one_of in omega arith

pub overflow_add-next : goal.overflow_add-next
overflow_add-next t c =
    let s = walked_small c.requires c.loop-b.invariant c.known-command.ensures in
    let f = c.stride.ensures.1 in
    omega arith

pub loop-b-smaller : goal.loop-b-smaller
loop-b-smaller t c =
    let s = walked_small c.requires c.loop-b.invariant c.known-command.ensures in
    let size = c.stride.ensures.0 ∙ ap (λ (op : ℕ). width_at op + 2 * held c.known-command.result) c.byte_at.ensures in
    let n = walked_stride c.requires c.loop-b.invariant c.known-command.ensures size in
    omega arith

pub bounds : goal.bounds
bounds t c =
    let n = walked_name c.requires c.loop-b.invariant c.known-command.ensures (rw c.times-runs.ensures.0 at c.if-runs-gt0.true) in
    let f = asked_few c.requires in
    let e = c.named-b.ensures.0 in
    omega arith

pub bounds-notes-b : goal.bounds-notes-b
bounds-notes-b t c =
    let n = walked_name c.requires c.loop-b.invariant c.known-command.ensures (rw c.times-runs.ensures.0 at c.if-runs-gt0.true) in
    let f = asked_few c.requires in
    let e = c.named-b.ensures.0 in
    omega arith

pub bounds-starts-b : goal.bounds-starts-b
bounds-starts-b t c =
    let n = walked_name c.requires c.loop-b.invariant c.known-command.ensures (rw c.times-runs.ensures.0 at c.if-runs-gt0.true) in
    let f = asked_few c.requires in
    let e = c.named-b.ensures.0 in
    omega arith

pub with-sums-requires : goal.with-sums-requires
with-sums-requires t c =
    let inner : Filled c.args.table.now c.named-b.result c.match-notes-b.inner c.match-notes-b.notes = elim c.match-notes-b.branch [
      | in-Some v ↦ rw (v.inner-is, v.notes-is) (noted_at c.loop-b.invariant.noted v.in-Some.is)
      | in-None v ↦ rw (v.inner-is, v.notes-is) v.count_body-inner.ensures
    ] in
    let run = run_named c.loop-b.sums c.times-runs.ensures.0 c.named-b.ensures.0 inner in
    (c.loop-b.invariant.small, (run.small, c.times-runs.ensures.1))

pub returns-then-is_end : goal.returns-then-is_end
returns-then-is_end t c =
    let s : Summed c.args.table.now c.loop-b.sums c.known-command.result c.if-runs-gt0.sums c.if-runs-gt0.notes = elim c.if-runs-gt0.branch [
      | then-runs-gt0 w ↦
          let inner : Filled c.args.table.now w.named-b.result w.match-notes-b.inner w.match-notes-b.notes = elim w.match-notes-b.branch [
            | in-Some v ↦ rw (v.inner-is, v.notes-is) (noted_at c.loop-b.invariant.noted v.in-Some.is)
            | in-None v ↦ rw (v.inner-is, v.notes-is) v.count_body-inner.ensures
          ] in
          rw (w.sums-is, w.notes-is) (summed (run_named c.loop-b.sums c.times-runs.ensures.0 w.named-b.ensures.0 inner) w.with-sums.ensures)
      | else-runs-gt0 w ↦ rw (w.sums-is, w.notes-is) (summed (run_none c.loop-b.sums (omega arith) refl c.loop-b.invariant.noted) w.with-sums-else-runs-gt0.ensures)
    ] in
    let f = asked_few c.requires in
    let o = c.requires.one_of in
    noted_set c.if-runs-gt0.notes c.args.body c.if-runs-gt0.sums (omega arith) s.noted
    (walked_done c.requires c.loop-b.invariant c.known-command.ensures s.sum (sym c.is_end.ensures ∙ c.if-is_end.true))

pub loop-b-preserved : goal.loop-b-preserved
loop-b-preserved t c =
    let s : Summed c.args.table.now c.loop-b.sums c.known-command.result c.if-runs-gt0.sums c.if-runs-gt0.notes = elim c.if-runs-gt0.branch [
      | then-runs-gt0 w ↦
          let inner : Filled c.args.table.now w.named-b.result w.match-notes-b.inner w.match-notes-b.notes = elim w.match-notes-b.branch [
            | in-Some v ↦ rw (v.inner-is, v.notes-is) (noted_at c.loop-b.invariant.noted v.in-Some.is)
            | in-None v ↦ rw (v.inner-is, v.notes-is) v.count_body-inner.ensures
          ] in
          rw (w.sums-is, w.notes-is) (summed (run_named c.loop-b.sums c.times-runs.ensures.0 w.named-b.ensures.0 inner) w.with-sums.ensures)
      | else-runs-gt0 w ↦ rw (w.sums-is, w.notes-is) (summed (run_none c.loop-b.sums (omega arith) refl c.loop-b.invariant.noted) w.with-sums-else-runs-gt0.ensures)
    ] in
    let size = c.stride.ensures.0 ∙ ap (λ (op : ℕ). width_at op + 2 * held c.known-command.result) c.byte_at.ensures in
    let n = walked_stride c.requires c.loop-b.invariant c.known-command.ensures size in
    walked_on c.requires c.loop-b.invariant c.known-command.ensures s.sum (sym c.is_end.ensures ∙ c.if-is_end.false) n.1 s.noted
