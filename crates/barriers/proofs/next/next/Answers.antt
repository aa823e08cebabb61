-- Number 17, passing and arrival.
use Rattle.std.proofs.Common.{rules, sym, ◌∙◌}
use Rattle.moves.proofs.Standings.{few, left, over, turns_down}
use Rattle.barriers.proofs.Nexts.{meeting, last_phase, gone, arrived}
use Rattle.barriers.proofs.next.next.Goals as goal

pub returns-in_err-unspent : goal.returns-in_err-unspent
returns-in_err-unspent c = turns_down c.unspent.ensures c.in_err-unspent.was _ c.from_residual.ensures

pub returns-then-some_last : goal.returns-then-some_last
returns-then-some_last c =
    record {
      turns =
          λ p s l w.
          let room = left _ l c.unspent.ensures c.in_ok-unspent.was in
          let at = meeting l (few w) c.status_at.ensures c.is_at_barrier.ensures c.if-is_at_barrier.true in
          over w l (last_phase l w room at (sym c.if-some_last.true ∙ c.some_last.ensures.reads s l (few w)));
    }

pub returns-then-is_at_barrier : goal.returns-then-is_at_barrier
returns-then-is_at_barrier c =
    record {
      turns =
          λ p s l w.
          let room = left _ l c.unspent.ensures c.in_ok-unspent.was in
          let at = meeting l (few w) c.status_at.ensures c.is_at_barrier.ensures c.if-is_at_barrier.true in
          gone l w room (λ h x z. search rules) at (sym c.if-some_last.false ∙ c.some_last.ensures.reads s l (few w)) c.change_all.ensures c.put_status.ensures c.go_on.ensures;
    }

pub returns : goal.returns
returns c =
    record {
      turns =
          λ p s l w.
          let room = left _ l c.unspent.ensures c.in_ok-unspent.was in
          let at = meeting l (few w) c.status_at.ensures c.is_at_barrier.ensures c.if-is_at_barrier.false in
          arrived l w room (λ h x z. search rules) at c.change_all-2.ensures c.put_status-2.ensures c.counted.ensures;
    }
