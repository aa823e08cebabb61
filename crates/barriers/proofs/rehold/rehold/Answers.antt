-- F1, number 17, and the hold.
use Rattle.barriers.proofs.Reholds.{drop_fault, dropped, resume_fault, resumed}
use Rattle.moves.proofs.Standings.{left, turned_down}
use Rattle.barriers.proofs.rehold.rehold.Goals as goal

pub returns-then-not-is_held : goal.returns-then-not-is_held
returns-then-not-is_held c = λ h. record {
  resumes = λ p s l w e. c.fail.ensures.fails p s _ l w (resume_fault l w (c.hold_at-h.ensures h) c.is_held.ensures c.if-not-is_held.true);
  drops = λ p s l w e. c.fail.ensures.fails p s _ l w (drop_fault l w (c.hold_at-h.ensures h) c.is_held.ensures c.if-not-is_held.true);
}

pub returns-in_err-unspent : goal.returns-in_err-unspent
returns-in_err-unspent c = λ h. record {
  resumes = λ p s l w e. turned_down w l c.unspent.ensures c.in_err-unspent.was _ c.from_residual.ensures;
  drops = λ p s l w e. turned_down w l c.unspent.ensures c.in_err-unspent.was _ c.from_residual.ensures;
}

pub returns : goal.returns
returns c = λ h. record {
  resumes = λ p s l w e. resumed l w (c.hold_at-h.ensures h) c.is_held.ensures c.if-not-is_held.false (left _ l c.unspent.ensures c.in_ok-unspent.was) e (c.put_hold.ensures h) c.go_on.ensures;
  drops = λ p s l w e. dropped l w (c.hold_at-h.ensures h) c.is_held.ensures c.if-not-is_held.false (left _ l c.unspent.ensures c.in_ok-unspent.was) e (c.put_hold.ensures h) c.go_on.ensures;
}
