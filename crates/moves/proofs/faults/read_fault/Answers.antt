-- Each way is the definition's at the tests that led to it.
use Rattle.std.proofs.Common.{refl}
use Rattle.moves.proofs.Reading.{unbound_name, others, own_name}
use Rattle.moves.proofs.faults.read_fault.Goals as goal

pub returns-then-entry-eq0 : goal.returns-then-entry-eq0
returns-then-entry-eq0 c = λ h. record { reads = λ s l j m. unbound_name l j m (c.name_at-entry.ensures h) refl c.if-entry-eq0.true }

pub returns-then-c-i : goal.returns-then-c-i
returns-then-c-i c =
    λ h.
    record { reads = λ s l j m. others l j m (c.name_at-entry.ensures h) refl c.if-entry-eq0.false c.accumulator_at-c.ensures refl c.if-c-i.true }

pub returns-then-holds_some : goal.returns-then-holds_some
returns-then-holds_some c =
    λ h.
    record {
      reads =
          λ s l j m.
          own_name l j m (c.name_at-entry.ensures h) refl c.if-entry-eq0.false c.accumulator_at-c.ensures refl c.if-c-i.false
          (c.holds_some.ensures.reads s l j) c.if-holds_some.true;
    }

pub returns : goal.returns
returns c =
    λ h.
    record {
      reads =
          λ s l j m.
          own_name l j m (c.name_at-entry.ensures h) refl c.if-entry-eq0.false c.accumulator_at-c.ensures refl c.if-c-i.false
          (c.holds_some.ensures.reads s l j) c.if-holds_some.false;
    }
