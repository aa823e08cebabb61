-- The fault, or the number.
use Rattle.values.proofs.Owns.{no_fault, some_fault}
use Rattle.values.proofs.own.own_number.Goals as goal

pub returns-in-Some : goal.returns-in-Some
returns-in-Some c = λ h. record { reads = λ s l j made. some_fault l j made (c.read_fault.ensures h) c.in-Some.is }

pub returns-in-None : goal.returns-in-None
returns-in-None c = λ h. record { reads = λ s l j made. no_fault l j made (c.read_fault.ensures h) c.in-None.is (c.name_at.ensures h) c.saturating_sub.ensures }
