-- By the registration, the clock and the place.
use native.Mathlib.Omega.{arith}
use mathlib.Core.Path.{refl}
use Rattle.waits.proofs.Behinds.{late_free, late_past, late_by}
use Rattle.waits.proofs.behind.is_late.Goals as goal

pub returns-then-registration-eq0 : goal.returns-then-registration-eq0
returns-then-registration-eq0 c = late_free refl c.if-registration-eq0.true

pub returns-then-clock-ge16 : goal.returns-then-clock-ge16
returns-then-clock-ge16 c = late_past refl refl c.told-own c.if-clock-ge16.true

pub returns : goal.returns
returns c = late_by refl refl c.told-own c.if-registration-eq0.false (let phase = c.from_le_bytes-phase.ensures in omega arith)
