-- One byte.
use Rattle.fields.proofs.Own.{name_read}
use Rattle.fields.proofs.activities.name_at.Goals as goal

pub returns : goal.returns
returns c = λ h. record { reads = λ s l j. name_read l j h c.get_own.ensures }
