-- Two bytes, and two of one.
use native.Mathlib.Omega.{arith}
use mathlib.Core.Path.{ap, ◌∙◌}
use Rattle.rules.specs.State.{act, hold}
use Rattle.encoding.specs.Bytes.{number_of}
use Rattle.encoding.specs.Decode.{registration_of}
use Rattle.encoding.proofs.EnumLaws.{registration_there}
use Rattle.fields.proofs.Stands.{mine}
use Rattle.fields.proofs.Own.{hold_read, phase_there, clock_there, registration_byte}
use Rattle.fields.proofs.holds.hold_at.Goals as goal

pub returns : goal.returns
returns c =
    λ h.
    record {
      reads =
          λ s l j.
          let g = hold (act s _) _ in
          let x = hold_read l j h number_of _ 0 2 c.get_own.ensures (omega arith) (omega arith) (omega arith) ∙ phase_there g ((mine l j).phases _) in
          let y = hold_read l j h number_of _ 4 1 c.get_own-2.ensures (omega arith) (omega arith) (omega arith) ∙ clock_there g in
          let z = c.registration_of.ensures ∙ ap registration_of (hold_read l j h number_of _ 5 1 c.get_own-3.ensures (omega arith) (omega arith) (omega arith) ∙ registration_byte g) ∙ registration_there g.registration in
          rw (x, y, z);
    }
