-- Each value of an enum comes back from its byte, and each byte in its range from its value.
use Prim.Native.Nat.{ℕ, zero, suc, ◌≤◌}
use native.Mathlib.Omega.{arith}
use mathlib.Core.Bool.{true, false, ◌&&◌}
use mathlib.Core.Path.{◌≡◌, refl}
use mathlib.Core.Logic.{◌⊎◌, inl, inr}
use lib.Dec.{leb, eqb}
use borrow.Author.Tests.{leb-true, le-leb, eqb-true}
use Rattle.rules.specs.declared.state.Fault.{Fault}
use Rattle.rules.specs.declared.state.Status.{Status}
use Rattle.rules.specs.declared.state.Status.TheVariants.{Running, AtBarrier, Ended, Faulted}
use Rattle.rules.specs.declared.state.Registration.{Registration}
use Rattle.rules.specs.declared.state.Registration.TheVariants.{Free, Live, Quiesced}
use Rattle.rules.specs.declared.state.Operator.{Operator}
use Rattle.rules.specs.declared.state.Operator.TheVariants.{Sum, Minimum, Maximum}
use Rattle.rules.specs.State.{fault_number, fault_of, registration_number, operator_number, operator_of}
use Rattle.rules.proofs.Tests.{and_true, decide}
use Rattle.rules.proofs.FaultNumbers.{fault_there, fault_range}
use Rattle.encoding.specs.Encode.{status_byte, fault_byte}
use Rattle.encoding.specs.Decode.{registration_of, status_of, status_passes}

-- REGISTRATIONS

-- a registration comes back from its number
pub registration_there : (r : Registration) → registration_of (registration_number r) ≡ r
registration_there Free = refl
registration_there Live = refl
registration_there Quiesced = refl

-- its number passes
pub registration_passes : (r : Registration) → registration_number r ≤ 2
registration_passes Free = omega arith
registration_passes Live = omega arith
registration_passes Quiesced = omega arith

-- a number that passes comes back from its registration
pub registration_back : (n : ℕ) → n ≤ 2 → n ≡ registration_number (registration_of n)
registration_back zero h = refl
registration_back (suc zero) h = refl
registration_back (suc (suc zero)) h = refl
registration_back (suc (suc (suc n))) h = absurd (omega arith)

-- OPERATORS

-- an operator comes back from its number
pub operator_there : (o : Operator) → operator_of (operator_number o) ≡ o
operator_there Sum = refl
operator_there Minimum = refl
operator_there Maximum = refl

-- its number passes
pub operator_passes : (o : Operator) → operator_number o ≤ 2
operator_passes Sum = omega arith
operator_passes Minimum = omega arith
operator_passes Maximum = omega arith

-- a number that passes comes back from its operator
pub operator_back : (n : ℕ) → n ≤ 2 → n ≡ operator_number (operator_of n)
operator_back zero h = refl
operator_back (suc zero) h = refl
operator_back (suc (suc zero)) h = refl
operator_back (suc (suc (suc n))) h = absurd (omega arith)

-- STANDINGS

-- a number from 1 to 8 comes back from its fault
fault_back : (n : ℕ) → 1 ≤ n → n ≤ 8 → n ≡ fault_number (fault_of n)
fault_back zero l h = absurd (omega arith)
fault_back (suc zero) l h = refl
fault_back (suc (suc zero)) l h = refl
fault_back (suc (suc (suc zero))) l h = refl
fault_back (suc (suc (suc (suc zero)))) l h = refl
fault_back (suc (suc (suc (suc (suc zero))))) l h = refl
fault_back (suc (suc (suc (suc (suc (suc zero)))))) l h = refl
fault_back (suc (suc (suc (suc (suc (suc (suc zero))))))) l h = refl
fault_back (suc (suc (suc (suc (suc (suc (suc (suc zero)))))))) l h = refl
fault_back (suc (suc (suc (suc (suc (suc (suc (suc (suc n))))))))) l h = absurd (omega arith)

-- a standing comes back from its two bytes
pub status_there : (s : Status) → status_of (status_byte s) (fault_byte s) ≡ s
status_there Running = refl
status_there AtBarrier = refl
status_there Ended = refl
status_there (Faulted f) = rw (fault_there f)

-- a fault's number is 1 to 8
fault_passes : (f : Fault) → leb 1 (fault_number f) && leb (fault_number f) 8 ≡ true
fault_passes f = let h = fault_range f in rw (le-leb 1 (fault_number f) h.0, le-leb (fault_number f) 8 h.1)

-- its two bytes pass
pub status_passes_lem : (s : Status) → status_passes (status_byte s) (fault_byte s) ≡ true
status_passes_lem Running = refl
status_passes_lem AtBarrier = refl
status_passes_lem Ended = refl
status_passes_lem (Faulted f) = fault_passes f

-- where no fault stands, the byte of the fault is 0
whole : (n f : ℕ) → n ≤ 2 → f ≡ 0 → (n ≡ status_byte (status_of n f)) × (f ≡ fault_byte (status_of n f))
whole zero f h e = (refl, e)
whole (suc zero) f h e = (refl, e)
whole (suc (suc zero)) f h e = (refl, e)
whole (suc (suc (suc n))) f h e = absurd (omega arith)

-- two bytes that pass come back from their standing
pub status_back : (n f : ℕ) → status_passes n f ≡ true → (n ≡ status_byte (status_of n f)) × (f ≡ fault_byte (status_of n f))
status_back n f h = go (decide (eqb n 3))
  where
    go : (eqb n 3 ≡ true) ⊎ (eqb n 3 ≡ false) → (n ≡ status_byte (status_of n f)) × (f ≡ fault_byte (status_of n f))
    go (inl e) =
        let q = and_true (leb 1 f) (leb f 8) (rw e at h) in
        rw (eqb-true n 3 e) (refl, fault_back f (leb-true 1 f q.0) (leb-true f 8 q.1))
    go (inr e) =
        let q = and_true (leb n 2) (eqb f 0) (rw e at h) in
        whole n f (leb-true n 2 q.0) (eqb-true f 0 q.1)
