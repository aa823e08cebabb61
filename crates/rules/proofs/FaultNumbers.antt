-- The numbers of the faults: each gives its fault back, and none is 0 or above 8.
use Prim.Native.Nat.{◌≤◌}
use native.Mathlib.Omega.{arith}
use mathlib.Core.Path.{◌≡◌, refl}
use Rattle.rules.specs.declared.state.Fault.{Fault}
use Rattle.rules.specs.declared.state.Fault.TheVariants.{F1, F2, F3, F4, F5, F6, F7, F8}
use Rattle.rules.specs.State.{fault_number, fault_of}

pub fault_there : (f : Fault) → fault_of (fault_number f) ≡ f
fault_there F1 = refl
fault_there F2 = refl
fault_there F3 = refl
fault_there F4 = refl
fault_there F5 = refl
fault_there F6 = refl
fault_there F7 = refl
fault_there F8 = refl

pub fault_range : (f : Fault) → (1 ≤ fault_number f) × (fault_number f ≤ 8)
fault_range F1 = (omega arith, omega arith)
fault_range F2 = (omega arith, omega arith)
fault_range F3 = (omega arith, omega arith)
fault_range F4 = (omega arith, omega arith)
fault_range F5 = (omega arith, omega arith)
fault_range F6 = (omega arith, omega arith)
fault_range F7 = (omega arith, omega arith)
fault_range F8 = (omega arith, omega arith)
