-- Sums that are saturated: a count may be cut before it is multiplied and added.
use Prim.Native.Nat.{ℕ, zero, suc, ◌+◌, ◌*◌, ◌≤◌, ◌<◌, min}
use mathlib.Core.Path.{◌≡◌}
use native.Mathlib.Omega.{arith}
use native.Mathlib.Nat.{zero-mul, suc-mul, mul-le-mul}
use native.Mathlib.Decide.{dec_le}

pub product : (k w : ℕ) → k < 256 → w ≤ 65536 → k * w ≤ 16711680
product k w p q = let h : k ≤ 255 = omega arith in mul-le-mul h q

pub cap_times : (a k x m : ℕ) → min (a + k * min x m) m ≡ min (a + k * x) m
cap_times a zero x m = simp zero-mul
cap_times a (suc k) x m = by (dec_le x m)
  where
    by : Dec (x ≤ m) → min (a + suc k * min x m) m ≡ min (a + suc k * x) m
    by (yes h) = let e : min x m ≡ x = omega arith in rw e
    by (no h) = let e : min x m ≡ m = omega arith in rw e (simp suc-mul (omega arith))
