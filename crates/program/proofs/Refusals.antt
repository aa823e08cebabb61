-- A number is that of its refusal, and what an answer by a number says.
use Rattle.std.specs.Prelude.{ℕ, zero, suc, ◌≤◌, ◌<◌, ◌≡◌, Ok, Err}
use native.Mathlib.Omega.{arith}
use mathlib.Core.Path.{refl}
use Rattle.program.specs.declared.refusal.Refusal.{Refusal}
use Rattle.program.specs.declared.refusal.Refusal.TheVariants.{Size, Bodies, Unknown, Cut, Operand, Named, Atom, Surplus, Activities, Clocks, Accumulators, Work, State, Unspawned, Ended, Waits, Spent, Room, Buffer}
use Rattle.program.specs.Refusal.{refusal_number, refusal_at, told, answered}

-- The number of a refusal is not 0.
pub refusal_some : (e : Refusal) → 0 < refusal_number e
refusal_some Size = omega arith
refusal_some Bodies = omega arith
refusal_some Unknown = omega arith
refusal_some Cut = omega arith
refusal_some Operand = omega arith
refusal_some Named = omega arith
refusal_some Atom = omega arith
refusal_some Surplus = omega arith
refusal_some Activities = omega arith
refusal_some Clocks = omega arith
refusal_some Accumulators = omega arith
refusal_some Work = omega arith
refusal_some State = omega arith
refusal_some Unspawned = omega arith
refusal_some Ended = omega arith
refusal_some Waits = omega arith
refusal_some Spent = omega arith
refusal_some Room = omega arith
refusal_some Buffer = omega arith

pub refusal_back : (n : ℕ) → n < 18 → refusal_number (refusal_at (suc n)) ≡ suc n
refusal_back zero h = refl
refusal_back (suc zero) h = refl
refusal_back (suc (suc zero)) h = refl
refusal_back (suc (suc (suc zero))) h = refl
refusal_back (suc (suc (suc (suc zero)))) h = refl
refusal_back (suc (suc (suc (suc (suc zero))))) h = refl
refusal_back (suc (suc (suc (suc (suc (suc zero)))))) h = refl
refusal_back (suc (suc (suc (suc (suc (suc (suc zero))))))) h = refl
refusal_back (suc (suc (suc (suc (suc (suc (suc (suc zero)))))))) h = refl
refusal_back (suc (suc (suc (suc (suc (suc (suc (suc (suc zero))))))))) h = refl
refusal_back (suc (suc (suc (suc (suc (suc (suc (suc (suc (suc zero)))))))))) h = refl
refusal_back (suc (suc (suc (suc (suc (suc (suc (suc (suc (suc (suc zero))))))))))) h = refl
refusal_back (suc (suc (suc (suc (suc (suc (suc (suc (suc (suc (suc (suc zero)))))))))))) h = refl
refusal_back (suc (suc (suc (suc (suc (suc (suc (suc (suc (suc (suc (suc (suc zero))))))))))))) h = refl
refusal_back (suc (suc (suc (suc (suc (suc (suc (suc (suc (suc (suc (suc (suc (suc zero)))))))))))))) h = refl
refusal_back (suc (suc (suc (suc (suc (suc (suc (suc (suc (suc (suc (suc (suc (suc (suc zero))))))))))))))) h = refl
refusal_back (suc (suc (suc (suc (suc (suc (suc (suc (suc (suc (suc (suc (suc (suc (suc (suc zero)))))))))))))))) h = refl
refusal_back (suc (suc (suc (suc (suc (suc (suc (suc (suc (suc (suc (suc (suc (suc (suc (suc (suc zero))))))))))))))))) h = refl
refusal_back (suc (suc (suc (suc (suc (suc (suc (suc (suc (suc (suc (suc (suc (suc (suc (suc (suc (suc n)))))))))))))))))) h = absurd (omega arith)

pub told_answered : {A : Type 0} (n : ℕ) (x : A) → n ≤ 18 → told (answered n x) ≡ n
told_answered zero x h = refl
told_answered (suc n) x h = refusal_back n (omega arith)

pub answered_ok : {A : Type 0} (n : ℕ) (x : A) {y : A} → answered n x ≡ Ok y → (n ≡ 0) × (y ≡ x)
answered_ok zero x e = (refl, cc)
answered_ok (suc n) x e = absurd (cc)

pub answered_err : {A : Type 0} (n : ℕ) (x : A) {r : Refusal} → answered n x ≡ Err r → n ≤ 18 → (refusal_number r ≡ n) × (0 < n)
answered_err zero x e h = absurd (cc)
answered_err (suc n) x {r = r} e h =
    let same : refusal_at (suc n) ≡ r = cc in
    (rw (← same) (refusal_back n (omega arith)), omega arith)

-- The number of an answer that is a refusal is not 0, and the refusal is the number's.
pub answered_at : {A : Type 0} (n : ℕ) (x : A) {r : Refusal} → answered n x ≡ Err r → (n ≡ 0 → ⊥) × (refusal_at n ≡ r)
answered_at zero x e = absurd (cc)
answered_at (suc n) x e = (λ z. omega arith, cc)

-- And from the number.
pub answered_none : {A : Type 0} (n : ℕ) (x : A) → n ≡ 0 → answered n x ≡ Ok x
answered_none zero x e = refl
answered_none (suc n) x e = absurd (omega arith)

pub answered_some : {A : Type 0} (n : ℕ) (x : A) → (n ≡ 0 → ⊥) → answered n x ≡ Err (refusal_at n)
answered_some zero x h = absurd (h refl)
answered_some (suc n) x h = refl

-- The answer by a refusal's number is this refusal.
pub answered_refusal : {A : Type 0} (e : Refusal) (x : A) → answered (refusal_number e) x ≡ Err e
answered_refusal Size x = refl
answered_refusal Bodies x = refl
answered_refusal Unknown x = refl
answered_refusal Cut x = refl
answered_refusal Operand x = refl
answered_refusal Named x = refl
answered_refusal Atom x = refl
answered_refusal Surplus x = refl
answered_refusal Activities x = refl
answered_refusal Clocks x = refl
answered_refusal Accumulators x = refl
answered_refusal Work x = refl
answered_refusal State x = refl
answered_refusal Unspawned x = refl
answered_refusal Ended x = refl
answered_refusal Waits x = refl
answered_refusal Spent x = refl
answered_refusal Room x = refl
answered_refusal Buffer x = refl
