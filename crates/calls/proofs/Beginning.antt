-- The first states in their bytes.
use Prim.Native.Nat.{ℕ, zero, suc, ◌+◌, ◌*◌}
use native.Mathlib.Omega.{arith}
use native.Mathlib.Nat.{suc-mul, zero-mul, add_comm}
use mathlib.Core.Path.{◌≡◌, refl, ap, ◌∙◌}
use mathlib.Core.List.{List, ◌∷◌, ◌++◌}
use mathlib.Core.Bool.{cond}
use lib.Dec.{eqb}
use lib.ListN.{length, set, replicate, replicate-append-replicate}
use borrow.Author.Tests.{eq-eqb}
use Rattle.rules.specs.declared.state.Activity.{Activity}
use Rattle.rules.specs.declared.state.State.{State}
use Rattle.rules.specs.State.{no_accumulator, no_activity, zero_state}
use Rattle.rules.specs.Steps.{start_state}
use Rattle.encoding.specs.Bytes.{bytes_of, encode_each}
use Rattle.encoding.specs.Encode.{encode_frame, encode_hold, encode_accumulator, encode_activity, encode_state}
use Rattle.fits.proofs.Fitting.{zero_fits}
use Rattle.fields.specs.Lent.{Writes, WritesAct, with_act, with_activities, with_depth}
use Rattle.calls.proofs.Lending.{lent_state}

-- THE STATE OF ZEROS

zeros : ℕ → List ℕ
zeros n = replicate n 0

-- Entries whose bytes are 0.
each_zero : {A : Type 0} (f : A → List ℕ) (k : ℕ) (x : A) → f x ≡ zeros k → (n : ℕ) → encode_each f (replicate n x) ≡ zeros (n * k)
unfolding encode_each zeros
each_zero f k x e zero = rw (zero-mul k)
each_zero f k x e (suc n) = rw (e, each_zero f k x e n, suc-mul, add_comm (n * k) k) (replicate-append-replicate k (n * k) 0)

cell_zero : bytes_of 4 0 ≡ zeros 4
unfolding bytes_of zeros
cell_zero = refl

accumulator_zero : encode_accumulator no_accumulator ≡ zeros 24
unfolding encode_accumulator bytes_of zeros
accumulator_zero = refl

activity_zero : encode_activity no_activity ≡ zeros 208
unfolding encode_activity encode_each encode_hold encode_frame bytes_of zeros
activity_zero = refl

-- The version, and 0 everywhere else.
zero_bytes : encode_state zero_state ≡ 1 ∷ replicate 13775 0
unfolding encode_state bytes_of zeros
zero_bytes =
    rw (each_zero (bytes_of 4) 4 0 cell_zero 16, each_zero encode_accumulator 24 no_accumulator accumulator_zero 16, each_zero encode_activity 208 no_activity activity_zero 64)
    (ap (λ (l : List ℕ). 1 ∷ l) (more 15 (16 * 4 + (16 * 24 + 64 * 208)) (more (16 * 4) (16 * 24 + 64 * 208) (more (16 * 24) (64 * 208) refl))))
  where
    more : (n m : ℕ) {l : List ℕ} → l ≡ replicate m 0 → replicate n 0 ++ l ≡ replicate (n + m) 0
    more n m e = rw e (replicate-append-replicate n m 0)

-- It is written over zeros.
pub none_written : (b : List ℕ) {z c : List ℕ} → length b ≡ 13776 → z ≡ replicate (length b) 0 → c ≡ set z 0 1 → c ≡ cond (eqb (length b) 13776) (encode_state zero_state) b
none_written b n e f = rw (eq-eqb (length b) 13776 n, zero_bytes) (f ∙ rw (e, n))

-- THE START STATE

pub start_written : (b : List ℕ) {z c d : List ℕ} → length b ≡ 13776 → z ≡ cond (eqb (length b) 13776) (encode_state zero_state) b
    → Writes (λ (s : State). with_activities s 1) z c → WritesAct (λ (a : Activity). with_depth a 1) c d 0 → d ≡ cond (eqb (length b) 13776) (encode_state start_state) b
unfolding with_act with_activities
start_written b {z = z} n e f g =
    let q : z ≡ encode_state zero_state = e ∙ rw (eq-eqb (length b) 13776 n) in
    let l = f.writes zero_state (rw q (lent_state zero_state zero_fits.sized zero_fits.fits)) in
    rw (eq-eqb (length b) 13776 n) (g.writes _ l (omega arith)).bytes
