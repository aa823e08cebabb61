-- The start state fits its bytes.
use Prim.Native.Nat.{ℕ, zero, suc, ◌^◌, ◌<◌}
use native.Mathlib.Omega.{arith}
use mathlib.Core.Path.{◌≡◌, refl}
use mathlib.Core.List.{List}
use lib.ListN.{get_or, set, replicate, get_or-replicate}
use Rattle.rules.specs.State.{no_frames, no_accumulator, no_activity, absent}
use Rattle.rules.specs.Effects.{with_frames}
use Rattle.rules.specs.Steps.{start_state}
use Rattle.rules.proofs.Lists.{Stored, new, old, stored}
use Rattle.encoding.specs.Encode.{encode_state}
use Rattle.fields.proofs.Stands.{zero_offset, zero_phase}
use Rattle.fields.specs.Lent.{FineActivity, Fine, Lent}

zero_cell : (d n : ℕ) → get_or (replicate n 0) d 0 < 2 ^ 32
zero_cell d zero = omega arith
zero_cell zero (suc n) = omega arith
zero_cell (suc d) (suc n) = zero_cell d n

zero_value : (d n : ℕ) → (get_or (replicate n no_accumulator) d no_accumulator).value < 2 ^ 32
zero_value d zero = omega arith
zero_value zero (suc n) = omega arith
zero_value (suc d) (suc n) = zero_value d n

-- An activity that was not spawned, whatever its depth says.
fine_none : (d : ℕ) → FineActivity (with_frames no_activity d no_frames)
fine_none d =
    record { frames16 = refl; holds8 = refl; names8 = refl; register = omega arith; offsets = λ n. zero_offset n 16; phases = λ k. zero_phase k 8 }

fine_start : Fine start_state
fine_start =
    record {
      acts64 = refl;
      accs16 = refl;
      cells16 = refl;
      steps = omega arith;
      cells = λ d. zero_cell d 16;
      values = λ n. zero_value n 16;
      each = λ i h. go i h (stored (replicate 64 no_activity) 0 (with_frames no_activity 1 no_frames) i absent);
    }
  where
    go : (i : ℕ) → i < 64 → Stored (replicate 64 no_activity) 0 (with_frames no_activity 1 no_frames) i absent
        → FineActivity (get_or (set (replicate 64 no_activity) 0 (with_frames no_activity 1 no_frames)) i absent)
    go i h (new e p) = rw p (fine_none 1)
    go i h (old p) = rw (p, get_or-replicate 64 i no_activity absent h) (fine_none 0)

pub lent_start : {b : List ℕ} → b ≡ encode_state start_state → Lent b start_state
lent_start e = record { bytes = e; fine = fine_start }
