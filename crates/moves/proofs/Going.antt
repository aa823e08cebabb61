-- A step is counted, and the top body goes on.
use Rattle.std.proofs.Common.{◌≡◌, ℕ, ◌+◌, ◌-◌, ◌%◌, ◌^◌, ◌<◌, List, ◌∙◌, arith}
use Rattle.rules.specs.declared.state.Activity.{Activity}
use Rattle.rules.specs.State.{act, frame, top}
use Rattle.fields.specs.Lent.{ReadsAct, WritesAct, with_act, with_steps, with_frame, onward}
use Rattle.moves.specs.Moves.{Counts, GoesOn}

-- The stack's depth is read, the offset at its top, and that and so many bytes are written.
pub went_on : {b b₁ c : List ℕ} {i d o size n r : ℕ} → ReadsAct (λ (a : Activity). a.depth) b i d
    → (d - 1 < 16 → ReadsAct (λ (a : Activity). (frame a (d - 1)).offset) b i o) → n ≡ (o + size) % 2 ^ 16
    → (d - 1 < 16 → WritesAct (λ (a : Activity). with_frame a (d - 1) (onward (frame a (d - 1)) n)) b b₁ i) → Counts b₁ c r → GoesOn b c i size r
unfolding with_act with_steps
went_on {i = i} {d = d} {o = o} {size = size} {n = n} f g e w k =
    record {
      number = k.number;
      goes =
          λ s l j h some few fits.
          let a = act s i in
          let p : d ≡ a.depth = f.reads s l j in
          let q : o ≡ (top a).offset = (g (omega arith)).reads s l j ∙ rw p in
          let z : n ≡ (top a).offset + size = omega arith in
          k.counts _ (rw (p, z) at ((w (omega arith)).writes s l j)) h;
    }
