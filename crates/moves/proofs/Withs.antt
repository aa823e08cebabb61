-- States with one part changed after the other.
use Rattle.std.proofs.Common.{◌≡◌, ℕ, ◌<◌, List, refl, get_or-set_other, get_or-set_same, set-set}
use lib.Seq.{set-get_or}
use Rattle.rules.specs.declared.state.Activity.{Activity}
use Rattle.rules.specs.declared.state.State.{State}
use Rattle.rules.specs.State.{act, absent}
use Rattle.fields.specs.Lent.{Lent, WritesAct, with_act}

pub act_with : {b : List ℕ} {s : State} {i : ℕ} (x : Activity) → Lent b s → i < 64 → act (with_act s i x) i ≡ x
unfolding with_act
act_with {s = s} {i = i} x l h = get_or-set_same s.acts i x absent (rw l.fine.acts64 h)

pub with_with : (s : State) (i : ℕ) (x y : Activity) → with_act (with_act s i x) i y ≡ with_act s i y
unfolding with_act
with_with s i x y = rw (set-set s.acts i x y)

pub steps_with : (s : State) (i : ℕ) (x : Activity) → (with_act s i x).steps ≡ s.steps
unfolding with_act
steps_with s i x = refl

pub with_same : (s : State) (i : ℕ) → with_act s i (act s i) ≡ s
unfolding with_act
with_same s i = rw (set-get_or s.acts i absent)

-- One change of an activity after another.
pub then : {b b₁ b₂ : List ℕ} {i : ℕ} {f g : Activity → Activity} → WritesAct f b b₁ i → WritesAct g b₁ b₂ i → WritesAct (λ (a : Activity). g (f a)) b b₂ i
then {i = i} {f = f} {g = g} m n =
    record { writes = λ s l j. rw (act_with (f (act s i)) l j, with_with) at (n.writes _ (m.writes s l j) j) }

-- Another activity stays.
pub act_other : (s : State) (i n : ℕ) (x : Activity) → (i ≡ n → ⊥) → act (with_act s n x) i ≡ act s i
unfolding with_act
act_other s i n x h = get_or-set_other s.acts n i x absent h
