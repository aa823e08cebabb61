-- The fault of an activity that can step stays while another steps, in every well-formed state, reached or not. Where the END of a FINISH body may go on, all
-- inside have ended, so nobody inside can spawn or fault any more: F8 once due stays due, and where it is not due it does not become so.
use Prim.Native.Nat.{ℕ, ◌<◌}
use native.Mathlib.Omega.{arith}
use mathlib.Core.Bool.{true, false, ◌&&◌}
use mathlib.Core.Path.{◌≡◌, sym, ◌∙◌, subst}
use mathlib.Core.Logic.{◌⊎◌, inl, inr}
use lib.Dec.{leb}
use Rattle.program.specs.Command.{is_end}
use Rattle.program.specs.Bodies.{Program}
use Rattle.program.proofs.Shape.{Accepted}
use Rattle.rules.specs.declared.state.State.{State}
use Rattle.rules.specs.Search.{some_below}
use Rattle.rules.specs.State.{act, top, ended, is_faulted}
use Rattle.rules.specs.Tree.{in_finish_body, inside}
use Rattle.rules.specs.Faults.{faulted_inside, spoilt}
use Rattle.rules.specs.Effects.{applied}
use Rattle.rules.specs.WellFormed.{well_formed}
use Rattle.rules.specs.Steps.{Limits, at, breach, fault, effect, exceeds, can_step}
use Rattle.rules.proofs.Tests.{and_true, and_intro, true_false, decide}
use Rattle.rules.proofs.Search.{some_below_witness, some_below_intro, both}
use Rattle.rules.proofs.Sized.{Sized}
use Rattle.rules.proofs.Delivered.{unended_faultless, inside_ended}
use Rattle.rules.proofs.WellFormedFacts.{Facts, facts}
use Rattle.rules.proofs.Turn.{Turn, after}
use Rattle.rules.proofs.Applied.{Now, self, newborn, other, act_old}
use Rattle.rules.proofs.WellFormedApply.{Room, room, acts_after}
use Rattle.rules.proofs.PersistTree.{entry, chain_old, chain_child}
use Rattle.rules.proofs.Persist.{record_old, same_breach, can_step_lem}

module _ (l : Limits) {p : Program} (ok : Accepted p) {s : State} (f : Facts l.phase p s) (z : Sized s) (i : ℕ) (t : Turn p s i) (r : Room l p s (effect p s i))
    (x : ℕ) (d : x ≡ i → ⊥) (u : Turn p s x) where
  -- the number that was next when its body began
  abbrev first : ℕ
  first = (top (act s x)).first

  -- it stands on the END of a FINISH body
  module _ (end : is_end (at p s x).command ≡ true) (closing : in_finish_body p (act s x) ≡ true) where
    -- the one who steps is not inside
    stays_out : inside s x first i ≡ true → ⊥
    stays_out j = true_false (ended s i) (inside_ended p s x u end closing i t.spawned j) t.unended

    -- who has faulted inside after the step had before
    was_faulted : (y : ℕ) → y < (after p s i).activities → faulted_inside (after p s i) x first y ≡ true → some_below s.activities (faulted_inside s x first) ≡ true
    unfolding faulted_inside inside
    was_faulted y h e = go (entry l ok f z i t r y)
      where
        q : (inside (after p s i) x first y ≡ true) × (is_faulted (act (after p s i) y).status ≡ true)
        q = and_true (inside (after p s i) x first y) _ e

        go : Now s i (effect p s i) y → some_below s.activities (faulted_inside s x first) ≡ true
        go (self w m) = absurd (stays_out (sym (chain_old l ok f z i t r (leb first) x i t.spawned) ∙ subst (λ y. inside (after p s i) x first y ≡ true) w q.0))
        go (newborn c w n m) =
            absurd (stays_out (chain_child l ok f z i t r (leb first) x d c w (subst (λ y. act (after p s i) y ≡ c) n m) (subst (λ y. inside (after p s i) x first y ≡ true) n q.0)))
        go (other w n m) =
            some_below_intro s.activities (faulted_inside s x first) y (n h)
            (and_intro (inside s x first y) _ (sym (chain_old l ok f z i t r (leb first) x y (n h)) ∙ q.0) (rw m at q.1))

    -- and back
    still_faulted : (y : ℕ) → y < s.activities → faulted_inside s x first y ≡ true → some_below (after p s i).activities (faulted_inside (after p s i) x first) ≡ true
    unfolding faulted_inside inside
    still_faulted y h e =
        let q = and_true (inside s x first y) _ e in
        let n : y ≡ i → ⊥ = λ w. true_false (is_faulted (act s i).status) (subst (λ y. is_faulted (act s y).status ≡ true) w q.1) (unended_faultless (act s i).status t.unended) in
        let m : act (after p s i) y ≡ act s y = act_old s i (effect p s i) y h n in
        some_below_intro (after p s i).activities (faulted_inside (after p s i) x first) y (omega (arith, (acts_after s i (effect p s i)).up))
        (and_intro (inside (after p s i) x first y) _ (chain_old l ok f z i t r (leb first) x y h ∙ q.0) (rw m q.1))

    same_faulted : some_below (after p s i).activities (faulted_inside (after p s i) x first) ≡ some_below s.activities (faulted_inside s x first)
    same_faulted =
        both _ _ (λ e. let w = some_below_witness (after p s i).activities (faulted_inside (after p s i) x first) e in was_faulted w.at w.below w.passes)
        (λ e. let w = some_below_witness s.activities (faulted_inside s x first) e in still_faulted w.at w.below w.passes)

  -- F8 is due as it was
  same_spoilt : spoilt p (after p s i) x (act s x) (at p s x).command ≡ spoilt p s x (act s x) (at p s x).command
  unfolding spoilt
  same_spoilt = go (decide (is_end (at p s x).command)) (decide (in_finish_body p (act s x)))
    where
      go : (is_end (at p s x).command ≡ true) ⊎ (is_end (at p s x).command ≡ false) → (in_finish_body p (act s x) ≡ true) ⊎ (in_finish_body p (act s x) ≡ false)
          → is_end (at p s x).command && (in_finish_body p (act s x) && some_below (after p s i).activities (faulted_inside (after p s i) x first))
          ≡ is_end (at p s x).command && (in_finish_body p (act s x) && some_below s.activities (faulted_inside s x first))
      go (inl e) (inl c) = rw (e, c) (same_faulted e c)
      go (inl e) (inr c) = rw (e, c)
      go (inr e) c = rw e

  -- so its fault is what it was
  pub same_fault : fault p (after p s i) x ≡ fault p s x
  unfolding fault breach at
  same_fault = rw (record_old l ok f z i t r x d u, same_breach l ok f z i t r x d u, same_spoilt)

-- The fault of who can step is the same after the step of another: F8 once due stays due.
pub fault_stays : (l : Limits) {p : Program} → Accepted p → (s : State) → Sized s → well_formed l.phase p s ≡ true → (x i : ℕ) → can_step p s x ≡ true → can_step p s i ≡ true
    → (x ≡ i → ⊥) → exceeds l p s (effect p s i) ≡ false → fault p (applied s i (effect p s i)) x ≡ fault p s x
fault_stays l {p} ok s z w x i a b d e =
    same_fault l ok (facts l.phase p s w) z i (can_step_lem p s i b) (room l p s (effect p s i) e) x d (can_step_lem p s x a)
