-- The fault of READ and RESET.
use Rattle.std.proofs.Common.{◌≡◌, ℕ, ◌-◌, ◌<◌, ◌≤◌, Bool, false, cond, eqb, List, sym, ap, ◌∙◌, arith, eq-eqb, ne_eqb}
use Rattle.rules.specs.declared.state.Activity.{Activity}
use Rattle.rules.specs.declared.state.Accumulator.{Accumulator}
use Rattle.rules.specs.declared.state.State.{State}
use Rattle.rules.specs.State.{act, bound, accumulator}
use Rattle.rules.specs.Clocks.{holds_some}
use Rattle.rules.specs.Faults.{read_fault}
use Rattle.rules.specs.Effects.{env_of}
use Rattle.fields.specs.Lent.{Lent, Reads, ReadsAct}

module _ {b : List ℕ} {s : State} {i n e x : ℕ} (l : Lent b s) (j : i < 64) (made : bound (act s i) n ≤ 16) (under : ReadsAct (λ (a : Activity). bound a n) b i e) (same : x ≡ e) where
  entry : x ≡ bound (act s i) n
  entry = same ∙ under.reads s l j

  pub unbound_name : x ≡ 0 → 5 ≡ read_fault (env_of s) i (act s i) n
  unfolding read_fault
  unbound_name z = rw (eq-eqb (bound (act s i) n) 0 (sym entry ∙ z))

  module _ {c : Accumulator} {o : ℕ} (z : x ≡ 0 → ⊥) (look : x - 1 < 16 → Reads (λ (t : State). accumulator t (x - 1)) b c) (by : o ≡ c.owner) where
    owner : o ≡ (accumulator s (bound (act s i) n - 1)).owner
    owner =
        let k = entry in
        let h : x - 1 < 16 = omega arith in
        by ∙ ap (λ (y : Accumulator). y.owner) ((look h).reads s l) ∙ ap (λ (y : ℕ). (accumulator s (y - 1)).owner) k

    bound_name : eqb (bound (act s i) n) 0 ≡ false
    bound_name = ne_eqb (bound (act s i) n) 0 (λ q. z (entry ∙ q))

    pub others : (o ≡ i → ⊥) → 6 ≡ read_fault (env_of s) i (act s i) n
    unfolding read_fault
    others h = rw (bound_name, ne_eqb (accumulator s (bound (act s i) n - 1)).owner i (λ q. h (owner ∙ q)))

    pub own_name : {y z : Bool} → o ≡ i → y ≡ holds_some (act s i) → y ≡ z → cond z 7 0 ≡ read_fault (env_of s) i (act s i) n
    unfolding read_fault
    own_name h k q = rw (bound_name, eq-eqb (accumulator s (bound (act s i) n - 1)).owner i (sym owner ∙ h), ← k, q)
