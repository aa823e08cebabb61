-- OFFER.
use Rattle.std.proofs.Common.{◌≡◌, ℕ, ◌-◌, ◌<◌, false, leb, List, sym, refl, ◌∙◌, arith, eq-eqb, ne_eqb}
use Rattle.program.specs.Command.{is_end}
use Rattle.program.specs.Bodies.{Program}
use Rattle.program.specs.declared.command.Command.TheVariants.{Offer}
use Rattle.program.proofs.ShapeRows.{span_is}
use Rattle.rules.specs.declared.state.Activity.{Activity}
use Rattle.rules.specs.declared.state.Accumulator.{Accumulator}
use Rattle.rules.specs.declared.state.State.{State}
use Rattle.rules.specs.State.{act, bound, accumulator}
use Rattle.rules.specs.Faults.{fault_for}
use Rattle.rules.specs.Effects.{reduce, with_value, with_stores, past, effect_of, applied}
use Rattle.rules.specs.Steps.{fault}
use Rattle.moves.specs.Exceeding.{overfull}
use Rattle.fields.specs.Lent.{Lent, Reads, ReadsAct, Writes, with_act, with_steps, with_acc}
use Rattle.moves.specs.Moves.{Standing, Turned, GoesOn}
use Rattle.moves.proofs.Standings.{few, fault_here, bounds, plain, calm, went, done}

module _ {b : List ℕ} {p : Program} {s : State} {i work n e : ℕ} (l : Lent b s) (w : Standing p s i work (Offer n)) (small : n < 8)
    (under : ReadsAct (λ (a : Activity). bound a n) b i e) where
  entry : e ≡ bound (act s i) n
  entry = under.reads s l (few w)

  pub unbound_fault : e ≡ 0 → fault p s i ≡ 5
  unfolding fault_for
  unbound_fault z = fault_here w refl ∙ rw (eq-eqb (bound (act s i) n) 0 (sym entry ∙ z))

  pub offered : {b₁ b₂ : List ℕ} {c : Accumulator} {reg v r : ℕ} → (e ≡ 0 → ⊥) → false ≡ leb work s.steps → (e - 1 < 16 → Reads (λ (t : State). accumulator t (e - 1)) b c)
      → ReadsAct (λ (a : Activity). a.register) b i reg → v ≡ reduce c.operator c.value reg
      → (e - 1 < 16 → Writes (λ (t : State). with_acc t (e - 1) (with_value (accumulator t (e - 1)) v)) b b₁) → GoesOn b₁ b₂ i 2 r → Turned p s i b₂ r
  unfolding fault_for effect_of overfull past is_end applied with_stores with_act with_steps with_acc
  offered {c = c} {reg = reg} {v = v} z left look own q put g =
      let k = entry in
      let m = bounds w n small in
      let h : e - 1 < 16 = omega arith in
      let x : c ≡ accumulator s (e - 1) = (look h).reads s l in
      let y : reg ≡ (act s i).register = own.reads s l (few w) in
      let clear : fault p s i ≡ 0 = fault_here w refl ∙ rw (ne_eqb (bound (act s i) n) 0 (λ o. z (k ∙ o))) in
      let t = went w refl (span_is (Offer n)) left ((put h).writes s l) refl refl refl g in
      done w clear (plain w left refl (λ o. omega arith)) (rw (q, x, y, k) at t) (g.number ∙ sym (calm w))
