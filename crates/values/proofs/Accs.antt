-- ACC.
use Rattle.std.proofs.Common.{◌≡◌, ℕ, ◌+◌, ◌%◌, ◌<◌, ◌≤◌, true, false, leb, List, sym, refl, ap, ◌∙◌, arith, le-leb}
use borrow.Author.Tests.{lt-leb}
use Rattle.program.specs.Command.{is_end}
use Rattle.program.specs.Bodies.{Program}
use Rattle.program.specs.declared.command.Command.TheVariants.{Acc}
use Rattle.program.proofs.ShapeRows.{span_is}
use Rattle.rules.specs.declared.state.Operator.{Operator}
use Rattle.rules.specs.declared.state.Activity.{Activity}
use Rattle.rules.specs.declared.state.Accumulator.{Accumulator}
use Rattle.rules.specs.declared.state.State.{State}
use Rattle.rules.specs.State.{act, operator_of}
use Rattle.rules.specs.Faults.{fault_for}
use Rattle.rules.specs.Effects.{new_accumulator, make, writing, past, effect_of, with_stores, applied}
use Rattle.rules.specs.Steps.{base, effect, exceeds}
use Rattle.moves.specs.Exceeding.{overfull, exceeds_at}
use Rattle.fields.specs.Lent.{Lent, Writes, WritesAct, with_act, with_steps, with_acc, with_accumulators, with_name}
use Rattle.moves.specs.Moves.{Standing, Turned, GoesOn}
use Rattle.moves.proofs.Withs.{act_with, with_with}
use Rattle.moves.proofs.Standings.{few, fault_here, asks, plain, calm, went, done}

-- The accumulator, and how many were made.
abbrev grown : State → ℕ → Accumulator → ℕ → State
grown s m c v = with_accumulators (with_acc s m c) v

same_act : (s : State) (i m v : ℕ) (c : Accumulator) → act (grown s m c v) i ≡ act s i
unfolding with_accumulators with_acc
same_act s i m v c = refl

same_steps : (s : State) (i m v : ℕ) (c : Accumulator) (x : Activity) → (with_act (grown s m c v) i x).steps ≡ s.steps
unfolding with_accumulators with_acc with_act
same_steps s i m v c x = refl

applied_making : (s : State) (i m v : ℕ) (c : Accumulator) (x : Activity) → m ≡ s.accumulators → v ≡ m + 1
    → with_steps (with_act (grown s m c v) i x) (s.steps + 1) ≡ applied s i (writing x (make c))
unfolding with_steps with_act with_accumulators with_acc applied with_stores
applied_making s i m v c x e z = rw (z, e)

module _ {b : List ℕ} {p : Program} {s : State} {i work n o : ℕ} (l : Lent b s) (w : Standing p s i work (Acc n o)) (left : false ≡ leb work s.steps) where
  -- A 17th accumulator.
  pub full : 16 ≤ s.accumulators → true ≡ exceeds base p s (effect p s i)
  unfolding fault_for exceeds_at overfull
  full h = asks w (sym (fault_here w refl)) (rw (sym left, le-leb 16 s.accumulators h))

  pub made : {b₁ b₂ b₃ b₄ : List ℕ} {m v u k r : ℕ} {f : Operator} {c : Accumulator} → n < 8 → m ≡ s.accumulators → m < 16 → k ≡ i % 256 → f ≡ operator_of o → c ≡ new_accumulator k f
      → (m < 16 → Writes (λ (t : State). with_acc t m c) b b₁) → v ≡ m + 1 → Writes (λ (t : State). with_accumulators t v) b₁ b₂ → u ≡ m + 1
      → (n < 8 → WritesAct (λ (a : Activity). with_name a n u) b₂ b₃ i) → GoesOn b₃ b₄ i 3 r → Turned p s i b₄ r
  unfolding fault_for effect_of overfull past is_end
  made {m = m} {v = v} {u = u} {k = k} {c = c} small e room own op q put z count y name g =
      let h = few w in
      let j : k ≡ i = omega arith in
      let new : c ≡ new_accumulator i (operator_of o) = q ∙ rw (j, op) in
      let t = count.writes _ ((put room).writes s l) in
      let x = with_name (act s i) n u in
      let a = rw (same_act s i m v c) at ((name small).writes _ t h) in
      let mine : act (with_act (grown s m c v) i x) i ≡ x = act_with x t h in
      let on = went w refl (span_is (Acc n o)) left a (ap (λ (a : Activity). a.frames) mine) (ap (λ (a : Activity). a.depth) mine) (same_steps s i m v c x) g in
      let fits : leb 16 s.accumulators ≡ false = lt-leb 16 s.accumulators (rw (sym e) room) in
      let end = rw (mine, with_with, applied_making s i m v c (past p x) e z, new, y, e) at on in
      done w (fault_here w refl) (plain w left (rw fits) (λ o. omega arith)) end (g.number ∙ sym (calm w))
