-- RESUME and DROP.
use Prim.Native.Nat.{ℕ, ◌+◌, ◌*◌, ◌<◌}
use native.Mathlib.Omega.{arith}
use mathlib.Core.Path.{◌≡◌, refl, sym, ap, ◌∙◌}
use mathlib.Core.List.{List}
use mathlib.Core.Bool.{Bool, true, false}
use lib.Dec.{leb}
use Rattle.program.specs.Command.{is_end, width, held}
use Rattle.program.specs.Bodies.{Program}
use Rattle.program.specs.declared.command.Command.{Command}
use Rattle.program.specs.declared.command.Command.TheVariants.{Resume, Drop}
use Rattle.program.proofs.ShapeRows.{span_is}
use Rattle.rules.specs.declared.state.Hold.{Hold}
use Rattle.rules.specs.declared.state.Activity.{Activity}
use Rattle.rules.specs.declared.state.State.{State}
use Rattle.rules.specs.State.{act, no_hold, hold}
use Rattle.rules.specs.Clocks.{is_held, holds, quiesce}
use Rattle.rules.specs.Faults.{fault_for}
use Rattle.rules.specs.Effects.{past, effect_of}
use Rattle.rules.specs.Steps.{fault}
use Rattle.moves.specs.Exceeding.{overfull}
use Rattle.fields.specs.Lent.{Lent, ReadsAct, WritesAct, with_act, with_hold, with_steps}
use Rattle.moves.specs.Moves.{Standing, Turned, GoesOn}
use Rattle.moves.proofs.Withs.{act_with, with_with, steps_with}
use Rattle.moves.proofs.Standings.{few, fault_here, plain, calm, went, done_alone}

module _ {b : List ℕ} {s : State} {i k : ℕ} {h : Hold} {r : Bool} (l : Lent b s) (small : i < 64) (under : ReadsAct (λ (a : Activity). hold a k) b i h)
    (e : r ≡ is_held h.registration) where
  pub holds_here : r ≡ holds (act s i) k
  holds_here = rw (under.reads s l small) at e

-- A hold anew, and on.
rehold : {b b₁ b₂ : List ℕ} {p : Program} {s : State} {i work k r : ℕ} {h : Hold} {c : Command} → Lent b s → Standing p s i work c → is_end c ≡ false → width c + 2 * held c ≡ 2
    → false ≡ leb work s.steps → WritesAct (λ (a : Activity). with_hold a k h) b b₁ i → GoesOn b₁ b₂ i 2 r
    → Lent b₂ (with_steps (with_act s i (past p (with_hold (act s i) k h))) (s.steps + 1))
rehold {s = s} {i = i} {k = k} {h = h} l w m n left f g =
    let x = with_hold (act s i) k h in
    let e : act (with_act s i x) i ≡ x = act_with x l (few w) in
    rw (e, with_with) at (went w m n left (f.writes s l (few w)) (ap (λ (a : Activity). a.frames) e) (ap (λ (a : Activity). a.depth) e) (steps_with s i x) g)

module _ {b : List ℕ} {p : Program} {s : State} {i work k : ℕ} {h : Hold} {q : Bool} (l : Lent b s) where
  pub resume_fault : (w : Standing p s i work (Resume k)) → ReadsAct (λ (a : Activity). hold a k) b i h → q ≡ is_held h.registration → q ≡ false → fault p s i ≡ 1
  unfolding fault_for
  resume_fault w under e n = fault_here w refl ∙ rw (sym (holds_here l (few w) under e) ∙ n)

  pub drop_fault : (w : Standing p s i work (Drop k)) → ReadsAct (λ (a : Activity). hold a k) b i h → q ≡ is_held h.registration → q ≡ false → fault p s i ≡ 1
  unfolding fault_for
  drop_fault w under e n = fault_here w refl ∙ rw (sym (holds_here l (few w) under e) ∙ n)

  pub resumed : {b₁ b₂ : List ℕ} {x : Hold} {r : ℕ} (w : Standing p s i work (Resume k)) → ReadsAct (λ (a : Activity). hold a k) b i h → q ≡ is_held h.registration → q ≡ true → false ≡ leb work s.steps
      → x ≡ quiesce (hold (act s i) k) → WritesAct (λ (a : Activity). with_hold a k x) b b₁ i → GoesOn b₁ b₂ i 2 r → Turned p s i b₂ r
  unfolding fault_for effect_of overfull past is_end
  resumed w under e n left z f g =
      let clear : fault p s i ≡ 0 = fault_here w refl ∙ rw (sym (holds_here l (few w) under e) ∙ n) in
      done_alone w clear (plain w left refl (λ o. omega arith)) _ refl (rw z at (rehold l w refl (span_is (Resume k)) left f g)) (g.number ∙ sym (calm w))

  pub dropped : {b₁ b₂ : List ℕ} {x : Hold} {r : ℕ} (w : Standing p s i work (Drop k)) → ReadsAct (λ (a : Activity). hold a k) b i h → q ≡ is_held h.registration → q ≡ true → false ≡ leb work s.steps
      → x ≡ no_hold → WritesAct (λ (a : Activity). with_hold a k x) b b₁ i → GoesOn b₁ b₂ i 2 r → Turned p s i b₂ r
  unfolding fault_for effect_of overfull past is_end
  dropped w under e n left z f g =
      let clear : fault p s i ≡ 0 = fault_here w refl ∙ rw (sym (holds_here l (few w) under e) ∙ n) in
      done_alone w clear (plain w left refl (λ o. omega arith)) _ refl (rw z at (rehold l w refl (span_is (Drop k)) left f g)) (g.number ∙ sym (calm w))
