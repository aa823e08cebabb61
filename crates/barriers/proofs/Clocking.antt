-- CLOCK.
use Prim.Native.Nat.{ℕ, ◌+◌, ◌≤◌, ◌<◌}
use native.Mathlib.Omega.{arith}
use mathlib.Core.Path.{◌≡◌, refl, sym, ap, ◌∙◌}
use mathlib.Core.List.{List}
use mathlib.Core.Bool.{Bool, true, false}
use lib.Dec.{leb}
use borrow.Author.Tests.{le-leb, lt-leb}
use Rattle.program.specs.Command.{is_end}
use Rattle.program.specs.Bodies.{Program}
use Rattle.program.specs.declared.command.Command.TheVariants.{Clock}
use Rattle.program.proofs.ShapeRows.{span_is}
use Rattle.rules.specs.declared.state.Registration.TheVariants.{Live}
use Rattle.rules.specs.declared.state.Hold.{Hold}
use Rattle.rules.specs.declared.state.Activity.{Activity}
use Rattle.rules.specs.declared.state.State.{State}
use Rattle.rules.specs.State.{act, hold}
use Rattle.rules.specs.Clocks.{is_held}
use Rattle.rules.specs.Faults.{fault_for}
use Rattle.rules.specs.Effects.{past, effect_of, applied, with_stores}
use Rattle.rules.specs.Steps.{base, fault, effect, exceeds}
use Rattle.moves.specs.Exceeding.{overfull, exceeds_at}
use Rattle.fields.specs.Lent.{Lent, Reads, Writes, ReadsAct, WritesAct, with_act, with_hold, with_steps, with_clocks}
use Rattle.moves.specs.Moves.{Standing, Turned, GoesOn}
use Rattle.moves.proofs.Withs.{act_with, with_with}
use Rattle.moves.proofs.Standings.{few, fault_here, asks, plain, calm, went, done}
use Rattle.barriers.proofs.Reholds.{holds_here}

-- The activity anew, and then the count of clocks.
act_clocks : (s : State) (i n : ℕ) → act (with_clocks s n) i ≡ act s i
unfolding with_clocks
act_clocks s i n = refl

with_clocks_lem : (s : State) (i n : ℕ) (x y : Activity) → with_act (with_clocks (with_act s i x) n) i y ≡ with_clocks (with_act s i y) n
unfolding with_clocks with_act
with_clocks_lem s i n x y = ap (λ (t : State). with_clocks t n) (with_with s i x y)

steps_clocks : (s : State) (i n : ℕ) (x : Activity) → (with_clocks (with_act s i x) n).steps ≡ s.steps
unfolding with_clocks with_act
steps_clocks s i n x = refl

module _ {b : List ℕ} {p : Program} {s : State} {i work k : ℕ} {h : Hold} {q : Bool} (l : Lent b s) (w : Standing p s i work (Clock k)) (under : ReadsAct (λ (a : Activity). hold a k) b i h)
    (e : q ≡ is_held h.registration) where
  pub held_fault : q ≡ true → fault p s i ≡ 4
  unfolding fault_for
  held_fault n = fault_here w refl ∙ rw (sym (holds_here l (few w) under e) ∙ n)

  clear : q ≡ false → fault p s i ≡ 0
  unfolding fault_for
  clear n = fault_here w refl ∙ rw (sym (holds_here l (few w) under e) ∙ n)

  -- number 17 for a 17th
  pub full : {m : ℕ} → q ≡ false → false ≡ leb work s.steps → Reads (λ (t : State). t.clocks) b m → 16 ≤ m → true ≡ exceeds base p s (effect p s i)
  unfolding exceeds_at overfull
  full {m} n left f u = asks w (sym (clear n)) (rw (sym left, ← f.reads s l, le-leb 16 m u))

  -- the clock is made
  module _ {b₁ b₂ b₃ : List ℕ} {m r : ℕ} (left : false ≡ leb work s.steps) (f : Reads (λ (t : State). t.clocks) b m)
      (put : WritesAct (λ (a : Activity). with_hold a k (record { phase = 0; clock = m; registration = Live })) b b₁ i) (count : Writes (λ (t : State). with_clocks t (m + 1)) b₁ b₂)
      (g : GoesOn b₂ b₃ i 2 r) where
    new : Activity
    new = with_hold (act s i) k (record { phase = 0; clock = m; registration = Live })

    made : Lent b₃ (with_steps (with_clocks (with_act s i (past p new)) (m + 1)) (s.steps + 1))
    unfolding new is_end
    made =
        let z : act (with_clocks (with_act s i new) (m + 1)) i ≡ new = act_clocks (with_act s i new) i (m + 1) ∙ act_with new l (few w) in
        let y = went w refl (span_is (Clock k)) left (count.writes _ (put.writes s l (few w))) (ap (λ (a : Activity). a.frames) z) (ap (λ (a : Activity). a.depth) z) (steps_clocks s i (m + 1) new) g in
        rw (z, with_clocks_lem s i (m + 1) new (past p new)) at y

    pub clocked : q ≡ false → m < 16 → Turned p s i b₃ r
    unfolding new effect_of overfull past applied with_stores with_act with_steps with_clocks
    clocked n u = let o = f.reads s l in done w (clear n) (plain w left (rw (← o, lt-leb 16 m u)) (λ d. omega arith)) (rw o at made) (g.number ∙ sym (calm w))
