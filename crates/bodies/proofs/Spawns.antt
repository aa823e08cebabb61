-- ASYNC.
use Prim.Native.Nat.{ℕ, ◌+◌, ◌<◌, ◌≤◌}
use native.Mathlib.Omega.{arith}
use mathlib.Core.Path.{◌≡◌, refl, sym, ap, ◌∙◌}
use mathlib.Core.List.{List}
use mathlib.Core.Bool.{true, false}
use lib.Seq.{set_comm}
use lib.Dec.{leb}
use borrow.Author.Tests.{le-leb, lt-leb}
use Rattle.program.specs.Command.{is_end}
use Rattle.program.specs.Bodies.{Program, program_of}
use Rattle.program.specs.declared.command.Command.TheVariants.{Async}
use Rattle.program.proofs.ShapeRows.{span_is}
use Rattle.rules.specs.declared.state.Status.TheVariants.{Running}
use Rattle.rules.specs.declared.state.Frame.{Frame}
use Rattle.rules.specs.declared.state.Activity.{Activity}
use Rattle.rules.specs.declared.state.State.{State}
use Rattle.rules.specs.State.{act}
use Rattle.rules.specs.Faults.{async_fault, fault_for}
use Rattle.rules.specs.Effects.{stopped, with_register, child, spawning, past, effect_of, with_stores, applied}
use Rattle.rules.specs.Steps.{base, fault, effect, exceeds}
use Rattle.rules.proofs.Turn.{turn}
use Rattle.places.specs.Known.{Known}
use Rattle.moves.specs.Exceeding.{overfull, exceeds_at}
use Rattle.places.proofs.Roots.{stack_of}
use Rattle.fields.specs.Lent.{Lent, Writes, WritesAct, with_act, with_steps, with_activities, with_spawner, with_frame, with_depth}
use Rattle.moves.specs.Moves.{Standing, Turned, GoesOn}
use Rattle.bodies.specs.Lends.{ReadsIn}
use Rattle.bodies.specs.Gives.{Gives}
use Rattle.moves.proofs.Withs.{act_with, act_other, with_with, then}
use Rattle.moves.proofs.Standings.{spawned, few, fault_here, asks, plain, calm, went, done}

-- THE FAULT

-- It is that of an accepted table.
pub met : {t starts b₀ : List ℕ} {s : State} {i work b m f : ℕ} → Known t starts → Lent b₀ s → Standing (program_of t) s i work (Async b m)
    → ReadsIn (λ (p : Program) (a : Activity). async_fault p a m) t b₀ i f → fault (program_of t) s i ≡ f
unfolding fault_for
met {t} {s = s} {i} k l w read = fault_here w refl ∙ sym (read.reads s l (few w) (stack_of (record { known = k; formed = w.formed }) (spawned w) (turn (program_of t) s i w.goes).unended))

-- THE CHILD

abbrev pub first : ℕ → Frame
first b = record { offset = 0; body = b; runs = 0; first = 0 }

-- what the child's entry is before the names and the clocks
abbrev pub young : ℕ → ℕ → ℕ → Activity → Activity
young reg w b x = with_depth (with_frame (with_spawner (with_register (stopped x Running) reg) w) 0 (first b)) 1

pub grown : {b₀ b₁ b₂ b₃ b₄ b₅ : List ℕ} {n : ℕ} (reg w b : ℕ) → WritesAct (λ (a : Activity). stopped a Running) b₀ b₁ n → WritesAct (λ (a : Activity). with_register a reg) b₁ b₂ n
    → WritesAct (λ (a : Activity). with_spawner a w) b₂ b₃ n → WritesAct (λ (a : Activity). with_frame a 0 (first b)) b₃ b₄ n → WritesAct (λ (a : Activity). with_depth a 1) b₄ b₅ n
    → WritesAct (young reg w b) b₀ b₅ n
grown reg w b f g h k d = then (then (then (then f g) h) k) d

-- the child, the count, and the spawner, who goes on
applied_spawning : (s : State) (i n v : ℕ) (x kid : Activity) → n ≡ s.activities → v ≡ n + 1 → (i ≡ n → ⊥)
    → with_steps (with_act (with_activities (with_act s n kid) v) i x) (s.steps + 1) ≡ applied s i (spawning x kid)
unfolding with_steps with_act with_activities applied with_stores
applied_spawning s i n v x kid e z d = rw (z, set_comm s.acts n i kid x (λ q. d (sym q)), e)

steps_kept : (s : State) (n : ℕ) (x : Activity) (v : ℕ) → (with_activities (with_act s n x) v).steps ≡ s.steps
unfolding with_act with_activities
steps_kept s n x v = refl

module _ {b₀ : List ℕ} {p : Program} {s : State} {i work b m : ℕ} (l : Lent b₀ s) (w : Standing p s i work (Async b m)) (clear : fault p s i ≡ 0) (left : false ≡ leb work s.steps) where
  -- a 65th activity
  pub crowded : 64 ≤ s.activities → true ≡ exceeds base p s (effect p s i)
  unfolding exceeds_at overfull
  crowded h = asks w (sym clear) (rw (sym left, le-leb 64 s.activities h))

  pub born : {b₁ b₂ b₃ b₄ : List ℕ} {n reg o v r : ℕ} → n ≡ s.activities → n < 64 → reg ≡ (act s i).register → o ≡ i → WritesAct (young reg o b) b₀ b₁ n → Gives m b₁ b₂ i n → v ≡ n + 1
      → Writes (λ (t : State). with_activities t v) b₂ b₃ → GoesOn b₃ b₄ i 3 r → Turned p s i b₄ r
  unfolding effect_of overfull past is_end with_activities child
  born {n = n} {reg = reg} {o = o} {v = v} e few-acts x y f g z c k =
      let a = act s i in
      let d : i ≡ n → ⊥ = λ q. let u = spawned w in omega arith in
      let u = f.writes s l few-acts in
      let old = young reg o b (act s n) in
      let q : act (with_act s n old) n ≡ old = act_with old l few-acts in
      let same : act (with_act s n old) i ≡ a = act_other s i n old d in
      let grew = g.gives _ u (few w) few-acts d (ap (λ (t : Activity). t.holds) q) in
      let full = rw (q, same, with_with, x, y) at grew in
      let kid = child i a b m in
      let t : Lent _ (with_activities (with_act s n kid) v) = c.writes _ full in
      let own : act (with_activities (with_act s n kid) v) i ≡ a = act_other s i n kid d in
      let on = went w refl (span_is (Async b m)) left t (ap (λ (t : Activity). t.frames) own) (ap (λ (t : Activity). t.depth) own) (steps_kept s n kid v) k in
      let room : leb 64 s.activities ≡ false = lt-leb 64 s.activities (rw (sym e) few-acts) in
      done w clear (plain w left (rw room) (λ o. omega arith)) (rw (own, applied_spawning s i n v (past p a) kid e z d) at on) (k.number ∙ sym (calm w))
