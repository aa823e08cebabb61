-- NEXT.
use Prim.Native.Nat.{ℕ, ◌≤◌, ◌<◌}
use native.Mathlib.Omega.{arith}
use native.Mathlib.Nat.{add-zero}
use mathlib.Core.Path.{◌≡◌, refl, sym, ap, ◌∙◌}
use mathlib.Core.List.{List, map}
use mathlib.Core.Bool.{Bool, true, false, ◌&&◌}
use lib.Dec.{leb, eqb}
use borrow.Author.Tests.{eqb-false}
use Rattle.program.specs.Command.{is_end}
use Rattle.program.specs.Bodies.{Program}
use Rattle.program.specs.declared.command.Command.TheVariants.{Next}
use Rattle.program.proofs.ShapeRows.{span_is}
use Rattle.rules.specs.declared.state.Registration.{Registration}
use Rattle.rules.specs.declared.state.Registration.TheVariants.{Free, Live, Quiesced}
use Rattle.rules.specs.declared.state.Status.{Status}
use Rattle.rules.specs.declared.state.Status.TheVariants.{Running, AtBarrier}
use Rattle.rules.specs.declared.state.Hold.{Hold}
use Rattle.rules.specs.declared.state.Activity.{Activity}
use Rattle.rules.specs.declared.state.State.{State}
use Rattle.rules.specs.State.{act, hold, is_at_barrier}
use Rattle.rules.specs.Clocks.{is_held, quiesced, quiesce, revived, pass}
use Rattle.rules.specs.Faults.{fault_for}
use Rattle.rules.specs.Effects.{with_holds, past, next_of, effect_of}
use Rattle.rules.specs.Steps.{base, effect, exceeds}
use Rattle.rules.proofs.Tests.{true_false}
use Rattle.rules.proofs.Search.{some_below_none}
use Rattle.moves.specs.Exceeding.{some_last, overfull, overtakes, exceeds_at}
use Rattle.fields.specs.Lent.{FineActivity, Lent, ReadsAct, WritesAct, with_act, with_status}
use Rattle.moves.specs.Moves.{Standing, Turned, Counts, GoesOn}
use Rattle.barriers.specs.Mapped.{Tells, Maps}
use Rattle.moves.proofs.Withs.{act_with, with_with, steps_with}
use Rattle.moves.proofs.Standings.{few, fault_here, asks, steps_room, went, done_alone}

-- ONE HOLD

-- arrival quiesces
quiesce_tells : {Change : Hold → Hold → Type 0} → ((h r : Hold) → Change h r → r ≡ quiesce h) → (h : Hold) → Tells Change quiesce h
quiesce_tells f h = record { held = λ q r t. f h r t; free = λ n. rw (free h.registration n) }
  where
    free : (x : Registration) → is_held x ≡ false → quiesced x ≡ x
    free Free q = refl
    free Live q = absurd (true_false true refl q)
    free Quiesced q = absurd (true_false true refl q)

-- passing passes, where no phase is the last
pass_tells : {Change : Hold → Hold → Type 0} → ((h r : Hold) → Change h r → (pass h).phase ≤ 65535 → r ≡ pass h) → (a : Activity) → FineActivity a → some_last a.holds ≡ false → (k : ℕ) → k < 8
    → Tells Change pass (hold a k)
unfolding some_last
pass_tells f a w p k j = record { held = λ q r t. f (hold a k) r t (fits q); free = λ n. rw (n, free (hold a k).registration n, add-zero) }
  where
    free : (x : Registration) → is_held x ≡ false → revived x ≡ x
    free Free q = refl
    free Live q = absurd (true_false true refl q)
    free Quiesced q = absurd (true_false true refl q)

    fits : is_held (hold a k).registration ≡ true → (pass (hold a k)).phase ≤ 65535
    fits q =
        let low = w.phases k in
        let n : is_held (hold a k).registration && eqb (hold a k).phase 65535 ≡ false = some_below_none 8 _ p k j in
        let m = eqb-false (hold a k).phase 65535 (rw q at n) in
        rw q (omega arith)

-- THE COMMAND

-- whether the activity is at a meeting, as it was tested
pub meeting : {b : List ℕ} {s : State} {i : ℕ} {st : Status} {q v : Bool} → Lent b s → i < 64 → ReadsAct (λ (a : Activity). a.status) b i st → q ≡ is_at_barrier st → q ≡ v → is_at_barrier (act s i).status ≡ v
meeting {s = s} l h f e n = sym (ap is_at_barrier (f.reads s l h)) ∙ sym e ∙ n

module _ {b : List ℕ} {p : Program} {s : State} {i work : ℕ} (l : Lent b s) (w : Standing p s i work Next) (left : false ≡ leb work s.steps) where
  -- number 17 where a step is left
  exceeding : {r : Bool} → r ≡ overtakes (act s i) → r ≡ exceeds base p s (effect p s i)
  unfolding exceeds_at overfull fault_for
  exceeding e = asks w (sym (fault_here w refl)) (rw (sym left) e)

  pub last_phase : is_at_barrier (act s i).status ≡ true → true ≡ some_last (act s i).holds → true ≡ exceeds base p s (effect p s i)
  unfolding overtakes
  last_phase e f = exceeding (rw e f)

  -- a status and holds anew
  renewed : {b₁ b₂ : List ℕ} {Change : Hold → Hold → Type 0} (f : Hold → Hold) {st : _} → ((k : ℕ) → k < 8 → Tells Change f (hold (act s i) k)) → Maps Change b b₁ i → WritesAct (λ (a : Activity). with_status a st) b₁ b₂ i
      → Lent b₂ (with_act s i (with_holds (act s i) st (map f (act s i).holds)))
  renewed f {st = st} q m t =
      let y = with_holds (act s i) (act s i).status (map f (act s i).holds) in
      rw (act_with y l (few w), with_with) at (t.writes _ (m.maps f s l (few w) q) (few w))

  pub arrived : {b₁ b₂ b₃ : List ℕ} {Change : Hold → Hold → Type 0} {r : ℕ} → ((h x : Hold) → Change h x → x ≡ quiesce h) → is_at_barrier (act s i).status ≡ false → Maps Change b b₁ i → WritesAct (λ (a : Activity). with_status a AtBarrier) b₁ b₂ i
      → Counts b₂ b₃ r → Turned p s i b₃ r
  unfolding fault_for effect_of next_of overtakes with_act
  arrived {b₃ = b₃} f e m t k =
      let x = with_holds (act s i) AtBarrier (map quiesce (act s i).holds) in
      done_alone w (fault_here w refl) (exceeding (rw e)) x (rw e) (k.counts _ (renewed quiesce (λ n h. quiesce_tells f (hold (act s i) n)) m t) (steps_room w left)) k.number

  pub gone : {b₁ b₂ b₃ : List ℕ} {Change : Hold → Hold → Type 0} {r : ℕ} → ((h x : Hold) → Change h x → (pass h).phase ≤ 65535 → x ≡ pass h) → is_at_barrier (act s i).status ≡ true
      → false ≡ some_last (act s i).holds → Maps Change b b₁ i
      → WritesAct (λ (a : Activity). with_status a Running) b₁ b₂ i → GoesOn b₂ b₃ i 1 r → Turned p s i b₃ r
  unfolding fault_for effect_of next_of overtakes past is_end
  gone {b₃ = b₃} f e n m t g =
      let x = with_holds (act s i) Running (map pass (act s i).holds) in
      let z : act (with_act s i x) i ≡ x = act_with x l (few w) in
      let y = went w refl (span_is Next) left (renewed pass (pass_tells f (act s i) (l.fine.each i (few w)) (sym n)) m t) (ap (λ (a : Activity). a.frames) z) (ap (λ (a : Activity). a.depth) z) (steps_with s i x) g in
      done_alone w (fault_here w refl) (exceeding (rw (e, ← n))) (past p x) (rw e) (rw (z, with_with) at y) g.number
