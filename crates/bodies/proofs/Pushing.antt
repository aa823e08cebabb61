-- FINISH, REPEAT and CHOOSE.
use Rattle.std.proofs.Common.{Result, Ok}
use Rattle.std.specs.Bool.{⊤}
use Prim.Native.Nat.{ℕ, zero, suc, ◌+◌, ◌<◌}
use native.Mathlib.Omega.{arith}
use mathlib.Core.Path.{◌≡◌, refl, sym, ap, ◌∙◌}
use mathlib.Core.List.{List}
use borrow.Author.Tests.{ne_eqb}
use Rattle.program.specs.Command.{is_end}
use Rattle.program.specs.Bodies.{Program}
use Rattle.program.specs.declared.refusal.Refusal.{Refusal}
use Rattle.program.specs.declared.command.Command.TheVariants.{Finish, Repeat, Choose}
use Rattle.program.proofs.ShapeRows.{names_is, span_is}
use Rattle.rules.specs.declared.state.Frame.{Frame}
use Rattle.rules.specs.declared.state.Activity.{Activity}
use Rattle.rules.specs.declared.state.State.{State}
use Rattle.rules.specs.State.{act}
use Rattle.rules.specs.Faults.{fault_for}
use Rattle.rules.specs.Effects.{alone, past, pushed, repeat_of, choose_of, effect_of}
use Rattle.moves.specs.Exceeding.{overfull}
use Rattle.fields.specs.Lent.{Reads, ReadsAct, WritesAct, with_act, with_frame, with_depth}
use Rattle.moves.specs.Moves.{Turns, Counts, GoesOn, unspent}
use Rattle.bodies.specs.Pushes.{Pushes}
use Rattle.moves.proofs.Withs.{then}
use Rattle.moves.proofs.Standings.{left, few, fault_here, plain, calm, steps_room, went, done_alone}

abbrev pub begun : ℕ → ℕ → ℕ → Frame
begun body runs first = record { offset = 0; body = body; runs = runs; first = first }

pub push_done : {b b₁ b₂ b₃ : List ℕ} {i d body runs first r : ℕ} → ReadsAct (λ (a : Activity). a.depth) b i d
    → (d < 16 → WritesAct (λ (a : Activity). with_frame a d (begun body runs first)) b b₁ i) → WritesAct (λ (a : Activity). with_depth a (d + 1)) b₁ b₂ i
    → Counts b₂ b₃ r → Pushes body runs first b b₃ i r
unfolding pushed with_act
push_done {i = i} {d = d} f g h k =
    record {
      number = k.number;
      pushes =
          λ s l j room deep.
          let e : d ≡ (act s i).depth = f.reads s l j in
          k.counts _ (rw e at ((then (g (rw e deep)) h).writes s l j)) room;
    }

runs_some : (p : Program) (a : Activity) (body n : ℕ) → (n ≡ 0 → ⊥) → repeat_of p a n body ≡ pushed a body n 0
unfolding repeat_of
runs_some p a body zero h = absurd (h refl)
runs_some p a body (suc n) h = refl

-- A step is left.
module _ {b b₁ : List ℕ} {i work : ℕ} {a : Result ⊤ Refusal} {u : ⊤} (asked : Reads (unspent work) b a) (one : a ≡ Ok u) where
  pub finish_done : {body first r : ℕ} → Reads (λ (t : State). t.activities) b first → Pushes body 0 first b b₁ i r → Turns (Finish body) b b₁ work i r
  unfolding fault_for effect_of overfull pushed
  finish_done {body = body} f g = record {
    turns =
        λ p s l w.
        let room = left work l asked one in
        let x = pushed (act s i) body 0 s.activities in
        let m = rw (f.reads s l) at (g.pushes s l (few w) (steps_room w room) (w.deep (names_is (Finish body)))) in
        done_alone w (fault_here w refl) (plain w room refl (λ q. omega arith)) x refl m (g.number ∙ sym (calm w));
  }

  pub repeat_none : {n body r : ℕ} → n ≡ 0 → GoesOn b b₁ i 3 r → Turns (Repeat n body) b b₁ work i r
  unfolding fault_for effect_of overfull repeat_of past is_end
  repeat_none {n} {body} e g = record {
    turns =
        λ p s l w.
        let room = left work l asked one in
        done_alone w (fault_here w refl) (plain w room refl (λ q. omega arith)) (past p (act s i)) (rw e) (went w refl (span_is (Repeat n body)) room l refl refl refl g) (g.number ∙ sym (calm w));
  }

  pub repeat_some : {n body r : ℕ} → (n ≡ 0 → ⊥) → Pushes body n 0 b b₁ i r → Turns (Repeat n body) b b₁ work i r
  unfolding fault_for effect_of overfull pushed repeat_of
  repeat_some {n} {body} e g = record {
    turns =
        λ p s l w.
        let room = left work l asked one in
        done_alone w (fault_here w refl) (plain w room refl (λ q. omega arith)) (pushed (act s i) body n 0) (ap alone (runs_some p (act s i) body n e))
        (g.pushes s l (few w) (steps_room w room) (w.deep (names_is (Repeat n body)))) (g.number ∙ sym (calm w));
  }

  pub choose_none : {body v r : ℕ} → ReadsAct (λ (a : Activity). a.register) b i v → v ≡ 0 → GoesOn b b₁ i 2 r → Turns (Choose body) b b₁ work i r
  unfolding fault_for effect_of overfull choose_of past is_end
  choose_none {body} f e g = record {
    turns =
        λ p s l w.
        let room = left work l asked one in
        let z : (act s i).register ≡ 0 = sym (f.reads s l (few w)) ∙ e in
        done_alone w (fault_here w refl) (plain w room refl (λ q. omega arith)) (past p (act s i)) (rw z) (went w refl (span_is (Choose body)) room l refl refl refl g) (g.number ∙ sym (calm w));
  }

  pub choose_some : {body v r : ℕ} → ReadsAct (λ (a : Activity). a.register) b i v → (v ≡ 0 → ⊥) → Pushes body 0 0 b b₁ i r → Turns (Choose body) b b₁ work i r
  unfolding fault_for effect_of overfull pushed choose_of
  choose_some {body} f e g = record {
    turns =
        λ p s l w.
        let room = left work l asked one in
        let z = ne_eqb (act s i).register 0 (λ q. e (f.reads s l (few w) ∙ q)) in
        done_alone w (fault_here w refl) (plain w room refl (λ q. omega arith)) (pushed (act s i) body 0 0) (rw z)
        (g.pushes s l (few w) (steps_room w room) (w.deep (names_is (Choose body)))) (g.number ∙ sym (calm w));
  }
