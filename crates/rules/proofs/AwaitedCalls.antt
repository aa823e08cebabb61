-- "It is 0 exactly for an activity that doesn't wait.": a step is answered with 16 exactly where the number is not 0, for every table, state and activity number, and so
-- at each step of a run.
use Prim.Native.Nat.{ℕ, ◌+◌}
use native.Mathlib.Omega.{arith}
use mathlib.Core.List.{List, [], ◌∷◌, map}
use mathlib.Core.Bool.{Bool, true, false, cond}
use mathlib.Core.Path.{◌≡◌, refl, sym, ap, ◌∙◌}
use lib.Dec.{ltb, eqb}
use borrow.Author.Tests.{eqb-true, eqb-false, ne_eqb}
use Rattle.std.specs.Prelude.{Ok, Err}
use Rattle.program.specs.Bodies.{Program, program_of}
use Rattle.program.specs.Table.{number_of}
use Rattle.program.specs.Refusal.{refusal_number, refusal_at}
use Rattle.program.specs.declared.refusal.Refusal.TheVariants.{Spent}
use Rattle.rules.specs.declared.state.Fault.{Fault}
use Rattle.rules.specs.declared.state.Status.{Status}
use Rattle.rules.specs.declared.state.Status.TheVariants.{Running, AtBarrier, Ended, Faulted}
use Rattle.rules.specs.declared.state.State.{State}
use Rattle.rules.specs.State.{Answer, fault_number, status_answer, answer_number}
use Rattle.rules.specs.Effects.{applied}
use Rattle.rules.specs.Steps.{Limits, awaited, effect, refusal, exceeds, stepped, advance, unfit, step_with, step, start_state, awaited_count}
use Rattle.rules.specs.Runs.{answers_from, awaited_from, awaiteds}
use Rattle.rules.proofs.AnswerNumbers.{unfit_small, unfit_number, refused_number}
use Rattle.rules.proofs.Awaited.{awaited_zero}
use Rattle.rules.proofs.Calls.{start_taken}

fault_other : (f : Fault) → eqb (100 + fault_number f) 16 ≡ false
fault_other f = ne_eqb (100 + fault_number f) 16 (λ e. omega arith)

-- A step that is taken is not answered with 16.
taken_other : (x : Status) → eqb (status_answer x) 16 ≡ false
taken_other Running = refl
taken_other AtBarrier = refl
taken_other Ended = refl
taken_other (Faulted f) = fault_other f

module _ (l : Limits) (t : List ℕ) where
  -- Nor one that 1 to 13 turn down.
  unfit_other : (s : State) → (unfit l (number_of l.work t) (program_of t) s ≡ 0 → ⊥) → eqb (refusal_number (refusal_at (unfit l (number_of l.work t) (program_of t) s))) 16 ≡ false
  unfit_other s h = rw (unfit_number l t s h) (ne_eqb _ 16 (λ e. omega (arith, unfit_small l t s)))

  pub awaited_answer : (s : State) (i : ℕ) → ltb 0 (awaited_count l t s i) ≡ eqb (answer_number (step l t s i).answer) 16
  unfolding awaited_count step step_with advance
  awaited_answer s i = go (eqb (unfit l (number_of l.work t) p s) 0) refl
    where
      p : Program
      p = program_of t

      r : ℕ
      r = refusal p s i

      turn : (y : Bool) → eqb r 0 ≡ y → (z : Bool)
          → eqb r 16 ≡ eqb (answer_number (cond y (cond z (stepped (Err Spent) s) (stepped (Ok (effect p s i).self.status) (applied s i (effect p s i)))) (stepped (Err (refusal_at r)) s)).answer) 16
      turn true e true = rw (eqb-true r 0 e)
      turn true e false = rw (eqb-true r 0 e) (sym (taken_other (effect p s i).self.status))
      turn false e z = rw (refused_number p s i (eqb-false _ 0 e))

      go : (x : Bool) → eqb (unfit l (number_of l.work t) p s) 0 ≡ x → ltb 0 (cond x (awaited p s i) 0) ≡ eqb (answer_number (cond x (advance l p s i) (stepped (Err (refusal_at (unfit l (number_of l.work t) p s))) s)).answer) 16
      go true e = awaited_zero p s i ∙ turn (eqb r 0) refl (exceeds l p s (effect p s i))
      go false e = sym (unfit_other s (eqb-false _ 0 e))

  pub awaited_answers : (s : State) (order : List ℕ) → map (ltb 0) (awaited_from l t s order) ≡ map (λ (a : Answer). eqb (answer_number a) 16) (answers_from l t s order)
  unfolding awaited_from answers_from
  awaited_answers s [] = refl
  awaited_answers s (i ∷ order) = rw (awaited_answer s i, awaited_answers (step l t s i).state order)

  -- From the start state of an accepted table on.
  pub awaiteds_start : number_of l.work t ≡ 0 → (order : List ℕ) → awaiteds l t order ≡ awaited_from l t start_state order
  unfolding awaiteds
  awaiteds_start n order = ap (λ (s : State). awaited_from l t s order) (start_taken l t n)
