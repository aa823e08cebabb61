-- Runs end: no list has more accepted steps than the table's work, and from every point there is a list that finishes the run. Some activity is ready
-- where not all have ended; its step lowers the work pending.
use Prim.Native.Nat.{ℕ, zero, suc, ◌≤◌, ◌<◌}
use native.Mathlib.Omega.{arith}
use native.Mathlib.Nat.{not-suc-le-zero}
use mathlib.Core.List.{List, [], ◌∷◌, ◌++◌}
use mathlib.Core.Bool.{true, false}
use mathlib.Core.Path.{◌≡◌, refl, sym, ap, ◌∙◌, subst}
use mathlib.Core.Logic.{◌⊎◌, inl, inr}
use lib.ListN.{length}
use borrow.Author.Tests.{eqb-true}
use Rattle.rules.specs.declared.state.State.{State}
use Rattle.program.specs.Bodies.{program_of}
use Rattle.program.specs.Count.{work_of, own_work}
use Rattle.program.specs.Table.{number_of}
use Rattle.program.proofs.ShapeLaws.{accepted, numbered, numbered_counted}
use Rattle.rules.specs.Search.{some_below}
use Rattle.rules.specs.Steps.{Limits, can_step, refusal, step}
use Rattle.rules.specs.Runs.{taken, answers, answers_from, finished, run, run_from, is_accepted}
use Rattle.rules.proofs.Tests.{decide}
use Rattle.rules.proofs.Search.{Witness, some_below_witness, some_below_none}
use Rattle.rules.proofs.Bits.{bits_zero}
use Rattle.rules.proofs.Pending.{total}
use Rattle.rules.proofs.ReachedStep.{work_step}
use Rattle.rules.proofs.Demand3.{counted, good_at, Good, alive, ready_set_lem, taking, good_step, run_on}

-- A list of steps, all taken, after which every spawned activity has ended.
pub record Finishing (l : Limits) (t : List ℕ) (s : State) : Type 0 where
  pub more : List ℕ
  pub taken_all : taken (answers_from l t s more) ≡ length more
  pub done : finished (run_from l t s more) ≡ true

module _ (l : Limits) (t : List ℕ) (w : l.work ≤ l.phase) (n : number_of l.work t ≡ 0) where
  -- Termination: every list has at most the work's number of accepted steps.
  pub terminates : (order : List ℕ) → taken (answers l t order) ≤ work_of (program_of t)
  terminates order = omega (arith, counted l t w n order, (good_at l t w n order).reached.work)

  -- Some activity is ready, or all have ended.
  ready_or_done : (s : State) → Good l t s → (Witness 64 (can_step (program_of t) s)) ⊎ (finished s ≡ true)
  ready_or_done s g = go (decide (some_below 64 (can_step (program_of t) s)))
    where
      go : (some_below 64 (can_step (program_of t) s) ≡ true) ⊎ (some_below 64 (can_step (program_of t) s) ≡ false)
          → (Witness 64 (can_step (program_of t) s)) ⊎ (finished s ≡ true)
      go (inl e) = inl (some_below_witness 64 (can_step (program_of t) s) e)
      go (inr e) =
          inr (alive l t w n s g
          (ready_set_lem l t w n s g ∙ bits_zero 64 (can_step (program_of t) s) (some_below_none 64 (can_step (program_of t) s) e)))

  -- With less than k of work pending: each step taken lowers it.
  finishing : (k : ℕ) (s : State) → Good l t s → total own_work (program_of t) 1 s < k → Finishing l t s
  unfolding run_from answers_from taken can_step
  finishing zero s g h = absurd (not-suc-le-zero h)
  finishing (suc k) s g h = go (finishing k) (ready_or_done s g)
    where
      go : ((s : State) → Good l t s → total own_work (program_of t) 1 s < k → Finishing l t s)
          → (Witness 64 (can_step (program_of t) s)) ⊎ (finished s ≡ true) → Finishing l t s
      go ih (inr e) = record { more = []; taken_all = refl; done = e }
      go ih (inl x) =
          record { more = x.at ∷ rest.more; taken_all = rw answer (omega (arith, rest.taken_all)); done = rest.done }
        where
          r : refusal (program_of t) s x.at ≡ 0
          r = eqb-true _ _ x.passes

          answer : is_accepted (step l t s x.at).answer ≡ true
          answer = ap (λ y. is_accepted y.answer) (taking l t w n s g x.at r)

          falls : total own_work (program_of t) 1 (step l t s x.at).state < k
          falls =
              let q = work_step (program_of t) (accepted t (numbered l.work t n)) (numbered_counted l.work t n).activities s g.reached x.at r in
              subst (λ y. total own_work (program_of t) 1 y.state < k) (sym (taking l t w n s g x.at r)) (omega arith)

          rest : Finishing l t (step l t s x.at).state
          rest = ih (step l t s x.at).state (good_step l t w n s g x.at) falls

  -- From every point of a run a list finishes it.
  pub finishes_from : (order : List ℕ) → Finishing l t (run l t order)
  finishes_from order = finishing (suc (total own_work (program_of t) 1 (run l t order))) (run l t order) (good_at l t w n order) (omega arith)

  -- The order with that list is a finished run.
  pub completes : (order : List ℕ) → finished (run l t (order ++ (finishes_from order).more)) ≡ true
  completes order = subst (λ s. finished s ≡ true) (sym (run_on l t w n order (finishes_from order).more)) (finishes_from order).done
