-- The start state has the invariant: only main is there, and all that the table counts is pending.
use Prim.Native.Nat.{ℕ, ◌≤◌, ◌<◌}
use native.Mathlib.Omega.{arith}
use mathlib.Core.Bool.{true, false}
use mathlib.Core.Path.{◌≡◌, refl, subst}
use Rattle.program.specs.declared.command.Command.{Command}
use Rattle.rules.specs.declared.state.Activity.{Activity}
use Rattle.program.specs.Bodies.{Program}
use Rattle.program.specs.Count.{tally, work_of, activities_of, clocks_of, accumulators_of, own_activities, own_clocks, own_accumulators, own_work}
use Rattle.program.proofs.Shape.{Accepted}
use Rattle.rules.specs.State.{no_activity, no_frames, no_frame, act, is_ended, is_at_barrier, top}
use Rattle.rules.specs.Clocks.{holds, is_held}
use Rattle.rules.specs.Tree.{here}
use Rattle.rules.specs.Effects.{with_frames}
use Rattle.rules.specs.Steps.{start_state}
use Rattle.rules.proofs.Tests.{true_false}
use Rattle.rules.proofs.Sums.{sum_below}
use Rattle.rules.proofs.WellFormedStart.{start_sized}
use Rattle.rules.proofs.Shapes.{is_next}
use Rattle.rules.proofs.Holders.{EachHold, each_none}
use Rattle.rules.proofs.VirtualTime.{Fine, Timed, timed_none}
use Rattle.rules.proofs.Tree.{Open}
use Rattle.rules.proofs.Stack.{Stack, stack_lone}
use Rattle.rules.proofs.Potential.{lone_pend}
use Rattle.rules.proofs.Pending.{total}
use Rattle.rules.proofs.Reached.{Inv, Reached}

-- Activity 0 at the start.
main : Activity
main = with_frames no_activity 1 no_frames

-- A fact of each activity is one of main.
only_main : (P : ℕ → Activity → Type 0) → P 0 main → (x : ℕ) → x < start_state.activities → P x (act start_state x)
unfolding main
only_main P q x l = let e : 0 ≡ x = omega arith in subst (λ y. P y (act start_state y)) e q

-- Nobody holds a clock.
no_hold_lem : (x k : ℕ) → x < start_state.activities → holds (act start_state x) k ≡ true → ⊥
unfolding main EachHold
no_hold_lem x k l = only_main (λ x a. holds a k ≡ true → ⊥) (λ h. true_false (holds main k) h (each_none (λ h. is_held h.registration ≡ false) refl 8 k)) x l

-- Main runs and holds nothing.
start_fine : Fine 0 (λ c. 0) 0 0 main
unfolding main
start_fine =
    record {
      falls = λ h. absurd (omega arith);
      free = λ e. absurd (true_false false e refl);
      quiet = λ e. absurd (true_false false e refl);
      timed = each_none (Timed 0 (λ c. 0) 0) (timed_none 0 (λ c. 0) 0) 8;
    }

module _ (p : Program) (ok : Accepted p) where
  -- The invariant, at time 0.
  start_inv : Inv p start_state (λ x. 0) (λ c. 0)
  unfolding main
  start_inv =
      record {
        bounded = record { sized = start_sized; count = omega arith };
        fine = only_main (λ x a. Fine 0 (λ c. 0) 0 x a) start_fine;
        slow = λ x l. omega arith;
        stacks = only_main (λ x a. is_ended a.status ≡ false → Stack p a.depth a.frames) (λ e. stack_lone p ok no_frame ok.some refl refl);
        meets = only_main (λ x a. is_at_barrier a.status ≡ true → is_next (here p (top a)).command ≡ true) (λ e. absurd (true_false false e refl));
        marked = λ w j l.
            only_main (λ w a. is_ended a.status ≡ false → Open p a.depth a.frames j → (w < j) × (j ≤ 1)) (λ e o. absurd (omega (arith, o.deeper))) w l;
        contained = λ w j lw u m x k y l lx ly hx hy. absurd (no_hold_lem x k lx hx);
      }

  -- All is pending.
  pub start_total : (own : Command → ℕ) (late : ℕ) → total own p late start_state ≡ tally own p 0
  unfolding total sum_below
  start_total own late = let q = lone_pend own p ok late (with_frames no_activity 1 no_frames) no_frame refl refl refl ok.some refl refl in omega arith

  -- The start state is reached.
  pub start_reached : Reached p start_state
  unfolding work_of activities_of clocks_of accumulators_of
  start_reached =
      record {
        vt = λ x. 0;
        base = λ c. 0;
        inv = start_inv;
        activities = omega (arith, start_total own_activities 0);
        clocks = omega (arith, start_total own_clocks 0);
        accumulators = omega (arith, start_total own_accumulators 0);
        work = omega (arith, start_total own_work 1);
      }
