-- The numbers of the calls that are turned down are within the papers' 1 to 18, so that a refusal by its number has that number.
use Prim.Native.Nat.{ℕ, suc, zero, ◌≤◌, ◌<◌}
use native.Mathlib.Omega.{arith}
use mathlib.Core.List.{List}
use mathlib.Core.Bool.{Bool, true, false, cond}
use mathlib.Core.Path.{◌≡◌, refl, sym}
use lib.Dec.{ltb, eqb}
use borrow.Author.Tests.{eqb-true, eqb-false}
use Rattle.std.specs.Prelude.{Ok, Err}
use Rattle.program.specs.Bodies.{Program, program_of}
use Rattle.program.specs.Table.{number_of}
use Rattle.program.specs.declared.refusal.Refusal.{Refusal}
use Rattle.program.specs.declared.refusal.Refusal.TheVariants.{Size, Bodies, Unknown, Cut, Operand, Named, Atom, Surplus, Activities, Clocks, Accumulators, Work, State as Unfit, Unspawned, Ended, Waits, Spent, Room, Buffer}
use Rattle.program.specs.Refusal.{refusal_number, refusal_at, told}
use Rattle.program.proofs.NumberLaws.{number_small}
use Rattle.program.proofs.Refusals.{refusal_back, told_answered}
use Rattle.rules.specs.declared.state.State.{State}
use Rattle.rules.specs.State.{ended, answer_number}
use Rattle.rules.specs.declared.state.Status.TheVariants.{Running}
use Rattle.rules.specs.WellFormed.{well_formed}
use Rattle.rules.specs.Steps.{Limits, waits, refusal, unfit, start, start_with, stepped, ready}

-- The number of an answer that is turned down by n, which is also `answer_number (Err (refusal_at n))`.
pub number_back : (n : ℕ) → 0 < n → n ≤ 18 → refusal_number (refusal_at n) ≡ n
number_back zero h k = absurd (omega arith)
number_back (suc n) h k = refusal_back n (omega arith)

-- No refusal has the number 0, which is that of a value.
pub number_positive : (e : Refusal) → 0 < refusal_number e
number_positive Size = omega arith
number_positive Bodies = omega arith
number_positive Unknown = omega arith
number_positive Cut = omega arith
number_positive Operand = omega arith
number_positive Named = omega arith
number_positive Atom = omega arith
number_positive Surplus = omega arith
number_positive Activities = omega arith
number_positive Clocks = omega arith
number_positive Accumulators = omega arith
number_positive Work = omega arith
number_positive Unfit = omega arith
number_positive Unspawned = omega arith
number_positive Ended = omega arith
number_positive Waits = omega arith
number_positive Spent = omega arith
number_positive Room = omega arith
number_positive Buffer = omega arith

-- THE NUMBERS

-- 1 to 12, then 13.
pub unfit_small : (l : Limits) (t : List ℕ) (s : State) → unfit l (number_of l.work t) (program_of t) s ≤ 13
unfolding unfit
unfit_small l t s = go (number_of l.work t) (number_small l.work t) (eqb (number_of l.work t) 0) (well_formed l.phase (program_of t) s)
  where
    go : (n : ℕ) → n ≤ 12 → (x w : Bool) → cond x (cond w 0 13) n ≤ 13
    go n h true true = omega arith
    go n h true false = omega arith
    go n h false w = omega arith

-- 14 to 16.
pub refusal_range : (p : Program) (s : State) (i : ℕ) → (refusal p s i ≡ 0 → ⊥) → (14 ≤ refusal p s i) × (refusal p s i ≤ 16)
unfolding refusal
refusal_range p s i = go (ltb i s.activities) (ended s i) (waits p s i)
  where
    go : (x y z : Bool) → (◌≡◌ {A = ℕ} (cond x (cond y 15 (cond z 16 0)) 14) 0 → ⊥) → (14 ≤ cond x (cond y 15 (cond z 16 0)) 14) × (cond x (cond y 15 (cond z 16 0)) 14 ≤ 16)
    go true true z h = (omega arith, omega arith)
    go true false true h = (omega arith, omega arith)
    go true false false h = absurd (h refl)
    go false y z h = (omega arith, omega arith)

-- THE ANSWERS

-- Of a start.
pub start_number : (l : Limits) (t : List ℕ) → answer_number (start l t).answer ≡ number_of l.work t
unfolding start start_with
start_number l t = go _ _ (number_of l.work t) (number_small l.work t) (eqb (number_of l.work t) 0) refl
  where
    go : (a b : State) (n : ℕ) → n ≤ 12 → (x : Bool) → eqb n 0 ≡ x → answer_number (cond x (stepped (Ok Running) a) (stepped (Err (refusal_at n)) b)).answer ≡ n
    go a b n h true e = sym (eqb-true n 0 e)
    go a b n h false e = let k = eqb-false n 0 e in number_back n (omega (arith, k)) (omega arith)

-- Of a step that 1 to 13 turn down.
pub unfit_number : (l : Limits) (t : List ℕ) (s : State) → (unfit l (number_of l.work t) (program_of t) s ≡ 0 → ⊥)
    → refusal_number (refusal_at (unfit l (number_of l.work t) (program_of t) s)) ≡ unfit l (number_of l.work t) (program_of t) s
unfit_number l t s h = number_back _ (omega (arith, h)) (omega (arith, unfit_small l t s))

-- And that 14 to 16 do.
pub refused_number : (p : Program) (s : State) (i : ℕ) → (refusal p s i ≡ 0 → ⊥) → refusal_number (refusal_at (refusal p s i)) ≡ refusal p s i
refused_number p s i h = let r = refusal_range p s i h in number_back _ (omega (arith, r.0)) (omega (arith, r.1))

-- Of the ready set.
pub ready_number : (l : Limits) (t : List ℕ) (s : State) → told (ready l t s) ≡ unfit l (number_of l.work t) (program_of t) s
unfolding ready
ready_number l t s = told_answered _ _ (omega (arith, unfit_small l t s))
