-- What is pending in all activities: what a step weighs of it, and how an effect changes it.
use Prim.Native.Nat.{ℕ, suc, ◌+◌, ◌-◌, ◌≤◌, ◌<◌}
use native.Mathlib.Omega.{arith}
use mathlib.Core.List.{[]}
use mathlib.Core.Bool.{Bool, true, false, cond}
use mathlib.Core.Path.{◌≡◌, refl, sym, ap, ◌∙◌, subst}
use borrow.Author.Tests.{eqb-true}
use Rattle.program.specs.declared.command.Command.{Command}
use Rattle.program.specs.declared.command.Command.TheVariants.{Next}
use Rattle.rules.specs.declared.state.Activity.{Activity}
use Rattle.rules.specs.declared.state.State.{State}
use Rattle.program.specs.Command.{Row, row_at, opcode, row_of}
use Rattle.program.specs.Bodies.{Program}
use Rattle.program.specs.Count.{own_activities, own_clocks, own_accumulators, own_work}
use Rattle.program.proofs.ShapeRows.{work_is, activities_is, clocks_is, accumulators_is}
use Rattle.rules.specs.State.{act, zero_state, no_activity}
use Rattle.rules.specs.Effects.{env_of, applied, Effect, one, Spawned, spawned_count, nobody}
use Rattle.rules.proofs.Sums.{sum_below, sum_below_one}
use Rattle.rules.proofs.Shapes.{is_next, Counts, counts}
use Rattle.rules.proofs.Applied.{Bounded, Fits, act_self, act_old, act_child}
use Rattle.rules.proofs.Potential.{pend}
use Rattle.rules.proofs.Spending.{spent, pend_child}

-- What is pending in all activities.
unfoldable pub total : (Command → ℕ) → Program → ℕ → State → ℕ
total own p late s = sum_below s.activities (λ x. pend own p late (act s x))

-- THE WEIGHT OF A STEP

-- Each step weighs 1 of the work.
pub spent_work : (c : Command) (b : Bool) → own_work c ≡ 1 + cond (is_next c) 1 0 → spent own_work 1 c b ≡ 1
unfolding spent
spent_work c true e = refl
spent_work c false e = omega arith

-- NEXT makes nothing.
pub next_makes : (c : Command) → is_next c ≡ true → (own_activities c ≡ 0) × (own_clocks c ≡ 0) × (own_accumulators c ≡ 0)
unfolding is_next row_of
next_makes c e =
    let q : row_of c ≡ row_of Next = ap row_at (eqb-true (opcode c) 1 e) in
    (ap (λ (r : Row). r.activities) q ∙ activities_is Next, ap (λ (r : Row). r.clocks) q ∙ clocks_is Next, ap (λ (r : Row). r.accumulators) q ∙ accumulators_is Next)

-- Where NEXT has no weight, a step weighs what its command does.
pub spent_own : (own : Command → ℕ) (c : Command) (b : Bool) → (b ≡ true → own c ≡ 0) → spent own 0 c b ≡ own c
unfolding spent
spent_own own c true h = sym (h refl)
spent_own own c false h = go (is_next c)
  where
    go : (v : Bool) → own c - cond v 0 0 ≡ own c
    go true = omega arith
    go false = omega arith

-- Both steps of NEXT count.
pub next_work : 1 ≤ own_work Next
next_work = omega (arith, work_is Next)

-- Every command counts.
pub work_some : (c : Command) → 0 < own_work c
unfolding Counts
work_some c = omega (arith, (counts [] (env_of zero_state) 0 no_activity c []).3)

-- AFTER A STEP

-- The activity, its child, and no other change it.
pub total_applied : (own : Command → ℕ) (p : Program) (late : ℕ) (s : State) → Bounded s → (i : ℕ) → i < s.activities → (e : Effect) → Fits s e.spawned
    → total own p late (applied s i e) + pend own p late (act s i) ≡ total own p late s + pend own p late e.self + pend_child own p late e.spawned
unfolding total pend_child sum_below Fits applied
total_applied own p late s z i h e f = go e.spawned refl
  where
    P : Activity → ℕ
    P b = pend own p late b

    core : sum_below s.activities (λ x. P (act (applied s i e) x)) + P (act s i) ≡ sum_below s.activities (λ x. P (act s x)) + P e.self
    core =
        subst
        (λ y. sum_below s.activities (λ x. P (act (applied s i e) x)) + P (act s i) ≡ sum_below s.activities (λ x. P (act s x)) + P y)
        (act_self s z i h e f)
        (sum_below_one s.activities (λ x. P (act (applied s i e) x)) (λ x. P (act s x)) i h (λ k l n. ap P (act_old s i e k l n)))

    go : (ch : Spawned) → e.spawned ≡ ch
        → sum_below (spawned_count s.activities ch) (λ x. P (act (applied s i e) x)) + P (act s i) ≡ total own p late s + P e.self + pend_child own p late ch
    go nobody q = omega (arith, core)
    go (one c) q =
        let d : P (act (applied s i e) s.activities) ≡ P c = ap P (act_child s z i e c q (subst (λ ch. Fits s ch) q f)) in
        let m : s.activities + 1 ≡ suc s.activities = omega arith in
        rw m (omega (arith, core))
