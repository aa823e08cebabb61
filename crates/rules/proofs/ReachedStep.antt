-- A step that is not turned down leads from a reached state to a reached state, faulting or not: what it makes comes out of what was pending, and what is pending
-- falls.
use Prim.Native.Nat.{ℕ, ◌+◌, ◌≤◌, ◌<◌}
use native.Mathlib.Omega.{arith}
use mathlib.Core.Bool.{Bool, true, false, cond}
use mathlib.Core.Path.{◌≡◌, refl, sym, ap, ◌∙◌, subst}
use mathlib.Core.Logic.{◌⊎◌, inl, inr}
use lib.Dec.{ltb, leb}
use borrow.Author.Tests.{ltb-true}
use Rattle.program.specs.declared.command.Command.{Command}
use Rattle.program.specs.declared.command.Command.TheVariants.{Next}
use Rattle.rules.specs.declared.state.Status.TheVariants.{Ended}
use Rattle.rules.specs.declared.state.Activity.{Activity}
use Rattle.rules.specs.declared.state.State.{State}
use Rattle.program.specs.Command.{is_end}
use Rattle.program.specs.Bodies.{Program}
use Rattle.program.specs.Count.{own_activities, activities_of, own_clocks, own_accumulators, own_work}
use Rattle.program.proofs.Shape.{Accepted}
use Rattle.rules.specs.State.{act, ended, is_at_barrier, top}
use Rattle.rules.specs.Tree.{in_finish_body}
use Rattle.rules.specs.Faults.{Env, spoilt}
use Rattle.rules.specs.Effects.{env_of, applied, Effect, one, Spawned, spawned_count, nobody, clocked_count, past, pushed, end_of, again, popped, next_of, stopped}
use Rattle.rules.specs.Steps.{at, refusal, effect, breach, fault}
use Rattle.rules.specs.Runs.{spares}
use Rattle.rules.proofs.Tests.{and_true, true_false}
use Rattle.rules.proofs.Sums.{sum_below_at, upd, upd_other, upd_same}
use Rattle.rules.proofs.Sized.{SizedActivity}
use Rattle.rules.proofs.Shapes.{meets, is_next, Counts, counts, OfChild, Kind, ends, forks, opens, enters, moves, kind, breaching}
use Rattle.rules.proofs.Applied.{Fits, activities_applied, clocks_applied, accumulators_applied, steps_applied}
use Rattle.rules.proofs.Holders.{turned, turned_none}
use Rattle.rules.proofs.VirtualTime.{Fine, later, fine_self, fine_born, later_slow, fine_stopped}
use Rattle.rules.proofs.Containment.{held_turned, born_after, Opening}
use Rattle.rules.proofs.Stack.{Stack}
use Rattle.rules.proofs.Potential.{pend, pend_ended}
use Rattle.rules.proofs.Spending.{spent, spare, pend_child, spends, standing, stack_born, Left, left_by, undone}
use Rattle.rules.proofs.Turn.{turn, faultless, fault_ways, doing, failed, by_fault}
use Rattle.rules.proofs.Sizes.{size_self, size_born, size_stopped}
use Rattle.rules.proofs.Pending.{total, spent_work, next_makes, spent_own, next_work, work_some, total_applied}
use Rattle.rules.proofs.Reached.{Inv, Reached}
use Rattle.rules.proofs.ReachedApply.{grows, inv_applied}

-- A fact that is not about the child.
any_child : (P : Type 0) → P → (ch : Spawned) → OfChild (λ c. P) ch
unfolding OfChild
any_child P q nobody = tt
any_child P q (one c) = q

-- No command changes its activity's spawner.
same_spawner : {p : Program} {e : Env} {i : ℕ} {a : Activity} {c : Command} {x : Effect} → Kind p e i a c x → x.self.spawner ≡ a.spawner
unfolding past pushed end_of again popped next_of
same_spawner {p} {e} {i} {a} (ends q s n) = ap (λ b. b.spawner) s ∙ go (leb a.depth 1) (ltb 1 (top a).runs)
  where
    go : (x y : Bool) → (cond x (stopped a Ended) (cond y (again a) (popped p a))).spawner ≡ a.spawner
    go true y = refl
    go false true = refl
    go false false = refl
same_spawner {p} {e} {i} {a} (meets q s n) = ap (λ b. b.spawner) s ∙ go (is_at_barrier a.status)
  where
    go : (b : Bool) → (next_of p a b).spawner ≡ a.spawner
    go true = refl
    go false = refl
same_spawner (forks b m q s n) = ap (λ b. b.spawner) s
same_spawner (opens b q s n) = ap (λ b. b.spawner) s
same_spawner (enters k b q s n) = ap (λ b. b.spawner) s
same_spawner (moves b g h t k s n) = ap (λ b. b.spawner) s ∙ k.spawner

module _ (p : Program) (ok : Accepted p) (few : activities_of p ≤ 64) (s : State) (g : Reached p s) (i : ℕ) (h : i < s.activities) (r : ended s i ≡ false) where
  -- The activity's arrays.
  size : SizedActivity (act s i)
  size = g.inv.bounded.sized.each i (omega (arith, h, g.inv.bounded.count))

  -- What is pending of it is part of the whole.
  pend_total : (own : Command → ℕ) (late : ℕ) → pend own p late (act s i) ≤ total own p late s
  unfolding total
  pend_total own late = sum_below_at s.activities (λ x. pend own p late (act s x)) i h

  -- The kind of its command.
  its : Kind p (env_of s) i (act s i) (at p s i).command (doing p s i)
  its = kind p (env_of s) i (act s i) (at p s i).command (at p s i).inner

  -- What its command counts.
  row : Counts (at p s i).command (doing p s i)
  row = counts p (env_of s) i (act s i) (at p s i).command (at p s i).inner

  -- A STEP WITHOUT A FAULT

  -- What is pending of it pays for the step.
  spending : (own : Command → ℕ) (late : ℕ) → late ≤ own Next
      → pend own p late (act s i)
      ≡ spent own late (at p s i).command (is_at_barrier (act s i).status) + pend own p late (doing p s i).self + pend_child own p late (doing p s i).spawned
      + spare own p (act s i) (at p s i).command
  unfolding at
  spending own late l = spends p ok s i (act s i) (g.inv.stacks i h r) r (g.inv.meets i h) (at p s i).command refl own late l its

  -- What is made comes out of what is pending.
  weighs : (own : Command → ℕ) → (is_next (at p s i).command ≡ true → own (at p s i).command ≡ 0)
      → spent own 0 (at p s i).command (is_at_barrier (act s i).status) ≡ own (at p s i).command
  unfolding at
  weighs own z = spent_own own (at p s i).command (is_at_barrier (act s i).status) (λ b. z (g.inv.meets i h b))

  -- There is room for who is spawned.
  pub doing_fits : Fits s (doing p s i).spawned
  unfolding Counts Fits
  doing_fits =
      let x = spending own_activities 0 (omega arith) in
      let y = weighs own_activities (λ n. (next_makes (at p s i).command n).0) in
      let m = pend_total own_activities 0 in
      go (doing p s i).spawned (omega (arith, g.activities, row.0))
    where
      go : (ch : Spawned) → s.activities + spawned_count 0 ch ≤ 64 → Fits s ch
      go nobody l = tt
      go (one c) l = omega arith

  -- What is pending falls by the weight of the step and by what it spares.
  doing_total : (own : Command → ℕ) (late : ℕ) → late ≤ own Next
      → total own p late (applied s i (doing p s i)) + spent own late (at p s i).command (is_at_barrier (act s i).status) + spare own p (act s i) (at p s i).command
      ≡ total own p late s
  doing_total own late l =
      let x = total_applied own p late s g.inv.bounded i h (doing p s i) doing_fits in
      let y = spending own late l in
      omega arith

  -- The work pending falls by 1 and by what is spared.
  pub doing_work : total own_work p 1 (applied s i (doing p s i)) + 1 + spares p s i ≡ total own_work p 1 s
  unfolding Counts spares spare
  doing_work =
      let x = doing_total own_work 1 next_work in
      let y = spent_work (at p s i).command (is_at_barrier (act s i).status) row.3 in
      omega arith

  -- The invariant after it.
  doing_inv : fault p s i ≡ 0
      → Inv p (applied s i (doing p s i))
      (upd (upd g.vt s.activities (g.vt i)) i (later (g.vt i) (at p s i).command (is_at_barrier (act s i).status)))
      (upd g.base s.clocks (g.vt i))
  unfolding at breach
  doing_inv f =
      inv_applied p s g.vt g.base g.inv i (doing p s i)
      (record {
        present = h;
        runs = r;
        fits = doing_fits;
        same_spawner = same_spawner its;
        holdings = held_turned s.clocks (act s i) (doing p s i).self (turned its);
        child = born_after size.holds8 (faultless p s i f).0 its;
        opening = left.opening;
      })
      vt' base' (λ c l. upd_other g.base s.clocks (g.vt i) c (λ z. omega arith))
      (λ x l n. upd_other (upd g.vt s.activities (g.vt i)) i _ x n ∙ upd_other g.vt s.activities (g.vt i) x (λ z. omega arith))
      (size_self p size its) (size_born p size its)
      (subst (λ v. Fine made' base' v i (doing p s i).self) (sym now)
      (fine_self p (env_of s) g.base (g.vt i) i (act s i) (g.inv.fine i h) r (standing p ok s i (act s i) st r (g.inv.meets i h)) its))
      (subst (λ v. OfChild (Fine made' base' v s.activities) (doing p s i).spawned) (sym born_time)
      (fine_born p (env_of s) g.base (g.vt i) i (act s i) (g.inv.fine i h) r made' s.activities (grows s.clocks (doing p s i).clocked) h size.holds8 (faultless p s i f).0 its))
      left.stack left.meets (stack_born p ok s i (act s i) st r (g.inv.meets i h) (at p s i).command refl its)
      (rw now (omega (arith, later_slow (g.vt i) (at p s i).command (is_at_barrier (act s i).status), g.inv.slow i h)))
      (any_child (vt' s.activities ≤ s.steps + 1) (rw born_time (omega (arith, g.inv.slow i h))) (doing p s i).spawned)
    where
      st : Stack p (act s i).depth (act s i).frames
      st = g.inv.stacks i h r

      left : Left p s (act s i) (doing p s i)
      left = left_by p ok s i (act s i) st r (g.inv.meets i h) (at p s i).command refl its

      made' : ℕ
      made' = clocked_count s.clocks (doing p s i).clocked

      vt' : ℕ → ℕ
      vt' = upd (upd g.vt s.activities (g.vt i)) i (later (g.vt i) (at p s i).command (is_at_barrier (act s i).status))

      base' : ℕ → ℕ
      base' = upd g.base s.clocks (g.vt i)

      now : vt' i ≡ later (g.vt i) (at p s i).command (is_at_barrier (act s i).status)
      now = upd_same (upd g.vt s.activities (g.vt i)) i (later (g.vt i) (at p s i).command (is_at_barrier (act s i).status))

      born_time : vt' s.activities ≡ g.vt i
      born_time = upd_other (upd g.vt s.activities (g.vt i)) i _ s.activities (λ z. omega arith) ∙ upd_same g.vt s.activities (g.vt i)

  -- The state after it is reached.
  pub doing_reached : fault p s i ≡ 0 → Reached p (applied s i (doing p s i))
  unfolding Counts
  doing_reached f =
      record {
        vt = upd (upd g.vt s.activities (g.vt i)) i (later (g.vt i) (at p s i).command (is_at_barrier (act s i).status));
        base = upd g.base s.clocks (g.vt i);
        inv = doing_inv f;
        activities = made own_activities _ _ g.activities (activities_applied s i (doing p s i)) row.0 (λ n. (next_makes (at p s i).command n).0);
        clocks = made own_clocks _ _ g.clocks (clocks_applied s i (doing p s i)) row.1 (λ n. (next_makes (at p s i).command n).1);
        accumulators = made own_accumulators _ _ g.accumulators (accumulators_applied s i (doing p s i)) row.2 (λ n. (next_makes (at p s i).command n).2);
        work = omega (arith, g.work, doing_work, steps_applied s i (doing p s i));
      }
    where
      -- what is made and what is pending, of one count
      made : (own : Command → ℕ) (n n' : ℕ) {m most : ℕ} → n + total own p 0 s ≤ most → n' ≡ n + m → m ≡ own (at p s i).command
          → (is_next (at p s i).command ≡ true → own (at p s i).command ≡ 0) → n' + total own p 0 (applied s i (doing p s i)) ≤ most
      made own n n' a b c z = let x = doing_total own 0 (omega arith) in let y = weighs own z in omega arith

  -- A FAULT

  -- All that was pending of it is lost.
  failed_total : (own : Command → ℕ) (late : ℕ) → total own p late (applied s i (failed p s i)) + pend own p late (act s i) ≡ total own p late s
  unfolding Fits pend_child
  failed_total own late =
      let x = total_applied own p late s g.inv.bounded i h (failed p s i) tt in
      let z = pend_ended own p late (failed p s i).self refl in
      omega arith

  -- The command, one more at least, and what it would spare are never done.
  pub failed_work : (fault p s i ≡ 0 → ⊥) → total own_work p 1 (applied s i (failed p s i)) + 2 + spares p s i ≤ total own_work p 1 s
  unfolding at breach spoilt in_finish_body spares spare Counts
  failed_work f =
      let x = failed_total own_work 1 in
      let y = spent_work (at p s i).command (is_at_barrier (act s i).status) row.3 in
      let z =
      undone p ok s i (act s i) (g.inv.stacks i h r) r (g.inv.meets i h) (at p s i).command refl own_work 1 work_some (omega arith) next_work
      (deep (fault_ways p s i f)) its in
      omega arith
    where
      deep : (breach p s i ≡ 0 → ⊥) ⊎ (spoilt p s i (act s i) (at p s i).command ≡ true) → is_end (at p s i).command ≡ true → 1 < (act s i).depth
      deep (inl b) l = absurd (true_false _ l (breaching b its).0)
      deep (inr e) l =
          let q = and_true (is_end (at p s i).command) _ e in
          let d = and_true (ltb 1 (act s i).depth) _ (and_true (in_finish_body p (act s i)) _ q.1).0 in
          ltb-true 1 (act s i).depth d.0

  -- The state after it is reached.
  pub failed_reached : (fault p s i ≡ 0 → ⊥) → Reached p (applied s i (failed p s i))
  unfolding Fits OfChild Opening
  failed_reached f =
      record {
        vt = g.vt;
        base = g.base;
        inv = it;
        activities = omega (arith, g.activities, failed_total own_activities 0, activities_applied s i (failed p s i));
        clocks = omega (arith, g.clocks, failed_total own_clocks 0, clocks_applied s i (failed p s i));
        accumulators = omega (arith, g.accumulators, failed_total own_accumulators 0, accumulators_applied s i (failed p s i));
        work = omega (arith, g.work, failed_work f, steps_applied s i (failed p s i));
      }
    where
      it : Inv p (applied s i (failed p s i)) g.vt g.base
      it =
          inv_applied p s g.vt g.base g.inv i (failed p s i)
          (record {
            present = h;
            runs = r;
            fits = tt;
            same_spawner = refl;
            holdings = held_turned s.clocks (act s i) (failed p s i).self (turned_none s.clocks (act s i).holds 8);
            child = tt;
            opening = λ z. absurd (true_false true refl z);
          })
          g.vt g.base (λ c l. refl) (λ x l d. refl) (size_stopped (act s i) _ size) tt
          (fine_stopped s.clocks g.base (g.vt i) i (act s i) _ (g.inv.fine i h)) tt
          (λ z. absurd (true_false true refl z)) (λ z. absurd (true_false false z refl)) tt
          (omega (arith, g.inv.slow i h)) tt

-- A step that is not turned down keeps the invariant.
pub reached_step : (p : Program) (ok : Accepted p) → activities_of p ≤ 64 → (s : State) → Reached p s → (i : ℕ) → refusal p s i ≡ 0
    → Reached p (applied s i (effect p s i))
reached_step p ok few s g i e =
    let r = turn p s i e in
    by_fault p s i (λ x. Reached p (applied s i x)) (doing_reached p ok few s g i r.spawned r.unended) (failed_reached p ok few s g i r.spawned r.unended)

-- WHAT A STEP MAKES AND TAKES

-- There is room for who is spawned.
pub fits_step : (p : Program) (ok : Accepted p) → activities_of p ≤ 64 → (s : State) → Reached p s → (i : ℕ) → refusal p s i ≡ 0 → Fits s (effect p s i).spawned
unfolding Fits
fits_step p ok few s g i e =
    let r = turn p s i e in
    by_fault p s i (λ x. Fits s x.spawned) (λ f. doing_fits p ok few s g i r.spawned r.unended) (λ f. tt)

-- What is pending after a step is less by 1 at least, by 2 where it is a fault.
pub work_step : (p : Program) (ok : Accepted p) → activities_of p ≤ 64 → (s : State) → Reached p s → (i : ℕ) → refusal p s i ≡ 0
    → total own_work p 1 (applied s i (effect p s i)) + 1 ≤ total own_work p 1 s
work_step p ok few s g i e =
    let r = turn p s i e in
    by_fault p s i (λ x. total own_work p 1 (applied s i x) + 1 ≤ total own_work p 1 s)
    (λ f. omega (arith, doing_work p ok few s g i r.spawned r.unended)) (λ f. omega (arith, failed_work p ok few s g i r.spawned r.unended f))
