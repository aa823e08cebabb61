-- An effect keeps the invariant of reached states, where its activity and whom it spawns have the facts that the invariant asks of each.
use Prim.Native.Nat.{ℕ, ◌+◌, ◌≤◌, ◌<◌}
use native.Mathlib.Omega.{arith}
use mathlib.Core.Bool.{Bool, true, false}
use mathlib.Core.Path.{◌≡◌, sym, subst}
use Rattle.rules.specs.declared.state.State.{State}
use Rattle.program.specs.Bodies.{Program}
use Rattle.rules.specs.State.{act, is_at_barrier, top, is_ended}
use Rattle.rules.specs.Tree.{here}
use Rattle.rules.specs.Effects.{applied, Effect, clocked_count}
use Rattle.rules.proofs.Tests.{true_false}
use Rattle.rules.proofs.Sized.{SizedActivity}
use Rattle.rules.proofs.Shapes.{is_next, OfChild, of_child, clocked_count_lem}
use Rattle.rules.proofs.Applied.{Bounded, each, Fits}
use Rattle.rules.proofs.VirtualTime.{Fine, fine_on}
use Rattle.rules.proofs.Containment.{Orderly, marked', contained'}
use Rattle.rules.proofs.Stack.{Stack}
use Rattle.rules.proofs.Sizes.{bounded_applied}
use Rattle.rules.proofs.Reached.{Inv, nested}

-- Clocks are never fewer.
pub grows : (n : ℕ) (b : Bool) → n ≤ clocked_count n b
grows n b = omega (arith, clocked_count_lem n b)

module _ (p : Program) (s : State) (vt base : ℕ → ℕ) (v : Inv p s vt base) (i : ℕ) (e : Effect) (o : Orderly p s i e) (vt' base' : ℕ → ℕ)
    (bs : (c : ℕ) → c < s.clocks → base' c ≡ base c) (vs : (x : ℕ) → x < s.activities → (x ≡ i → ⊥) → vt' x ≡ vt x)
    (zs : SizedActivity e.self) (zc : OfChild SizedActivity e.spawned)
    (fs : Fine (clocked_count s.clocks e.clocked) base' (vt' i) i e.self)
    (fc : OfChild (Fine (clocked_count s.clocks e.clocked) base' (vt' s.activities) s.activities) e.spawned)
    (ss : is_ended e.self.status ≡ false → Stack p e.self.depth e.self.frames)
    (ms : is_at_barrier e.self.status ≡ true → is_next (here p (top e.self)).command ≡ true)
    (sc : OfChild (λ c. Stack p c.depth c.frames × (is_at_barrier c.status ≡ false)) e.spawned)
    (sl : vt' i ≤ s.steps + 1) (sn : OfChild (λ c. vt' s.activities ≤ s.steps + 1) e.spawned) where
  -- An effect with these facts keeps it.
  pub inv_applied : Inv p (applied s i e) vt' base'
  unfolding applied
  inv_applied =
      record {
        bounded = bounded_applied s z i e f zs zc;
        fine = each s z i h e f (λ x a. Fine made base' (vt' x) x a)
            (λ x l d. subst (λ n. Fine made base' n x (act s x)) (sym (vs x l d)) (fine_on s.clocks made base base' (vt x) x (act s x) (grows s.clocks e.clocked) bs (v.fine x l))) fs fc;
        slow = each s z i h e f (λ x a. vt' x ≤ s.steps + 1) (λ x l d. rw (vs x l d) (omega (arith, v.slow x l))) sl sn;
        stacks = each s z i h e f (λ x a. is_ended a.status ≡ false → Stack p a.depth a.frames) (λ x l d. v.stacks x l) ss
            (of_child _ (λ c. is_ended c.status ≡ false → Stack p c.depth c.frames) (λ c q z. q.0) e.spawned sc);
        meets = each s z i h e f (λ x a. is_at_barrier a.status ≡ true → is_next (here p (top a)).command ≡ true) (λ x l d. v.meets x l) ms
            (of_child _ (λ c. is_at_barrier c.status ≡ true → is_next (here p (top c)).command ≡ true) (λ c q z. absurd (true_false _ z q.1)) e.spawned sc);
        marked = marked' p s i e (nested p s vt base v) o v.marked;
        contained = contained' p s i e (nested p s vt base v) o;
      }
    where
      made : ℕ
      made = clocked_count s.clocks e.clocked

      z : Bounded s
      z = v.bounded

      h : i < s.activities
      h = o.present

      f : Fits s e.spawned
      f = o.fits
