-- What holds of a reached state: the invariant, and what is made and pending within the counts of the table. From it: where every
-- unended activity waits, none is unended.
use Prim.Native.Nat.{ℕ, ◌+◌, ◌≤◌, ◌<◌}
use mathlib.Core.Bool.{true, false}
use mathlib.Core.Path.{◌≡◌}
use mathlib.Core.Logic.{◌⊎◌, inl, inr}
use Rattle.rules.specs.declared.state.State.{State}
use Rattle.program.specs.Bodies.{Program}
use Rattle.program.specs.Count.{own_activities, activities_of, own_clocks, clocks_of, own_accumulators, accumulators_of, own_work, work_of}
use Rattle.rules.specs.State.{act, ended, is_at_barrier, top, hold}
use Rattle.rules.specs.Clocks.{holds}
use Rattle.rules.specs.Tree.{here, inside}
use Rattle.rules.specs.Steps.{waits}
use Rattle.rules.proofs.Tests.{decide, true_false}
use Rattle.rules.proofs.Shapes.{is_next}
use Rattle.rules.proofs.Applied.{Bounded}
use Rattle.rules.proofs.Holders.{EachHold}
use Rattle.rules.proofs.VirtualTime.{Fine}
use Rattle.rules.proofs.Tree.{Open}
use Rattle.rules.proofs.Containment.{Nested}
use Rattle.rules.proofs.Waiting.{Sane, no_standstill}
use Rattle.rules.proofs.Stack.{Stack}
use Rattle.rules.proofs.Pending.{total}

-- What holds of a state with a virtual time of activities and a base of clocks.
pub record Inv (p : Program) (s : State) (vt base : ℕ → ℕ) : Type 0 where
  -- the arrays' sizes; 64 activities at most
  pub bounded : Bounded s
  -- phase + base = time; quiesced at a barrier; an ended one holds nothing; a spawner is lower than its child
  pub fine : (x : ℕ) → x < s.activities → Fine s.clocks base (vt x) x (act s x)
  -- the time, and so each phase, is at most the steps taken
  pub slow : (x : ℕ) → x < s.activities → vt x ≤ s.steps
  -- an unended activity has a stack of bodies
  pub stacks : (x : ℕ) → x < s.activities → ended s x ≡ false → Stack p (act s x).depth (act s x).frames
  -- one at a barrier stands on NEXT
  pub meets : (x : ℕ) → x < s.activities → is_at_barrier (act s x).status ≡ true → is_next (here p (top (act s x))).command ≡ true
  -- owner < first ≤ activities for every open FINISH body
  pub marked : (w j : ℕ) → w < s.activities → ended s w ≡ false → Open p (act s w).depth (act s w).frames j → (w < j) × (j ≤ s.activities)
  -- two holders of one clock are inside the same open FINISH bodies
  pub contained : (w j : ℕ) → w < s.activities → ended s w ≡ false → Open p (act s w).depth (act s w).frames j → (x k y l : ℕ)
      → x < s.activities → y < s.activities → holds (act s x) k ≡ true → holds (act s y) l ≡ true
      → (hold (act s y) l).clock ≡ (hold (act s x) k).clock → inside s w j x ≡ true → inside s w j y ≡ true

-- A reached state: the invariant, and what is made and pending within the counts of the table.
pub record Reached (p : Program) (s : State) : Type 0 where
  pub vt : ℕ → ℕ
  pub base : ℕ → ℕ
  pub inv : Inv p s vt base
  -- what is made and what is pending is no more than the table counts
  pub activities : s.activities + total own_activities p 0 s ≤ activities_of p
  pub clocks : s.clocks + total own_clocks p 0 s ≤ clocks_of p
  pub accumulators : s.accumulators + total own_accumulators p 0 s ≤ accumulators_of p
  pub work : s.steps + total own_work p 1 s ≤ work_of p

module _ (p : Program) (s : State) (vt base : ℕ → ℕ) (v : Inv p s vt base) where
  -- A holder has not ended.
  ended_free : (x k : ℕ) → x < s.activities → holds (act s x) k ≡ true → ended s x ≡ false
  unfolding EachHold
  ended_free x k l h = go (decide (ended s x))
    where
      go : (ended s x ≡ true) ⊎ (ended s x ≡ false) → ended s x ≡ false
      go (inl e) = absurd (true_false (holds (act s x) k) h ((v.fine x l).free e k))
      go (inr e) = e

  -- What containment asks.
  pub nested : Nested p s
  unfolding EachHold
  nested =
      record {
        bounded = v.bounded;
        falls = λ y p l. (v.fine y l).falls p;
        clocked = λ x k l h. ((v.fine x l).timed k).clocked h;
        contained = v.contained;
      }

  -- What the standstill argument asks.
  pub sane : Sane p s vt base
  unfolding EachHold
  sane =
      record {
        bounded = v.bounded;
        falls = λ y p l. (v.fine y l).falls p;
        ended_free = ended_free;
        quiesced = λ i k l b h. (v.fine i l).quiet b k;
        time = λ i k l h. ((v.fine i l).timed k).time h;
        contained = v.contained;
      }

-- Where every unended activity of a reached state waits, none is unended.
pub never_still : (p : Program) (s : State) → Reached p s → ((i : ℕ) → i < s.activities → ended s i ≡ false → waits p s i ≡ true)
    → (i : ℕ) → i < s.activities → ended s i ≡ true
never_still p s g = no_standstill p s g.vt g.base (sane p s g.vt g.base g.inv)
