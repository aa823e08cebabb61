-- Calls of a run: the start, who is turned down, and what the answer of a step says.
use Prim.Native.Nat.{ℕ, ◌<◌}
use mathlib.Core.List.{List}
use mathlib.Core.Bool.{Bool, true, false, cond}
use mathlib.Core.Path.{◌≡◌, refl}
use mathlib.Core.Logic.{◌⊎◌, inl, inr}
use lib.Dec.{ltb, leb}
use borrow.Author.Tests.{lt-ltb}
use Rattle.std.specs.Prelude.{Ok}
use Rattle.program.specs.declared.command.Command.{Command}
use Rattle.rules.specs.declared.state.Status.{Status}
use Rattle.rules.specs.declared.state.Status.TheVariants.{Running, AtBarrier, Ended, Faulted}
use Rattle.rules.specs.declared.state.Activity.{Activity}
use Rattle.rules.specs.declared.state.State.{State}
use Rattle.rules.specs.declared.answer.Stepped.{Stepped}
use Rattle.program.specs.Bodies.{Program}
use Rattle.program.specs.Table.{number_of}
use Rattle.rules.specs.State.{ended, is_ended, top, is_at_barrier}
use Rattle.rules.specs.Faults.{Env}
use Rattle.rules.specs.Effects.{Effect, applied, past, pushed, end_of, again, popped, next_of, stopped}
use Rattle.rules.specs.Steps.{stepped, start, Limits, start_state, start_with, waits, refusal}
use Rattle.rules.specs.Runs.{is_fault}
use Rattle.rules.proofs.Tests.{decide, true_false}
use Rattle.rules.proofs.Shapes.{Kind, ends, meets, forks, opens, enters, moves}

-- A step taken answers with the activity's status after it.
abbrev pub taken_as : State → ℕ → Effect → Stepped
taken_as s i e = stepped (Ok e.self.status) (applied s i e)

-- The start of an accepted table.
pub start_taken : (l : Limits) (t : List ℕ) → number_of l.work t ≡ 0 → (start l t).state ≡ start_state
unfolding start start_with
start_taken l t n = rw n

-- Who can step is spawned, unended and does not wait.
pub refused_waits : (p : Program) (s : State) (i : ℕ) → (refusal p s i ≡ 0 → ⊥) → i < s.activities → ended s i ≡ false → waits p s i ≡ true
unfolding refusal
refused_waits p s i h l e = go (decide (waits p s i))
  where
    go : (waits p s i ≡ true) ⊎ (waits p s i ≡ false) → waits p s i ≡ true
    go (inl w) = w
    go (inr w) = absurd (h (rw (lt-ltb _ _ l, e, w)))

-- FAULTS

-- An unended activity after a step without a fault has not faulted.
unfaulted : (t : Status) → is_ended t ≡ false → is_fault (Ok t) ≡ false
unfaulted Running e = refl
unfaulted AtBarrier e = refl
unfaulted Ended e = absurd (true_false true refl e)
unfaulted (Faulted f) e = absurd (true_false true refl e)

-- By the kind of the command.
pub no_fault : {p : Program} {e : Env} {i : ℕ} {a : Activity} {c : Command} {x : Effect} → is_ended a.status ≡ false → Kind p e i a c x
    → is_fault (Ok x.self.status) ≡ false
unfolding past pushed end_of again popped next_of
no_fault {p} {e} {i} {a} u (ends q s n) = rw s (go (leb a.depth 1) (ltb 1 (top a).runs))
  where
    go : (x y : Bool) → is_fault (Ok (cond x (stopped a Ended) (cond y (again a) (popped p a))).status) ≡ false
    go true y = refl
    go false true = unfaulted a.status u
    go false false = unfaulted a.status u
no_fault {p} {e} {i} {a} u (meets q s n) = rw s (go (is_at_barrier a.status))
  where
    go : (b : Bool) → is_fault (Ok (next_of p a b).status) ≡ false
    go true = refl
    go false = refl
no_fault {p} {e} {i} {a} u (forks b m q s n) = rw s (unfaulted a.status u)
no_fault {p} {e} {i} {a} u (opens b q s n) = rw s (unfaulted a.status u)
no_fault {p} {e} {i} {a} u (enters k b q s n) = rw s (unfaulted a.status u)
no_fault {p} {e} {i} {a} u (moves b g h t k s n) = rw (s, k.status) (unfaulted a.status u)
