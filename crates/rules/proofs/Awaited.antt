-- How many an activity waits for is 0 exactly where 16 does not apply; and who waits, as a search.
use Prim.Native.Nat.{ℕ, ◌<◌}
use mathlib.Core.Bool.{Bool, true, false, cond, ◌&&◌, not}
use mathlib.Core.Path.{◌≡◌, refl, sym, ◌∙◌}
use lib.Dec.{ltb, eqb}
use borrow.Author.Tests.{ltb-true, lt-ltb, eqb-true, not-true}
use Rattle.program.specs.declared.command.Command.{Command}
use Rattle.program.specs.Bodies.{Program}
use Rattle.rules.specs.declared.state.Activity.{Activity}
use Rattle.rules.specs.declared.state.State.{State}
use Rattle.rules.specs.Search.{some_below}
use Rattle.rules.specs.State.{act, ended}
use Rattle.rules.specs.Waiting.{waits_for, awaited_at}
use Rattle.rules.specs.Steps.{at, breach, awaited, waits, refusal}
use Rattle.rules.proofs.Tests.{and_true}
use Rattle.rules.proofs.Counting.{count_some}

-- Somebody is waited for.
abbrev pub waits_at : Program → State → ℕ → Activity → Command → Bool
waits_at p s i a c = some_below s.activities (waits_for p s i a c)

module _ (p : Program) (s : State) (i : ℕ) where
  -- The command that i stands on.
  abbrev on : Command
  on = (at p s i).command

  -- Of one that is spawned and has not ended.
  module _ (l : i < s.activities) (u : ended s i ≡ false) where
    pub awaited_live : awaited p s i ≡ cond (eqb (breach p s i) 0) (awaited_at p s i (act s i) on) 0
    unfolding awaited
    awaited_live = rw (lt-ltb i s.activities l, u)

    pub waits_live : waits p s i ≡ eqb (breach p s i) 0 && waits_at p s i (act s i) on
    unfolding waits awaited_at
    waits_live = rw awaited_live (go (eqb (breach p s i) 0))
      where
        go : (b : Bool) → ltb 0 (cond b (awaited_at p s i (act s i) on) 0) ≡ b && waits_at p s i (act s i) on
        go true = count_some s.activities (waits_for p s i (act s i) on)
        go false = refl

  -- What it says of an activity that it waits.
  pub record Waiting : Type 0 where
    pub spawned : i < s.activities
    pub unended : ended s i ≡ false
    pub no_breach : breach p s i ≡ 0
    pub some : waits_at p s i (act s i) on ≡ true

  pub waiting_parts : waits p s i ≡ true → Waiting
  unfolding waits awaited
  waiting_parts e =
      let q = and_true (ltb i s.activities) _ (guarded _ _ e) in
      let r = and_true (not (ended s i)) _ q.1 in
      let l = ltb-true i s.activities q.0 in
      let u = not-true (ended s i) r.0 in
      record { spawned = l; unended = u; no_breach = eqb-true (breach p s i) 0 r.1; some = (and_true (eqb (breach p s i) 0) _ (sym (waits_live l u) ∙ e)).1 }
    where
      guarded : (b : Bool) (n : ℕ) → ltb 0 (cond b n 0) ≡ true → b ≡ true
      guarded true n h = refl
      guarded false n h = h

  -- "It is 0 exactly for an activity that doesn't wait.": of every state and every number, 16 is what the step is turned down with exactly where it is not 0.
  pub awaited_zero : ltb 0 (awaited p s i) ≡ eqb (refusal p s i) 16
  unfolding refusal waits
  awaited_zero = go (waits p s i) refl
    where
      idle : (x y : Bool) → false ≡ eqb (cond x (cond y 15 0) 14) 16
      idle true true = refl
      idle true false = refl
      idle false y = refl

      go : (b : Bool) → waits p s i ≡ b → waits p s i ≡ eqb (refusal p s i) 16
      go true e = let w = waiting_parts e in rw (lt-ltb i s.activities w.spawned, w.unended, e)
      go false e = rw e (idle (ltb i s.activities) (ended s i))
