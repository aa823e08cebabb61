-- The shape of what a command does: how it moves the stack, what it does to the clock names and to the accumulators and their names, and whom it spawns.
-- Facts about steps go by these few cases and not by the commands.
use Prim.Native.Nat.{ℕ, zero, suc, ◌+◌, ◌-◌, ◌≤◌, ◌<◌}
use native.Mathlib.Omega.{arith}
use mathlib.Core.List.{List, map}
use mathlib.Core.Bool.{Bool, true, false, cond, ◌&&◌, not}
use mathlib.Core.Path.{◌≡◌, refl}
use mathlib.Core.Logic.{◌⊎◌, inl, inr}
use lib.ListN.{set}
use lib.Dec.{ltb, leb, eqb}
use borrow.Author.Tests.{ltb-true, leb-false, eqb-false}
use Rattle.program.specs.declared.command.Command.{Command}
use Rattle.program.specs.declared.command.Command.TheVariants.{End, Next, Clock, Resume, Drop, Async, Finish, Repeat, Acc, Offer, Read, Reset, Put, Fetch, Store, Add, Atom, Choose}
use Rattle.program.specs.Command.{opcode, is_end}
use Rattle.program.specs.Bodies.{Program}
use Rattle.program.proofs.Shape.{Ranged}
use Rattle.program.proofs.ShapeRanges.{within}
use Rattle.rules.specs.declared.state.Status.{Status}
use Rattle.rules.specs.declared.state.Status.TheVariants.{Running, AtBarrier, Ended, Faulted}
use Rattle.rules.specs.declared.state.Registration.TheVariants.{Live}
use Rattle.rules.specs.declared.state.Frame.{Frame}
use Rattle.rules.specs.declared.state.Activity.{Activity}
use Rattle.rules.specs.declared.state.State.{State}
use Rattle.rules.specs.State.{operator_of, no_frame, no_hold, no_frames, no_holds, top, hold, bound, is_ended, is_at_barrier}
use Rattle.rules.specs.Clocks.{is_live, holds, quiesce, pass}
use Rattle.rules.specs.Tree.{is_finish, in_own_finish}
use Rattle.rules.specs.Faults.{bit, lends_unheld, lends_quiesced, async_fault, unbound, number_under, read_fault, fault_for}
use Rattle.rules.specs.Effects.{with_register, stopped, past, pushed, again, popped, end_of, next_of, repeat_of, choose_of, child, new_accumulator, touch, touch_all, untouched, Spawned, nobody, one, Write, keep, make, offer, reset, Effect, alone, effect_of, failing, env_of}
use Rattle.rules.proofs.Tests.{and_not, and_false, cond_zero, true_false, decide}
use Rattle.rules.proofs.Search.{some_below_none}
use Rattle.rules.proofs.Bodies.{moved}
use Rattle.rules.proofs.WellFormedStack.{Ran, by_finish, by_repeat, by_choose, level}

-- How command o moves a stack, where `made` activities were spawned: a is before, b after.
pub data Motion (p : Program) (made : ℕ) (o : Command) (a b : Activity) : Type 0 where
  -- NEXT, arriving
  stays : opcode o ≡ 1 → b.status ≡ AtBarrier → b.depth ≡ a.depth → b.frames ≡ a.frames → Motion p made o a b
  -- on to the next command
  goes : is_end o ≡ false → b.status ≡ Running → b.depth ≡ a.depth → b.frames ≡ set a.frames (a.depth - 1) (moved p (top a)) → Motion p made o a b
  -- a body begins
  begins : (f : Frame) → f.offset ≡ 0 → Ran made o f → (is_finish o ≡ true → f.first ≡ made) → b.status ≡ Running → b.depth ≡ a.depth + 1
      → b.frames ≡ set a.frames a.depth f → Motion p made o a b
  -- the body runs again
  repeats : is_end o ≡ true → 1 < a.depth → 1 < (top a).runs → b.status ≡ Running → b.depth ≡ a.depth
      → b.frames ≡ set a.frames (a.depth - 1) (record { offset = 0; body = (top a).body; runs = (top a).runs - 1; first = (top a).first }) → Motion p made o a b
  -- the body is over, and the one below goes on
  returns : is_end o ≡ true → 1 < a.depth → b.status ≡ Running → b.depth ≡ a.depth - 1
      → b.frames ≡ set (set a.frames (a.depth - 1) no_frame) (a.depth - 1 - 1) (moved p (level (set a.frames (a.depth - 1) no_frame) (a.depth - 1 - 1)))
      → Motion p made o a b
  -- the activity ends
  halts : is_ended b.status ≡ true → b.depth ≡ 0 → b.frames ≡ no_frames → b.holds ≡ no_holds → Motion p made o a b

-- What becomes of the clock names, where the next clock has number `next`.
pub data Holding (next : ℕ) (clocked : Bool) (a b : Activity) : Type 0 where
  same : clocked ≡ false → b.holds ≡ a.holds → Holding next clocked a b
  quiesces : clocked ≡ false → b.holds ≡ map quiesce a.holds → Holding next clocked a b
  passes : clocked ≡ false → b.holds ≡ map pass a.holds → Holding next clocked a b
  clocks : (k : ℕ) → clocked ≡ true → k < 8 → b.holds ≡ set a.holds k (record { phase = 0; clock = next; registration = Live }) → Holding next clocked a b
  resumes : (k : ℕ) → clocked ≡ false → k < 8 → b.holds ≡ set a.holds k (quiesce (hold a k)) → Holding next clocked a b
  drops : (k : ℕ) → clocked ≡ false → k < 8 → b.holds ≡ set a.holds k no_hold → Holding next clocked a b
  leaves : clocked ≡ false → b.holds ≡ no_holds → Holding next clocked a b

-- What becomes of the accumulators and of their names, where the next accumulator has number `next`.
pub data Naming (next i : ℕ) (a b : Activity) (w : Write) : Type 0 where
  keeps : w ≡ keep → b.accumulators ≡ a.accumulators → Naming next i a b w
  adds : (n o : ℕ) → w ≡ make (new_accumulator i (operator_of o)) → b.accumulators ≡ set a.accumulators n (next + 1) → Naming next i a b w
  offers : (x v : ℕ) → w ≡ offer x v → x < next → b.accumulators ≡ a.accumulators → Naming next i a b w
  resets : (x v : ℕ) → w ≡ reset x v → x < next → b.accumulators ≡ a.accumulators → Naming next i a b w

-- Who is spawned: each clock lent is held, and live.
pub data Offspring (i : ℕ) (a : Activity) (o : Command) (w : Spawned) : Type 0 where
  childless : w ≡ nobody → Offspring i a o w
  bears : (b m : ℕ) → o ≡ Async b m → w ≡ one (child i a b m) → ((k : ℕ) → k < 8 → bit m k ≡ true → (holds a k ≡ true) × (is_live (hold a k).registration ≡ true))
      → Offspring i a o w

-- A child, as its spawner's command makes it.
pub record Born (i : ℕ) (a : Activity) (o : Command) (c : Activity) : Type 0 where
  pub body : ℕ
  pub mask : ℕ
  pub by : o ≡ Async body mask
  pub like : c ≡ child i a body mask
  pub lent : (k : ℕ) → k < 8 → bit mask k ≡ true → (holds a k ≡ true) × (is_live (hold a k).registration ≡ true)

-- who was spawned was spawned so
pub born : {i : ℕ} {a : Activity} {o : Command} {w : Spawned} {c : Activity} → Offspring i a o w → w ≡ one c → Born i a o c
born (childless n) e = let z : ◌≡◌ {A = ℕ} 0 1 = cc in absurd (omega arith)
born (bears b m o n h) e = record { body = b; mask = m; by = o; like = cc; lent = h }

-- The shape of effect e of activity i, which is a, at command o.
pub record Shape (p : Program) (s : State) (i : ℕ) (a : Activity) (o : Command) (e : Effect) : Type 0 where
  pub motion : Motion p s.activities o a e.self
  pub holding : Holding s.clocks e.clocked a e.self
  pub naming : Naming s.accumulators i a e.self e.write
  pub spawner : e.self.spawner ≡ a.spawner
  pub offspring : Offspring i a o e.spawned

-- A FAULT

-- a fault ends the activity, as END of the last body does
pub fails : {p : Program} {s : State} {i : ℕ} {a : Activity} {o : Command} (status : Status) → is_ended status ≡ true → Shape p s i a o (failing a status)
fails status e = record { motion = halts e refl refl refl; holding = leaves refl refl; naming = keeps refl refl; spawner = refl; offspring = childless refl }

-- COMMANDS

-- who has not ended and is at no barrier runs
runs : (t : Status) → is_ended t ≡ false → is_at_barrier t ≡ false → t ≡ Running
runs Running e b = refl
runs AtBarrier e b = absurd (true_false true refl b)
runs Ended e b = absurd (true_false true refl e)
runs (Faulted f) e b = absurd (true_false true refl e)

-- no F1: each clock lent is held
lends_held : (a : Activity) (m : ℕ) → lends_unheld a m ≡ false → (k : ℕ) → k < 8 → bit m k ≡ true → holds a k ≡ true
unfolding lends_unheld
lends_held a m e k l b = and_not (bit m k) _ (some_below_none 8 (λ k. bit m k && not (holds a k)) e k l) b

-- no F2: and live
lends_live : (a : Activity) (m : ℕ) → lends_quiesced a m ≡ false → (k : ℕ) → k < 8 → bit m k ≡ true → holds a k ≡ true → is_live (hold a k).registration ≡ true
unfolding lends_quiesced
lends_live a m e k l b h =
    and_not (holds a k) _ (and_false (bit m k) _ (some_below_none 8 (λ k. bit m k && (holds a k && not (is_live (hold a k).registration))) e k l) b) h

module _ (p : Program) (s : State) (i : ℕ) (a : Activity) (live : is_ended a.status ≡ false) (bounds : (n : ℕ) → n < 8 → bound a n ≤ s.accumulators) where
  -- who is not on NEXT runs
  still : (o : Command) → (is_at_barrier a.status ≡ true → opcode o ≡ 1) → (opcode o ≡ 1 → ⊥) → a.status ≡ Running
  still o h n = go (decide (is_at_barrier a.status))
    where
      go : (is_at_barrier a.status ≡ true) ⊎ (is_at_barrier a.status ≡ false) → a.status ≡ Running
      go (inl b) = absurd (n (h b))
      go (inr b) = runs a.status live b

  -- on to the next command, with nothing but the register changed
  simple : {o : Command} (b : Activity) → is_end o ≡ false → b.status ≡ Running → b.depth ≡ a.depth → b.frames ≡ a.frames → b.holds ≡ a.holds → b.accumulators ≡ a.accumulators
      → b.spawner ≡ a.spawner → (e : Effect) → e.self ≡ past p b → e.spawned ≡ nobody → e.clocked ≡ false → e.write ≡ keep → Shape p s i a o e
  unfolding past
  simple b g r d f h n u e self none clocked write =
      record {
        motion = goes g (rw self r) (rw self d) (rw (self, d, f));
        holding = same clocked (rw self h);
        naming = keeps write (rw self n);
        spawner = rw self u;
        offspring = childless none;
      }

  -- END
  of_end : (inner : List Command) → a.status ≡ Running → Shape p s i a End (effect_of p (env_of s) i a End inner)
  unfolding effect_of end_of again popped past is_end
  of_end inner r = go (leb a.depth 1) refl (ltb 1 (top a).runs) refl
    where
      go : (x : Bool) → leb a.depth 1 ≡ x → (y : Bool) → ltb 1 (top a).runs ≡ y → Shape p s i a End (alone (cond x (stopped a Ended) (cond y (again a) (popped p a))))
      go true d y t = fails Ended refl
      go false d true t =
          record {
            motion = repeats refl (leb-false a.depth 1 d) (ltb-true 1 (top a).runs t) r refl refl;
            holding = same refl refl;
            naming = keeps refl refl;
            spawner = refl;
            offspring = childless refl;
          }
      go false d false t =
          record { motion = returns refl (leb-false a.depth 1 d) r refl refl; holding = same refl refl; naming = keeps refl refl; spawner = refl; offspring = childless refl }

  -- NEXT
  of_next : (inner : List Command) → Shape p s i a Next (effect_of p (env_of s) i a Next inner)
  unfolding effect_of next_of past is_end
  of_next inner = go (is_at_barrier a.status)
    where
      go : (x : Bool) → Shape p s i a Next (alone (next_of p a x))
      go true = record { motion = goes refl refl refl refl; holding = passes refl refl; naming = keeps refl refl; spawner = refl; offspring = childless refl }
      go false = record { motion = stays refl refl refl refl; holding = quiesces refl refl; naming = keeps refl refl; spawner = refl; offspring = childless refl }

  -- CHOOSE
  of_choose : (c : ℕ) (inner : List Command) → a.status ≡ Running → Shape p s i a (Choose c) (effect_of p (env_of s) i a (Choose c) inner)
  unfolding effect_of choose_of pushed is_end
  of_choose c inner r = go (eqb a.register 0)
    where
      go : (x : Bool) → Shape p s i a (Choose c) (alone (cond x (past p a) (pushed a c 0 0)))
      go true = simple a refl r refl refl refl refl refl _ refl refl refl refl
      go false =
          record {
            motion =
                begins (record { offset = 0; body = c; runs = 0; first = 0 }) refl (by_choose c refl refl refl refl) (λ q. absurd (true_false false q refl)) r refl refl;
            holding = same refl refl;
            naming = keeps refl refl;
            spawner = refl;
            offspring = childless refl;
          }

  -- a name that is bound is an accumulator's
  number_made : (n : ℕ) → n < 8 → unbound a n ≡ false → number_under a n < s.accumulators
  number_made n l e = omega (arith, bounds n l, eqb-false (bound a n) 0 e)

  -- each command that meets no fault
  pub shape : (o : Command) (inner : List Command) → (is_at_barrier a.status ≡ true → opcode o ≡ 1) → Ranged o → fault_for p (env_of s) i a o ≡ 0
      → Shape p s i a o (effect_of p (env_of s) i a o inner)
  unfolding effect_of fault_for read_fault async_fault repeat_of past pushed is_end touch
  shape End inner b r e = of_end inner (still End b (λ q. omega arith))
  shape Next inner b r e = of_next inner
  shape (Clock c) inner b r e =
      record {
        motion = goes refl (still (Clock c) b (λ q. omega arith)) refl refl;
        holding = clocks c refl (within (Clock c) r) refl;
        naming = keeps refl refl;
        spawner = refl;
        offspring = childless refl;
      }
  shape (Resume c) inner b r e =
      record {
        motion = goes refl (still (Resume c) b (λ q. omega arith)) refl refl;
        holding = resumes c refl (within (Resume c) r) refl;
        naming = keeps refl refl;
        spawner = refl;
        offspring = childless refl;
      }
  shape (Drop c) inner b r e =
      record {
        motion = goes refl (still (Drop c) b (λ q. omega arith)) refl refl;
        holding = drops c refl (within (Drop c) r) refl;
        naming = keeps refl refl;
        spawner = refl;
        offspring = childless refl;
      }
  shape (Async c m) inner b r e =
      let f₁ = cond_zero (ltb 0 m && in_own_finish p a) 2 _ e in
      let f₂ = cond_zero (lends_unheld a m) 0 _ f₁.1 in
      let f₃ = cond_zero (lends_quiesced a m) 1 _ f₂.1 in
      record {
        motion = goes refl (still (Async c m) b (λ q. omega arith)) refl refl;
        holding = same refl refl;
        naming = keeps refl refl;
        spawner = refl;
        offspring = bears c m refl refl (λ k l t. let h = lends_held a m f₂.0 k l t in (h, lends_live a m f₃.0 k l t h));
      }
  shape (Finish c) inner b r e =
      record {
        motion =
            begins (record { offset = 0; body = c; runs = 0; first = s.activities }) refl (by_finish c refl refl refl (omega arith)) (λ q. refl)
            (still (Finish c) b (λ q. omega arith)) refl refl;
        holding = same refl refl;
        naming = keeps refl refl;
        spawner = refl;
        offspring = childless refl;
      }
  shape (Repeat zero c) inner b r e = simple a refl (still (Repeat zero c) b (λ q. omega arith)) refl refl refl refl refl _ refl refl refl refl
  shape (Repeat (suc n) c) inner b r e =
      record {
        motion =
            begins (record { offset = 0; body = c; runs = suc n; first = 0 }) refl (by_repeat (suc n) c refl refl (omega arith) (omega arith) refl)
            (λ q. absurd (true_false false q refl)) (still (Repeat (suc n) c) b (λ q. omega arith)) refl refl;
        holding = same refl refl;
        naming = keeps refl refl;
        spawner = refl;
        offspring = childless refl;
      }
  shape (Acc n o) inner b r e =
      record {
        motion = goes refl (still (Acc n o) b (λ q. omega arith)) refl refl;
        holding = same refl refl;
        naming = adds n o refl refl;
        spawner = refl;
        offspring = childless refl;
      }
  shape (Offer n) inner b r e =
      record {
        motion = goes refl (still (Offer n) b (λ q. omega arith)) refl refl;
        holding = same refl refl;
        naming = offers (number_under a n) a.register refl (number_made n (within (Offer n) r) (cond_zero (unbound a n) 4 0 e).0) refl;
        spawner = refl;
        offspring = childless refl;
      }
  shape (Read n) inner b r e = simple _ refl (still (Read n) b (λ q. omega arith)) refl refl refl refl refl _ refl refl refl refl
  shape (Reset n) inner b r e =
      record {
        motion = goes refl (still (Reset n) b (λ q. omega arith)) refl refl;
        holding = same refl refl;
        naming = resets (number_under a n) a.register refl (number_made n (within (Reset n) r) (cond_zero (unbound a n) 4 _ e).0) refl;
        spawner = refl;
        offspring = childless refl;
      }
  shape (Put v) inner b r e = simple (with_register a v) refl (still (Put v) b (λ q. omega arith)) refl refl refl refl refl _ refl refl refl refl
  shape (Fetch d) inner b r e = simple (with_register a (touch (env_of s).cell (untouched a) (Fetch d)).register) refl (still (Fetch d) b (λ q. omega arith)) refl refl refl refl refl _ refl refl refl refl
  shape (Store d) inner b r e = simple (with_register a (touch (env_of s).cell (untouched a) (Store d)).register) refl (still (Store d) b (λ q. omega arith)) refl refl refl refl refl _ refl refl refl refl
  shape (Add d) inner b r e = simple (with_register a (touch (env_of s).cell (untouched a) (Add d)).register) refl (still (Add d) b (λ q. omega arith)) refl refl refl refl refl _ refl refl refl refl
  shape (Atom k) inner b r e = simple (with_register a (touch_all (env_of s).cell (untouched a) inner).register) refl (still (Atom k) b (λ q. omega arith)) refl refl refl refl refl _ refl refl refl refl
  shape (Choose c) inner b r e = of_choose c inner (still (Choose c) b (λ q. omega arith))
