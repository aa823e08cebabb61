-- The values of a state, in registers, cells and accumulators, are below 2^32, and a call of the step leaves them so.
use Prim.Native.Nat.{ℕ, zero, suc, ◌-◌, ◌^◌, ◌<◌}
use native.Mathlib.Omega.{arith}
use mathlib.Core.Path.{◌≡◌, refl, sym, subst}
use mathlib.Core.List.{List, [], ◌∷◌}
use mathlib.Core.Bool.{Bool, true, false, cond}
use lib.ListN.{get_or, set}
use lib.Dec.{eqb, leb, ltb}
use Rattle.program.specs.declared.command.Command.{Command}
use Rattle.program.specs.declared.command.Command.TheVariants.{End, Next, Clock, Resume, Drop, Async, Finish, Repeat, Acc, Offer, Read, Reset, Put, Fetch, Store, Add, Atom, Choose}
use Rattle.program.specs.Bodies.{Program, program_of}
use Rattle.program.proofs.Basic.{Bytes}
use Rattle.program.proofs.ShapeLaws.{numbered}
use Rattle.rules.specs.declared.state.Status.TheVariants.{Ended}
use Rattle.rules.specs.declared.state.Operator.{Operator}
use Rattle.rules.specs.declared.state.Operator.TheVariants.{Sum, Minimum, Maximum}
use Rattle.rules.specs.declared.state.Activity.{Activity}
use Rattle.rules.specs.declared.state.Accumulator.{Accumulator}
use Rattle.rules.specs.declared.state.State.{State}
use Rattle.rules.specs.State.{operator_of, no_accumulator, absent, act, top, accumulator, is_at_barrier}
use Rattle.rules.specs.Faults.{Env}
use Rattle.rules.specs.Effects as effects
use Rattle.rules.specs.Effects.{past, pushed, again, popped, end_of, next_of, repeat_of, choose_of, child, stopped, reduce, new_value, Touch, cell_after, touch, touch_all, Spawned, nobody, one, Write, keep, make, offer, reset, Effect, with_value, with_written, with_spawned, with_stores, untouched, effect_of, env_of, applied}
use Rattle.rules.specs.Steps.{at, effect, step, Limits}
use Rattle.rules.specs.Runs.{run_from}
use Rattle.rules.proofs.Lists.{Stored, new, old, stored}
use Rattle.rules.proofs.Shapes.{OfChild}
use Rattle.rules.proofs.Turn.{turn, by_fault}
use Rattle.rules.proofs.StepLaws.{Outcome, unfits, refuses, overflows, takes, outcome}
use Rattle.rules.proofs.WellFormedFacts.{facts}
use Rattle.fits.proofs.Operands.{Narrow, narrow_here}

-- A value of four bytes.
abbrev pub Four : ℕ → Type 0
Four v = v < 2 ^ 32

-- All values of a state, past the ends of its lists too.
pub record Small (s : State) : Type 0 where
  pub cells : (x : ℕ) → Four (get_or s.cells x 0)
  pub values : (n : ℕ) → Four (accumulator s n).value
  pub registers : (i : ℕ) → Four (act s i).register

-- EFFECTS

-- What an effect writes, stores and leaves in hands.
unfoldable SmallWrite : Write → Type 0
SmallWrite keep = Unit {0}
SmallWrite (make c) = Four c.value
SmallWrite (offer x v) = Four v
SmallWrite (reset x v) = Four v

unfoldable SmallStores : List effects.Stored → Type 0
SmallStores [] = Unit {0}
SmallStores (x ∷ xs) = Four x.value × SmallStores xs

record SmallTouch (t : Touch) : Type 0 where
  register : Four t.register
  stores : SmallStores t.stores

record SmallEffect (e : Effect) : Type 0 where
  self : Four e.self.register
  born : OfChild (λ (c : Activity). Four c.register) e.spawned
  write : SmallWrite e.write
  stores : SmallStores e.stores

either : (b : Bool) {x y : ℕ} → Four x → Four y → Four (cond b x y)
either true h k = h
either false h k = k

-- CELLS

module _ (cell : ℕ → ℕ) (low : (d : ℕ) → Four (cell d)) where
  -- after stores
  cell_small : (l : List effects.Stored) → SmallStores l → (d : ℕ) → Four (cell_after cell l d)
  unfolding SmallStores cell_after
  cell_small [] h d = low d
  cell_small (x ∷ xs) h d = either (eqb x.cell d) h.0 (cell_small xs h.1 d)

  -- after a command on a cell
  touch_small : (t : Touch) → SmallTouch t → (c : Command) → SmallTouch (touch cell t c)
  unfolding SmallStores touch
  touch_small t h End = h
  touch_small t h Next = h
  touch_small t h (Clock c) = h
  touch_small t h (Resume c) = h
  touch_small t h (Drop c) = h
  touch_small t h (Async b m) = h
  touch_small t h (Finish b) = h
  touch_small t h (Repeat n b) = h
  touch_small t h (Acc a o) = h
  touch_small t h (Offer a) = h
  touch_small t h (Read a) = h
  touch_small t h (Reset a) = h
  touch_small t h (Put v) = h
  touch_small t h (Fetch d) = record { register = cell_small t.stores h.stores d; stores = h.stores }
  touch_small t h (Store d) = record { register = h.register; stores = (h.register, h.stores) }
  touch_small t h (Add d) = record { register = h.register; stores = (omega arith, h.stores) }
  touch_small t h (Atom k) = h
  touch_small t h (Choose b) = h

  -- after those of an ATOM
  touches_small : (t : Touch) → SmallTouch t → (l : List Command) → SmallTouch (touch_all cell t l)
  unfolding touch_all
  touches_small t h [] = h
  touches_small t h (c ∷ l) = touches_small (touch cell t c) (touch_small t h c) l

-- COMMANDS

new_small : (o : Operator) → Four (new_value o)
new_small Sum = omega arith
new_small Minimum = omega arith
new_small Maximum = omega arith

reduce_small : (o : Operator) (x y : ℕ) → Four x → Four y → Four (reduce o x y)
reduce_small Sum x y h k = omega arith
reduce_small Minimum x y h k = either (leb x y) h k
reduce_small Maximum x y h k = either (leb x y) k h

-- END, NEXT, REPEAT and CHOOSE leave the hand.
end_register : (p : Program) (a : Activity) → (end_of p a).register ≡ a.register
unfolding end_of again popped past
end_register p a = go (leb a.depth 1) (ltb 1 (top a).runs)
  where
    go : (x y : Bool) → (cond x (stopped a Ended) (cond y (again a) (popped p a))).register ≡ a.register
    go true y = refl
    go false true = refl
    go false false = refl

next_register : (p : Program) (a : Activity) (b : Bool) → (next_of p a b).register ≡ a.register
unfolding next_of past
next_register p a true = refl
next_register p a false = refl

repeat_register : (p : Program) (a : Activity) (n b : ℕ) → (repeat_of p a n b).register ≡ a.register
unfolding repeat_of past pushed
repeat_register p a zero b = refl
repeat_register p a (suc n) b = refl

choose_register : (p : Program) (a : Activity) (b : ℕ) → (choose_of p a b).register ≡ a.register
unfolding choose_of past pushed
choose_register p a b = go (eqb a.register 0)
  where
    go : (x : Bool) → (cond x (past p a) (pushed a b 0 0)).register ≡ a.register
    go true = refl
    go false = refl

module _ (p : Program) (e : Env) (i : ℕ) (a : Activity) (own : Four a.register) (looks : (n : ℕ) → Four (e.look n).value) (cells : (d : ℕ) → Four (e.cell d)) where
  hand : SmallTouch (untouched a)
  unfolding SmallStores
  hand = record { register = own; stores = tt }

  -- The effect of each command.
  effect_small : (c : Command) (inner : List Command) → Narrow c → SmallEffect (effect_of p e i a c inner)
  unfolding effect_of past pushed child OfChild SmallWrite SmallStores
  effect_small End inner h = record { self = rw (end_register p a) own; born = tt; write = tt; stores = tt }
  effect_small Next inner h = record { self = rw (next_register p a (is_at_barrier a.status)) own; born = tt; write = tt; stores = tt }
  effect_small (Clock c) inner h = record { self = own; born = tt; write = tt; stores = tt }
  effect_small (Resume c) inner h = record { self = own; born = tt; write = tt; stores = tt }
  effect_small (Drop c) inner h = record { self = own; born = tt; write = tt; stores = tt }
  effect_small (Async b m) inner h = record { self = own; born = own; write = tt; stores = tt }
  effect_small (Finish b) inner h = record { self = own; born = tt; write = tt; stores = tt }
  effect_small (Repeat n b) inner h = record { self = rw (repeat_register p a n b) own; born = tt; write = tt; stores = tt }
  effect_small (Acc n o) inner h = record { self = own; born = tt; write = new_small (operator_of o); stores = tt }
  effect_small (Offer n) inner h = record { self = own; born = tt; write = own; stores = tt }
  effect_small (Read n) inner h = record { self = looks _; born = tt; write = tt; stores = tt }
  effect_small (Reset n) inner h = record { self = own; born = tt; write = own; stores = tt }
  effect_small (Put v) inner h = record { self = h.value v refl; born = tt; write = tt; stores = tt }
  effect_small (Fetch d) inner h = let t = touch_small e.cell cells (untouched a) hand (Fetch d) in record { self = t.register; born = tt; write = tt; stores = t.stores }
  effect_small (Store d) inner h = let t = touch_small e.cell cells (untouched a) hand (Store d) in record { self = t.register; born = tt; write = tt; stores = t.stores }
  effect_small (Add d) inner h = let t = touch_small e.cell cells (untouched a) hand (Add d) in record { self = t.register; born = tt; write = tt; stores = t.stores }
  effect_small (Atom k) inner h = let t = touches_small e.cell cells (untouched a) hand inner in record { self = t.register; born = tt; write = tt; stores = t.stores }
  effect_small (Choose b) inner h = record { self = rw (choose_register p a b) own; born = tt; write = tt; stores = tt }

-- STATES

-- What holds of each entry and of a new one holds of each after it was set.
pub put : {A : Type 0} (P : A → Type 0) (l : List A) (i : ℕ) (a : A) (d : A) → ((j : ℕ) → P (get_or l j d)) → P a → (j : ℕ) → P (get_or (set l i a) j d)
put P l i a d f h j = go (stored l i a j d)
  where
    go : Stored l i a j d → P (get_or (set l i a) j d)
    go (new e v) = subst P (sym v) h
    go (old v) = subst P (sym v) (f j)

module _ (s : State) (h : Small s) where
  -- The cells, the accumulators, and the state after an effect.
  stores_small : (l : List effects.Stored) → SmallStores l → (x : ℕ) → Four (get_or (with_stores s.cells l) x 0)
  unfolding SmallStores with_stores
  stores_small [] k = h.cells
  stores_small (y ∷ l) k = put Four (with_stores s.cells l) y.cell y.value 0 (stores_small l k.1) k.0

  written_small : (w : Write) → SmallWrite w → (n : ℕ) → Four (get_or (with_written s w) n no_accumulator).value
  unfolding SmallWrite
  written_small keep k = h.values
  written_small (make c) k = put (λ (y : Accumulator). Four y.value) s.accs s.accumulators c no_accumulator h.values k
  written_small (offer x v) k =
      put (λ (y : Accumulator). Four y.value) s.accs x _ no_accumulator h.values (reduce_small (accumulator s x).operator (accumulator s x).value v (h.values x) k)
  written_small (reset x v) k = put (λ (y : Accumulator). Four y.value) s.accs x (with_value (accumulator s x) v) no_accumulator h.values k

  applied_small : (i : ℕ) (e : Effect) → SmallEffect e → Small (applied s i e)
  unfolding applied OfChild
  applied_small i e k =
      record {
        cells = stores_small e.stores k.stores;
        values = written_small e.write k.write;
        registers = go e.spawned k.born;
      }
    where
      own : (x : ℕ) → Four (get_or (set s.acts i e.self) x absent).register
      own = put (λ (y : Activity). Four y.register) s.acts i e.self absent h.registers k.self

      go : (c : Spawned) → OfChild (λ (y : Activity). Four y.register) c → (x : ℕ) → Four (get_or (with_spawned s.activities (set s.acts i e.self) c) x absent).register
      go nobody q = own
      go (one c) q = put (λ (y : Activity). Four y.register) (set s.acts i e.self) s.activities c absent own q

module _ (t : List ℕ) (y : Bytes t) where
  -- A call of the step, taken or not.
  pub small_step : (l : Limits) (s : State) (i : ℕ) → Small s → Small (step l t s i).state
  unfolding at SmallWrite SmallStores OfChild
  small_step l s i h = go (outcome l t s i)
    where
      go : Outcome l t s i → Small (step l t s i).state
      go (unfits n q k e) = rw e h
      go (refuses n q k e) = rw e h
      go (overflows q x e) = rw e h
      go (takes n w r x e) =
          let u = turn (program_of t) s i r in
          let a = (facts l.phase (program_of t) s w).spawned i u.spawned in
          let d : 0 < (act s i).depth = a.bodied u.unended in
          let m = narrow_here t (numbered l.work t n) y (top (act s i)) (a.stack.placed ((act s i).depth - 1) (omega arith)) in
          let k : SmallEffect (effect (program_of t) s i) =
          by_fault (program_of t) s i SmallEffect
          (λ f. effect_small (program_of t) (env_of s) i (act s i) (h.registers i) h.values h.cells (at (program_of t) s i).command (at (program_of t) s i).inner m)
          (λ f. record { self = h.registers i; born = tt; write = tt; stores = tt })
          in
          rw e (applied_small s h i (effect (program_of t) s i) k)

  -- A list of calls.
  pub small_run : (l : Limits) (order : List ℕ) (s : State) → Small s → Small (run_from l t s order)
  unfolding run_from
  small_run l [] s h = h
  small_run l (i ∷ order) s h = small_run l order (step l t s i).state (small_step l s i h)
