-- Number 17, tested by a command's row and by the holds of who is at a meeting, is number 17 of the effect.
use Rattle.std.proofs.Common.{◌≡◌, ℕ, ◌+◌, ◌<◌, ◌≤◌, Bool, true, false, cond, ◌&&◌, ◌||◌, eqb, ltb, leb, ◌⊎◌, List, get_or, set, sym, refl, ap, ◌∙◌, inl, inr, arith, ltb-true, le-ltb, lt-ltb, eq-eqb, eqb-true}
use lib.ListN.{get_or-replicate}
use Rattle.program.specs.Command.{opcode}
use Rattle.program.specs.Bodies.{Program}
use Rattle.program.specs.Count.{work_of}
use Rattle.program.specs.declared.command.Command.{Command}
use Rattle.program.specs.declared.command.Command.TheVariants.{End, Next, Clock, Resume, Drop, Async, Finish, Repeat, Acc, Offer, Read, Reset, Put, Fetch, Store, Add, Atom, Choose}
use Rattle.rules.specs.declared.state.Hold.{Hold}
use Rattle.rules.specs.declared.state.Activity.{Activity}
use Rattle.rules.specs.declared.state.State.{State}
use Rattle.rules.specs.declared.state.Status.{Status}
use Rattle.rules.specs.declared.state.Status.TheVariants.{Ended, Faulted}
use Rattle.rules.specs.Search.{some_below}
use Rattle.rules.specs.State.{fault_of, act, top, hold, no_hold, no_holds, is_at_barrier}
use Rattle.rules.specs.Clocks.{is_held, holds, quiesce, pass}
use Rattle.rules.specs.Faults.{Env}
use Rattle.rules.specs.Effects.{Effect, past, again, popped, pushed, stopped, end_of, next_of, effect_of, failing, env_of}
use Rattle.rules.specs.Steps.{base, at, fault, effect, spawns, makes, exceeds}
use Rattle.rules.proofs.Tests.{true_false, decide}
use Rattle.rules.proofs.Search.{some_below_all, both}
use Rattle.rules.proofs.Lists.{Stored, new, old, stored}
use Rattle.rules.proofs.WellFormedHolds.{Fits, under_map}
use Rattle.rules.proofs.WellFormedFacts.{Facts}
use Rattle.rules.proofs.Shapes.{Replaced, dropped, resumed, created, Reheld, kept, replaced, Kind, ends, meets, forks, opens, enters, moves, kind, is_next}
use Rattle.places.proofs.Searches.{some_alike}
use Rattle.moves.specs.Exceeding.{overfull, is_last, some_last, overtakes, exceeds_at}

-- WHAT IS MADE

-- ASYNC, CLOCK and ACC, and no other command, make an activity, a clock and an accumulator.
unfoldable pub Makes : Command → Effect → Type 0
Makes c x = (spawns x.spawned ≡ eqb (opcode c) 0x05) × (x.clocked ≡ eqb (opcode c) 0x02) × (makes x.write ≡ eqb (opcode c) 0x08)

makes_by : (p : Program) (e : Env) (i : ℕ) (a : Activity) (c : Command) (inner : List Command) → Makes c (effect_of p e i a c inner)
unfolding Makes effect_of
makes_by p e i a End inner = (refl, refl, refl)
makes_by p e i a Next inner = (refl, refl, refl)
makes_by p e i a (Clock c) inner = (refl, refl, refl)
makes_by p e i a (Resume c) inner = (refl, refl, refl)
makes_by p e i a (Drop c) inner = (refl, refl, refl)
makes_by p e i a (Async b m) inner = (refl, refl, refl)
makes_by p e i a (Finish b) inner = (refl, refl, refl)
makes_by p e i a (Repeat n b) inner = (refl, refl, refl)
makes_by p e i a (Acc n o) inner = (refl, refl, refl)
makes_by p e i a (Offer n) inner = (refl, refl, refl)
makes_by p e i a (Read n) inner = (refl, refl, refl)
makes_by p e i a (Reset n) inner = (refl, refl, refl)
makes_by p e i a (Put v) inner = (refl, refl, refl)
makes_by p e i a (Fetch d) inner = (refl, refl, refl)
makes_by p e i a (Store d) inner = (refl, refl, refl)
makes_by p e i a (Add d) inner = (refl, refl, refl)
makes_by p e i a (Atom k) inner = (refl, refl, refl)
makes_by p e i a (Choose b) inner = (refl, refl, refl)

or_none : (b : Bool) → b ≡ b || false
or_none true = refl
or_none false = refl

-- PHASES

-- Every phase is within its limit.
unfoldable pub Low : List Hold → Type 0
Low hs = (k : ℕ) → k < 8 → (get_or hs k no_hold).phase ≤ 65535

-- Setting one hold keeps the phases low.
low_set : (hs : List Hold) (c : ℕ) (h : Hold) → (c < 8 → h.phase ≤ 65535) → Low hs → Low (set hs c h)
unfolding Low
low_set hs c h e l k m = go (stored hs c h k no_hold)
  where
    go : Stored hs c h k no_hold → (get_or (set hs c h) k no_hold).phase ≤ 65535
    go (new q r) = rw r (e (omega arith))
    go (old r) = rw r (l k m)

low_none : Low no_holds
unfolding Low
low_none k m = rw (get_or-replicate 8 k no_hold no_hold m) (omega arith)

low_end : (p : Program) (a : Activity) → Low a.holds → Low (end_of p a).holds
unfolding end_of again popped past
low_end p a l = go (leb a.depth 1) (ltb 1 (top a).runs)
  where
    go : (x y : Bool) → Low (cond x (stopped a Ended) (cond y (again a) (popped p a))).holds
    go true y = low_none
    go false true = l
    go false false = l

low_replaced : {made : ℕ} {clocked : Bool} {h g : Hold} → Replaced made clocked h g → h.phase ≤ 65535 → g.phase ≤ 65535
low_replaced (dropped e) l = rw e (omega arith)
low_replaced (resumed e) l = rw e l
low_replaced (created c e) l = rw e (omega arith)

low_reheld : {made : ℕ} {clocked : Bool} {hs gs : List Hold} → Reheld made clocked hs gs → Low hs → Low gs
unfolding Low
low_reheld (kept e) l = rw e l
low_reheld {hs = hs} (replaced n h r e) l = rw e (low_set hs n h (λ m. low_replaced r (l n m)) l)

-- Whoever is at no meeting keeps the phases low.
low_still : {p : Program} {e : Env} {i : ℕ} {a : Activity} {c : Command} {x : Effect} → Kind p e i a c x → is_at_barrier a.status ≡ false → Low a.holds → Low x.self.holds
unfolding Low next_of past pushed
low_still {p} {a = a} (ends q r n) b l = rw r (low_end p a l)
low_still {a = a} (meets q r n) b l = rw (r, b) (λ k m. rw (under_map quiesce refl a.holds k) (l k m))
low_still (forks b m q r n) d l = rw r l
low_still (opens b q r n) d l = rw r l
low_still (enters j b q r n) d l = rw r l
low_still (moves b u v w alike r n) d l = rw r (low_reheld alike.holds l)

-- The last phase is the one that passing cannot raise.
raised : (h : Hold) → h.phase ≤ 65535 → ltb 65535 (pass h).phase ≡ is_last h
raised h l = go (is_held h.registration)
  where
    go : (b : Bool) → ltb 65535 (h.phase + cond b 1 0) ≡ b && eqb h.phase 65535
    go true = both _ _ (λ e. eq-eqb h.phase 65535 (omega (arith, ltb-true 65535 (h.phase + 1) e))) (λ e. lt-ltb 65535 (h.phase + 1) (omega (arith, eqb-true h.phase 65535 e)))
    go false = le-ltb 65535 (h.phase + 0) (omega arith)

-- Phase 65,536 is needed by the effect exactly where it is by the holds.
phases : {p : Program} {e : Env} {i : ℕ} {a : Activity} {c : Command} {x : Effect} → Kind p e i a c x → (is_at_barrier a.status ≡ true → opcode c ≡ 1)
    → Low a.holds → some_below 8 (λ k. ltb 65535 (hold x.self k).phase) ≡ overtakes a
unfolding overtakes some_last Low
phases {p} {e} {i} {a} {c} {x} kd onNext l = go (decide (is_at_barrier a.status))
  where
    arrived : Kind p e i a c x → opcode c ≡ 1 → x.self ≡ next_of p a (is_at_barrier a.status)
    arrived (ends q r n) o = let z : opcode c ≡ 0 = ap opcode q in absurd (omega arith)
    arrived (meets q r n) o = r
    arrived (forks b m q r n) o = let z : opcode c ≡ 5 = ap opcode q in absurd (omega arith)
    arrived (opens b q r n) o = let z : opcode c ≡ 6 = ap opcode q in absurd (omega arith)
    arrived (enters j b q r n) o = absurd (true_false (is_next c) (unfold is_next in eq-eqb (opcode c) 1 o) q.quiet)
    arrived (moves b u v w alike r n) o = absurd (true_false (is_next c) (unfold is_next in eq-eqb (opcode c) 1 o) v)

    go : (is_at_barrier a.status ≡ true) ⊎ (is_at_barrier a.status ≡ false)
        → some_below 8 (λ k. ltb 65535 (hold x.self k).phase) ≡ is_at_barrier a.status && some_below 8 (λ k. is_last (hold a k))
    go (inl b) =
        rw (arrived kd (onNext b), b)
        (some_alike 8 _ _ (λ k m. unfold next_of past in ap (λ (h : Hold). ltb 65535 h.phase) (under_map pass refl a.holds k) ∙ raised (hold a k) (l k m)))
    go (inr b) =
        rw b (some_below_all 8 _ (λ k m e. let z = low_still kd b l k m in let y = ltb-true 65535 (hold x.self k).phase e in omega arith))

-- ALL TESTS

-- The same tests in another order.
reorder : (a b c d e : Bool) → a || (b || (c || (d || e))) ≡ e || ((a || (b || c)) || d)
reorder true b c d true = refl
reorder true b c d false = refl
reorder false true c d true = refl
reorder false true c d false = refl
reorder false false true d true = refl
reorder false false true d false = refl
reorder false false false true true = refl
reorder false false false true false = refl
reorder false false false false e = or_none e

-- What number 17 needs to know of an activity and its command.
pub record Measured (a : Activity) (c : Command) : Type 0 where
  pub phases : Low a.holds
  pub barrier : is_at_barrier a.status ≡ true → opcode c ≡ 1

-- A command that meets no fault.
exceeds_done : (p : Program) (s : State) (i : ℕ) (a : Activity) (c : Command) (inner : List Command) → Measured a c
    → exceeds base p s (effect_of p (env_of s) i a c inner) ≡ leb (work_of p) s.steps || (overfull s c || overtakes a)
unfolding exceeds overfull Makes
exceeds_done p s i a c inner m =
    let n = makes_by p (env_of s) i a c inner in
    rw (n.0, n.1, n.2, phases (kind p (env_of s) i a c inner) m.barrier m.phases)
    (reorder (eqb (opcode c) 0x05 && leb 64 s.activities) (eqb (opcode c) 0x02 && leb 16 s.clocks) (eqb (opcode c) 0x08 && leb 16 s.accumulators) (overtakes a)
    (leb (work_of p) s.steps))

-- A fault needs nothing but a step.
exceeds_failed : (p : Program) (s : State) (a : Activity) (st : Status) → exceeds base p s (failing a st) ≡ leb (work_of p) s.steps || false
unfolding exceeds Low
exceeds_failed p s a st =
    let z : some_below 8 (λ k. ltb 65535 (hold (failing a st).self k).phase) ≡ false
    = some_below_all 8 (λ k. ltb 65535 (get_or no_holds k no_hold).phase) (λ k m e. omega (arith, ltb-true 65535 (get_or no_holds k no_hold).phase e, low_none k m)) in
    rw z (or_none (leb (work_of p) s.steps))

-- Number 17 of the effect of activity i.
exceeds_own : (p : Program) (s : State) (i : ℕ) → Measured (act s i) (at p s i).command
    → exceeds_at (work_of p) s (act s i) (fault p s i) (at p s i).command ≡ exceeds base p s (effect p s i)
unfolding exceeds_at effect
exceeds_own p s i m = go (decide (eqb (fault p s i) 0))
  where
    done : Effect
    done = effect_of p (env_of s) i (act s i) (at p s i).command (at p s i).inner

    failed : Effect
    failed = failing (act s i) (Faulted (fault_of (fault p s i)))

    go : (eqb (fault p s i) 0 ≡ true) ⊎ (eqb (fault p s i) 0 ≡ false)
        → leb (work_of p) s.steps || (eqb (fault p s i) 0 && (overfull s (at p s i).command || overtakes (act s i))) ≡ exceeds base p s (cond (eqb (fault p s i) 0) done failed)
    go (inl z) = rw z (sym (exceeds_done p s i (act s i) (at p s i).command (at p s i).inner m))
    go (inr z) = rw z (sym (exceeds_failed p s (act s i) (Faulted (fault_of (fault p s i)))))

-- The same of what the code has.
pub exceeds_at_lem : (p : Program) (s : State) (i : ℕ) {c : Command} {f work : ℕ} {r : Bool} → Measured (act s i) (at p s i).command → work ≡ work_of p → f ≡ fault p s i
    → c ≡ (at p s i).command → r ≡ exceeds_at work s (act s i) f c → r ≡ exceeds base p s (effect p s i)
exceeds_at_lem p s i m w f c e = e ∙ rw (w, f, c) (exceeds_own p s i m)

-- A well-formed state is so.
pub measured : {p : Program} {s : State} → Facts 65535 p s → (i : ℕ) → i < s.activities → Measured (act s i) (at p s i).command
unfolding Low at
measured {p} {s} x i h =
    record {
      phases = λ k m. low ((x.spawned i h).held.fits k m) (decide (holds (act s i) k));
      barrier = (x.spawned i h).barrier;
    }
  where
    low : {h : Hold} → Fits 65535 s.clocks h → (is_held h.registration ≡ true) ⊎ (is_held h.registration ≡ false) → h.phase ≤ 65535
    low f (inl e) = f.low e
    low f (inr e) = rw (f.free e) (omega arith)
