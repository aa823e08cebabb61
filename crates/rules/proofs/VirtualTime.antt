-- Virtual time: there is a time of each activity and a base of each clock, with phase + base = time for every hold. Passing raises the time by one, a
-- child has its spawner's, a new clock's base is its maker's. With it, of each activity by itself: quiesced on all own clocks at a barrier, nothing
-- held when ended, the spawner lower than the child.
use Prim.Native.Nat.{ℕ, ◌+◌, ◌≤◌, ◌<◌}
use native.Mathlib.Omega.{arith}
use mathlib.Core.Bool.{Bool, true, false, cond, ◌&&◌}
use mathlib.Core.Path.{◌≡◌, refl}
use mathlib.Core.Logic.{◌⊎◌, inl, inr}
use lib.ListN.{length}
use lib.Dec.{ltb, leb}
use Rattle.program.specs.declared.command.Command.{Command}
use Rattle.program.specs.declared.command.Command.TheVariants.{Async}
use Rattle.rules.specs.declared.state.Status.{Status}
use Rattle.rules.specs.declared.state.Status.TheVariants.{Ended}
use Rattle.rules.specs.declared.state.Registration.{Registration}
use Rattle.rules.specs.declared.state.Registration.TheVariants.{Free, Live, Quiesced}
use Rattle.rules.specs.declared.state.Hold.{Hold}
use Rattle.rules.specs.declared.state.Activity.{Activity}
use Rattle.program.specs.Bodies.{Program}
use Rattle.rules.specs.State.{is_ended, hold, is_at_barrier, no_hold, top}
use Rattle.rules.specs.Clocks.{is_held, is_live, quiesce, quiesced, pass, revived}
use Rattle.rules.specs.Faults.{Env, fault_for}
use Rattle.rules.specs.Effects.{stopped, end_of, again, popped, past, next_of, clocked_count, Effect, pushed, child}
use Rattle.rules.proofs.Tests.{decide, true_false}
use Rattle.rules.proofs.Sums.{upd, upd_other, upd_same}
use Rattle.rules.proofs.Shapes.{is_next, Alike, Replaced, dropped, resumed, created, Reheld, kept, replaced, Kind, ends, meets, forks, opens, enters, moves, born, OfChild}
use Rattle.rules.proofs.Holders.{EachHold, held_quiesced, held_revived, each_none, each_map, each_set, each_lent, lends}

-- A hold of an activity whose time is v, where clocks below `made` are made; a free one is in phase 0.
pub record Timed (made : ℕ) (base : ℕ → ℕ) (v : ℕ) (h : Hold) : Type 0 where
  pub clocked : is_held h.registration ≡ true → h.clock < made
  pub time : is_held h.registration ≡ true → h.phase + base h.clock ≡ v
  pub vacant : is_held h.registration ≡ false → h.phase ≡ 0

-- Activity a, number x.
pub record Fine (made : ℕ) (base : ℕ → ℕ) (v : ℕ) (x : ℕ) (a : Activity) : Type 0 where
  pub falls : 0 < x → a.spawner < x
  pub free : is_ended a.status ≡ true → EachHold (λ h. is_held h.registration ≡ false) a.holds
  pub quiet : is_at_barrier a.status ≡ true → EachHold (λ h. is_live h.registration ≡ false) a.holds
  pub timed : EachHold (Timed made base v) a.holds

-- The time after a command; b tells whether the activity was at a barrier.
unfoldable pub later : ℕ → Command → Bool → ℕ
later v c b = cond (is_next c && b) (v + 1) v

-- A step raises it by one at most.
pub later_slow : (v : ℕ) (c : Command) (b : Bool) → later v c b ≤ v + 1
unfolding later
later_slow v c b = go (is_next c && b)
  where
    go : (t : Bool) → cond t (v + 1) v ≤ v + 1
    go true = omega arith
    go false = omega arith

-- A phase is no later than the time.
pub phase_slow : {made : ℕ} {base : ℕ → ℕ} {v : ℕ} {h : Hold} → Timed made base v h → h.phase ≤ v
phase_slow {made} {base} {v} {h} t = go (decide (is_held h.registration))
  where
    go : (is_held h.registration ≡ true) ⊎ (is_held h.registration ≡ false) → h.phase ≤ v
    go (inl e) = omega (arith, t.time e)
    go (inr e) = omega (arith, t.vacant e)

-- HOLDS

-- A name without a hold.
pub timed_none : (made : ℕ) (base : ℕ → ℕ) (v : ℕ) → Timed made base v no_hold
timed_none made base v =
    record { clocked = λ e. absurd (true_false false e refl); time = λ e. absurd (true_false false e refl); vacant = λ e. refl }

-- Quiescing keeps the phase.
timed_quiesce : (made : ℕ) (base : ℕ → ℕ) (v : ℕ) (h : Hold) → Timed made base v h → Timed made base v (quiesce h)
timed_quiesce made base v h t =
    record {
      clocked = λ e. t.clocked (held_quiesced h.registration e);
      time = λ e. t.time (held_quiesced h.registration e);
      vacant = λ e. t.vacant (free h.registration e);
    }
  where
    free : (r : Registration) → is_held (quiesced r) ≡ false → is_held r ≡ false
    free Free e = refl
    free Live e = e
    free Quiesced e = e

-- Passing raises phase and time.
timed_pass : (made : ℕ) (base : ℕ → ℕ) (v : ℕ) (h : Hold) → Timed made base v h → Timed made base (v + 1) (pass h)
timed_pass made base v h t =
    record {
      clocked = λ e. t.clocked (held_revived h.registration e);
      time = λ e. let q = held_revived h.registration e in let z = t.time q in rw q (omega arith);
      vacant = λ e. let q = free h.registration e in let z = t.vacant q in rw q (omega arith);
    }
  where
    free : (r : Registration) → is_held (revived r) ≡ false → is_held r ≡ false
    free Free e = refl
    free Live e = e
    free Quiesced e = e

-- Clocks are made, and their bases stay.
timed_on : (made made' : ℕ) (base base' : ℕ → ℕ) (v : ℕ) → made ≤ made' → ((c : ℕ) → c < made → base' c ≡ base c) → (h : Hold)
    → Timed made base v h → Timed made' base' v h
timed_on made made' base base' v l e h t =
    record { clocked = λ q. omega (arith, t.clocked q); time = λ q. rw (e h.clock (t.clocked q)) (t.time q); vacant = t.vacant }

-- The same of an activity.
pub fine_on : (made made' : ℕ) (base base' : ℕ → ℕ) (v x : ℕ) (a : Activity) → made ≤ made' → ((c : ℕ) → c < made → base' c ≡ base c)
    → Fine made base v x a → Fine made' base' v x a
unfolding EachHold
fine_on made made' base base' v x a l e f =
    record { falls = f.falls; free = f.free; quiet = f.quiet; timed = λ k. timed_on made made' base base' v l e (hold a k) (f.timed k) }

-- ACTIVITIES

-- The same holds, status and spawner, whatever else changed.
fine_same : (made : ℕ) (base : ℕ → ℕ) (v x : ℕ) (a b : Activity) → b.holds ≡ a.holds → b.status ≡ a.status → b.spawner ≡ a.spawner
    → Fine made base v x a → Fine made base v x b
fine_same made base v x a b p q r f =
    record { falls = rw r f.falls; free = rw (p, q) f.free; quiet = rw (p, q) f.quiet; timed = rw p f.timed }

-- Ended: nothing is held.
pub fine_stopped : (made : ℕ) (base : ℕ → ℕ) (v x : ℕ) (a : Activity) (status : Status) → Fine made base v x a → Fine made base v x (stopped a status)
fine_stopped made base v x a status f =
    record {
      falls = f.falls;
      free = λ e. each_none (λ h. is_held h.registration ≡ false) refl 8;
      quiet = λ e. each_none (λ h. is_live h.registration ≡ false) refl 8;
      timed = each_none (Timed made base v) (timed_none made base v) 8;
    }

module _ (p : Program) (base : ℕ → ℕ) (v i : ℕ) (a : Activity) (made : ℕ) (f : Fine made base v i a) where
  -- Each outcome of END.
  fine_end : Fine made base v i (end_of p a)
  unfolding end_of again popped past
  fine_end = go (leb a.depth 1) (ltb 1 (top a).runs)
    where
      go : (x y : Bool) → Fine made base v i (cond x (stopped a Ended) (cond y (again a) (popped p a)))
      go true y = fine_stopped made base v i a Ended f
      go false true = fine_same made base v i a (again a) refl refl refl f
      go false false = fine_same made base v i a (popped p a) refl refl refl f

  -- Both steps of NEXT.
  fine_next : (b : Bool) → Fine made base (cond b (v + 1) v) i (next_of p a b)
  unfolding next_of past EachHold
  fine_next true =
      record {
        falls = f.falls;
        free = λ e. absurd (true_false false e refl);
        quiet = λ e. absurd (true_false false e refl);
        timed = each_map (Timed made base v) (Timed made base (v + 1)) pass refl (timed_pass made base v) a.holds f.timed;
      }
  fine_next false =
      record {
        falls = f.falls;
        free = λ e. absurd (true_false false e refl);
        quiet = λ e. each_map (λ h. Unit {0}) (λ h. is_live h.registration ≡ false) quiesce refl (λ h u. dead h.registration) a.holds (λ k. tt);
        timed = each_map (Timed made base v) (Timed made base v) quiesce refl (timed_quiesce made base v) a.holds f.timed;
      }
    where
      dead : (r : Registration) → is_live (quiesced r) ≡ false
      dead Free = refl
      dead Live = refl
      dead Quiesced = refl

-- ONE STEP

-- The base of the clock that the step may make is its maker's time.
module _ (p : Program) (e : Env) (base : ℕ → ℕ) (v i : ℕ) (a : Activity) (f : Fine e.clock base v i a) (unended : is_ended a.status ≡ false) where
  -- The bases after the step.
  base' : ℕ → ℕ
  base' = upd base e.clock v

  -- The activity before the step, under them.
  keep_to : (m : ℕ) → e.clock ≤ m → Fine m base' v i a
  unfolding base'
  keep_to m l = fine_on e.clock m base base' v i a l (λ c l. upd_other base e.clock v c (λ e. omega arith)) f

  -- Clocks are never fewer.
  grows : (b : Bool) → e.clock ≤ clocked_count e.clock b
  grows true = omega arith
  grows false = omega arith

  -- A change of register, names and one hold at most.
  fine_alike : (clocked : Bool) (b : Activity) → is_at_barrier a.status ≡ false → Alike e.clock clocked a b → Fine (clocked_count e.clock clocked) base' v i b
  unfolding EachHold base'
  fine_alike clocked b n k = go k.holds
    where
      made : ℕ
      made = clocked_count e.clock clocked

      g : Fine made base' v i a
      g = keep_to made (grows clocked)

      timed : (j : ℕ) (h : Hold) → Replaced e.clock clocked (hold a j) h → Timed made base' v h
      timed j h (dropped q) = rw q (timed_none made base' v)
      timed j h (resumed q) = rw q (timed_quiesce made base' v (hold a j) (g.timed j))
      timed j h (created c q) =
          rw (q, c) (record { clocked = λ e. omega arith; time = λ z. rw (upd_same base e.clock v) (omega arith); vacant = λ e. absurd (true_false true refl e) })

      go : Reheld e.clock clocked a.holds b.holds → Fine made base' v i b
      go (kept q) = fine_same made base' v i a b q k.status k.spawner g
      go (replaced j h r q) =
          record {
            falls = rw k.spawner f.falls;
            free = λ e. absurd (true_false _ (rw k.status at e) unended);
            quiet = λ e. absurd (true_false _ (rw k.status at e) n);
            timed = rw q (each_set (Timed made base' v) a.holds j h (timed j h r) g.timed);
          }

  -- By the kind of the command: the activity itself.
  pub fine_self : {c : Command} {x : Effect} → (is_next c ≡ false → is_at_barrier a.status ≡ false) → Kind p e i a c x
      → Fine (clocked_count e.clock x.clocked) (upd base e.clock v) (later v c (is_at_barrier a.status)) i x.self
  unfolding later past pushed is_next base'
  fine_self {c} {x} n (ends q s m) = rw (s, q) (fine_end p base' v i a (clocked_count e.clock x.clocked) (keep_to _ (grows x.clocked)))
  fine_self {c} {x} n (meets q s m) =
      rw (s, q) (fine_next p base' v i a (clocked_count e.clock x.clocked) (keep_to _ (grows x.clocked)) (is_at_barrier a.status))
  fine_self {c} {x} n (forks b m q s z) = rw (s, q) (fine_same _ base' v i a (past p a) refl refl refl (keep_to _ (grows x.clocked)))
  fine_self {c} {x} n (opens b q s m) = rw (s, q) (fine_same _ base' v i a (pushed a b 0 e.first) refl refl refl (keep_to _ (grows x.clocked)))
  fine_self {c} {x} n (enters k b q s m) = rw (s, q.quiet) (fine_same _ base' v i a (pushed a b k 0) refl refl refl (keep_to _ (grows x.clocked)))
  fine_self {c} {x} n (moves b g h t k s m) =
      rw (s, h) (fine_same _ base' v i b (past p b) refl refl refl (fine_alike x.clocked b (n h) k))

  -- The one spawned has its spawner's time.
  pub fine_born : {c : Command} {x : Effect} (made y : ℕ) → e.clock ≤ made → i < y → length a.holds ≡ 8 → fault_for p e i a c ≡ 0 → Kind p e i a c x
      → OfChild (Fine made (upd base e.clock v) v y) x.spawned
  unfolding child base'
  fine_born {c} {x} made y l less n z k = born (Fine made base' v y) (λ b m q. lending b m (rw q at z)) k
    where
      g : Fine made base' v i a
      g = keep_to made l

      lending : (b m : ℕ) → fault_for p e i a (Async b m) ≡ 0 → Fine made base' v y (child i a b m)
      lending b m z =
          record {
            falls = λ h. less;
            free = λ q. absurd (true_false false q refl);
            quiet = λ q. absurd (true_false false q refl);
            timed = each_lent (Timed made base' v) (Timed made base' v) (timed_none made base' v) m 0 a.holds
                (λ k q r h.
                let w : 0 + k ≡ k = omega arith in
                let u = (lends p e i a b m z).held k (omega arith) (rw w at q) in
                record { clocked = λ w. r.clocked u; time = λ w. r.time u; vacant = λ w. absurd (true_false true refl w) })
                g.timed;
          }
