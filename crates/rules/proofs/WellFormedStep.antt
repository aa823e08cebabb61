-- A step of a well-formed state gives a well-formed state, whether it was reached or not. What becomes of the activity that steps goes by the shape of its command; the
-- child is as its spawner's command makes it; all others stay, and counts only rise.
use Prim.Native.Nat.{ℕ, ◌+◌, ◌-◌, ◌≤◌, ◌<◌}
use native.Mathlib.Omega.{arith}
use native.Mathlib.Nat.{not-suc-le-zero}
use native.Mathlib.Decide.{ℕ_discrete, dec_lt}
use mathlib.Core.List.{List}
use mathlib.Core.Bool.{Bool, true, false}
use mathlib.Core.Path.{◌≡◌, refl, sym, ap, ◌∙◌, subst}
use lib.ListN.{length, get_or, set, length-set, length-replicate, get_or-replicate}
use lib.Seq.{get_or-set_same, get_or-set_other}
use Rattle.program.specs.declared.command.Command.{Command}
use Rattle.program.specs.declared.command.Command.TheVariants.{Async}
use Rattle.program.specs.Command.{opcode, names, named, is_end}
use Rattle.program.specs.Bodies.{Program}
use Rattle.program.proofs.Shape.{Accepted, Sound}
use Rattle.program.proofs.ShapeRows.{names_is, named_is}
use Rattle.rules.specs.declared.state.Status.{Status}
use Rattle.rules.specs.declared.state.Status.TheVariants.{Running, AtBarrier, Ended, Faulted}
use Rattle.rules.specs.declared.state.Frame.{Frame}
use Rattle.rules.specs.declared.state.Activity.{Activity}
use Rattle.rules.specs.declared.state.Accumulator.{Accumulator}
use Rattle.rules.specs.declared.state.State.{State}
use Rattle.rules.specs.State.{operator_of, no_frame, no_hold, no_frames, no_accumulator, act, top, hold, accumulator, bound, is_ended, is_at_barrier}
use Rattle.rules.specs.Clocks.{is_held, holds, quiesce, pass}
use Rattle.rules.specs.Tree.{here}
use Rattle.rules.specs.Effects.{one, Write, Effect, child, new_accumulator, clocked_count, written_count, applied}
use Rattle.rules.specs.WellFormed.{is_no_frame, is_no_activity, is_no_accumulator, is_placed, is_bottom, well_formed}
use Rattle.rules.specs.Steps.{Limits, effect, refusal, makes, exceeds}
use Rattle.rules.proofs.Tests.{true_false}
use Rattle.rules.proofs.Lists.{Stored, new, old, stored}
use Rattle.rules.proofs.Sized.{Sized}
use Rattle.rules.proofs.Bodies.{moved}
use Rattle.rules.proofs.WellFormedPlaces.{placed_body, placed_next, placed_begun}
use Rattle.rules.proofs.WellFormedStack.{ran_going, ran_names, level, Stacked, Stack, On, stack_put, stack_room, stack_more, on_moved, on_again}
use Rattle.rules.proofs.WellFormedHolds.{Held, under_none, held_none, held_map, held_set, held_new, held_lent, held_more, fits_none, fits_like, quiesced_held, revived_held, under_map}
use Rattle.rules.proofs.WellFormedFacts.{ActivityFacts, Facts, facts, formed, facts_more}
use Rattle.rules.proofs.WellFormedShape.{Motion, stays, goes, begins, repeats, returns, halts, Holding, same, quiesces, passes, clocks, resumes, drops, leaves, Naming, keeps, adds, offers, resets, born, Shape}
use Rattle.rules.proofs.Turn.{Turn, turn, after}
use Rattle.rules.proofs.Applied.{fits, Now, self, newborn, other, now}
use Rattle.rules.proofs.WellFormedApply.{Room, room, at_sound, step_shape, acts_after, clocks_after, accs_after, owner_old}

-- STACKS

-- a stack with no body
pub stack_none : (p : Program) (made : ℕ) → Stack p made 0 no_frames
stack_none p made =
    record {
      few = omega arith;
      placed = λ d l. absurd (not-suc-le-zero l);
      bottom = λ l. absurd (not-suc-le-zero l);
      stacked = λ d l. absurd (not-suc-le-zero l);
      unused = λ d l m. rw (get_or-replicate 16 d no_frame no_frame m);
    }

-- a body alone
stack_lone : {p : Program} (ok : Accepted p) (made b : ℕ) → b < length p → Stack p made 1 (set no_frames 0 (record { offset = 0; body = b; runs = 0; first = 0 }))
unfolding is_bottom
stack_lone {p} ok made b l =
    stack_put 0 1 (set no_frames 0 f) f (stack_none p made) refl (omega arith) (omega arith) (λ d h. absurd (not-suc-le-zero h)) (get_or-set_same no_frames 0 f no_frame (omega (arith, length-replicate 16 no_frame)))
    (λ d h m. rw (get_or-set_other no_frames 0 d f no_frame (λ q. omega arith), get_or-replicate 16 d no_frame no_frame m)) (placed_begun ok f l refl)
    (record { lowest = λ q. refl; higher = λ j q. absurd (omega arith) })
  where
    f : Frame
    f = record { offset = 0; body = b; runs = 0; first = 0 }

module _ {p : Program} (ok : Accepted p) {made : ℕ} (a : Activity) (st : Stack p made a.depth a.frames) (deep : 0 < a.depth) (sixteen : length a.frames ≡ 16) where
  -- the top replaced
  put_top : (f : Frame) → is_placed p f ≡ true → On p made (a.depth - 1) a.frames f → Stack p made a.depth (set a.frames (a.depth - 1) f)
  put_top f x on =
      stack_put (a.depth - 1) a.depth (set a.frames (a.depth - 1) f) f st (omega arith) (omega arith) (omega (arith, st.few))
      (λ d l. get_or-set_other a.frames (a.depth - 1) d f no_frame (λ q. omega arith)) (get_or-set_same a.frames (a.depth - 1) f no_frame (omega (arith, st.few)))
      (λ d l m. rw (get_or-set_other a.frames (a.depth - 1) d f no_frame (λ q. omega arith)) (st.unused d (omega arith) m)) x on

  -- the top gone, and the one below past its command
  put_back : 1 < a.depth
      → Stack p made (a.depth - 1)
      (set (set a.frames (a.depth - 1) no_frame) (a.depth - 1 - 1) (moved p (level (set a.frames (a.depth - 1) no_frame) (a.depth - 1 - 1))))
  put_back l =
      rw lower
      (stack_put (n - 1) n (set fs (n - 1) f) f st (omega arith) (omega arith) (omega (arith, st.few))
      (λ d h. get_or-set_other fs (n - 1) d f no_frame (λ q. omega arith) ∙ get_or-set_other a.frames n d no_frame no_frame (λ q. omega arith))
      (get_or-set_same fs (n - 1) f no_frame (omega (arith, st.few, length-set a.frames n no_frame)))
      (λ d h m. rw (get_or-set_other fs (n - 1) d f no_frame (λ q. omega arith)) (above d h m (ℕ_discrete d n)))
      (placed_next ok (level a.frames (n - 1)) (st.placed (n - 1) (omega arith)) (subst (λ k. is_end (here p (level a.frames k)).command ≡ false) (omega arith) (ran_going (st.stacked (n - 1) (omega arith)).by)))
      (on_moved (n - 1) f st (omega arith) refl refl refl))
    where
      n : ℕ
      n = a.depth - 1

      fs : List Frame
      fs = set a.frames n no_frame

      lower : level fs (n - 1) ≡ level a.frames (n - 1)
      lower = get_or-set_other a.frames n (n - 1) no_frame no_frame (λ q. omega arith)

      f : Frame
      f = moved p (level a.frames (n - 1))

      above : (d : ℕ) → n - 1 < d → d < 16 → Dec (d ≡ n) → is_no_frame (level fs d) ≡ true
      above d h m (yes q) = rw (q, get_or-set_same a.frames n no_frame no_frame (omega (arith, st.few)))
      above d h m (no q) = rw (get_or-set_other a.frames n d no_frame no_frame q) (st.unused d (omega arith) m)

  -- the stack after each motion
  stack_after : {b : Activity} → Motion p made (here p (top a)).command a b → Sound (length p) (top a).body (here p (top a)) → Stack p made b.depth b.frames
  stack_after {b} (stays o t d f) s = rw (d, f) st
  stack_after {b} (goes o t d f) s =
      rw (d, f)
      (put_top (moved p (top a)) (placed_next ok (top a) (st.placed (a.depth - 1) (omega arith)) o) (on_moved (a.depth - 1) (moved p (top a)) st (omega arith) refl refl refl))
  stack_after {b} (begins g z r t u d f) s =
      rw (d, f)
      (stack_put a.depth (a.depth + 1) (set a.frames a.depth g) g st (omega arith) (omega arith) space
      (λ k l. get_or-set_other a.frames a.depth k g no_frame (λ q. omega arith)) (get_or-set_same a.frames a.depth g no_frame (omega (arith, space)))
      (λ k l m. rw (get_or-set_other a.frames a.depth k g no_frame (λ q. omega arith)) (st.unused k (omega arith) m)) (placed_begun ok g high z)
      (record { lowest = λ q. absurd (omega arith); higher = λ j q. on j (omega arith) }))
    where
      names_it : (names (here p (top a)).command ≡ true) × (named (here p (top a)).command ≡ g.body)
      names_it = ran_names r

      low : (top a).body < g.body
      low = rw names_it.1 at (s.above names_it.0).0

      high : g.body < length p
      high = rw names_it.1 at (s.above names_it.0).1

      space : a.depth < 16
      space = stack_room ok g.body st deep low high

      on : (j : ℕ) → a.depth - 1 ≡ j → Stacked p made (level a.frames j) g
      on j q = rw (← q) (record { by = r; rises = low })
  stack_after {b} (repeats o l r t d f) s =
      rw (d, f)
      (put_top (record { offset = 0; body = (top a).body; runs = (top a).runs - 1; first = (top a).first }) (placed_begun ok _ (placed_body p (top a) (st.placed (a.depth - 1) (omega arith))) refl)
      (on_again (a.depth - 1) _ st (omega arith) refl refl refl r (omega arith)))
  stack_after {b} (returns o l t d f) s = rw (d, f) (put_back l)
  stack_after {b} (halts t d f h) s = rw (d, f) (stack_none p made)

-- WHAT BECOMES OF THE ACTIVITY

-- the clock names after each change
pub held_after : {limit next : ℕ} {clocked : Bool} {a b : Activity} → Holding next clocked a b → ((k : ℕ) → k < 8 → (hold b k).phase ≤ limit) → Held limit next a.holds
    → Held limit (clocked_count next clocked) b.holds
held_after (same c h) low x = rw (c, h) x
held_after {limit} {next} {clocked} {a} {b} (quiesces c h) low x =
    rw (c, h) (held_map quiesce refl (λ g. quiesced_held g.registration) (λ g. refl) (λ k l q. (x.fits k l).low q) x)
held_after {limit} {next} {clocked} {a} {b} (passes c h) low x =
    rw (c, h)
    (held_map pass refl (λ g. revived_held g.registration) (λ g. refl)
    (λ k l q. subst (λ g. g.phase ≤ limit) (ap (λ hs. get_or hs k no_hold) h ∙ under_map pass refl a.holds k) (low k l)) x)
held_after (clocks k c l h) low x = rw (c, h) (held_new k x)
held_after {limit} {next} {clocked} {a} {b} (resumes k c l h) low x =
    let e = quiesced_held (hold a k).registration in
    rw (c, h)
    (held_set k (quiesce (hold a k)) (λ q. sym e ∙ q) (λ q. refl)
    (fits_like (quiesce (hold a k)) (λ q. sym e ∙ q) (λ q. (x.fits k l).low (sym e ∙ q)) refl (λ q. ap quiesce ((x.fits k l).free (sym e ∙ q))) (x.fits k l)) x)
held_after {limit} {next} (drops k c l h) low x =
    rw (c, h) (held_set k no_hold (λ q. absurd (true_false false q refl)) (λ q. absurd (true_false false q refl)) (fits_none limit next) x)
held_after (leaves c h) low x = rw (c, h) held_none

-- the accumulator names after each change
bounds_after : {next i : ℕ} {a b : Activity} {w : Write} → Naming next i a b w → ((n : ℕ) → n < 8 → bound a n ≤ next) → (n : ℕ) → n < 8 → bound b n ≤ written_count next w
bounds_after (keeps w h) x n l = rw (w, h) (x n l)
bounds_after {next} {i} {a} {b} (adds k o w h) x n l = rw (w, h) (go (stored a.accumulators k (next + 1) n 0))
  where
    go : Stored a.accumulators k (next + 1) n 0 → get_or (set a.accumulators k (next + 1)) n 0 ≤ next + 1
    go (new e q) = rw q (omega arith)
    go (old q) = rw q (omega (arith, x n l))
bounds_after (offers y v w m h) x n l = rw (w, h) (x n l)
bounds_after (resets y v w m h) x n l = rw (w, h) (x n l)

-- the ended one has nothing
gone_after : {p : Program} {made : ℕ} {o : Command} {a b : Activity} → Motion p made o a b → is_ended b.status ≡ true → (b.depth ≡ 0) × ((k : ℕ) → k < 8 → holds b k ≡ false)
gone_after (stays o t d f) e = absurd (true_false false (rw t at e) refl)
gone_after (goes o t d f) e = absurd (true_false false (rw t at e) refl)
gone_after (begins g z r q t d f) e = absurd (true_false false (rw t at e) refl)
gone_after (repeats o l r t d f) e = absurd (true_false false (rw t at e) refl)
gone_after (returns o l t d f) e = absurd (true_false false (rw t at e) refl)
gone_after {b = b} (halts t d f h) e = (d, λ k l. ap (λ hs. is_held (get_or hs k no_hold).registration) h ∙ ap (λ g. is_held g.registration) (under_none 8 k))

-- another has a body
bodied_after : {p : Program} {made : ℕ} {o : Command} {a b : Activity} → Motion p made o a b → 0 < a.depth → is_ended b.status ≡ false → 0 < b.depth
bodied_after (stays o t d f) l e = rw d l
bodied_after (goes o t d f) l e = rw d l
bodied_after (begins g z r q t d f) l e = rw d (omega arith)
bodied_after (repeats o m r t d f) l e = rw d l
bodied_after (returns o m t d f) l e = rw d (omega arith)
bodied_after (halts t d f h) l e = absurd (true_false _ t e)

-- only an arrival leads to a barrier
barrier_after : {p : Program} {made : ℕ} {a b : Activity} → Motion p made (here p (top a)).command a b → is_at_barrier b.status ≡ true → opcode (here p (top b)).command ≡ 1
barrier_after (stays o t d f) e = rw (d, f) o
barrier_after (goes o t d f) e = absurd (true_false false (rw t at e) refl)
barrier_after (begins g z r q t d f) e = absurd (true_false false (rw t at e) refl)
barrier_after (repeats o l r t d f) e = absurd (true_false false (rw t at e) refl)
barrier_after (returns o l t d f) e = absurd (true_false false (rw t at e) refl)
barrier_after {b = b} (halts t d f h) e = absurd (ended_apart b.status t e)
  where
    ended_apart : (t : Status) → is_ended t ≡ true → is_at_barrier t ≡ true → ⊥
    ended_apart Running p q = true_false false p refl
    ended_apart AtBarrier p q = true_false false p refl
    ended_apart Ended p q = true_false false q refl
    ended_apart (Faulted f) p q = true_false false q refl

-- ACCUMULATORS

-- a new accumulator's owner is the one who made it, and unused entries stay
owned_after : (s : State) {i : ℕ} {a : Activity} (e : Effect) → length s.accs ≡ 16 → (makes e.write ≡ true → s.accumulators < 16)
    → Naming s.accumulators i a e.self e.write → (n : ℕ) → s.accumulators ≤ n
    → (n < (applied s i e).accumulators → (accumulator (applied s i e) n).owner ≡ i) × ((applied s i e).accumulators ≤ n → accumulator (applied s i e) n ≡ accumulator s n)
unfolding applied
owned_after s e z r (keeps w b) n l = rw w (λ h. absurd (omega arith), λ h. refl)
owned_after s {i} e z r (adds k o w b) n l =
    rw w (
      λ h. ap (λ c. c.owner) (ap (λ k. get_or (set s.accs k c) n no_accumulator) (same h) ∙ get_or-set_same s.accs n c no_accumulator (omega (arith, same h, r (ap makes w)))),
      λ h. get_or-set_other s.accs s.accumulators n c no_accumulator (λ q. omega arith),
    )
  where
    c : Accumulator
    c = new_accumulator i (operator_of o)

    same : n < s.accumulators + 1 → s.accumulators ≡ n
    same h = omega arith
owned_after s e z r (offers x v w m b) n l = rw w (λ h. absurd (omega arith), λ h. get_or-set_other s.accs x n _ no_accumulator (λ q. omega arith))
owned_after s e z r (resets x v w m b) n l = rw w (λ h. absurd (omega arith), λ h. get_or-set_other s.accs x n _ no_accumulator (λ q. omega arith))

-- THE STEP

-- ASYNC names the body that it spawns
async_names : {b m : ℕ} (o : Command) → o ≡ Async b m → (names o ≡ true) × (named o ≡ b)
async_names {b} {m} o e = rw e (names_is (Async b m), named_is (Async b m))

module _ (l : Limits) {p : Program} {s : State} (ok : Accepted p) (f : Facts l.phase p s) (z : Sized s) (i : ℕ) (t : Turn p s i) where
  -- what holds of the one who steps
  x : ActivityFacts l.phase p s.activities s.clocks s.accumulators i (act s i)
  x = f.spawned i t.spawned

  -- and the shape of its step
  sh : Shape p s i (act s i) (here p (top (act s i))).command (effect p s i)
  sh = step_shape ok f i t.spawned t.unended

  module _ (r : Room l p s (effect p s i)) where
    -- what holds of it after the step
    self_facts : ActivityFacts l.phase p (after p s i).activities (after p s i).clocks (after p s i).accumulators i (effect p s i).self
    unfolding applied
    self_facts =
        record {
          stack =
              stack_more (after p s i).activities (acts_after s i (effect p s i)).up
              (stack_after ok (act s i) x.stack (x.bodied t.unended) (z.each i (omega (arith, t.spawned, f.acts64))).frames16 sh.motion (at_sound ok f i t.spawned t.unended));
          gone = gone_after sh.motion;
          bodied = bodied_after sh.motion (x.bodied t.unended);
          barrier = barrier_after sh.motion;
          held = held_after sh.holding r.phases x.held;
          bounds = bounds_after sh.naming x.bounds;
          main = λ q. sh.spawner ∙ x.main q;
          lower = λ q. rw sh.spawner (x.lower q);
        }

    -- what holds of the child
    child_facts : (c : Activity) → (effect p s i).spawned ≡ one c → ActivityFacts l.phase p (after p s i).activities (after p s i).clocks (after p s i).accumulators s.activities c
    unfolding child
    child_facts c e =
        let g = born sh.offspring e in
        let n = async_names (here p (top (act s i))).command g.by in
        rw g.like
        (record {
          stack = stack_lone ok (after p s i).activities g.body (rw n.1 at ((at_sound ok f i t.spawned t.unended).above n.0).1);
          gone = λ y. absurd (true_false false y refl);
          bodied = λ y. omega arith;
          barrier = λ y. absurd (true_false false y refl);
          held = held_more (after p s i).clocks (clocks_after s i (effect p s i)).up (held_lent g.mask (λ k d y. (g.lent k d y).0) x.held);
          bounds = λ k d. omega (arith, x.bounds k d, (accs_after s i (effect p s i)).up);
          main = λ y. absurd (omega (arith, t.spawned));
          lower = λ y. t.spawned;
        })

    -- what holds of each who is spawned
    each_facts : (y : ℕ) → y < (after p s i).activities → Now s i (effect p s i) y → ActivityFacts l.phase p (after p s i).activities (after p s i).clocks (after p s i).accumulators y (act (after p s i) y)
    each_facts y h (self e q) = rw (q, e) self_facts
    each_facts y h (newborn c e n q) = rw (q, n) (child_facts c e)
    each_facts y h (other e n q) =
        rw q
        (facts_more (after p s i).activities (after p s i).clocks (after p s i).accumulators (acts_after s i (effect p s i)).up (clocks_after s i (effect p s i)).up (accs_after s i (effect p s i)).up (f.spawned y (n h)))

    -- unused entries stay
    none_facts : (y : ℕ) → (after p s i).activities ≤ y → y < 64 → Now s i (effect p s i) y → is_no_activity (act (after p s i) y) ≡ true
    unfolding applied
    none_facts y h m (self e q) = absurd (omega (arith, t.spawned, (acts_after s i (effect p s i)).up))
    none_facts y h m (newborn c e n q) = absurd (omega (arith, born e h))
      where
        born : (effect p s i).spawned ≡ one c → (after p s i).activities ≤ y → s.activities + 1 ≤ y
        born e h = rw e at h
    none_facts y h m (other e n q) = rw q (f.unspawned y (omega (arith, (acts_after s i (effect p s i)).up)) m)

    -- what holds of the state after the step
    pub step_facts : Facts l.phase p (after p s i)
    unfolding applied
    step_facts =
        record {
          acts64 = (acts_after s i (effect p s i)).fits f.acts64 r.acts;
          clocks16 = (clocks_after s i (effect p s i)).fits f.clocks16 r.clocks;
          accs16 = (accs_after s i (effect p s i)).fits f.accs16 r.accs;
          steps = omega (arith, r.steps);
          spawned = λ y h. each_facts y h (at_now y);
          unspawned = λ y h m. none_facts y h m (at_now y);
          owned = λ n h. owned n h (dec_lt n s.accumulators);
          unowned = λ n h m. subst (λ c. is_no_accumulator c ≡ true) (sym ((new_owner n (omega (arith, (accs_after s i (effect p s i)).up))).1 h)) (f.unowned n (omega (arith, (accs_after s i (effect p s i)).up)) m);
        }
      where
        at_now : (y : ℕ) → Now s i (effect p s i) y
        at_now y = now s (record { sized = z; count = f.acts64 }) i t.spawned (effect p s i) (fits s (effect p s i).spawned r.acts) y

        new_owner : (n : ℕ) → s.accumulators ≤ n
            → (n < (after p s i).accumulators → (accumulator (after p s i) n).owner ≡ i) × ((after p s i).accumulators ≤ n → accumulator (after p s i) n ≡ accumulator s n)
        new_owner = owned_after s (effect p s i) z.accs16 r.accs sh.naming

        owned : (n : ℕ) → n < (after p s i).accumulators → Dec (n < s.accumulators) → (accumulator (after p s i) n).owner < (after p s i).activities
        owned n h (yes q) = rw (owner_old s (effect p s i) sh.naming n q) (omega (arith, f.owned n q, (acts_after s i (effect p s i)).up))
        owned n h (no q) = rw ((new_owner n (omega arith)).0 h) (omega (arith, t.spawned, (acts_after s i (effect p s i)).up))

-- an accepted step, a faulting one too, leads from a well-formed state to a well-formed state
pub step_well_formed : (l : Limits) {p : Program} → Accepted p → (s : State) → Sized s → (i : ℕ) → well_formed l.phase p s ≡ true → refusal p s i ≡ 0
    → exceeds l p s (effect p s i) ≡ false → well_formed l.phase p (applied s i (effect p s i)) ≡ true
step_well_formed l {p} ok s z i w r x = formed l.phase p (after p s i) (step_facts l ok (facts l.phase p s w) z i (turn p s i r) (room l p s (effect p s i) x))
