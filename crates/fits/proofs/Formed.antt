-- A well-formed state whose values are below 2^32 fits the types of its fields.
use Prim.Native.Nat.{ℕ, zero, suc, ◌^◌, ◌≤◌, ◌<◌}
use native.Mathlib.Omega.{arith}
use native.Mathlib.Decide.{dec_lt}
use mathlib.Core.Path.{◌≡◌, ap}
use mathlib.Core.List.{List}
use mathlib.Core.Bool.{true, false}
use mathlib.Core.Logic.{◌⊎◌, inl, inr}
use lib.Dec.{eqb}
use borrow.Author.Tests.{eqb-true}
use Rattle.program.specs.Bodies.{program_of}
use Rattle.program.specs.Scan.{scan}
use Rattle.program.specs.Table.{work_limit, number_of}
use Rattle.program.proofs.Basic.{Bytes}
use Rattle.program.proofs.ShapeLaws.{numbered, numbered_counted}
use Rattle.rules.specs.declared.state.Frame.{Frame}
use Rattle.rules.specs.declared.state.Hold.{Hold}
use Rattle.rules.specs.declared.state.Activity.{Activity}
use Rattle.rules.specs.declared.state.State.{State}
use Rattle.rules.specs.State.{act, frame, hold, bound, accumulator}
use Rattle.rules.specs.Search.{all_below}
use Rattle.rules.specs.Clocks.{is_held}
use Rattle.rules.specs.Tree.{here}
use Rattle.rules.specs.WellFormed.{is_no_frame, is_no_hold, is_no_activity, is_running, is_bottom, is_placed, well_formed}
use Rattle.rules.proofs.Tests.{and_true, decide}
use Rattle.rules.proofs.Search.{all_below_at}
use Rattle.rules.proofs.WellFormedFacts.{ActivityFacts, Facts, facts}
use Rattle.rules.proofs.WellFormedHolds as holds
use Rattle.rules.proofs.WellFormedStack.{Ran, by_finish, by_repeat, by_choose, Stack, Stacked, level}
use Rattle.encoding.proofs.Fits.{FitsFrame, FitsHold, FitsActivity, FitsState}
use Rattle.places.proofs.Places.{body_small, offset_small}
use Rattle.fits.proofs.Operands.{narrow_here}
use Rattle.fits.proofs.Small.{Small}

-- UNUSED ENTRIES

no_frame_lem : (f : Frame) → is_no_frame f ≡ true → FitsFrame f
no_frame_lem f e =
    let a = and_true (eqb f.offset 0) _ e in
    let b = and_true (eqb f.body 0) _ a.1 in
    let c = and_true (eqb f.runs 0) _ b.1 in
    record {
      offset = omega (arith, eqb-true f.offset 0 a.0);
      body = omega (arith, eqb-true f.body 0 b.0);
      runs = omega (arith, eqb-true f.runs 0 c.0);
      first = omega (arith, eqb-true f.first 0 c.1);
    }

no_hold_lem : (h : Hold) → is_no_hold h ≡ true → FitsHold h
no_hold_lem h e =
    let a = and_true (eqb h.phase 0) _ e in
    let b = and_true (eqb h.clock 0) _ a.1 in
    record { phase = omega (arith, eqb-true h.phase 0 a.0); clock = omega (arith, eqb-true h.clock 0 b.0) }

no_activity_lem : (a : Activity) → is_no_activity a ≡ true → FitsActivity a
unfolding is_no_activity
no_activity_lem a e =
    let q₁ = and_true (eqb a.register 0) _ e in
    let q₂ = and_true (all_below 16 (λ d. is_no_frame (frame a d))) _ q₁.1 in
    let q₃ = and_true (all_below 8 (λ k. is_no_hold (hold a k))) _ q₂.1 in
    let q₄ = and_true (all_below 8 (λ n. eqb (bound a n) 0)) _ q₃.1 in
    let q₅ = and_true (is_running a.status) _ q₄.1 in
    let q₆ = and_true (eqb a.spawner 0) _ q₅.1 in
    record {
      register = omega (arith, eqb-true a.register 0 q₁.0);
      spawner = omega (arith, eqb-true a.spawner 0 q₆.0);
      depth = omega (arith, eqb-true a.depth 0 q₆.1);
      names = λ n l. omega (arith, eqb-true (bound a n) 0 (all_below_at 8 (λ n. eqb (bound a n) 0) q₄.0 n l));
      holds = λ k l. no_hold_lem (hold a k) (all_below_at 8 (λ k. is_no_hold (hold a k)) q₃.0 k l);
      frames = λ d l. no_frame_lem (frame a d) (all_below_at 16 (λ d. is_no_frame (frame a d)) q₂.0 d l);
    }

-- ACTIVITIES

-- A clock name.
held_fits : {made : ℕ} → made ≤ 16 → (h : Hold) → holds.Fits 65535 made h → FitsHold h
held_fits m h x = go (decide (is_held h.registration))
  where
    go : (is_held h.registration ≡ true) ⊎ (is_held h.registration ≡ false) → FitsHold h
    go (inl e) = record { phase = omega (arith, x.low e); clock = omega (arith, x.known e) }
    go (inr e) = let q = x.free e in record { phase = omega (arith, ap (λ (y : Hold). y.phase) q); clock = omega (arith, ap (λ (y : Hold). y.clock) q) }

module _ (t : List ℕ) (ok : scan t ≡ 0) (y : Bytes t) where
  -- The bodies on a stack.
  module _ {made depth : ℕ} {fs : List Frame} (few : made ≤ 64) (k : Stack (program_of t) made depth fs) where
    -- a body on another
    ran_fits : (f g : Frame) → is_placed (program_of t) f ≡ true → is_placed (program_of t) g ≡ true → Stacked (program_of t) made f g → FitsFrame g
    ran_fits f g on up x = go x.by
      where
        go : Ran made (here (program_of t) f).command g → FitsFrame g
        go (by_finish b e p q r) =
            record { offset = omega (arith, offset_small t ok g up); body = omega (arith, body_small t ok g up); runs = omega arith; first = omega arith }
        go (by_repeat n b e p q r u) =
            record {
              offset = omega (arith, offset_small t ok g up);
              body = omega (arith, body_small t ok g up);
              runs = omega (arith, (narrow_here t ok y f on).runs n b e);
              first = omega arith;
            }
        go (by_choose b e p q r) =
            record { offset = omega (arith, offset_small t ok g up); body = omega (arith, body_small t ok g up); runs = omega arith; first = omega arith }

    -- below the depth
    used_fits : (d : ℕ) → d < depth → FitsFrame (level fs d)
    unfolding is_bottom
    used_fits zero l =
        let f = level fs 0 in
        let q = and_true (eqb f.runs 0) _ (k.bottom l) in
        record {
          offset = omega (arith, offset_small t ok f (k.placed 0 l));
          body = omega (arith, body_small t ok f (k.placed 0 l));
          runs = omega (arith, eqb-true f.runs 0 q.0);
          first = omega (arith, eqb-true f.first 0 q.1);
        }
    used_fits (suc d) l = ran_fits (level fs d) (level fs (suc d)) (k.placed d (omega arith)) (k.placed (suc d) l) (k.stacked d l)

    -- all sixteen
    frame_fits_lem : (d : ℕ) → d < 16 → FitsFrame (level fs d)
    frame_fits_lem d l = go (dec_lt d depth)
      where
        go : Dec (d < depth) → FitsFrame (level fs d)
        go (yes h) = used_fits d h
        go (no h) = no_frame_lem (level fs d) (k.unused d (omega arith) l)

  -- An activity that was spawned.
  activity_fits_lem : {acts clocks accs i : ℕ} {a : Activity} → acts ≤ 64 → clocks ≤ 16 → accs ≤ 16 → i < acts → a.register < 2 ^ 32 → ActivityFacts 65535 (program_of t) acts clocks accs i a
      → FitsActivity a
  activity_fits_lem {i = i} {a = a} la lc ln li r x =
      record {
        register = r;
        spawner = spawner (dec_lt 0 i);
        depth = omega (arith, x.stack.few);
        names = λ n l. omega (arith, x.bounds n l);
        holds = λ k l. held_fits lc (hold a k) (x.held.fits k l);
        frames = frame_fits_lem la x.stack;
      }
    where
      spawner : Dec (0 < i) → a.spawner < 2 ^ 8
      spawner (yes h) = omega (arith, x.lower h)
      spawner (no h) = omega (arith, x.main (omega arith))

-- STATES

-- Well-formed, for an accepted table of bytes.
pub formed_fits : (t : List ℕ) → number_of work_limit t ≡ 0 → Bytes t → (s : State) → well_formed 65535 (program_of t) s ≡ true → Small s → FitsState s
formed_fits t n y s w h =
    record {
      steps = omega (arith, f.steps, (numbered_counted work_limit t n).work);
      activities = omega (arith, f.acts64);
      clocks = omega (arith, f.clocks16);
      accumulators = omega (arith, f.accs16);
      cells = λ x l. h.cells x;
      accs = λ k l. record { value = h.values k; owner = owner k l (dec_lt k s.accumulators) };
      acts = λ i l. each i l (dec_lt i s.activities);
    }
  where
    f : Facts 65535 (program_of t) s
    f = facts 65535 (program_of t) s w

    owner : (k : ℕ) → k < 16 → Dec (k < s.accumulators) → (accumulator s k).owner < 2 ^ 8
    owner k l (yes d) = omega (arith, f.owned k d, f.acts64)
    owner k l (no d) =
        let a = and_true (eqb (accumulator s k).value 0) _ (f.unowned k (omega arith) l) in
        let b = and_true (eqb (accumulator s k).owner 0) _ a.1 in
        omega (arith, eqb-true (accumulator s k).owner 0 b.0)

    each : (i : ℕ) → i < 64 → Dec (i < s.activities) → FitsActivity (act s i)
    each i l (yes d) = activity_fits_lem t (numbered work_limit t n) y f.acts64 f.clocks16 f.accs16 d (h.registers i) (f.spawned i d)
    each i l (no d) = no_activity_lem (act s i) (f.unspawned i (omega arith) l)
