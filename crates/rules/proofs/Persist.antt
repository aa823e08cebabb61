-- An activity that can step keeps that right while another steps, in every well-formed state, reached or not. Its record is untouched; it breaches the same rule
-- or none, since accumulators keep their owners; and whom it would wait for after the step it waited for before.
use Prim.Native.Nat.{ℕ, ◌<◌}
use native.Mathlib.Omega.{arith}
use mathlib.Core.Bool.{Bool, true, false, ◌&&◌, not}
use mathlib.Core.Path.{◌≡◌, refl, sym, ap, ◌∙◌, subst}
use mathlib.Core.Logic.{◌⊎◌, inl, inr}
use lib.Dec.{leb, eqb}
use borrow.Author.Tests.{eqb-true, eqb-false, eq-eqb}
use Rattle.program.specs.declared.command.Command.{Command}
use Rattle.program.specs.declared.command.Command.TheVariants.{End, Next, Clock, Resume, Drop, Async, Finish, Repeat, Acc, Offer, Read, Reset, Put, Fetch, Store, Add, Atom, Choose}
use Rattle.program.specs.Bodies.{Program}
use Rattle.program.proofs.Shape.{Accepted, Ranged}
use Rattle.program.proofs.ShapeRanges.{within}
use Rattle.rules.specs.declared.state.Activity.{Activity}
use Rattle.rules.specs.declared.state.State.{State}
use Rattle.rules.specs.Search.{some_below, chain}
use Rattle.rules.specs.State.{act, top, hold, accumulator, bound, is_at_barrier, ended}
use Rattle.rules.specs.Clocks.{holds, is_behind, behind}
use Rattle.rules.specs.Tree.{here, spawner_of, in_finish_body, descends, inside}
use Rattle.rules.specs.Faults.{unbound, number_under, read_fault, fault_for}
use Rattle.rules.specs.Waiting.{behind_of, unended_below, unended_inside, waits_for}
use Rattle.rules.specs.Effects.{one, lent, child, env_of, applied}
use Rattle.rules.specs.WellFormed.{well_formed}
use Rattle.rules.specs.Steps.{Limits, at, breach, waits, effect, refusal, exceeds, can_step}
use Rattle.rules.proofs.Tests.{and_true, and_intro, and_false, true_false, decide}
use Rattle.rules.proofs.Search.{Witness, some_below_witness, some_below_intro, some_below_all}
use Rattle.rules.proofs.Awaited.{waits_at, waits_live}
use Rattle.rules.proofs.Sized.{Sized}
use Rattle.rules.proofs.WellFormedFacts.{ActivityFacts, Facts, facts}
use Rattle.rules.proofs.WellFormedShape.{born, Shape}
use Rattle.rules.proofs.Turn.{Turn, turn, turn_back, after}
use Rattle.rules.proofs.Applied.{Now, self, newborn, other, act_old}
use Rattle.rules.proofs.WellFormedApply.{Room, room, at_sound, step_shape, acts_after, owner_old}
use Rattle.rules.proofs.PersistBehind.{self_before, child_before}
use Rattle.rules.proofs.PersistTree.{entry, chain_old, chain_child}

-- FAULTS

-- READ and RESET look at one owner
read_same : (s s' : State) (x : ℕ) (a : Activity) (n : ℕ) → (unbound a n ≡ false → (accumulator s' (number_under a n)).owner ≡ (accumulator s (number_under a n)).owner)
    → read_fault (env_of s') x a n ≡ read_fault (env_of s) x a n
unfolding read_fault
read_same s s' x a n h = go (decide (unbound a n))
  where
    go : (unbound a n ≡ true) ⊎ (unbound a n ≡ false) → read_fault (env_of s') x a n ≡ read_fault (env_of s) x a n
    go (inl u) = rw u
    go (inr u) = rw (h u)

-- where the accumulators that are bound have the same owners, the same rule is breached
breach_same : (p : Program) (s s' : State) (x : ℕ) (a : Activity) → ((n : ℕ) → n < 8 → unbound a n ≡ false → (accumulator s' (number_under a n)).owner ≡ (accumulator s (number_under a n)).owner)
    → (o : Command) → Ranged o → fault_for p (env_of s') x a o ≡ fault_for p (env_of s) x a o
unfolding fault_for
breach_same p s s' x a h End r = refl
breach_same p s s' x a h Next r = refl
breach_same p s s' x a h (Clock c) r = refl
breach_same p s s' x a h (Resume c) r = refl
breach_same p s s' x a h (Drop c) r = refl
breach_same p s s' x a h (Async b m) r = refl
breach_same p s s' x a h (Finish b) r = refl
breach_same p s s' x a h (Repeat n b) r = refl
breach_same p s s' x a h (Acc n o) r = refl
breach_same p s s' x a h (Offer n) r = refl
breach_same p s s' x a h (Read n) r = read_same s s' x a n (h n (within (Read n) r))
breach_same p s s' x a h (Reset n) r = read_same s s' x a n (h n (within (Reset n) r))
breach_same p s s' x a h (Put v) r = refl
breach_same p s s' x a h (Fetch d) r = refl
breach_same p s s' x a h (Store d) r = refl
breach_same p s s' x a h (Add d) r = refl
breach_same p s s' x a h (Atom k) r = refl
breach_same p s s' x a h (Choose b) r = refl

-- WAITING

-- whom it waits for after, it waited for before, or for another
wait_before : (p : Program) (s s' : State) (x : ℕ) (a : Activity) (y : ℕ) → (unended_inside s' x (top a).first y ≡ true → Witness s.activities (unended_inside s x (top a).first))
    → (unended_below s' x y ≡ true → Witness s.activities (unended_below s x)) → (behind_of s' a y ≡ true → Witness s.activities (behind_of s a)) → (o : Command)
    → waits_for p s' x a o y ≡ true → waits_at p s x a o ≡ true
unfolding waits_for
wait_before p s s' x a y ins bel beh End e =
    let q = and_true (in_finish_body p a) _ e in
    let w = ins q.1 in
    some_below_intro s.activities (waits_for p s x a End) w.at w.below (and_intro (in_finish_body p a) _ q.0 w.passes)
wait_before p s s' x a y ins bel beh Next e =
    let q = and_true (is_at_barrier a.status) _ e in
    let w = beh q.1 in
    some_below_intro s.activities (waits_for p s x a Next) w.at w.below (and_intro (is_at_barrier a.status) _ q.0 w.passes)
wait_before p s s' x a y ins bel beh (Clock c) e = absurd (true_false false e refl)
wait_before p s s' x a y ins bel beh (Resume c) e = absurd (true_false false e refl)
wait_before p s s' x a y ins bel beh (Drop c) e = absurd (true_false false e refl)
wait_before p s s' x a y ins bel beh (Async b m) e = absurd (true_false false e refl)
wait_before p s s' x a y ins bel beh (Finish b) e = absurd (true_false false e refl)
wait_before p s s' x a y ins bel beh (Repeat n b) e = absurd (true_false false e refl)
wait_before p s s' x a y ins bel beh (Acc n o) e = absurd (true_false false e refl)
wait_before p s s' x a y ins bel beh (Offer n) e = absurd (true_false false e refl)
wait_before p s s' x a y ins bel beh (Read n) e = let w = bel e in some_below_intro s.activities (waits_for p s x a (Read n)) w.at w.below w.passes
wait_before p s s' x a y ins bel beh (Reset n) e = let w = bel e in some_below_intro s.activities (waits_for p s x a (Reset n)) w.at w.below w.passes
wait_before p s s' x a y ins bel beh (Put v) e = absurd (true_false false e refl)
wait_before p s s' x a y ins bel beh (Fetch d) e = absurd (true_false false e refl)
wait_before p s s' x a y ins bel beh (Store d) e = absurd (true_false false e refl)
wait_before p s s' x a y ins bel beh (Add d) e = absurd (true_false false e refl)
wait_before p s s' x a y ins bel beh (Atom k) e = absurd (true_false false e refl)
wait_before p s s' x a y ins bel beh (Choose b) e = absurd (true_false false e refl)

-- THE STEP OF ANOTHER

module _ (l : Limits) {p : Program} (ok : Accepted p) {s : State} (f : Facts l.phase p s) (z : Sized s) (i : ℕ) (t : Turn p s i) (r : Room l p s (effect p s i)) where
  -- the shape of the step
  shape_of : Shape p s i (act s i) (here p (top (act s i))).command (effect p s i)
  shape_of = step_shape ok f i t.spawned t.unended

  -- who is at the end of a chain and has not ended, or another such, was there before
  chain_before : (test : ℕ → Bool) (x : ℕ) → (x ≡ i → ⊥) → (y : ℕ) → y < (after p s i).activities
      → chain (spawner_of (after p s i)) test x 64 y && not (ended (after p s i) y) ≡ true
      → Witness s.activities (λ y. chain (spawner_of s) test x 64 y && not (ended s y))
  chain_before test x d y h e = go (entry l ok f z i t r y)
    where
      q : (chain (spawner_of (after p s i)) test x 64 y ≡ true) × (not (ended (after p s i) y) ≡ true)
      q = and_true (chain (spawner_of (after p s i)) test x 64 y) _ e

      by_self : chain (spawner_of s) test x 64 i ≡ true → Witness s.activities (λ y. chain (spawner_of s) test x 64 y && not (ended s y))
      by_self u = record { at = i; below = t.spawned; passes = and_intro (chain (spawner_of s) test x 64 i) _ u (rw t.unended) }

      go : Now s i (effect p s i) y → Witness s.activities (λ y. chain (spawner_of s) test x 64 y && not (ended s y))
      go (self w m) = by_self (sym (chain_old l ok f z i t r test x i t.spawned) ∙ subst (λ y. chain (spawner_of (after p s i)) test x 64 y ≡ true) w q.0)
      go (newborn c w n m) =
          by_self (chain_child l ok f z i t r test x d c w (subst (λ y. act (after p s i) y ≡ c) n m) (subst (λ y. chain (spawner_of (after p s i)) test x 64 y ≡ true) n q.0))
      go (other w n m) =
          record { at = y; below = n h; passes = and_intro (chain (spawner_of s) test x 64 y) _ (sym (chain_old l ok f z i t r test x y (n h)) ∙ q.0) (rw m at q.1) }

  -- who is behind, or the one who stepped, was behind before
  pub behind_before : (c n : ℕ) → c < s.clocks → (y : ℕ) → y < (after p s i).activities → behind (after p s i) c n y ≡ true → Witness s.activities (behind s c n)
  unfolding behind child
  behind_before c n m y h b =
      let w = some_below_witness 8 (λ k. is_behind c n (hold (act (after p s i) y) k)) b in
      go w.at w.below w.passes (entry l ok f z i t r y)
    where
      by_self : (k : ℕ) → k < 8 → is_behind c n (hold (act s i) k) ≡ true → Witness s.activities (behind s c n)
      by_self k l u = record { at = i; below = t.spawned; passes = some_below_intro 8 (λ k. is_behind c n (hold (act s i) k)) k l u }

      by_child : (k : ℕ) → k < 8 → (a : Activity) → (effect p s i).spawned ≡ one a → is_behind c n (hold a k) ≡ true → is_behind c n (hold (act s i) k) ≡ true
      by_child k l a q u =
          let g = born shape_of.offspring q in
          let hs : a.holds ≡ lent g.mask 0 (act s i).holds = ap (λ c. c.holds) g.like in
          child_before c n g.mask (act s i).holds k (λ t. (g.lent k l t).1) (rw hs at u)

      go : (k : ℕ) → k < 8 → is_behind c n (hold (act (after p s i) y) k) ≡ true → Now s i (effect p s i) y → Witness s.activities (behind s c n)
      go k l u (self d q) = by_self k l (self_before c n shape_of.holding m k (rw q at u))
      go k l u (newborn a d v q) = by_self k l (by_child k l a d (rw q at u))
      go k l u (other d v q) = record { at = y; below = v h; passes = some_below_intro 8 (λ k. is_behind c n (hold (act s y) k)) k l (rw q at u) }

  -- another who can step still can
  module _ (x : ℕ) (d : x ≡ i → ⊥) (u : Turn p s x) where
    -- what holds of it
    facts_x : ActivityFacts l.phase p s.activities s.clocks s.accumulators x (act s x)
    facts_x = f.spawned x u.spawned

    -- its record is untouched
    pub record_old : act (after p s i) x ≡ act s x
    record_old = act_old s i (effect p s i) x u.spawned d

    -- it breaches the same rule or none
    pub same_breach : fault_for p (env_of (after p s i)) x (act s x) (here p (top (act s x))).command ≡ fault_for p (env_of s) x (act s x) (here p (top (act s x))).command
    same_breach =
        breach_same p s (after p s i) x (act s x)
        (λ n h e. owner_old s (effect p s i) shape_of.naming (number_under (act s x) n) (omega (arith, facts_x.bounds n h, eqb-false (bound (act s x) n) 0 e)))
        (here p (top (act s x))).command (at_sound ok f x u.spawned u.unended).ranged

    -- it waits for nobody, if it did not before
    no_wait : waits_at p s x (act s x) (here p (top (act s x))).command ≡ false
        → waits_at p (after p s i) x (act s x) (here p (top (act s x))).command ≡ false
    unfolding unended_inside unended_below inside descends behind_of
    no_wait h =
        some_below_all (after p s i).activities (waits_for p (after p s i) x (act s x) (here p (top (act s x))).command)
        (λ y m e. true_false _ (wait_before p s (after p s i) x (act s x) y (chain_before (leb (top (act s x)).first) x d y m) (chain_before (λ y. true) x d y m) (at_barrier_lem y m) (here p (top (act s x))).command e) h)
      where
        at_barrier_lem : (y : ℕ) → y < (after p s i).activities
            → some_below 8 (λ k. holds (act s x) k && behind (after p s i) (hold (act s x) k).clock (hold (act s x) k).phase y) ≡ true
            → Witness s.activities (λ y. some_below 8 (λ k. holds (act s x) k && behind s (hold (act s x) k).clock (hold (act s x) k).phase y))
        at_barrier_lem y m e =
            let w = some_below_witness 8 (λ k. holds (act s x) k && behind (after p s i) (hold (act s x) k).clock (hold (act s x) k).phase y) e in
            let q = and_true (holds (act s x) w.at) _ w.passes in
            let v = behind_before (hold (act s x) w.at).clock (hold (act s x) w.at).phase ((facts_x.held.fits w.at w.below).known q.0) y m q.1 in
            record {
              at = v.at;
              below = v.below;
              passes =
                  some_below_intro 8 (λ k. holds (act s x) k && behind s (hold (act s x) k).clock (hold (act s x) k).phase v.at) w.at w.below
                  (and_intro (holds (act s x) w.at) _ q.0 v.passes);
            }

    -- it is spawned still
    kept : x < (after p s i).activities
    kept = omega (arith, u.spawned, (acts_after s i (effect p s i)).up)

    -- so it does not wait
    still_moves : waits p (after p s i) x ≡ false
    unfolding at breach
    still_moves =
        waits_live p (after p s i) x kept (rw record_old u.unended)
        ∙ rw (command_old, record_old, same_breach) (go (decide (eqb (fault_for p (env_of s) x (act s x) (here p (top (act s x))).command) 0)) (sym (waits_live p s x u.spawned u.unended) ∙ u.moves))
      where
        command_old : (at p (after p s i) x).command ≡ (here p (top (act s x))).command
        command_old = rw record_old

        n : ℕ
        n = fault_for p (env_of s) x (act s x) (here p (top (act s x))).command

        go : (eqb n 0 ≡ true) ⊎ (eqb n 0 ≡ false) → eqb n 0 && waits_at p s x (act s x) (here p (top (act s x))).command ≡ false
            → eqb n 0 && waits_at p (after p s i) x (act s x) (here p (top (act s x))).command ≡ false
        go (inl e) w = rw (e, no_wait (and_false (eqb n 0) _ w e))
        go (inr e) w = rw e

    -- and can step
    pub turn_kept : Turn p (after p s i) x
    turn_kept = record { spawned = kept; unended = rw record_old u.unended; moves = still_moves }

-- THE THEOREM

-- what it says that an activity can step
pub can_step_lem : (p : Program) (s : State) (x : ℕ) → can_step p s x ≡ true → Turn p s x
unfolding can_step
can_step_lem p s x e = turn p s x (eqb-true (refusal p s x) 0 e)

-- who can step still can after the step of another
pub persists : (l : Limits) {p : Program} → Accepted p → (s : State) → Sized s → well_formed l.phase p s ≡ true → (x i : ℕ) → can_step p s x ≡ true → can_step p s i ≡ true → (x ≡ i → ⊥)
    → exceeds l p s (effect p s i) ≡ false → can_step p (applied s i (effect p s i)) x ≡ true
unfolding can_step
persists l {p} ok s z w x i a b d e =
    eq-eqb (refusal p (after p s i) x) 0
    (turn_back p (after p s i) x (turn_kept l ok (facts l.phase p s w) z i (can_step_lem p s i b) (room l p s (effect p s i) e) x d (can_step_lem p s x a)))
