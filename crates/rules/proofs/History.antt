-- The sentence "It is inside a finish if it was spawned by the owner during that body, or by an activity inside", told by the run itself, and what a state's numbers
-- say of it are the same at every point of a run. Along the way: an open FINISH body began when there were more activities than its owner's number, and no
-- more than now.
use Prim.Native.Nat.{ℕ, zero, suc, ◌-◌, ◌≤◌, ◌<◌}
use native.Mathlib.Omega.{arith}
use native.Mathlib.Decide.{ℕ_discrete}
use mathlib.Core.List.{List, [], ◌∷◌}
use mathlib.Core.Bool.{true, false, cond, ◌||◌, ◌&&◌, and-false}
use mathlib.Core.Path.{◌≡◌, refl, sym, ap, ◌∙◌, subst}
use mathlib.Core.Logic.{◌⊎◌, inl, inr}
use lib.Dec.{ltb, leb, eqb}
use borrow.Author.Tests.{ltb-true, lt-ltb, le-leb, lt-leb, eq-eqb, ne_eqb}
use Rattle.program.specs.Bodies.{Program, program_of}
use Rattle.program.specs.Table.{number_of}
use Rattle.program.proofs.Shape.{Accepted}
use Rattle.rules.specs.declared.state.Activity.{Activity}
use Rattle.rules.specs.declared.state.State.{State}
use Rattle.rules.specs.Search.{chain}
use Rattle.rules.specs.State.{act, frame, top, ended}
use Rattle.rules.specs.Tree.{here, is_finish, finishes, spawner_of, inside}
use Rattle.rules.specs.Effects.{one, child}
use Rattle.rules.specs.Steps.{Limits, at, effect, spawns, start_state, start_with, start, step}
use Rattle.rules.specs.Runs.{is_accepted, run_from, run}
use Rattle.rules.specs.History.{Insides, no_insides, is_finish_body, begins_finish, spawns_now, insides_after, insides_from, insides}
use Rattle.rules.proofs.Tests.{true_false, decide}
use Rattle.rules.proofs.Search.{chain_step}
use Rattle.rules.proofs.Sized.{Sized}
use Rattle.rules.proofs.WellFormedFacts.{Facts}
use Rattle.rules.proofs.WellFormedShape.{born, Shape}
use Rattle.rules.proofs.Turn.{Turn, turn, after}
use Rattle.rules.proofs.Applied.{Now, self, newborn, other}
use Rattle.rules.proofs.WellFormedApply.{Room, room, step_shape}
use Rattle.rules.proofs.WellFormedStep.{step_facts}
use Rattle.rules.proofs.Sizes.{step_sized}
use Rattle.rules.proofs.WellFormedStart.{start_main, start_facts, start_sized}
use Rattle.rules.proofs.PersistTree.{entry, chain_old, spawner_new, grown}
use Rattle.rules.proofs.HistoryOpen.{Open, open_test, open_first, Opened, begun, before, opened}
use Rattle.rules.proofs.StepLaws.{Outcome, unfits, refuses, overflows, takes, outcome}

-- equal either way round
eqb_sym : (a b : ℕ) → eqb a b ≡ eqb b a
eqb_sym a b = go (ℕ_discrete a b)
  where
    go : Dec (a ≡ b) → eqb a b ≡ eqb b a
    go (yes e) = eq-eqb a b e ∙ sym (eq-eqb b a (sym e))
    go (no e) = ne_eqb a b e ∙ sym (ne_eqb b a (λ q. e (sym q)))

-- nobody spawned before a body began is inside it
chain_late : (sp : ℕ → ℕ) (n : ℕ) → ((y : ℕ) → 0 < y → y < n → sp y < y) → (first w f x : ℕ) → x < n → x < first → chain sp (leb first) w f x ≡ false
unfolding chain
chain_late sp n falls first w zero x h m = refl
chain_late sp n falls first w (suc f) x h m = go (chain_late sp n falls first w f (sp x)) (decide (ltb w x))
  where
    go : (sp x < n → sp x < first → chain sp (leb first) w f (sp x) ≡ false) → (ltb w x ≡ true) ⊎ (ltb w x ≡ false)
        → ltb w x && ((eqb (sp x) w && leb first x) || chain sp (leb first) w f (sp x)) ≡ false
    go ih (inl e) =
        let q = falls x (omega (arith, ltb-true w x e)) h in
        rw (e, lt-leb first x m, ih (omega arith) (omega arith), and-false (eqb (sp x) w))
    go ih (inr e) = rw e

-- What the history and the state have to do with each other.
pub record Told (p : Program) (s : State) (h : Insides) : Type 0 where
  -- a body began when its owner was there
  pub later : (w d : ℕ) → w < s.activities → ended s w ≡ false → Open p (act s w) d → w < (frame (act s w) d).first
  pub told : (w d x : ℕ) → w < s.activities → ended s w ≡ false → Open p (act s w) d → x < s.activities → h w d x ≡ inside s w (frame (act s w) d).first x

-- A STEP

module _ (l : Limits) {p : Program} (ok : Accepted p) {s : State} (f : Facts l.phase p s) (z : Sized s) (i : ℕ) (t : Turn p s i) (r : Room l p s (effect p s i)) where
  -- a body that is open after the step
  data Stood (w d : ℕ) : Type 0 where
    now_begun : w ≡ i → is_finish (here p (top (act s i))).command ≡ true → d ≡ (act s i).depth → (frame (act (after p s i) w) d).first ≡ s.activities → Stood w d
    still_open : w < s.activities → ended s w ≡ false → Open p (act s w) d → (frame (act (after p s i) w) d).first ≡ (frame (act s w) d).first → Stood w d

  -- the shape of the step
  shape_of : Shape p s i (act s i) (here p (top (act s i))).command (effect p s i)
  shape_of = step_shape ok f i t.spawned t.unended

  -- the state after it is well-formed
  facts_after : Facts l.phase p (after p s i)
  facts_after = step_facts l ok f z i t r

  -- a child has one body, so none that a FINISH runs
  child_depth : (c : Activity) → (effect p s i).spawned ≡ one c → c.depth ≡ 1
  unfolding child
  child_depth c q = rw (born shape_of.offspring q).like

  -- each is one of the two
  stood : (w d : ℕ) → w < (after p s i).activities → ended (after p s i) w ≡ false → Open p (act (after p s i) w) d → Stood w d
  stood w d h u x = go (entry l ok f z i t r w)
    where
      from_self : w ≡ i → act (after p s i) w ≡ (effect p s i).self → Opened p s.activities (here p (top (act s i))).command (act s i) (effect p s i).self d → Stood w d
      from_self e q (begun a b c) = now_begun e a b (ap (λ g. (frame g d).first) q ∙ c)
      from_self e q (before a b) =
          still_open (rw e t.spawned) (rw e t.unended) (subst (λ w. Open p (act s w) d) (sym e) a) (ap (λ g. (frame g d).first) q ∙ b ∙ ap (λ w. (frame (act s w) d).first) (sym e))

      go : Now s i (effect p s i) w → Stood w d
      go (self e q) =
          from_self e q
          (opened (z.each i (omega (arith, t.spawned, f.acts64))).frames16 (subst (λ g. g.depth ≤ 16) q (facts_after.spawned w h).stack.few) shape_of.motion
          (rw q at u) (subst (λ g. Open p g d) q x))
      go (newborn c e n q) = let y = subst (λ g. Open p g d) q x in absurd (omega (arith, child_depth c e, y.above, y.below))
      go (other e n q) = still_open (n h) (rw q at u) (subst (λ g. Open p g d) q x) (ap (λ g. (frame g d).first) q)

  module _ {h : Insides} (y : Told p s h) where
    -- its owner was there before it began
    later_after : (w d : ℕ) → Stood w d → w < (frame (act (after p s i) w) d).first
    later_after w d (now_begun e o n q) = rw q (omega (arith, t.spawned))
    later_after w d (still_open a b c q) = rw q (y.later w d a b c)

    -- a FINISH spawns nobody
    none_new : is_finish (here p (top (act s i))).command ≡ true → (x : ℕ) → x < (after p s i).activities → x < s.activities
    none_new o x m = go (entry l ok f z i t r x)
      where
        go : Now s i (effect p s i) x → x < s.activities
        go (self e q) = rw e t.spawned
        go (newborn c e n q) = absurd (true_false false (rw (born shape_of.offspring e).by at o) refl)
        go (other e n q) = n m

    -- who was there
    told_old : (w d x : ℕ) → w < s.activities → ended s w ≡ false → Open p (act s w) d → x < s.activities
        → cond (spawns_now p s i x) ((eqb w i && is_finish_body p (act s w) d) || h w d i) (h w d x) ≡ inside (after p s i) w (frame (act s w) d).first x
    unfolding spawns_now inside
    told_old w d x a u o m =
        rw (ne_eqb x s.activities (λ q. omega arith), and-false (spawns (effect p s i).spawned))
        (y.told w d x a u o m ∙ unfold inside in sym (chain_old l ok f z i t r (leb (frame (act s w) d).first) w x m))

    -- who is spawned now
    told_new : (w d : ℕ) → w < s.activities → ended s w ≡ false → Open p (act s w) d → (c : Activity) → (effect p s i).spawned ≡ one c → act (after p s i) s.activities ≡ c
        → cond (spawns_now p s i s.activities) ((eqb w i && is_finish_body p (act s w) d) || h w d i) (h w d s.activities)
        ≡ inside (after p s i) w (frame (act s w) d).first s.activities
    unfolding spawns_now inside
    told_new w d a u o c q n =
        rw (
          ap spawns q,
          eq-eqb s.activities s.activities refl,
          open_test o,
          y.told w d i a u o t.spawned,
          step_there,
          lt-ltb w s.activities a,
          to,
          eqb_sym i w,
          le-leb first s.activities (open_first (f.spawned w a).stack o),
          chain_old l ok f z i t r (leb first) w i t.spawned,
        )
      where
        first : ℕ
        first = (frame (act s w) d).first

        to : spawner_of (after p s i) s.activities ≡ i
        to = ap (λ a. a.spawner) n ∙ spawner_new l ok f z i t r c q

        step_there : chain (spawner_of (after p s i)) (leb first) w 64 s.activities
            ≡ ltb w s.activities
            && ((eqb (spawner_of (after p s i) s.activities) w && leb first s.activities)
            || chain (spawner_of (after p s i)) (leb first) w 64 (spawner_of (after p s i) s.activities))
        step_there =
            chain_step (spawner_of (after p s i)) (after p s i).activities (λ y a b. (facts_after.spawned y b).lower a) (leb first) w 64 s.activities
            (grown l ok f z i t r c q) (r.acts (ap spawns q))

    -- whoever it is
    told_after : (w d x : ℕ) → Stood w d → x < (after p s i).activities
        → insides_after p s i h w d x ≡ inside (after p s i) w (frame (act (after p s i) w) d).first x
    unfolding insides_after begins_finish at
    told_after w d x (now_begun e o n q) m =
        rw (eq-eqb w i e, o, eq-eqb d (act s i).depth n, q)
        (unfold inside in
        sym (chain_late (spawner_of (after p s i)) (after p s i).activities (λ y a b. (facts_after.spawned y b).lower a) s.activities w 64 x m (none_new o x m)))
    told_after w d x (still_open a u o q) m = rw (q, no_begin (ℕ_discrete w i)) (go (entry l ok f z i t r x))
      where
        no_begin : Dec (w ≡ i) → eqb w i && (is_finish (here p (top (act s i))).command && eqb d (act s i).depth) ≡ false
        no_begin (yes e) =
            let k : d < (act s i).depth = subst (λ w. d < (act s w).depth) e o.below in
            rw (eq-eqb w i e, ne_eqb d (act s i).depth (λ q. omega arith)) (and-false (is_finish (here p (top (act s i))).command))
        no_begin (no e) = rw (ne_eqb w i e)

        go : Now s i (effect p s i) x
            → cond (spawns_now p s i x) ((eqb w i && is_finish_body p (act s w) d) || h w d i) (h w d x) ≡ inside (after p s i) w (frame (act s w) d).first x
        go (self e b) = told_old w d x a u o (rw e t.spawned)
        go (newborn c e n b) = rw n (told_new w d a u o c e (subst (λ x. act (after p s i) x ≡ c) n b))
        go (other e n b) = told_old w d x a u o (n m)

    -- the step keeps what the history and the state have to do with each other
    pub step_told : Told p (after p s i) (insides_after p s i h)
    step_told =
        record { later = λ w d a u o. later_after w d (stood w d a u o); told = λ w d x a u o m. told_after w d x (stood w d a u o) m }

-- A RUN

-- What holds at each point of a run, with the history so far.
pub record Point (l : Limits) (p : Program) (s : State) (h : Insides) : Type 0 where
  pub facts : Facts l.phase p s
  pub sized : Sized s
  pub telling : Told p s h

-- at the start nothing is open
start_told : (p : Program) → Told p start_state no_insides
start_told p = record { later = λ w d a u o. absurd (none w d a o); told = λ w d x a u o m. absurd (none w d a o) }
  where
    none : (w d : ℕ) → w < 1 → Open p (act start_state w) d → ⊥
    none w d a o =
        let z : w ≡ 0 = omega arith in
        let y = subst (λ g. Open p g d) (ap (act start_state) z ∙ start_main) o in
        omega (arith, y.above, y.below)

module _ (l : Limits) (t : List ℕ) (ok : Accepted (program_of t)) where
  -- from a point on
  points : (order : List ℕ) (s : State) (h : Insides) → Point l (program_of t) s h → Point l (program_of t) (run_from l t s order) (insides_from l t s h order)
  unfolding run_from insides_from
  points [] s h x = x
  points (i ∷ order) s h x = go (points order) (outcome l t s i)
    where
      p : Program
      p = program_of t

      go : ((s : State) (h : Insides) → Point l (program_of t) s h → Point l (program_of t) (run_from l t s order) (insides_from l t s h order)) → Outcome l t s i
          → Point l (program_of t) (run_from l t (step l t s i).state order)
          (insides_from l t (step l t s i).state (cond (is_accepted (step l t s i).answer) (insides_after (program_of t) s i h) h) order)
      go ih (unfits n q e d) = rw d (ih s h x)
      go ih (refuses n q e d) = rw d (ih s h x)
      go ih (overflows q e d) = rw d (ih s h x)
      go ih (takes a w r e d) =
          let u = turn p s i r in
          let m = room l p s (effect p s i) e in
          rw d
          (ih (after p s i) (insides_after p s i h)
          (record {
            facts = step_facts l ok x.facts x.sized i u m;
            sized = step_sized p s x.sized i (omega (arith, u.spawned, x.facts.acts64));
            telling = step_told l ok x.facts x.sized i u m x.telling;
          }))

  module _ (number : number_of l.work t ≡ 0) where
    -- each point of the run
    pub point : (order : List ℕ) → Point l (program_of t) (run l t order) (insides l t order)
    unfolding run insides start start_with
    point order =
        rw number (points order start_state no_insides (record { facts = start_facts l.phase ok; sized = start_sized; telling = start_told (program_of t) }))

    -- the history and the state agree on who is inside an open FINISH body
    pub history : (order : List ℕ) (w d x : ℕ) → w < (run l t order).activities → ended (run l t order) w ≡ false → 0 < d → d < (act (run l t order) w).depth
        → finishes (program_of t) (act (run l t order) w) (d - 1) ≡ true → x < (run l t order).activities
        → insides l t order w d x ≡ inside (run l t order) w (frame (act (run l t order) w) d).first x
    unfolding finishes
    history order w d x a u m n e b = (point order).telling.told w d x a u (record { above = m; below = n; by = e }) b

    -- and such a body began after its owner was spawned
    pub began : (order : List ℕ) (w d : ℕ) → w < (run l t order).activities → ended (run l t order) w ≡ false → 0 < d → d < (act (run l t order) w).depth
        → finishes (program_of t) (act (run l t order) w) (d - 1) ≡ true
        → (w < (frame (act (run l t order) w) d).first) × ((frame (act (run l t order) w) d).first ≤ (run l t order).activities)
    unfolding finishes
    began order w d a u m n e =
        let o : Open (program_of t) (act (run l t order) w) d = record { above = m; below = n; by = e } in
        ((point order).telling.later w d a u o, open_first ((point order).facts.spawned w a).stack o)
