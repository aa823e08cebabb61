-- What is pending in a state, for any weight of commands: work, activities, clocks, accumulators. Of an activity it is what its top command still
-- costs, what is left of each body on its stack after the frame's command, and the runs to come of each repeated body.
use Prim.Native.Nat.{ℕ, zero, suc, ◌+◌, ◌-◌, ◌*◌, ◌≤◌, ◌<◌}
use native.Mathlib.Omega.{arith}
use native.Mathlib.Nat.{zero-mul}
use mathlib.Core.List.{[], ◌∷◌}
use mathlib.Core.Bool.{Bool, true, false, cond}
use mathlib.Core.Path.{◌≡◌, refl, sym, ap, ◌∙◌, subst}
use lib.ListN.{length, get_or}
use Rattle.program.specs.declared.command.Command.{Command}
use Rattle.rules.specs.declared.state.Status.TheVariants.{Running}
use Rattle.rules.specs.declared.state.Frame.{Frame}
use Rattle.rules.specs.declared.state.Activity.{Activity}
use Rattle.program.specs.Command.{times, named, names, is_end}
use Rattle.program.specs.Bodies.{Located, Body, Program, tail_of}
use Rattle.program.specs.Count.{sum_over, tally, tally_to}
use Rattle.program.proofs.Shape.{Sound, Shaped, Accepted}
use Rattle.program.proofs.ShapeRows.{saying, named_is, times_is, times_none}
use Rattle.rules.specs.State.{frame, is_at_barrier, top, is_ended}
use Rattle.rules.specs.Tree.{here, rest, next_offset}
use Rattle.rules.specs.Effects.{past, again, pushed, popped}
use Rattle.rules.proofs.Sums.{sum_below, sum_below_same, times_pred, sum_below_zero}
use Rattle.rules.proofs.Bodies.{Placed, onward, moved_rest, begin, begun_rest}
use Rattle.rules.proofs.Stack.{begins, Stack, past_top, place, past_under, rerun, again_under, again_top, push_under, push_top, left, left_under, left_stack, left_goes, lone}

module _ (own : Command → ℕ) where
  -- A command's own weight, and that of what it runs.
  unfoldable pub cost : (ℕ → ℕ) → Command → ℕ
  cost of c = own c + times c * of (named c)

  -- That of a command that is written out.
  pub cost_is : (of : ℕ → ℕ) (c : Command) → cost of c ≡ own c + (saying c).times * of (saying c).named
  unfolding cost
  cost_is of c = rw (times_is c, named_is c)

  -- The first command and the rest.
  sum_cons : (of : ℕ → ℕ) (x : Located) (l : Body) → sum_over own of (x ∷ l) ≡ cost of x.command + sum_over own of l
  unfolding sum_over cost
  sum_cons of x l = refl

  -- No command costs nothing.
  sum_nil : (of : ℕ → ℕ) → sum_over own of [] ≡ 0
  unfolding sum_over
  sum_nil of = refl

  -- THE TALLY OF A BODY

  -- Only what is named counts, and that lies above.
  cost_same : (j k : ℕ → ℕ) (n b : ℕ) (x : Located) → Sound n b x → ((c : ℕ) → b < c → c < n → j c ≡ k c) → cost j x.command ≡ cost k x.command
  unfolding cost
  cost_same j k n b x s h = go (names x.command) refl
    where
      go : (v : Bool) → names x.command ≡ v → cost j x.command ≡ cost k x.command
      go true e = let q = s.above e in rw (h (named x.command) q.0 q.1)
      go false e = rw (times_none x.command e) (omega (arith, zero-mul (j (named x.command)), zero-mul (k (named x.command))))

  -- The same of a body.
  sum_same : (j k : ℕ → ℕ) (n b : ℕ) (l : Body) → Shaped n b l → ((c : ℕ) → b < c → c < n → j c ≡ k c) → sum_over own j l ≡ sum_over own k l
  unfolding Shaped
  sum_same j k n b [] s h = absurd s
  sum_same j k n b (x ∷ []) s h = rw (sum_cons j x [], sum_cons k x [], sum_nil j, sum_nil k, cost_same j k n b x s.0 h)
  sum_same j k n b (x ∷ (y ∷ l)) s h = rw (sum_cons j x (y ∷ l), sum_cons k x (y ∷ l), cost_same j k n b x s.0 h, sum_same j k n b (y ∷ l) s.3 h)

  -- WHAT IS PENDING OF AN ACTIVITY; `late` is the weight of passing, the second step of NEXT

  module _ (p : Program) where
    -- Of a frame: its body after its command, and the runs to come.
    unfoldable pub pend_frame : Frame → ℕ
    pend_frame f = sum_over own (tally own p) (tail_of (rest p f)) + (f.runs - 1) * tally own p f.body

    -- Of all frames.
    unfoldable pub frames : Activity → ℕ
    frames a = sum_below a.depth (λ d. pend_frame (frame a d))

    -- Of the top command: all of it, or passing at a barrier.
    unfoldable pub cost_now : ℕ → Activity → ℕ
    cost_now late a = cond (is_at_barrier a.status) late (cost (tally own p) (here p (top a)).command)

    -- Of an activity: nothing once it has ended.
    unfoldable pub pend : ℕ → Activity → ℕ
    pend late a = let r = frames a + cost_now late a in cond (is_ended a.status) 0 r

    -- Ended.
    pub pend_ended : (late : ℕ) (a : Activity) → is_ended a.status ≡ true → pend late a ≡ 0
    unfolding pend
    pend_ended late a e = rw e

    -- Running.
    pub pend_running : (late : ℕ) (a : Activity) → is_ended a.status ≡ false → is_at_barrier a.status ≡ false
        → pend late a ≡ frames a + cost (tally own p) (here p (top a)).command
    unfolding pend cost_now
    pend_running late a e b = rw (e, b)

    -- At a barrier.
    pub pend_met : (late : ℕ) (a : Activity) → is_ended a.status ≡ false → is_at_barrier a.status ≡ true → pend late a ≡ frames a + late
    unfolding pend cost_now
    pend_met late a e b = rw (e, b)

  module _ (p : Program) (ok : Accepted p) where
    -- Levels past the last body change nothing.
    tally_same : (f g b : ℕ) → b < length p → length p - b ≤ f → length p - b ≤ g → tally_to own p f b ≡ tally_to own p g b
    unfolding tally_to
    tally_same zero g b l m n = absurd (omega arith)
    tally_same (suc f) zero b l m n = absurd (omega arith)
    tally_same (suc f) (suc g) b l m n =
        sum_same (tally_to own p f) (tally_to own p g) (length p) b (get_or p b []) (ok.shaped b l) (λ c h k. tally_same f g c k (omega arith) (omega arith))

    -- The tally of a body is the cost of its commands.
    pub tally_body : (b : ℕ) → b < length p → sum_over own (tally own p) (get_or p b []) ≡ tally own p b
    unfolding tally tally_to
    tally_body b l = tally_same (suc (length p)) (length p) b l (omega arith) (omega arith)

    -- What a frame's command leaves.
    frame_moves : (f : Frame) → Placed p f → is_end (here p f).command ≡ false → (g : Frame) → g.body ≡ f.body → g.offset ≡ next_offset p f → g.runs ≡ f.runs
        → pend_frame p g + cost (tally own p) (here p g).command ≡ pend_frame p f
    unfolding pend_frame here
    frame_moves f q e g gb ga gr =
        let o = onward p ok f q e in
        let there = moved_rest p ok f q o g gb ga in
        rw (there, o.found, gb, gr, sum_cons (tally own p) o.next o.more) (omega arith)

    -- On its body's END only the runs to come are left.
    frame_last : (f : Frame) → tail_of (rest p f) ≡ [] → pend_frame p f ≡ (f.runs - 1) * tally own p f.body
    unfolding pend_frame
    frame_last f e = rw (e, sum_nil (tally own p)) (omega arith)

    -- A body begun.
    frame_begins : (f : Frame) → f.body < length p → f.offset ≡ 0
        → pend_frame p f + cost (tally own p) (here p f).command ≡ tally own p f.body + (f.runs - 1) * tally own p f.body
    unfolding pend_frame here
    frame_begins f l q =
        let b = begin p ok f.body l in
        let whole : sum_over own (tally own p) (b.head ∷ b.more) ≡ tally own p f.body
        = subst (λ k. sum_over own (tally own p) k ≡ tally own p f.body) b.whole (tally_body f.body l) in
        rw (begun_rest p ok f b q) (omega (arith, whole, sum_cons (tally own p) b.head b.more))

    -- The top frame apart.
    frames_sum : (a : Activity) → 0 < a.depth → frames p a ≡ pend_frame p (top a) + sum_below (a.depth - 1) (λ d. pend_frame p (frame a d))
    unfolding frames sum_below
    frames_sum a h =
        let e : a.depth ≡ suc (a.depth - 1) = omega arith in
        subst (λ n. sum_below n (λ d. pend_frame p (frame a d)) ≡ pend_frame p (top a) + sum_below (a.depth - 1) (λ d. pend_frame p (frame a d))) (sym e) refl

    -- The frames p under the top are the same.
    frames_top : (a b : Activity) → 0 < a.depth → b.depth ≡ a.depth → ((d : ℕ) → d < a.depth - 1 → frame b d ≡ frame a d)
        → frames p b + pend_frame p (top a) ≡ frames p a + pend_frame p (top b)
    frames_top a b h e g =
        let x = frames_sum a h in
        let y = frames_sum b (rw e h) in
        let r : sum_below (b.depth - 1) (λ d. pend_frame p (frame b d)) ≡ sum_below (a.depth - 1) (λ d. pend_frame p (frame a d))
        = rw e (sum_below_same (a.depth - 1) _ _ (λ d l. ap (pend_frame p) (g d l))) in
        omega arith

    module _ (late : ℕ) (a : Activity) (s : Stack p a.depth a.frames) (e : is_ended a.status ≡ false) (n : is_at_barrier a.status ≡ false) where
      -- After a command that has gone on, only the frames p are left.
      pub past_pend : is_end (here p (top a)).command ≡ false → pend p late (past p a) ≡ frames p a
      unfolding past
      past_pend g =
          let x = pend_running p late (past p a) e n in
          let t = past_top p ok a s in
          let m = frame_moves (top a) (place p ok a s) g (top (past p a)) (ap (λ f. f.body) t) (ap (λ f. f.offset) t) (ap (λ f. f.runs) t) in
          let k = frames_top a (past p a) s.deep refl (past_under p ok a s) in
          omega arith

      -- A run more is done: its END is spent.
      pub again_pend : 1 < (top a).runs → tail_of (rest p (top a)) ≡ [] → pend p late (again a) ≡ frames p a
      unfolding again rerun
      again_pend l last =
          let x = pend_running p late (again a) e n in
          let m = frame_begins (rerun a) (place p ok a s).listed refl in
          let k = frames_top a (again a) s.deep refl (again_under p ok a s) in
          let q : pend_frame p (top (again a)) + cost (tally own p) (here p (top (again a))).command
          ≡ pend_frame p (rerun a) + cost (tally own p) (here p (rerun a)).command
          = ap (λ f. pend_frame p f + cost (tally own p) (here p f).command) (again_top p ok a s) in
          let u = frame_last (top a) last in
          let v = times_pred ((top a).runs - 1) (tally own p (top a).body) (omega arith) in
          omega arith

      -- A body begun.
      pub push_pend : (b k c : ℕ) → (top a).body < b → b < length p → pend p late (pushed a b k c) ≡ frames p a + (tally own p b + (k - 1) * tally own p b)
      unfolding pushed begins frames
      push_pend b k c lo hi =
          let f = begins b k c in
          let x = pend_running p late (pushed a b k c) e n in
          let q = frame_begins f hi refl in
          let m = frames_sum (pushed a b k c) (omega arith) in
          let over : a.depth + 1 - 1 ≡ a.depth = omega arith in
          let r : sum_below ((pushed a b k c).depth - 1) (λ d. pend_frame p (frame (pushed a b k c) d)) ≡ sum_below a.depth (λ d. pend_frame p (frame a d))
          = ap (λ n. sum_below n (λ d. pend_frame p (frame (pushed a b k c) d))) over
          ∙ sum_below_same a.depth _ _ (λ d l. ap (pend_frame p) (push_under p ok a s b k c lo hi d l)) in
          let u : pend_frame p (top (pushed a b k c)) + cost (tally own p) (here p (top (pushed a b k c))).command
          ≡ pend_frame p f + cost (tally own p) (here p f).command
          = ap (λ f. pend_frame p f + cost (tally own p) (here p f).command) (push_top p ok a s b k c lo hi) in
          omega arith

    -- The frames without the top.
    left_frames : (a : Activity) (s : Stack p a.depth a.frames) (deep : 1 < a.depth) → frames p (left a) + pend_frame p (top a) ≡ frames p a
    unfolding left frames
    left_frames a s deep =
        let k = frames_sum a (omega arith) in
        let r = sum_below_same (a.depth - 1) (λ d. pend_frame p (frame (left a) d)) (λ d. pend_frame p (frame a d))
        (λ d l. ap (pend_frame p) (left_under p ok a s deep d l)) in
        omega arith

    -- The last run is done: its END is spent, and the body below has gone on.
    pub pop_pend : (late : ℕ) (a : Activity) → Stack p a.depth a.frames → 1 < a.depth → is_ended a.status ≡ false → is_at_barrier a.status ≡ false
        → (top a).runs ≤ 1 → tail_of (rest p (top a)) ≡ [] → pend p late (popped p a) ≡ frames p a
    unfolding popped left
    pop_pend late a s l e n r last =
        let x = past_pend late (left a) (left_stack p ok a s l) e n (left_goes p ok a s l) in
        let q = left_frames a s l in
        let u = frame_last (top a) last in
        let z : (top a).runs - 1 ≡ 0 = omega arith in
        let v : ((top a).runs - 1) * tally own p (top a).body ≡ 0 = ap (λ n. n * tally own p (top a).body) z ∙ zero-mul _ in
        omega arith

    -- An activity about to end: its body's END is all that is pending.
    pub end_pend : (a : Activity) → Stack p a.depth a.frames → a.depth ≡ 1 → tail_of (rest p (top a)) ≡ [] → frames p a ≡ 0
    end_pend a s d last =
        let k = frames_sum a s.deep in
        let u = frame_last (top a) last in
        let z : a.depth - 1 ≡ 0 = omega arith in
        let v : ((top a).runs - 1) * tally own p (top a).body ≡ 0
        = ap (λ m. (m - 1) * tally own p (top a).body) (ap (λ m. (frame a m).runs) z ∙ s.bottom) ∙ zero-mul _ in
        let y = sum_below_zero (λ d. pend_frame p (frame a d)) (a.depth - 1) z in
        omega arith

    -- What is pending of a spawned activity: its body's tally.
    pub lone_pend : (late : ℕ) (c : Activity) (f : Frame) → c.depth ≡ 1 → c.frames ≡ lone f → c.status ≡ Running → f.body < length p
        → f.offset ≡ 0 → f.runs ≡ 0
        → pend p late c ≡ tally own p f.body
    unfolding sum_below frames
    lone_pend late c f d fs r l z n =
        let x = pend_running p late c (rw r) (rw r) in
        let m = frame_begins f l z in
        let y : frames p c + cost (tally own p) (here p (top c)).command ≡ pend_frame p f + 0 + cost (tally own p) (here p f).command = rw (d, fs) in
        let v : (f.runs - 1) * tally own p f.body ≡ 0 = rw n (zero-mul _) in
        omega arith
