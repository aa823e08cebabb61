-- The stack of an unended activity: each frame stands on a command of its body, those under the top on one that is no END, and bodies rise. What a
-- step does to it: the top goes on, runs again, a body begins on top, or the top is gone. Which finishes are open then.
use Prim.Native.Nat.{ℕ, suc, ◌+◌, ◌-◌, ◌≤◌, ◌<◌}
use native.Mathlib.Omega.{arith}
use native.Mathlib.Decide.{ℕ_discrete}
use mathlib.Core.List.{List}
use mathlib.Core.Bool.{true, false}
use mathlib.Core.Path.{◌≡◌, refl, sym, ap, ◌∙◌, subst}
use mathlib.Core.Logic.{◌⊎◌, inl, inr}
use lib.ListN.{length, get_or, set, length-set}
use lib.Seq.{get_or-set_same, get_or-set_other}
use Rattle.rules.specs.declared.state.Frame.{Frame}
use Rattle.rules.specs.declared.state.Activity.{Activity}
use Rattle.program.specs.Command.{is_end}
use Rattle.program.specs.Bodies.{Program}
use Rattle.program.proofs.Shape.{Accepted}
use Rattle.rules.specs.State.{frame, no_frame, no_frames, top}
use Rattle.rules.specs.Tree.{here, is_finish}
use Rattle.rules.specs.Effects.{with_frames, past, again, pushed, popped}
use Rattle.rules.proofs.Tree.{Open}
use Rattle.rules.proofs.Bodies.{Placed, placed_begun, moved, placed_on, onward}

-- A frame of a stack.
abbrev pub frame_at : List Frame → ℕ → Frame
frame_at fs d = get_or fs d no_frame

-- n frames.
pub record Stack (p : Program) (n : ℕ) (fs : List Frame) : Type 0 where
  pub sixteen : length fs ≡ 16
  pub deep : 0 < n
  pub placed : (d : ℕ) → d < n → Placed p (frame_at fs d)
  pub ran : (d : ℕ) → suc d < n → is_end (here p (frame_at fs d)).command ≡ false
  pub bottom : (frame_at fs 0).runs ≡ 0
  pub rises : (d : ℕ) → d < n → d ≤ (frame_at fs d).body

-- The stack of a spawned activity.
abbrev pub lone : Frame → List Frame
lone f = set no_frames 0 f

-- The top frame of a body that runs again.
unfoldable pub rerun : Activity → Frame
rerun a = record { offset = 0; body = (top a).body; runs = (top a).runs - 1; first = (top a).first }

-- The frame of a body that begins.
unfoldable pub begins : ℕ → ℕ → ℕ → Frame
begins b n c = record { offset = 0; body = b; runs = n; first = c }

-- An activity whose top body is gone, before the one below goes on.
unfoldable pub left : Activity → Activity
left a = with_frames a (a.depth - 1) (set a.frames (a.depth - 1) no_frame)

module _ (p : Program) (ok : Accepted p) where
  -- LISTS OF FRAMES

  -- No more than sixteen bodies are stacked.
  pub depth≤ : (n : ℕ) (fs : List Frame) → Stack p n fs → n ≤ 16
  depth≤ n fs s =
      let h : n - 1 < n = omega (arith, s.deep) in
      omega (arith, s.rises (n - 1) h, (s.placed (n - 1) h).listed, ok.few)

  -- The top replaced.
  stack_set : (n : ℕ) (fs : List Frame) (f : Frame) → Stack p n fs → Placed p f → f.body ≡ (frame_at fs (n - 1)).body → (n ≡ 1 → f.runs ≡ 0)
      → Stack p n (set fs (n - 1) f)
  stack_set n fs f s q b z =
      record {
        sixteen = length-set fs (n - 1) f ∙ s.sixteen;
        deep = s.deep;
        placed = λ d l. pick (Placed p) d l (ℕ_discrete d (n - 1)) q (s.placed d l);
        ran = λ d l. let low = other d (λ e. omega arith) in rw low (s.ran d l);
        bottom = base (ℕ_discrete 0 (n - 1));
        rises = λ d l. pick (λ g. d ≤ g.body) d l (ℕ_discrete d (n - 1)) (rw b (omega (arith, s.rises (n - 1) (omega (arith, s.deep))))) (s.rises d l);
      }
    where
      same : frame_at (set fs (n - 1) f) (n - 1) ≡ f
      same = get_or-set_same fs (n - 1) f no_frame (omega (arith, s.sixteen, depth≤ n fs s, s.deep))

      other : (d : ℕ) → (d ≡ n - 1 → ⊥) → frame_at (set fs (n - 1) f) d ≡ frame_at fs d
      other d q = get_or-set_other fs (n - 1) d f no_frame q

      pick : (P : Frame → Type 0) (d : ℕ) → d < n → Dec (d ≡ n - 1) → P f → P (frame_at fs d) → P (frame_at (set fs (n - 1) f) d)
      pick P d l (yes q) x y = subst (λ k. P (frame_at (set fs (n - 1) f) k)) (sym q) (subst P (sym same) x)
      pick P d l (no q) x y = subst P (sym (other d q)) y

      base : Dec (0 ≡ n - 1) → (frame_at (set fs (n - 1) f) 0).runs ≡ 0
      base (yes q) = ap (λ k. (frame_at (set fs (n - 1) f) k).runs) q ∙ ap (λ g. g.runs) same ∙ z (omega (arith, s.deep))
      base (no q) = ap (λ g. g.runs) (other 0 q) ∙ s.bottom

  -- The top dropped.
  stack_pop : (n : ℕ) (fs : List Frame) → 1 < n → Stack p n fs → Stack p (n - 1) (set fs (n - 1) no_frame)
  stack_pop n fs l s =
      record {
        sixteen = length-set fs (n - 1) no_frame ∙ s.sixteen;
        deep = omega arith;
        placed = λ d h. subst (Placed p) (sym (other d (omega arith))) (s.placed d (omega arith));
        ran = λ d h. let low = other d (omega arith) in rw low (s.ran d (omega arith));
        bottom = ap (λ g. g.runs) (other 0 (omega arith)) ∙ s.bottom;
        rises = λ d h. rw (other d (omega arith)) (s.rises d (omega arith));
      }
    where
      other : (d : ℕ) → d < n - 1 → frame_at (set fs (n - 1) no_frame) d ≡ frame_at fs d
      other d h = get_or-set_other fs (n - 1) d no_frame no_frame (λ e. omega arith)

  -- A body begun.
  stack_push : (n : ℕ) (fs : List Frame) (f : Frame) → Stack p n fs → n < 16 → Placed p f → is_end (here p (frame_at fs (n - 1))).command ≡ false → n ≤ f.body
      → Stack p (n + 1) (set fs n f)
  stack_push n fs f s m q r b =
      record {
        sixteen = length-set fs n f ∙ s.sixteen;
        deep = omega arith;
        placed = λ d l. pick (Placed p) d (ℕ_discrete d n) q (λ q. s.placed d (omega arith));
        ran = λ d l. under d l (ℕ_discrete (suc d) n);
        bottom = ap (λ g. g.runs) (other 0 (λ e. omega (arith, s.deep))) ∙ s.bottom;
        rises = λ d l. pick (λ g. d ≤ g.body) d (ℕ_discrete d n) (omega arith) (λ q. s.rises d (omega arith));
      }
    where
      same : frame_at (set fs n f) n ≡ f
      same = get_or-set_same fs n f no_frame (omega (arith, s.sixteen))

      other : (d : ℕ) → (d ≡ n → ⊥) → frame_at (set fs n f) d ≡ frame_at fs d
      other d q = get_or-set_other fs n d f no_frame q

      pick : (P : Frame → Type 0) (d : ℕ) → Dec (d ≡ n) → P f → ((d ≡ n → ⊥) → P (frame_at fs d)) → P (frame_at (set fs n f) d)
      pick P d (yes q) x y = subst (λ k. P (frame_at (set fs n f) k)) (sym q) (subst P (sym same) x)
      pick P d (no q) x y = subst P (sym (other d q)) (y q)

      under : (d : ℕ) → suc d < n + 1 → Dec (suc d ≡ n) → is_end (here p (frame_at (set fs n f) d)).command ≡ false
      under d l (yes q) = let low : frame_at (set fs n f) d ≡ frame_at fs (n - 1) = other d (λ e. omega arith) ∙ ap (λ k. frame_at fs k) (omega arith) in rw low r
      under d l (no q) = let low = other d (λ e. omega arith) in rw low (s.ran d (omega arith))

  -- One body, begun.
  pub stack_lone : (f : Frame) → f.body < length p → f.offset ≡ 0 → f.runs ≡ 0 → Stack p 1 (lone f)
  stack_lone f l z r =
      record {
        sixteen = refl;
        deep = omega arith;
        placed = λ d h. let q : 0 ≡ d = omega arith in subst (λ k. Placed p (frame_at (lone f) k)) q (placed_begun p ok f l z);
        ran = λ d h. absurd (omega arith);
        bottom = r;
        rises = λ d h. let q : 0 ≡ d = omega arith in subst (λ k. k ≤ (frame_at (lone f) k).body) q (omega arith);
      }

  -- The frames under the top, and when the top's body began, are the same.
  frames_open : (a b : Activity) → b.depth ≡ a.depth → ((d : ℕ) → d < a.depth - 1 → frame b d ≡ frame a d) → (top b).first ≡ (top a).first → (j : ℕ)
      → Open p b.depth b.frames j → Open p a.depth a.frames j
  frames_open a b e g f j o = go (ℕ_discrete (suc o.level) (a.depth - 1))
    where
      low : is_finish (here p (frame a o.level)).command ≡ true
      low = subst (λ f. is_finish (here p f).command ≡ true) (g o.level (omega (arith, o.deeper))) o.finish

      go : Dec (suc o.level ≡ a.depth - 1) → Open p a.depth a.frames j
      go (yes q) =
          let n : suc o.level ≡ b.depth - 1 = omega arith in
          record {
            level = o.level;
            deeper = omega (arith, o.deeper);
            finish = low;
            first = ap (λ d. (frame a d).first) q ∙ sym f ∙ ap (λ d. (frame b d).first) (sym n) ∙ o.first;
          }
      go (no q) =
          record {
            level = o.level;
            deeper = omega (arith, o.deeper);
            finish = low;
            first = ap (λ f. f.first) (sym (g (suc o.level) (omega (arith, o.deeper)))) ∙ o.first;
          }

  -- AN ACTIVITY'S STACK

  module _ (a : Activity) (s : Stack p a.depth a.frames) where
    -- The top is a frame of the array.
    room : a.depth - 1 < length a.frames
    room = omega (arith, s.sixteen, depth≤ a.depth a.frames s, s.deep)

    -- It is one of the stack.
    below : a.depth - 1 < a.depth
    below = omega (arith, s.deep)

    -- It stands on a command.
    pub place : Placed p (top a)
    place = s.placed (a.depth - 1) below

    -- Its body has a number at least its level.
    pub climb : a.depth - 1 ≤ (top a).body
    climb = s.rises (a.depth - 1) below

    -- Past a command.
    pub past_top : top (past p a) ≡ moved p (top a)
    unfolding past
    past_top = get_or-set_same a.frames (a.depth - 1) (moved p (top a)) no_frame room

    -- The frames under it stay.
    pub past_under : (d : ℕ) → d < a.depth - 1 → frame (past p a) d ≡ frame a d
    unfolding past
    past_under d l = get_or-set_other a.frames (a.depth - 1) d (moved p (top a)) no_frame (λ e. omega arith)

    -- It is a stack again.
    pub past_stack : is_end (here p (top a)).command ≡ false → Stack p (past p a).depth (past p a).frames
    unfolding past
    past_stack g =
        stack_set a.depth a.frames (moved p (top a)) s (placed_on p ok (top a) place (onward p ok (top a) place g)) refl
        (λ e. subst (λ n. (frame_at a.frames (n - 1)).runs ≡ 0) (sym e) s.bottom)

    -- What is open then was open.
    pub past_open : (j : ℕ) → Open p (past p a).depth (past p a).frames j → Open p a.depth a.frames j
    unfolding past
    past_open j o = frames_open a (past p a) refl past_under (ap (λ f. f.first) past_top) j o

    -- Again.
    pub again_top : top (again a) ≡ rerun a
    unfolding again rerun
    again_top = get_or-set_same a.frames (a.depth - 1) (rerun a) no_frame room

    -- The frames under it stay.
    pub again_under : (d : ℕ) → d < a.depth - 1 → frame (again a) d ≡ frame a d
    unfolding again
    again_under d l = get_or-set_other a.frames (a.depth - 1) d _ no_frame (λ e. omega arith)

    -- It is a stack again.
    pub again_stack : 1 < (top a).runs → Stack p (again a).depth (again a).frames
    unfolding again rerun
    again_stack l =
        stack_set a.depth a.frames (rerun a) s (placed_begun p ok (rerun a) place.listed refl) refl
        (λ e. absurd (omega (arith, subst (λ n. (frame_at a.frames (n - 1)).runs ≡ 0) (sym e) s.bottom, l)))

    -- What is open then was open.
    pub again_open : (j : ℕ) → Open p (again a).depth (again a).frames j → Open p a.depth a.frames j
    unfolding again rerun
    again_open j o = frames_open a (again a) refl again_under (ap (λ f. f.first) again_top) j o

    -- A body begun.
    module _ (b n c : ℕ) (lo : (top a).body < b) (hi : b < length p) where
      -- There is room for its frame.
      space : a.depth < 16
      space = omega (arith, ok.few, climb, s.deep)

      -- The new top is at the old depth.
      over : a.depth + 1 - 1 ≡ a.depth
      over = omega arith

      -- That is the body's.
      pub push_top : top (pushed a b n c) ≡ begins b n c
      unfolding pushed begins
      push_top =
          ap (λ d. get_or (set a.frames a.depth (begins b n c)) d no_frame) over
          ∙ get_or-set_same a.frames a.depth (begins b n c) no_frame (omega (arith, s.sixteen, space))

      -- The frames under it stay.
      pub push_under : (d : ℕ) → d < a.depth → frame (pushed a b n c) d ≡ frame a d
      unfolding pushed
      push_under d l = get_or-set_other a.frames a.depth d _ no_frame (λ e. omega arith)

      -- It is a stack again.
      pub push_stack : is_end (here p (top a)).command ≡ false → Stack p (pushed a b n c).depth (pushed a b n c).frames
      unfolding pushed begins
      push_stack g = stack_push a.depth a.frames (begins b n c) s space (placed_begun p ok (begins b n c) hi refl) g (omega (arith, climb, s.deep))

      -- What is open then was open, or is the body that a FINISH began.
      pub push_open : (j : ℕ) → Open p (pushed a b n c).depth (pushed a b n c).frames j
          → (Open p a.depth a.frames j) ⊎ ((is_finish (here p (top a)).command ≡ true) × (c ≡ j))
      unfolding pushed begins
      push_open j o = go (ℕ_discrete (suc o.level) a.depth)
        where
          low : o.level < a.depth → frame (pushed a b n c) o.level ≡ frame a o.level
          low l = push_under o.level l

          go : Dec (suc o.level ≡ a.depth) → (Open p a.depth a.frames j) ⊎ ((is_finish (here p (top a)).command ≡ true) × (c ≡ j))
          go (yes q) =
              let m : o.level ≡ a.depth - 1 = omega arith in
              inr (
                subst (λ f. is_finish (here p f).command ≡ true) (low (omega arith) ∙ ap (λ d. frame a d) m) o.finish,
                ap (λ f. f.first) (sym push_top ∙ ap (λ d. frame (pushed a b n c) d) (over ∙ sym q)) ∙ o.first,
              )
          go (no q) =
              inl (record {
                level = o.level;
                deeper = omega (arith, o.deeper);
                finish = subst (λ f. is_finish (here p f).command ≡ true) (low (omega (arith, o.deeper))) o.finish;
                first = ap (λ f. f.first) (sym (push_under (suc o.level) (omega (arith, o.deeper)))) ∙ o.first;
              })

    -- A body left: what remains before it goes on.
    module _ (deep : 1 < a.depth) where
      -- It is a stack.
      pub left_stack : Stack p (left a).depth (left a).frames
      unfolding left
      left_stack = stack_pop a.depth a.frames deep s

      -- The frames under it stay.
      pub left_under : (d : ℕ) → d < a.depth - 1 → frame (left a) d ≡ frame a d
      unfolding left
      left_under d l = get_or-set_other a.frames (a.depth - 1) d no_frame no_frame (λ e. omega arith)

      -- The body below is on top.
      left_top : top (left a) ≡ frame a (a.depth - 2)
      unfolding left
      left_top = left_under (a.depth - 1 - 1) (omega arith) ∙ ap (λ n. frame a n) (omega arith)

      -- It stands on the command that ran the body.
      pub left_goes : is_end (here p (top (left a))).command ≡ false
      left_goes = subst (λ f. is_end (here p f).command ≡ false) (sym left_top) (s.ran (a.depth - 2) (omega arith))

      -- What is open then was open.
      left_open : (j : ℕ) → Open p (left a).depth (left a).frames j → Open p a.depth a.frames j
      unfolding left
      left_open j o =
          record {
            level = o.level;
            deeper = omega (arith, o.deeper);
            finish = subst (λ f. is_finish (here p f).command ≡ true) (left_under o.level (omega (arith, o.deeper))) o.finish;
            first = ap (λ f. f.first) (sym (left_under (suc o.level) o.deeper)) ∙ o.first;
          }

  -- The body below has gone on: a stack again.
  pub pop_stack : (a : Activity) → Stack p a.depth a.frames → 1 < a.depth → Stack p (popped p a).depth (popped p a).frames
  unfolding popped left
  pop_stack a s l = past_stack (left a) (left_stack a s l) (left_goes a s l)

  -- What is open then was open.
  pub pop_open : (a : Activity) → Stack p a.depth a.frames → 1 < a.depth → (j : ℕ) → Open p (popped p a).depth (popped p a).frames j
      → Open p a.depth a.frames j
  unfolding popped left
  pop_open a s l j o = left_open a s l j (past_open (left a) (left_stack a s l) j o)
