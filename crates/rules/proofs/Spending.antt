-- What a command's step does to the stack of its activity, to its open finishes and to what is pending: one lemma for each, by the kind of the command.
use Prim.Native.Nat.{ℕ, ◌+◌, ◌-◌, ◌*◌, ◌≤◌, ◌<◌}
use native.Mathlib.Omega.{arith}
use native.Mathlib.Nat.{zero-mul}
use mathlib.Core.List.{[], map}
use mathlib.Core.Bool.{Bool, true, false, cond}
use mathlib.Core.Path.{◌≡◌, refl, sym, ap, ◌∙◌, subst}
use mathlib.Core.Logic.{◌⊎◌, inl, inr}
use lib.ListN.{length}
use lib.Dec.{ltb, leb}
use borrow.Author.Tests.{ltb-true, ltb-false, leb-true, leb-false, lt-leb}
use Rattle.program.specs.declared.command.Command.{Command}
use Rattle.program.specs.declared.command.Command.TheVariants.{Next}
use Rattle.rules.specs.declared.state.Status.TheVariants.{Running, AtBarrier, Ended}
use Rattle.rules.specs.declared.state.Activity.{Activity}
use Rattle.rules.specs.declared.state.State.{State}
use Rattle.program.specs.Command.{is_end, named, times}
use Rattle.program.specs.Bodies.{Program, tail_of}
use Rattle.program.specs.Count.{tally}
use Rattle.program.proofs.Shape.{Accepted}
use Rattle.program.proofs.ShapeRows.{saying, names_is, named_is}
use Rattle.rules.specs.State.{is_ended, is_at_barrier, top}
use Rattle.rules.specs.Clocks.{pass, quiesce}
use Rattle.rules.specs.Tree.{here, is_finish, rest}
use Rattle.rules.specs.Effects.{Spawned, nobody, one, Effect, past, pushed, end_of, again, popped, stopped, next_of, with_holds, env_of, child}
use Rattle.rules.specs.Runs.{skips}
use Rattle.rules.proofs.Tests.{decide, true_false}
use Rattle.rules.proofs.Shapes.{is_next, meets, Kind, ends, forks, opens, enters, moves, born, OfChild}
use Rattle.rules.proofs.Tree.{Open}
use Rattle.rules.proofs.Containment.{Opening, open_before, Was, begun_now}
use Rattle.rules.proofs.Bodies.{above_here, last_here}
use Rattle.rules.proofs.Stack.{Stack, past_stack, past_open, push_stack, push_open, again_stack, again_open, pop_stack, pop_open, place, stack_lone}
use Rattle.rules.proofs.Potential.{pend, frames, cost, cost_is, pend_running, past_pend, pend_ended, end_pend, again_pend, pop_pend, pend_met, lone_pend, push_pend}

-- The weight of a step at command c; b tells whether the activity was at a barrier, where passing, of weight `late`, is left of NEXT.
unfoldable pub spent : (Command → ℕ) → ℕ → Command → Bool → ℕ
spent own late c b = cond b late (own c - cond (is_next c) late 0)

-- What a step spares: what the body comes to that its CHOOSE skips.
unfoldable pub spare : (Command → ℕ) → Program → Activity → Command → ℕ
spare own p a c = cond (skips a c) (tally own p (named c)) 0

-- A body skipped once.
skipped : (b : Bool) (x : ℕ) → cond b 1 0 * x ≡ cond b x 0
skipped true x = omega arith
skipped false x = omega arith

-- What is pending of the one spawned.
unfoldable pub pend_child : (Command → ℕ) → Program → ℕ → Spawned → ℕ
pend_child own p late nobody = 0
pend_child own p late (one c) = pend own p late c

-- What a step leaves of its activity.
pub record Left (p : Program) (s : State) (a : Activity) (x : Effect) : Type 0 where
  pub stack : is_ended x.self.status ≡ false → Stack p x.self.depth x.self.frames
  pub meets : is_at_barrier x.self.status ≡ true → is_next (here p (top x.self)).command ≡ true
  pub opening : Opening p s a x

module _ (p : Program) (ok : Accepted p) (s : State) (i : ℕ) (a : Activity) (st : Stack p a.depth a.frames) (u : is_ended a.status ≡ false)
    (mt : is_at_barrier a.status ≡ true → is_next (here p (top a)).command ≡ true) where
  -- Who does not stand on NEXT is not at a barrier.
  pub standing : is_next (here p (top a)).command ≡ false → is_at_barrier a.status ≡ false
  standing n = go (decide (is_at_barrier a.status))
    where
      go : (is_at_barrier a.status ≡ true) ⊎ (is_at_barrier a.status ≡ false) → is_at_barrier a.status ≡ false
      go (inl h) = absurd (true_false _ (mt h) n)
      go (inr h) = h

  -- THE STACK

  module _ (c : Command) (q : (here p (top a)).command ≡ c) where
    -- An activity with the same stack has gone on after the command.
    left_past : (b : Activity) → b.depth ≡ a.depth → b.frames ≡ a.frames → is_at_barrier b.status ≡ false → is_end c ≡ false → (x : Effect)
        → x.self ≡ past p b → Left p s a x
    unfolding past Opening
    left_past b bd bf bb g x xs =
        record {
          stack = λ h. rw xs (past_stack p ok b its goes);
          meets = λ h. absurd (true_false (is_at_barrier b.status) (rw xs at h) bb);
          opening = λ h j m. open_before (rw (bd, bf) at (past_open p ok b its j (rw xs at m)));
        }
      where
        its : Stack p b.depth b.frames
        its = rw (bd, bf) st

        goes : is_end (here p (top b)).command ≡ false
        goes = rw (bd, bf, q) g

    -- A body is begun by FINISH, REPEAT or CHOOSE.
    left_push : (b n f : ℕ) → (top a).body < b → b < length p → is_end c ≡ false → is_next c ≡ false → (is_finish c ≡ true → f ≡ s.activities) → (x : Effect)
        → x.self ≡ pushed a b n f → x.spawned ≡ nobody → Left p s a x
    unfolding pushed Opening
    left_push b n f lo hi g h k x xs xn =
        record {
          stack = λ h. rw xs (push_stack p ok a st b n f lo hi (rw q g));
          meets = λ m. absurd (true_false (is_at_barrier a.status) (rw xs at m) (standing (rw q h)));
          opening = λ h j m. go j (push_open p ok a st b n f lo hi j (rw xs at m));
        }
      where
        go : (j : ℕ) → (Open p a.depth a.frames j) ⊎ ((is_finish (here p (top a)).command ≡ true) × (f ≡ j)) → Was p s a x j
        go j (inl m) = open_before m
        go j (inr m) = begun_now (omega (arith, k (rw q at m.0), m.1)) xn

    -- Each outcome of END.
    left_end : is_end c ≡ true → is_next c ≡ false → (x : Effect) → x.self ≡ end_of p a → Left p s a x
    unfolding end_of again popped past Opening
    left_end l h x xs = go (leb a.depth 1) refl (ltb 1 (top a).runs) refl xs
      where
        go : (y : Bool) → leb a.depth 1 ≡ y → (z : Bool) → ltb 1 (top a).runs ≡ z
            → x.self ≡ cond y (stopped a Ended) (cond z (again a) (popped p a)) → Left p s a x
        go true d z r xs =
            record {
              stack = λ h. absurd (true_false true refl (rw xs at h));
              meets = λ h. absurd (true_false false (rw xs at h) refl);
              opening = λ h. absurd (true_false true refl (rw xs at h));
            }
        go false d true r xs =
            record {
              stack = λ h. rw xs (again_stack p ok a st (ltb-true 1 (top a).runs r));
              meets = λ m. absurd (true_false (is_at_barrier a.status) (rw xs at m) (standing (rw q h)));
              opening = λ h j m. open_before (again_open p ok a st j (rw xs at m));
            }
        go false d false r xs =
            record {
              stack = λ h. rw xs (pop_stack p ok a st (leb-false a.depth 1 d));
              meets = λ m. absurd (true_false (is_at_barrier a.status) (rw xs at m) (standing (rw q h)));
              opening = λ h j m. open_before (pop_open p ok a st (leb-false a.depth 1 d) j (rw xs at m));
            }

    -- Both steps of NEXT.
    left_next : is_end c ≡ false → is_next c ≡ true → (b : Bool) → (x : Effect) → x.self ≡ next_of p a b → Left p s a x
    unfolding next_of Opening
    left_next g h true x xs = left_past (with_holds a Running (map pass a.holds)) refl refl refl g x xs
    left_next g h false x xs = record { stack = λ z. rw xs st; meets = λ z. rw (xs, q) h; opening = λ z j m. open_before (rw xs at m) }

    -- What c names lies after its own body.
    pub names_above : (saying c).names ≡ true → ((top a).body < (saying c).named) × ((saying c).named < length p)
    names_above n =
        let h = subst (λ c. ((top a).body < named c) × (named c < length p)) q (above_here p ok (top a) (place p ok a st) (rw q (names_is c ∙ n))) in
        subst (λ b. ((top a).body < b) × (b < length p)) (named_is c) h

    -- By the kind of the command.
    pub left_by : {x : Effect} → Kind p (env_of s) i a c x → Left p s a x
    unfolding is_end is_next
    left_by {x} (ends z xs n) = left_end (rw z) (rw z) x xs
    left_by {x} (meets z xs n) = left_next (rw z) (rw z) (is_at_barrier a.status) x xs
    left_by {x} (forks b m z xs n) = left_past a refl refl (standing (rw (q, z))) (rw z) x xs
    left_by {x} (opens b z xs n) =
        let l = subst (λ c. ((top a).body < (saying c).named) × ((saying c).named < length p)) z (names_above (rw z)) in
        left_push b 0 s.activities l.0 l.1 (rw z) (rw z) (λ f. refl) x xs n
    left_by {x} (enters k b z xs n) =
        let l = subst (λ d. ((top a).body < d) × (d < length p)) z.body (names_above z.some) in
        left_push b k 0 l.0 l.1 z.goes z.quiet (λ f. absurd (true_false _ f z.plain)) x xs n
    left_by {x} (moves b g h t k xs n) = left_past b k.depth k.frames (rw k.status (standing (rw q h))) g x xs

    -- The stack of the one spawned.
    pub stack_born : {x : Effect} → Kind p (env_of s) i a c x → OfChild (λ b. Stack p b.depth b.frames × (is_at_barrier b.status ≡ false)) x.spawned
    unfolding child
    stack_born k =
        born (λ b. Stack p b.depth b.frames × (is_at_barrier b.status ≡ false))
        (λ b m z.
        (stack_lone p ok (record { offset = 0; body = b; runs = 0; first = 0 }) (subst (λ c. (saying c).named < length p) z (names_above (rw z)).1) refl refl, refl))
        k

    -- Only an END of the lowest body ends its activity.
    goes_on : (is_end c ≡ true → 1 < a.depth) → {x : Effect} → Kind p (env_of s) i a c x → is_ended x.self.status ≡ false
    unfolding end_of again popped past pushed next_of is_end
    goes_on d (ends z xs n) = rw (xs, lt-leb a.depth 1 (d (rw z))) (go (ltb 1 (top a).runs))
      where
        go : (y : Bool) → is_ended (cond y (again a) (popped p a)).status ≡ false
        go true = u
        go false = u
    goes_on d (meets z xs n) = rw xs (go (is_at_barrier a.status))
      where
        go : (y : Bool) → is_ended (next_of p a y).status ≡ false
        go true = refl
        go false = refl
    goes_on d (forks b m z xs n) = rw xs u
    goes_on d (opens b z xs n) = rw xs u
    goes_on d (enters k b z xs n) = rw xs u
    goes_on d (moves b g h t k xs n) = rw (xs, k.status) u

    -- WHAT IS PENDING

    module _ (own : Command → ℕ) (late : ℕ) where
      -- What is pending, for this weight.
      abbrev Pend : Activity → ℕ
      Pend b = pend own p late b

      -- Before a command other than NEXT.
      before : is_next c ≡ false → Pend a ≡ frames own p a + cost own (tally own p) c
      before n = pend_running own p late a u (standing (rw q n)) ∙ ap (λ o. frames own p a + cost own (tally own p) o) q

      -- The weight of one.
      weight : is_next c ≡ false → spent own late c (is_at_barrier a.status) ≡ own c
      unfolding spent
      weight n = rw (standing (rw q n), n) (omega arith)

      -- An activity with the same stack has gone on.
      past_left : (b : Activity) → b.depth ≡ a.depth → b.frames ≡ a.frames → is_at_barrier b.status ≡ false → is_ended b.status ≡ false → is_end c ≡ false
          → Pend (past p b) ≡ frames own p a
      unfolding frames
      past_left b bd bf bb be g =
          past_pend own p ok late b (rw (bd, bf) st) be bb (rw (bd, bf, q) g) ∙ rw (bd, bf)

      -- After END only the frames are left.
      end_left : is_end c ≡ true → is_next c ≡ false → Pend (end_of p a) ≡ frames own p a
      unfolding end_of
      end_left l h = go (leb a.depth 1) refl (ltb 1 (top a).runs) refl
        where
          last : tail_of (rest p (top a)) ≡ []
          last = last_here p ok (top a) (place p ok a st) (rw q l)

          nb : is_at_barrier a.status ≡ false
          nb = standing (rw q h)

          go : (y : Bool) → leb a.depth 1 ≡ y → (z : Bool) → ltb 1 (top a).runs ≡ z
              → pend own p late (cond y (stopped a Ended) (cond z (again a) (popped p a))) ≡ frames own p a
          go true d z r =
              pend_ended own p late (stopped a Ended) refl ∙ sym (end_pend own p ok a st (omega (arith, leb-true a.depth 1 d, st.deep)) last)
          go false d true r = again_pend own p ok late a st u nb (ltb-true 1 (top a).runs r) last
          go false d false r = pop_pend own p ok late a st (leb-false a.depth 1 d) u nb (ltb-false 1 (top a).runs r) last

      -- Both steps of NEXT.
      next_spends : c ≡ Next → late ≤ own Next → (b : Bool) → is_at_barrier a.status ≡ b → Pend a ≡ spent own late c b + Pend (next_of p a b)
      unfolding next_of spent is_end is_next frames
      next_spends z l true h =
          let x = past_left (with_holds a Running (map pass a.holds)) refl refl refl refl (rw z) in
          let y = pend_met own p late a u h in
          omega arith
      next_spends z l false h =
          let x : pend own p late a ≡ frames own p a + cost own (tally own p) Next = pend_running own p late a u h ∙ ap (λ o. frames own p a + cost own (tally own p) o) (q ∙ z) in
          let y = pend_met own p late there refl refl in
          let w : frames own p there ≡ frames own p a = refl in
          let v = cost_is own (tally own p) Next in
          rw z (omega arith)
        where
          there : Activity
          there = with_holds a AtBarrier (map quiesce a.holds)

      -- A step without a fault lowers what is pending by its weight and by what it spares.
      pub spends : late ≤ own Next → {x : Effect} → Kind p (env_of s) i a c x
          → Pend a ≡ spent own late c (is_at_barrier a.status) + Pend x.self + pend_child own p late x.spawned + spare own p a c
      unfolding cost is_end is_next pend_child child spare skips
      spends l {x} (ends z xs n) =
          let y = end_left (rw z) (rw z) in
          let w = before (rw z) in
          let v = weight (rw z) in
          let r : cost own (tally own p) c ≡ own c = cost_is own (tally own p) c ∙ rw z (omega arith) in
          let o : spare own p a c ≡ 0 = rw z in
          rw (xs, n) (omega arith)
      spends l {x} (meets z xs n) =
          let y = next_spends z l (is_at_barrier a.status) refl in
          let o : spare own p a c ≡ 0 = rw z in
          rw (xs, n) (omega arith)
      spends l {x} (forks b m z xs n) =
          let y = past_left a refl refl (standing (rw (q, z))) u (rw z) in
          let w = before (rw z) in
          let v = weight (rw z) in
          let r : cost own (tally own p) c ≡ own c + tally own p b = cost_is own (tally own p) c ∙ rw z (omega arith) in
          let hi = subst (λ c. (saying c).named < length p) z (names_above (rw z)).1 in
          let k = lone_pend own p ok late (child i a b m) (record { offset = 0; body = b; runs = 0; first = 0 }) refl refl refl hi refl refl in
          let o : spare own p a c ≡ 0 = rw z in
          rw (xs, n) (omega arith)
      spends l {x} (opens b z xs n) =
          let h = subst (λ c. ((top a).body < (saying c).named) × ((saying c).named < length p)) z (names_above (rw z)) in
          let y = push_pend own p ok late a st u (standing (rw (q, z))) b 0 s.activities h.0 h.1 in
          let w = before (rw z) in
          let v = weight (rw z) in
          let r : cost own (tally own p) c ≡ own c + tally own p b = cost_is own (tally own p) c ∙ rw z (omega arith) in
          let k : (0 - 1) * tally own p b ≡ 0 = zero-mul _ in
          let o : spare own p a c ≡ 0 = rw z in
          rw (xs, n) (omega arith)
      spends l {x} (enters k b z xs n) =
          let h = subst (λ d. ((top a).body < d) × (d < length p)) z.body (names_above z.some) in
          let y = push_pend own p ok late a st u (standing (rw q z.quiet)) b k 0 h.0 h.1 in
          let w = before z.quiet in
          let v = weight z.quiet in
          let r : cost own (tally own p) c ≡ own c + (tally own p b + (k - 1) * tally own p b) = cost_is own (tally own p) c ∙ rw z.body (ap (λ n. own c + n) (z.often (tally own p b))) in
          let o : spare own p a c ≡ 0 = rw z.chosen in
          rw (xs, n) (omega arith)
      spends l {x} (moves b g h t k xs n) =
          let y = past_left b k.depth k.frames (rw k.status (standing (rw q h))) (rw k.status u) g in
          let w = before h in
          let v = weight h in
          let r : times c * tally own p (named c) ≡ spare own p a c = rw t (skipped (skips a c) (tally own p (named c))) in
          rw (xs, n) (omega arith)

      -- Whoever has not ended has something pending.
      pend_some : ((c : Command) → 0 < own c) → 0 < late → (b : Activity) → is_ended b.status ≡ false → 0 < Pend b
      unfolding cost
      pend_some w l b e = go (decide (is_at_barrier b.status))
        where
          go : (is_at_barrier b.status ≡ true) ⊎ (is_at_barrier b.status ≡ false) → 0 < pend own p late b
          go (inl m) = omega (arith, pend_met own p late b e m)
          go (inr m) = omega (arith, pend_running own p late b e m, w (here p (top b)).command)

      -- Where a step without a fault would not end its activity, a fault leaves more undone than that step takes and spares.
      pub undone : ((c : Command) → 0 < own c) → 0 < late → late ≤ own Next → (is_end c ≡ true → 1 < a.depth) → {x : Effect} → Kind p (env_of s) i a c x
          → spent own late c (is_at_barrier a.status) + spare own p a c < Pend a
      undone w o l d {x} k = omega (arith, spends l k, pend_some w o x.self (goes_on d k))
