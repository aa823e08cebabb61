-- Containment: for an unended activity and each FINISH body open on its stack, if two activities hold one clock and one is inside, so is the other. A
-- new body has nobody inside; F3 keeps an owner with an open finish from lending a clock; a child with clocks is inside exactly what its spawner is
-- inside.
use Prim.Native.Nat.{ℕ, ◌+◌, ◌≤◌, ◌<◌}
use native.Mathlib.Omega.{arith}
use native.Mathlib.Decide.{ℕ_discrete}
use mathlib.Core.Bool.{true, false}
use mathlib.Core.Path.{◌≡◌, refl, sym, ap, ◌∙◌, subst}
use mathlib.Core.Logic.{◌⊎◌, inl, inr}
use lib.ListN.{length}
use lib.Dec.{leb}
use borrow.Author.Tests.{leb-true}
use Rattle.program.specs.declared.command.Command.{Command}
use Rattle.program.specs.declared.command.Command.TheVariants.{Async}
use Rattle.rules.specs.declared.state.Hold.{Hold}
use Rattle.rules.specs.declared.state.Activity.{Activity}
use Rattle.rules.specs.declared.state.State.{State}
use Rattle.program.specs.Bodies.{Program}
use Rattle.rules.specs.Search.{chain}
use Rattle.rules.specs.State.{act, hold, ended, is_ended}
use Rattle.rules.specs.Clocks.{holds, is_held}
use Rattle.rules.specs.Tree.{inside, spawner_of}
use Rattle.rules.specs.Faults.{Env, fault_for}
use Rattle.rules.specs.Effects.{one, Effect, nobody, child, applied, Spawned, spawned_count}
use Rattle.rules.proofs.Tests.{true_false}
use Rattle.rules.proofs.Search.{chain_same, chain_cases, chain_on, chain_above}
use Rattle.rules.proofs.Shapes.{OfChild, of_child, born, Kind}
use Rattle.rules.proofs.Applied.{Bounded, Fits, act_self, act_old, each, act_child, Now, self, newborn, other, now}
use Rattle.rules.proofs.Holders.{begun, Became, unchanged, vacated, quieted, held_quiesced, raised, held_revived, Turned, lent_held, lends}
use Rattle.rules.proofs.Tree.{Open, inside_first, open_none}

-- What the proof asks of a state.
pub record Nested (p : Program) (s : State) : Type 0 where
  pub bounded : Bounded s
  pub falls : (y : ℕ) → 0 < y → y < s.activities → (act s y).spawner < y
  pub clocked : (x k : ℕ) → x < s.activities → holds (act s x) k ≡ true → (hold (act s x) k).clock < s.clocks
  pub contained : (w j : ℕ) → w < s.activities → ended s w ≡ false → Open p (act s w).depth (act s w).frames j → (x k y l : ℕ)
      → x < s.activities → y < s.activities → holds (act s x) k ≡ true → holds (act s y) l ≡ true
      → (hold (act s y) l).clock ≡ (hold (act s x) k).clock → inside s w j x ≡ true → inside s w j y ≡ true

-- A hold that was there, or of the clock just made.
pub data Held (made : ℕ) (a : Activity) (h : Hold) : Type 0 where
  before : (k : ℕ) → holds a k ≡ true → (hold a k).clock ≡ h.clock → Held made a h
  fresh : h.clock ≡ made → Held made a h

-- A child: its clocks are its spawner's, which then has no finish open.
pub record Born (p : Program) (i : ℕ) (a c : Activity) : Type 0 where
  pub spawner : c.spawner ≡ i
  pub none_open : (j : ℕ) → Open p c.depth c.frames j → ⊥
  pub lent : (k : ℕ) → holds c k ≡ true → ((j : ℕ) → Open p a.depth a.frames j → ⊥) × (holds a k ≡ true) × ((hold a k).clock ≡ (hold c k).clock)

-- An open finish that was open, or one begun just now.
pub data Was (p : Program) (s : State) (a : Activity) (e : Effect) (j : ℕ) : Type 0 where
  open_before : Open p a.depth a.frames j → Was p s a e j
  begun_now : j ≡ s.activities → e.spawned ≡ nobody → Was p s a e j

-- What is open after an effect was open, or has begun now.
unfoldable pub Opening : Program → State → Activity → Effect → Type 0
Opening p s a e = is_ended e.self.status ≡ false → (j : ℕ) → Open p e.self.depth e.self.frames j → Was p s a e j

-- What it asks of an effect of activity i.
pub record Orderly (p : Program) (s : State) (i : ℕ) (e : Effect) : Type 0 where
  pub present : i < s.activities
  pub runs : ended s i ≡ false
  pub fits : Fits s e.spawned
  pub same_spawner : e.self.spawner ≡ (act s i).spawner
  pub holdings : (k : ℕ) → holds e.self k ≡ true → Held s.clocks (act s i) (hold e.self k)
  pub child : OfChild (Born p i (act s i)) e.spawned
  pub opening : Opening p s (act s i) e

module _ (p : Program) (s : State) (i : ℕ) (e : Effect) (n : Nested p s) (o : Orderly p s i e) where
  -- What each entry is after the effect.
  entry : (x : ℕ) → Now s i e x
  entry x = now s n.bounded i o.present e o.fits x

  -- Who was there has the same spawner.
  links : (y : ℕ) → y < s.activities → (act s y).spawner ≡ (act (applied s i e) y).spawner
  links y l = go (ℕ_discrete y i)
    where
      go : Dec (y ≡ i) → (act s y).spawner ≡ (act (applied s i e) y).spawner
      go (yes q) = rw (q, act_self s n.bounded i o.present e o.fits) (sym o.same_spawner)
      go (no q) = rw (act_old s i e y l q)

  -- Of those who were there, the same are inside.
  pub inside_old : (w j x : ℕ) → x < s.activities → inside s w j x ≡ inside (applied s i e) w j x
  unfolding inside
  inside_old w j x l =
      chain_same (spawner_of s) (spawner_of (applied s i e)) (leb j) (leb j) w 64 64 x
      (λ y m v. let q = links y (omega arith) in (q, refl, n.falls y (omega arith) (omega arith)))
      (omega (arith, n.bounded.count)) (omega (arith, n.bounded.count))

  -- Spawners still fall.
  pub falls' : (y : ℕ) → 0 < y → y < (applied s i e).activities → (act (applied s i e) y).spawner < y
  falls' y p l =
      each s n.bounded i o.present e o.fits (λ x a. 0 < x → a.spawner < x) (λ x m q r. n.falls x r m)
      (λ r. rw o.same_spawner (n.falls i r o.present))
      (of_child _ (λ a. 0 < s.activities → a.spawner < s.activities) (λ c b r. rw b.spawner o.present) e.spawned o.child)
      y l p

  module _ (c : Activity) (q : e.spawned ≡ one c) where
    -- There is room for it.
    room : s.activities < 64
    unfolding Fits
    room = rw q at o.fits

    -- What is known of it.
    its : Born p i (act s i) c
    unfolding OfChild
    its = rw q at o.child

    -- It has the next number.
    is_child : act (applied s i e) s.activities ≡ c
    is_child = act_child s n.bounded i e c q room

    -- And is counted.
    more : s.activities < (applied s i e).activities
    unfolding applied
    more = rw q (omega arith)

    -- Its spawner is the activity that stepped.
    spawner_of_lem : spawner_of (applied s i e) s.activities ≡ i
    spawner_of_lem = ap (λ a. a.spawner) is_child ∙ its.spawner

    -- The child is inside what its spawner is inside, and the open finishes of the spawner.
    child_inside : (w j : ℕ) → inside (applied s i e) w j s.activities ≡ true → ((w ≡ i) × (j ≤ s.activities)) ⊎ (inside s w j i ≡ true)
    unfolding inside
    child_inside w j h = go (chain_cases (spawner_of (applied s i e)) (applied s i e).activities falls' (leb j) w 64 s.activities more room h)
      where
        go : ((spawner_of (applied s i e) s.activities ≡ w) × (leb j s.activities ≡ true))
            ⊎ (chain (spawner_of (applied s i e)) (leb j) w 64 (spawner_of (applied s i e) s.activities) ≡ true)
            → ((w ≡ i) × (j ≤ s.activities)) ⊎ (inside s w j i ≡ true)
        go (inl r) = inl (sym r.0 ∙ spawner_of_lem, leb-true _ _ r.1)
        go (inr r) = inr (inside_old w j i o.present ∙ subst (λ x. chain (spawner_of (applied s i e)) (leb j) w 64 x ≡ true) spawner_of_lem r)

    -- It is inside whatever its spawner is inside.
    child_inside_on : (w j : ℕ) → inside s w j i ≡ true → inside (applied s i e) w j s.activities ≡ true
    unfolding inside
    child_inside_on w j h =
        chain_on (spawner_of (applied s i e)) (applied s i e).activities falls' (leb j) w 64 s.activities more room
        (omega (arith, chain_above (spawner_of s) (leb j) w 64 i h, o.present))
        (subst (λ x. chain (spawner_of (applied s i e)) (leb j) w 64 x ≡ true) (sym spawner_of_lem) (sym (inside_old w j i o.present) ∙ h))

  -- A holder after the step stands for one before it.
  record Rep (x k : ℕ) : Type 0 where
    rep : ℕ
    there : rep < s.activities
    slot : ℕ
    has : holds (act s rep) slot ≡ true
    same : (hold (act s rep) slot).clock ≡ (hold (act (applied s i e) x) k).clock
    to : (w j : ℕ) → (w ≡ i → Was p s (act s i) e j) → inside (applied s i e) w j x ≡ true → inside s w j rep ≡ true
    from : (w j : ℕ) → inside s w j rep ≡ true → inside (applied s i e) w j x ≡ true

  -- Or it is the maker of the new clock.
  data Holder (x k : ℕ) : Type 0 where
    stood : Rep x k → Holder x k
    maker : x ≡ i → (hold (act (applied s i e) x) k).clock ≡ s.clocks → Holder x k

  -- Of the activity that stepped.
  holder_self : (k : ℕ) → holds (act (applied s i e) i) k ≡ true → Holder i k
  holder_self k h = go (o.holdings k (rw me at h))
    where
      me : act (applied s i e) i ≡ e.self
      me = act_self s n.bounded i o.present e o.fits

      go : Held s.clocks (act s i) (hold e.self k) → Holder i k
      go (before k' g q) =
          stood (record {
            rep = i;
            there = o.present;
            slot = k';
            has = g;
            same = rw me q;
            to = λ w j f r. inside_old w j i o.present ∙ r;
            from = λ w j r. sym (inside_old w j i o.present) ∙ r;
          })
      go (fresh q) = maker refl (rw me q)

  -- Of another that was there.
  holder_old : (x k : ℕ) → x < s.activities → (x ≡ i → ⊥) → holds (act (applied s i e) x) k ≡ true → Holder x k
  holder_old x k l d h =
      stood (record {
        rep = x;
        there = l;
        slot = k;
        has = rw old at h;
        same = rw old;
        to = λ w j f r. inside_old w j x l ∙ r;
        from = λ w j r. sym (inside_old w j x l) ∙ r;
      })
    where
      old : act (applied s i e) x ≡ act s x
      old = act_old s i e x l d

  -- Of the one spawned: its spawner stands for it.
  holder_child : (c : Activity) → e.spawned ≡ one c → (k : ℕ) → holds (act (applied s i e) s.activities) k ≡ true → Holder s.activities k
  holder_child c q k h =
      let g = (its c q).lent k (rw (is_child c q) at h) in
      stood (record {
        rep = i;
        there = o.present;
        slot = k;
        has = g.1;
        same = rw (is_child c q) g.2;
        to = λ w j f r. into w j f g.0 (child_inside c q w j r);
        from = child_inside_on c q;
      })
    where
      into : (w j : ℕ) → (w ≡ i → Was p s (act s i) e j) → ((j : ℕ) → Open p (act s i).depth (act s i).frames j → ⊥)
          → ((w ≡ i) × (j ≤ s.activities)) ⊎ (inside s w j i ≡ true) → inside s w j i ≡ true
      into w j f z (inl r) = absurd (out (f r.0))
        where
          out : Was p s (act s i) e j → ⊥
          out (open_before m) = z j m
          out (begun_now m u) = let v : nobody ≡ one c = sym u ∙ q in let k : ◌≡◌ {A = ℕ} 0 1 = cc in omega arith
      into w j f z (inr r) = r

  -- Of each.
  holder : (x k : ℕ) → x < (applied s i e).activities → holds (act (applied s i e) x) k ≡ true → Holder x k
  holder x k l h = go (entry x)
    where
      go : Now s i e x → Holder x k
      go (self q a) = rw q (holder_self k (rw q at h))
      go (other d m a) = holder_old x k (m l) d h
      go (newborn c q f a) = rw f (holder_child c q k (rw f at h))

  -- Two holders after the step, for a finish that was open or has begun now.
  core : (w j : ℕ) → w < s.activities → ended s w ≡ false → Was p s (act s w) e j → (w ≡ i → Was p s (act s i) e j) → (x k y l : ℕ)
      → x < (applied s i e).activities → y < (applied s i e).activities → holds (act (applied s i e) x) k ≡ true → holds (act (applied s i e) y) l ≡ true
      → (hold (act (applied s i e) y) l).clock ≡ (hold (act (applied s i e) x) k).clock → inside (applied s i e) w j x ≡ true
      → inside (applied s i e) w j y ≡ true
  core w j lw u d f x k y l lx ly hx hy c h = go d (holder x k lx hx) (holder y l ly hy)
    where
      go : Was p s (act s w) e j → Holder x k → Holder y l → inside (applied s i e) w j y ≡ true
      go (open_before m) (stood a) (stood b) =
          b.from w j
          (n.contained w j lw u m a.rep a.slot b.rep b.slot a.there b.there a.has b.has (b.same ∙ c ∙ sym a.same) (a.to w j f h))
      go (begun_now m q) (stood a) (stood b) =
          absurd (omega (arith, inside_first s n.bounded.count n.falls w j a.rep a.there (a.to w j f h), a.there))
      go m (stood a) (maker q r) = absurd (omega (arith, n.clocked a.rep a.slot a.there a.has, a.same ∙ sym c ∙ r))
      go m (maker q r) (stood b) = absurd (omega (arith, n.clocked b.rep b.slot b.there b.has, b.same ∙ c ∙ r))
      go m (maker q r) (maker q' r') = rw q' (rw q at h)

  -- A step keeps containment.
  pub contained' : (w j : ℕ) → w < (applied s i e).activities → ended (applied s i e) w ≡ false
      → Open p (act (applied s i e) w).depth (act (applied s i e) w).frames j → (x k y l : ℕ)
      → x < (applied s i e).activities → y < (applied s i e).activities → holds (act (applied s i e) x) k ≡ true → holds (act (applied s i e) y) l ≡ true
      → (hold (act (applied s i e) y) l).clock ≡ (hold (act (applied s i e) x) k).clock → inside (applied s i e) w j x ≡ true
      → inside (applied s i e) w j y ≡ true
  unfolding Opening
  contained' w j lw u m = go (entry w)
    where
      go : Now s i e w → (x k y l : ℕ)
          → x < (applied s i e).activities → y < (applied s i e).activities → holds (act (applied s i e) x) k ≡ true
          → holds (act (applied s i e) y) l ≡ true → (hold (act (applied s i e) y) l).clock ≡ (hold (act (applied s i e) x) k).clock
          → inside (applied s i e) w j x ≡ true → inside (applied s i e) w j y ≡ true
      go (self q me) =
          let v : Was p s (act s i) e j = o.opening (rw me at u) j (rw me at m) in
          core w j (rw q o.present) (rw q o.runs) (subst (λ w. Was p s (act s w) e j) (sym q) v) (λ z. v)
      go (other d l old) = core w j (l lw) (rw old at u) (open_before (rw old at m)) (λ z. absurd (d z))
      go (newborn c q f is) = absurd ((its c q).none_open j (subst (λ a. Open p a.depth a.frames j) is m))

  -- The count of activities when an open finish began is above its owner and no greater than the activities there are.
  pub marked' : ((w j : ℕ) → w < s.activities → ended s w ≡ false → Open p (act s w).depth (act s w).frames j → (w < j) × (j ≤ s.activities))
      → (w j : ℕ) → w < (applied s i e).activities → ended (applied s i e) w ≡ false → Open p (act (applied s i e) w).depth (act (applied s i e) w).frames j
      → (w < j) × (j ≤ (applied s i e).activities)
  unfolding Opening applied
  marked' was w j lw u m = go (entry w)
    where
      grows : (ch : Spawned) → s.activities ≤ spawned_count s.activities ch
      grows nobody = omega arith
      grows (one c) = omega arith

      on : (w < j) × (j ≤ s.activities) → (w < j) × (j ≤ (applied s i e).activities)
      on b = (b.0, omega (arith, b.1, grows e.spawned))

      own : Was p s (act s i) e j → (i < j) × (j ≤ s.activities)
      own (open_before o') = was i j o.present o.runs o'
      own (begun_now q z) = (omega (arith, o.present), omega arith)

      go : Now s i e w → (w < j) × (j ≤ (applied s i e).activities)
      go (self q me) =
          on (subst (λ w. (w < j) × (j ≤ s.activities)) (sym q) (own (o.opening (rw me at u) j (rw me at m))))
      go (other d l old) = on (was w j (l lw) (rw old at u) (rw old at m))
      go (newborn c q f is) = absurd ((its c q).none_open j (subst (λ a. Open p a.depth a.frames j) is m))

-- WHAT A COMMAND ASKS AND GIVES

-- What a step makes of a hold: one that was there, or of the new clock.
held_became : (made : ℕ) (a : Activity) (k : ℕ) (h : Hold) → Became made (hold a k) h → is_held h.registration ≡ true → Held made a h
held_became made a k h (unchanged q) e = before k (rw q at e) (ap (λ h. h.clock) (sym q))
held_became made a k h (vacated q) e = absurd (true_false false (rw q at e) refl)
held_became made a k h (quieted q) e = before k (held_quiesced (hold a k).registration (rw q at e)) (ap (λ h. h.clock) (sym q))
held_became made a k h (raised q) e = before k (held_revived (hold a k).registration (rw q at e)) (ap (λ h. h.clock) (sym q))
held_became made a k h (begun q) e = fresh (ap (λ h. h.clock) q)

-- The same of all holds.
pub held_turned : (made : ℕ) (a b : Activity) → Turned made a.holds b.holds → (k : ℕ) → holds b k ≡ true → Held made a (hold b k)
unfolding Turned
held_turned made a b t k = held_became made a k (hold b k) (t k)

-- The one that a command without a fault spawns.
pub born_after : {p : Program} {e : Env} {i : ℕ} {a : Activity} {c : Command} {x : Effect} → length a.holds ≡ 8 → fault_for p e i a c ≡ 0 → Kind p e i a c x
    → OfChild (Born p i a) x.spawned
unfolding child
born_after {p} {e} {i} {a} {c} n f k = born (Born p i a) (λ b m q. lending b m (rw q at f)) k
  where
    lending : (b m : ℕ) → fault_for p e i a (Async b m) ≡ 0 → Born p i a (child i a b m)
    lending b m f =
        record {
          spawner = refl;
          none_open = λ j o. omega (arith, o.deeper);
          lent = λ k h.
              let r = lent_held m 0 a.holds k h in
              let z : 0 + k ≡ k = omega arith in
              let g = lends p e i a b m f in
              (open_none p a (g.outside k (rw z at r.1)), g.held k (omega (arith, r.0)) (rw z at r.1), r.2);
        }
