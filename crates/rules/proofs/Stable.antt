-- A quiescent phase of a made clock stays quiescent: a step makes no hold come behind that was not. A new hold is of a new clock, and no quiesced spawner makes a
-- live child (F2).
use Prim.Native.Nat.{ℕ, zero, suc, ◌+◌, ◌<◌}
use native.Mathlib.Omega.{arith}
use mathlib.Core.List.{List, [], ◌∷◌}
use mathlib.Core.Bool.{Bool, true, false, cond}
use mathlib.Core.Path.{◌≡◌, refl, ap}
use mathlib.Core.Logic.{◌⊎◌, inl, inr}
use lib.ListN.{length, get_or}
use Rattle.program.specs.declared.command.Command.{Command}
use Rattle.program.specs.declared.command.Command.TheVariants.{Async}
use Rattle.rules.specs.declared.state.Registration.TheVariants.{Live}
use Rattle.rules.specs.declared.state.Hold.{Hold}
use Rattle.rules.specs.declared.state.Activity.{Activity}
use Rattle.rules.specs.declared.state.State.{State}
use Rattle.program.specs.Bodies.{Program}
use Rattle.rules.specs.State.{hold, no_hold, act}
use Rattle.rules.specs.Clocks.{is_live, behind, is_behind, quiescent}
use Rattle.rules.specs.Faults.{bit, Env, fault_for}
use Rattle.rules.specs.Effects.{lent, Effect, child, applied}
use Rattle.rules.proofs.Tests.{true_false, not-false, not-true, decide}
use Rattle.rules.proofs.Search.{some_below_witness, some_below_intro}
use Rattle.rules.proofs.Shapes.{born, Kind, OfChild, of_child}
use Rattle.rules.proofs.Applied.{Bounded, Fits, each}
use Rattle.rules.proofs.Holders.{Became, unchanged, vacated, quieted, raised, begun, Turned, lends}
use Rattle.rules.proofs.Behind.{behind_out, behind_none, behind_quiesce, behind_pass, behind_lent}

module _ (c p : ℕ) where
  -- HOLDS: what is behind after a step was behind before it

  -- What a step makes of a hold, on a clock made before.
  became_before : (made : ℕ) → c < made → (h h' : Hold) → Became made h h' → is_behind c p h' ≡ true → is_behind c p h ≡ true
  became_before made l h h' (unchanged q) = λ e. rw q at e
  became_before made l h h' (vacated q) = rw q (behind_none c p h)
  became_before made l h h' (quieted q) = rw q (behind_quiesce c p h)
  became_before made l h h' (raised q) = rw q (behind_pass c p h)
  became_before made l h h' (begun q) = λ e. absurd (omega (arith, (behind_out c p h' e).clock, ap (λ h. h.clock) q))

  -- LISTS OF HOLDS

  -- The same of each name.
  unfoldable pub Quiet : List Hold → List Hold → Type 0
  Quiet l l' = (k : ℕ) → is_behind c p (get_or l' k no_hold) ≡ true → is_behind c p (get_or l k no_hold) ≡ true

  -- What a step makes of all holds.
  pub quiet_turned : (made : ℕ) → c < made → (l l' : List Hold) → Turned made l l' → Quiet l l'
  unfolding Quiet Turned
  quiet_turned made h l l' t k = became_before made h (get_or l k no_hold) (get_or l' k no_hold) (t k)

  -- What a child gets, where each clock lent is live.
  quiet_lent : (m j : ℕ) (l : List Hold) → ((k : ℕ) → k < length l → bit m (j + k) ≡ true → is_live (get_or l k no_hold).registration ≡ true) → Quiet l (lent m j l)
  unfolding Quiet lent
  quiet_lent m j [] h k b = b
  quiet_lent m j (x ∷ l) h zero b = go (bit m j) refl b
    where
      go : (v : Bool) → bit m j ≡ v → is_behind c p (cond v (record { phase = x.phase; clock = x.clock; registration = Live }) no_hold) ≡ true
          → is_behind c p x ≡ true
      go true e b = let z : j + 0 ≡ j = omega arith in behind_lent c p x (h 0 (omega arith) (rw z e)) b
      go false e b = behind_none c p x b
  quiet_lent m j (x ∷ l) h (suc k) b = quiet_lent m (suc j) l (λ n f e. let q : suc j + n ≡ j + suc n = omega arith in h (suc n) (omega arith) (rw q at e)) k b

  -- The one that a command without a fault spawns.
  pub quiet_born : {t : Program} {e : Env} {i : ℕ} {a : Activity} {o : Command} {x : Effect} → length a.holds ≡ 8 → fault_for t e i a o ≡ 0 → Kind t e i a o x
      → OfChild (λ b. Quiet a.holds b.holds) x.spawned
  unfolding child
  quiet_born {t} {e} {i} {a} {o} n f k = born (λ b. Quiet a.holds b.holds) (λ b m q. lending b m (rw q at f)) k
    where
      lending : (b m : ℕ) → fault_for t e i a (Async b m) ≡ 0 → Quiet a.holds (lent m 0 a.holds)
      lending b m f = quiet_lent m 0 a.holds (λ k l q. let z : 0 + k ≡ k = omega arith in (lends t e i a b m f).live k (omega arith) (rw z at q))

  -- STATES

  -- Some holder is behind.
  pub record Blocked (s : State) : Type 0 where
    pub other : ℕ
    pub there : other < s.activities
    pub name : ℕ
    pub eight : name < 8
    pub back : is_behind c p (hold (act s other) name) ≡ true

  -- A phase that is not quiescent has one.
  blocked : (s : State) → quiescent s c p ≡ false → Blocked s
  unfolding quiescent behind
  blocked s e =
      let w = some_below_witness s.activities (behind s c p) (not-false _ e) in
      let v = some_below_witness 8 (λ k. is_behind c p (hold (act s w.at) k)) w.passes in
      record { other = w.at; there = w.below; name = v.at; eight = v.below; back = v.passes }

  -- One that is quiescent has none.
  not_blocked : (s : State) → quiescent s c p ≡ true → Blocked s → ⊥
  unfolding quiescent behind
  not_blocked s e b =
      true_false _
      (some_below_intro s.activities (behind s c p) b.other b.there
      (some_below_intro 8 (λ k. is_behind c p (hold (act s b.other) k)) b.name b.eight b.back))
      (not-true _ e)

  -- An effect whose activity and whose child are no more behind than the activity was.
  pub quiet_applied : (s : State) → Bounded s → (i : ℕ) → i < s.activities → (e : Effect) → Fits s e.spawned → Quiet (act s i).holds e.self.holds
      → OfChild (λ b. Quiet (act s i).holds b.holds) e.spawned → quiescent s c p ≡ true → quiescent (applied s i e) c p ≡ true
  unfolding Quiet
  quiet_applied s z i h e f q r g = go (decide (quiescent (applied s i e) c p))
    where
      -- whoever is behind stands for one who was
      was : (k : ℕ) → k < 8 → (x : ℕ) → x < (applied s i e).activities → is_behind c p (hold (act (applied s i e) x) k) ≡ true → Blocked s
      was k l =
          each s z i h e f (λ x a. is_behind c p (hold a k) ≡ true → Blocked s) (λ x m d b. record { other = x; there = m; name = k; eight = l; back = b })
          (λ b. record { other = i; there = h; name = k; eight = l; back = q k b })
          (of_child (λ b. Quiet (act s i).holds b.holds) (λ a. is_behind c p (hold a k) ≡ true → Blocked s)
          (λ a w b. record { other = i; there = h; name = k; eight = l; back = w k b }) e.spawned r)

      go : (quiescent (applied s i e) c p ≡ true) ⊎ (quiescent (applied s i e) c p ≡ false) → quiescent (applied s i e) c p ≡ true
      go (inl y) = y
      go (inr y) =
          let b = blocked (applied s i e) y in
          absurd (not_blocked s g (was b.name b.eight b.other b.there b.back))
