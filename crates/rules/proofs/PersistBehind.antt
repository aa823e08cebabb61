-- Nobody falls behind: a hold that keeps a phase of a made clock from being quiescent after a step did so before it, in the one who stepped.
use Prim.Native.Nat.{ℕ, ◌<◌}
use native.Mathlib.Omega.{arith}
use mathlib.Core.List.{List, map}
use mathlib.Core.Bool.{Bool, true}
use mathlib.Core.Path.{◌≡◌, refl, sym, ap, ◌∙◌}
use lib.ListN.{set}
use Rattle.rules.specs.declared.state.Registration.TheVariants.{Live}
use Rattle.rules.specs.declared.state.Hold.{Hold}
use Rattle.rules.specs.declared.state.Activity.{Activity}
use Rattle.rules.specs.State.{no_hold, hold}
use Rattle.rules.specs.Clocks.{is_live, is_behind, quiesce, pass}
use Rattle.rules.specs.Faults.{bit}
use Rattle.rules.specs.Effects.{lent}
use Rattle.rules.proofs.Lists.{Stored, new, old, stored}
use Rattle.rules.proofs.Behind.{behind_out, behind_none, behind_quiesce, behind_pass, behind_lent}
use Rattle.rules.proofs.WellFormedHolds.{under, under_none, under_map, Lent, lends, lent_held}
use Rattle.rules.proofs.WellFormedShape.{Holding, same, quiesces, passes, clocks, resumes, drops, leaves}

module _ (c p : ℕ) where
  -- ALL CLOCK NAMES

  -- all changed so
  behind_map : (f : Hold → Hold) → f no_hold ≡ no_hold → ((h : Hold) → is_behind c p (f h) ≡ true → is_behind c p h ≡ true) → (hs : List Hold) (k : ℕ)
      → is_behind c p (under (map f hs) k) ≡ true → is_behind c p (under hs k) ≡ true
  behind_map f e g hs k b = g (under hs k) (rw (under_map f e hs k) at b)

  -- one changed so
  behind_set : (hs : List Hold) (n : ℕ) (h : Hold) → (is_behind c p h ≡ true → is_behind c p (under hs n) ≡ true) → (k : ℕ)
      → is_behind c p (under (set hs n h) k) ≡ true → is_behind c p (under hs k) ≡ true
  behind_set hs n h g k b = go (stored hs n h k no_hold)
    where
      go : Stored hs n h k no_hold → is_behind c p (under hs k) ≡ true
      go (new e q) = rw e (g (rw q at b))
      go (old q) = rw q at b

  -- who stepped
  pub self_before : {next : ℕ} {clocked : Bool} {a b : Activity} → Holding next clocked a b → c < next → (k : ℕ) → is_behind c p (hold b k) ≡ true → is_behind c p (hold a k) ≡ true
  self_before (same t h) l k e = rw h at e
  self_before {a = a} (quiesces t h) l k e = behind_map quiesce refl (behind_quiesce c p) a.holds k (rw h at e)
  self_before {a = a} (passes t h) l k e = behind_map pass refl (behind_pass c p) a.holds k (rw h at e)
  self_before {next} {a = a} (clocks n t m h) l k e =
      behind_set a.holds n (record { phase = 0; clock = next; registration = Live }) (λ b. absurd (omega (arith, (behind_out c p _ b).clock))) k (rw h at e)
  self_before {a = a} (resumes n t m h) l k e = behind_set a.holds n (quiesce (hold a n)) (behind_quiesce c p (hold a n)) k (rw h at e)
  self_before {a = a} (drops n t m h) l k e = behind_set a.holds n no_hold (behind_none c p (hold a n)) k (rw h at e)
  self_before {a = a} {b} (leaves t h) l k e = behind_none c p (hold a k) (rw (under_none 8 k) at (ap (λ hs. is_behind c p (under hs k)) (sym h) ∙ e))

  -- who was spawned
  pub child_before : (m : ℕ) (hs : List Hold) (k : ℕ) → (bit m k ≡ true → is_live (under hs k).registration ≡ true) → is_behind c p (under (lent m 0 hs) k) ≡ true
      → is_behind c p (under hs k) ≡ true
  child_before m hs k live e = go (under (lent m 0 hs) k) e (lent_held m hs k)
    where
      go : (g : Hold) → is_behind c p g ≡ true → Lent m hs k k g → is_behind c p (under hs k) ≡ true
      go g e (lends b q) = behind_lent c p (under hs k) (live b) (rw q at e)
      go g e (Lent.keeps q) = behind_none c p (under hs k) (rw q at e)
