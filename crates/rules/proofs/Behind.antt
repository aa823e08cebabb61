-- A hold that is behind a phase of a clock: what the test says, and what a step makes of a hold is no more behind than it was. A phase only rises, passing makes
-- live only in a later phase, and a hold is lent only where it is live.
use Prim.Native.Nat.{ℕ, ◌<◌}
use native.Mathlib.Omega.{arith}
use mathlib.Core.Bool.{true, false, ◌||◌, ◌&&◌}
use mathlib.Core.Path.{◌≡◌, refl, sym, ◌∙◌}
use mathlib.Core.Logic.{◌⊎◌, inl, inr}
use lib.Dec.{ltb, eqb}
use borrow.Author.Tests.{ltb-true, lt-ltb, eqb-true, eq-eqb}
use Rattle.rules.specs.declared.state.Registration.{Registration}
use Rattle.rules.specs.declared.state.Registration.TheVariants.{Free, Live, Quiesced}
use Rattle.rules.specs.declared.state.Hold.{Hold}
use Rattle.rules.specs.State.{no_hold}
use Rattle.rules.specs.Clocks.{is_held, is_live, is_behind, quiesced, quiesce, pass}
use Rattle.rules.proofs.Tests.{and_true, and_intro, or_true, or_left, or_right, true_false}
use Rattle.rules.proofs.Holders.{held_quiesced, held_revived}

-- What is_behind says.
pub record Behind (c p : ℕ) (h : Hold) : Type 0 where
  pub held : is_held h.registration ≡ true
  pub clock : h.clock ≡ c
  pub order : (h.phase < p) ⊎ ((h.phase ≡ p) × (is_live h.registration ≡ true))

-- It says so.
pub behind_out : (c p : ℕ) (h : Hold) → is_behind c p h ≡ true → Behind c p h
unfolding is_behind
behind_out c p h e =
    let q = and_true (is_held h.registration) _ e in
    let r = and_true (eqb h.clock c) _ q.1 in
    record { held = q.0; clock = eqb-true h.clock c r.0; order = go (or_true (ltb h.phase p) _ r.1) }
  where
    go : (ltb h.phase p ≡ true) ⊎ (eqb h.phase p && is_live h.registration ≡ true) → (h.phase < p) ⊎ ((h.phase ≡ p) × (is_live h.registration ≡ true))
    go (inl l) = inl (ltb-true h.phase p l)
    go (inr l) = let q = and_true (eqb h.phase p) _ l in inr (eqb-true h.phase p q.0, q.1)

-- And is said by it.
pub behind_in : (c p : ℕ) (h : Hold) → Behind c p h → is_behind c p h ≡ true
unfolding is_behind
behind_in c p h b = and_intro (is_held h.registration) _ b.held (and_intro (eqb h.clock c) _ (eq-eqb h.clock c b.clock) (go b.order))
  where
    go : (h.phase < p) ⊎ ((h.phase ≡ p) × (is_live h.registration ≡ true)) → ltb h.phase p || (eqb h.phase p && is_live h.registration) ≡ true
    go (inl l) = or_left (ltb h.phase p) _ (lt-ltb h.phase p l)
    go (inr l) = or_right (ltb h.phase p) _ (and_intro (eqb h.phase p) _ (eq-eqb h.phase p l.0) l.1)

module _ (c p : ℕ) where
  -- A hold like another, or further on, is no more behind.
  pub no_more : (h g : Hold) → (is_held g.registration ≡ true → is_held h.registration ≡ true) → g.clock ≡ h.clock
      → (is_held g.registration ≡ true → (h.phase < g.phase) ⊎ ((h.phase ≡ g.phase) × (is_live g.registration ≡ true → is_live h.registration ≡ true)))
      → is_behind c p g ≡ true → is_behind c p h ≡ true
  no_more h g f e o b = behind_in c p h (record { held = f x.held; clock = sym e ∙ x.clock; order = go (o x.held) x.order })
    where
      x : Behind c p g
      x = behind_out c p g b

      go : (h.phase < g.phase) ⊎ ((h.phase ≡ g.phase) × (is_live g.registration ≡ true → is_live h.registration ≡ true))
          → (g.phase < p) ⊎ ((g.phase ≡ p) × (is_live g.registration ≡ true)) → (h.phase < p) ⊎ ((h.phase ≡ p) × (is_live h.registration ≡ true))
      go (inl l) (inl m) = inl (omega arith)
      go (inl l) (inr m) = inl (omega arith)
      go (inr l) (inl m) = inl (omega arith)
      go (inr l) (inr m) = inr (l.0 ∙ m.0, l.1 m.1)

  -- A free name is not behind.
  pub behind_none : (h : Hold) → is_behind c p no_hold ≡ true → is_behind c p h ≡ true
  unfolding is_behind
  behind_none h e = absurd (true_false false e refl)

  -- A hold quiesced is no more behind.
  pub behind_quiesce : (h : Hold) → is_behind c p (quiesce h) ≡ true → is_behind c p h ≡ true
  behind_quiesce h = no_more h (quiesce h) (held_quiesced h.registration) refl (λ q. inr (refl, live h.registration))
    where
      live : (r : Registration) → is_live (quiesced r) ≡ true → is_live r ≡ true
      live Free e = e
      live Live e = refl
      live Quiesced e = e

  -- Nor is one that has passed.
  pub behind_pass : (h : Hold) → is_behind c p (pass h) ≡ true → is_behind c p h ≡ true
  behind_pass h = no_more h (pass h) (held_revived h.registration) refl (λ q. inl (rw (held_revived h.registration q) (omega arith)))

  -- Nor is one lent from a live hold.
  pub behind_lent : (h : Hold) → is_live h.registration ≡ true → is_behind c p (record { phase = h.phase; clock = h.clock; registration = Live }) ≡ true → is_behind c p h ≡ true
  behind_lent h live =
      no_more h (record { phase = h.phase; clock = h.clock; registration = Live }) (λ q. live_held h.registration live) refl (λ q. inr (refl, λ q. live))
    where
      live_held : (r : Registration) → is_live r ≡ true → is_held r ≡ true
      live_held Free e = e
      live_held Live e = refl
      live_held Quiesced e = refl
