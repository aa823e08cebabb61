-- A loop that fills the names and the holds of a child from those of its spawner.
use Prim.Native.Nat.{ℕ, zero, suc, ◌+◌, ◌≤◌, ◌<◌}
use native.Mathlib.Omega.{arith}
use native.Mathlib.Numerals.{add-one}
use native.Mathlib.Nat.{not-suc-le-zero, le_of_suc-le-suc, zero-add}
use mathlib.Core.Path.{◌≡◌, refl, sym, ap, ◌∙◌}
use mathlib.Core.List.{List, [], ◌∷◌}
use mathlib.Core.Bool.{true, false, cond}
use lib.ListN.{length, get_or, set, get_or-replicate}
use lib.Seq.{set-get_or}
use Rattle.rules.specs.declared.state.Registration.TheVariants.{Live}
use Rattle.rules.specs.declared.state.Hold.{Hold}
use Rattle.rules.specs.declared.state.Activity.{Activity}
use Rattle.rules.specs.declared.state.State.{State}
use Rattle.rules.specs.State.{act, no_hold, no_holds, hold, bound}
use Rattle.rules.specs.Faults.{bit}
use Rattle.rules.specs.Effects.{with_holds, with_names, lent}
use Rattle.rules.proofs.Sizes.{length_lent}
use Rattle.fields.specs.Lent.{Lent, ReadsAct, WritesAct, with_act, with_hold, with_name}
use Rattle.bodies.specs.Gives.{Gives}
use Rattle.moves.proofs.Withs.{act_with, act_other, with_with, with_same}

-- The first k elements are those of another list.
unfoldable pub overlay : {A : Type 0} → ℕ → List A → List A → List A
overlay zero new old = old
overlay (suc k) [] old = old
overlay (suc k) (x ∷ new) [] = []
overlay (suc k) (x ∷ new) (y ∷ old) = x ∷ overlay k new old

module _ {A : Type 0} where
  overlay_all : (k : ℕ) (new old : List A) → length new ≡ length old → length old ≤ k → overlay k new old ≡ new
  unfolding overlay
  overlay_all zero [] [] e h = refl
  overlay_all zero (x ∷ new) [] e h = absurd (omega arith)
  overlay_all zero new (y ∷ old) e h = absurd (not-suc-le-zero h)
  overlay_all (suc k) [] [] e h = refl
  overlay_all (suc k) [] (y ∷ old) e h = absurd (omega arith)
  overlay_all (suc k) (x ∷ new) [] e h = absurd (omega arith)
  overlay_all (suc k) (x ∷ new) (y ∷ old) e h = ap (λ l. x ∷ l) (overlay_all k new old (omega arith) (le_of_suc-le-suc h))

  overlay_at : (k : ℕ) (new old : List A) (d : A) → length new ≡ length old → get_or (overlay k new old) k d ≡ get_or old k d
  unfolding overlay
  overlay_at zero new old d e = refl
  overlay_at (suc k) [] old d e = refl
  overlay_at (suc k) (x ∷ new) [] d e = refl
  overlay_at (suc k) (x ∷ new) (y ∷ old) d e = overlay_at k new old d (omega arith)

  overlay_suc : (k : ℕ) (new old : List A) (d : A) → length new ≡ length old → k < length old → set (overlay k new old) k (get_or new k d) ≡ overlay (suc k) new old
  unfolding overlay
  overlay_suc k new [] d e h = absurd (not-suc-le-zero h)
  overlay_suc k [] (y ∷ old) d e h = absurd (omega arith)
  overlay_suc zero (x ∷ new) (y ∷ old) d e h = refl
  overlay_suc (suc k) (x ∷ new) (y ∷ old) d e h = ap (λ l. x ∷ l) (overlay_suc k new old d (omega arith) (le_of_suc-le-suc h))

  overlay_more : (k : ℕ) (new old : List A) (d v : A) → length new ≡ length old → k < length old → v ≡ get_or new k d → set (overlay k new old) k v ≡ overlay (k + 1) new old
  overlay_more k new old d v e h q = rw (q, add-one) (overlay_suc k new old d e h)

  overlay_skip : (k : ℕ) (new old : List A) (d : A) → length new ≡ length old → k < length old → get_or old k d ≡ get_or new k d → overlay k new old ≡ overlay (k + 1) new old
  overlay_skip k new old d e h q =
      sym (set-get_or (overlay k new old) k d) ∙ overlay_more k new old d (get_or (overlay k new old) k d) e h (overlay_at k new old d e ∙ q)

-- the hold that a child gets under a name
abbrev live : Hold → Hold
live h = record { phase = h.phase; clock = h.clock; registration = Live }

lent_at : (m j : ℕ) (l : List Hold) (k : ℕ) → k < length l → get_or (lent m j l) k no_hold ≡ cond (bit m (j + k)) (live (get_or l k no_hold)) no_hold
unfolding lent
lent_at m j [] k h = absurd (not-suc-le-zero h)
lent_at m j (x ∷ l) zero h = let z : j + 0 ≡ j = omega arith in rw z
lent_at m j (x ∷ l) (suc k) h = let z : suc j + k ≡ j + suc k = omega arith in lent_at m (suc j) l k (le_of_suc-le-suc h) ∙ rw z

-- the child with its first k names and holds
abbrev pub given : ℕ → ℕ → Activity → Activity → Activity
given m k a x = with_holds (with_names x (overlay k a.accumulators x.accumulators)) x.status (overlay k (lent m 0 a.holds) x.holds)

pub record GivesTo (m k : ℕ) (b c : List ℕ) (i n : ℕ) : Type 0 where
  pub within : k ≤ 8
  pub gives : (s : State) → Lent b s → i < 64 → n < 64 → (i ≡ n → ⊥) → (act s n).holds ≡ no_holds → Lent c (with_act s n (given m k (act s i) (act s n)))

pub give_none : {m : ℕ} {b : List ℕ} {i n : ℕ} → GivesTo m 0 b b i n
unfolding overlay
give_none {n = n} = record { within = omega arith; gives = λ s l j h d o. rw (with_same s n) l }

module _ {m : ℕ} {b b₁ : List ℕ} {i n : ℕ} where
  pub give_done : {k : ℕ} → GivesTo m k b b₁ i n → 8 ≤ k → Gives m b b₁ i n
  give_done {k} g q =
      record {
        gives =
            λ s l j h d o.
            let a = act s i in
            let x = act s n in
            let y = l.fine.each i j in
            let z = l.fine.each n h in
            rw (
              overlay_all k a.accumulators x.accumulators (rw (y.names8, z.names8)) (rw z.names8 q),
              overlay_all k (lent m 0 a.holds) x.holds (rw (length_lent, y.holds8, z.holds8)) (rw z.holds8 q),
            ) at (g.gives s l j h d o);
      }

  module _ {k : ℕ} (g : GivesTo m k b b₁ i n) (low : k < 8) {v : ℕ} (r : ReadsAct (λ (a : Activity). bound a k) b₁ i v) {b₂ : List ℕ}
      (w : WritesAct (λ (a : Activity). with_name a k v) b₁ b₂ n) where
    -- the child with one name more
    named : (s : State) → Lent b s → i < 64 → n < 64 → (i ≡ n → ⊥) → (act s n).holds ≡ no_holds
        → Lent b₂ (with_act s n (with_holds (with_names (act s n) (overlay (k + 1) (act s i).accumulators (act s n).accumulators)) (act s n).status (overlay k (lent m 0 (act s i).holds) (act s n).holds)))
    named s l j h d o =
        let a = act s i in
        let x = act s n in
        let y = l.fine.each i j in
        let z = l.fine.each n h in
        let t = g.gives s l j h d o in
        let e : v ≡ bound a k = r.reads _ t j ∙ ap (λ (u : Activity). bound u k) (act_other s i n (given m k a x) d) in
        let u = rw (act_with (given m k a x) l h, with_with) at (w.writes _ t h) in
        rw (overlay_more k a.accumulators x.accumulators 0 v (rw (y.names8, z.names8)) (rw z.names8 low) e) at u

    -- the clock under it is not lent
    pub give_skip : bit m k ≡ false → GivesTo m (k + 1) b b₂ i n
    give_skip f =
        record {
          within = omega arith;
          gives =
              λ s l j h d o.
              let a = act s i in
              let x = act s n in
              let y = l.fine.each i j in
              let z = l.fine.each n h in
              let free : get_or x.holds k no_hold ≡ no_hold = rw o (get_or-replicate 8 k no_hold no_hold low) in
              let none : get_or (lent m 0 a.holds) k no_hold ≡ no_hold = lent_at m 0 a.holds k (rw y.holds8 low) ∙ rw (zero-add k, f) in
              rw (overlay_skip k (lent m 0 a.holds) x.holds no_hold (rw (length_lent, y.holds8, z.holds8)) (rw z.holds8 low) (free ∙ sym none)) at (named s l j h d o);
        }

    -- it is
    pub give_more : {b₃ : List ℕ} {c : Hold} → bit m k ≡ true → ReadsAct (λ (a : Activity). hold a k) b₂ i c → WritesAct (λ (a : Activity). with_hold a k (live c)) b₂ b₃ n
        → GivesTo m (k + 1) b b₃ i n
    give_more {b₃} {c} f p q =
        record {
          within = omega arith;
          gives =
              λ s l j h d o.
              let a = act s i in
              let x = act s n in
              let y = l.fine.each i j in
              let z = l.fine.each n h in
              let t = named s l j h d o in
              let e : c ≡ hold a k = p.reads _ t j ∙ ap (λ (u : Activity). hold u k) (act_other s i n _ d) in
              let u = rw (act_with _ l h, with_with) at (q.writes _ t h) in
              let o = ap live e ∙ sym (lent_at m 0 a.holds k (rw y.holds8 low) ∙ rw (zero-add k, f)) in
              rw (overlay_more k (lent m 0 a.holds) x.holds no_hold (live c) (rw (length_lent, y.holds8, z.holds8)) (rw z.holds8 low) o) at u;
        }
