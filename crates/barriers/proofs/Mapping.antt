-- A loop that changes the holds of an activity, one after the other.
use Prim.Native.Nat.{ℕ, zero, suc, ◌+◌, ◌≤◌, ◌<◌}
use native.Mathlib.Numerals.{add-one}
use native.Mathlib.Nat.{not-suc-le-zero, le_of_suc-le-suc}
use mathlib.Core.Path.{◌≡◌, refl, sym, ap, ◌∙◌, subst}
use mathlib.Core.Bool.{Bool, true, false}
use mathlib.Core.List.{List, [], ◌∷◌, map}
use lib.ListN.{length, get_or, set}
use lib.Seq.{set-get_or}
use Rattle.rules.specs.declared.state.Hold.{Hold}
use Rattle.rules.specs.declared.state.Activity.{Activity}
use Rattle.rules.specs.declared.state.State.{State}
use Rattle.rules.specs.State.{act, no_hold, hold}
use Rattle.rules.specs.Clocks.{is_held}
use Rattle.rules.specs.Effects.{with_holds}
use Rattle.fields.specs.Lent.{Lent, ReadsAct, WritesAct, with_act, with_hold}
use Rattle.barriers.specs.Mapped.{Tells, Maps}
use Rattle.moves.proofs.Withs.{act_with, with_with, with_same}

-- The first k elements mapped.
unfoldable pub map_to : {A : Type 0} → (A → A) → ℕ → List A → List A
map_to f zero l = l
map_to f (suc i) [] = []
map_to f (suc i) (x ∷ l) = f x ∷ map_to f i l

module _ {A : Type 0} (f : A → A) where
  map_to_all : (i : ℕ) (l : List A) → length l ≤ i → map_to f i l ≡ map f l
  unfolding map_to
  map_to_all zero [] h = refl
  map_to_all zero (x ∷ l) h = absurd (not-suc-le-zero h)
  map_to_all (suc i) [] h = refl
  map_to_all (suc i) (x ∷ l) h = ap (λ t. f x ∷ t) (map_to_all i l (le_of_suc-le-suc h))

  map_to_at : (i : ℕ) (l : List A) (d : A) → get_or (map_to f i l) i d ≡ get_or l i d
  unfolding map_to
  map_to_at zero l d = refl
  map_to_at (suc i) [] d = refl
  map_to_at (suc i) (x ∷ l) d = map_to_at i l d

  map_to_suc : (i : ℕ) (l : List A) (d : A) → i < length l → set (map_to f i l) i (f (get_or l i d)) ≡ map_to f (suc i) l
  unfolding map_to
  map_to_suc i [] d h = absurd (not-suc-le-zero h)
  map_to_suc zero (x ∷ l) d h = refl
  map_to_suc (suc i) (x ∷ l) d h = ap (λ t. f x ∷ t) (map_to_suc i l d (le_of_suc-le-suc h))

  map_to_more : (i : ℕ) (l : List A) (d x : A) → i < length l → x ≡ f (get_or l i d) → set (map_to f i l) i x ≡ map_to f (i + 1) l
  map_to_more i l d x h e = rw (e, add-one) (map_to_suc i l d h)

-- the activity with its first k holds changed
abbrev pub mapped : (Hold → Hold) → ℕ → Activity → Activity
mapped f k a = with_holds a a.status (map_to f k a.holds)

-- The first k holds are changed.
pub record MapsTo (Change : Hold → Hold → Type 0) (k : ℕ) (b c : List ℕ) (i : ℕ) : Type 0 where
  pub maps : (f : Hold → Hold) (s : State) → Lent b s → i < 64 → ((n : ℕ) → n < 8 → Tells Change f (hold (act s i) n)) → Lent c (with_act s i (mapped f k (act s i)))

module _ {Change : Hold → Hold → Type 0} {b : List ℕ} {i : ℕ} where
  -- none yet
  pub map_none : MapsTo Change 0 b b i
  unfolding map_to
  map_none = record { maps = λ f s l j p. rw (with_same s i) l }

  -- all
  pub map_done : {b₁ : List ℕ} {k : ℕ} → MapsTo Change k b b₁ i → 8 ≤ k → Maps Change b b₁ i
  map_done {k = k} m h =
      record {
        maps = λ f s l j p. rw (map_to_all f k (act s i).holds (rw (l.fine.each i j).holds8 h)) at (m.maps f s l j p);
      }

  module _ {b₁ : List ℕ} {k : ℕ} (m : MapsTo Change k b b₁ i) (h : k < 8) {g : Hold} (r : ReadsAct (λ (a : Activity). hold a k) b₁ i g) where
    -- what is read at k is what stood there
    read_at : (f : Hold → Hold) (s : State) → Lent b s → i < 64 → ((n : ℕ) → n < 8 → Tells Change f (hold (act s i) n)) → g ≡ hold (act s i) k
    read_at f s l j p =
        let t = m.maps f s l j p in
        r.reads _ t j ∙ ap (λ (a : Activity). hold a k) (act_with (mapped f k (act s i)) l j) ∙ map_to_at f k (act s i).holds no_hold

    -- one more is written
    pub map_more : {b₂ : List ℕ} {q : Bool} {x : Hold} → q ≡ is_held g.registration → q ≡ true → Change g x → WritesAct (λ (a : Activity). with_hold a k x) b₁ b₂ i → MapsTo Change (k + 1) b b₂ i
    map_more {b₂} {x = x} e t changed w =
        record {
          maps =
              λ f s l j p.
              let a = act s i in
              let y = mapped f k a in
              let q : g ≡ hold a k = read_at f s l j p in
              let z : x ≡ f (hold a k) = (p k h).held (rw (← q) (sym e ∙ t)) x (subst (λ (o : Hold). Change o x) q changed) in
              let n = rw (act_with y l j, with_with) at (w.writes _ (m.maps f s l j p) j) in
              rw (map_to_more f k a.holds no_hold x (rw (l.fine.each i j).holds8 h) z) at n;
        }

    -- one more stays as it is
    pub map_skip : {q : Bool} → q ≡ is_held g.registration → q ≡ false → MapsTo Change (k + 1) b b₁ i
    map_skip e t =
        record {
          maps =
              λ f s l j p.
              let a = act s i in
              let q : g ≡ hold a k = read_at f s l j p in
              let same : hold a k ≡ f (hold a k) = (p k h).free (rw (← q) (sym e ∙ t)) in
              let z : map_to f k a.holds ≡ map_to f (k + 1) a.holds
              = sym (ap (λ (x : Hold). set (map_to f k a.holds) k x) (sym (map_to_at f k a.holds no_hold)) ∙ set-get_or (map_to f k a.holds) k no_hold)
              ∙ map_to_more f k a.holds no_hold (hold a k) (rw (l.fine.each i j).holds8 h) same
              in
              rw z at (m.maps f s l j p);
        }
