-- The standing sheet: a row that a loop enters holds into, from the last name to the first, and the rows of all activities.
use Prim.Native.Nat.{ℕ, zero, suc, ◌+◌, ◌≤◌, ◌<◌}
use native.Mathlib.Omega.{arith}
use native.Mathlib.Nat.{not-suc-le-zero, le_of_suc-le-suc}
use native.Mathlib.Numerals.{add-one}
use mathlib.Core.Path.{◌≡◌, refl, sym, ap, ◌∙◌}
use mathlib.Core.Bool.{Bool, true, false, cond, ◌&&◌}
use mathlib.Core.List.{List, ◌∷◌}
use lib.ListN.{length, get_or, drop, set, replicate, length-set, get_or-replicate, drop_of_length-le}
use lib.Seq.{ext_get_or, drop-cons, get_or-set_same, get_or-set_other}
use lib.Dec.{eqb}
use borrow.Author.Tests.{eqb-true, eqb-false, ne_eqb}
use Rattle.rules.specs.declared.state.Hold.{Hold}
use Rattle.rules.specs.declared.state.Activity.{Activity}
use Rattle.rules.specs.declared.state.State.{State}
use Rattle.rules.specs.Search.{list_from}
use Rattle.rules.specs.State.{act, hold, no_hold, registration_number}
use Rattle.rules.specs.Clocks.{is_held}
use Rattle.rules.specs.Steps.{registration_on, sheet_of}
use Rattle.fields.specs.Lent.{Lent, ReadsAct}
use Rattle.turns.specs.Sheet.{row_of}

-- LISTS BY INDEX

length_list_from : {A : Type 0} (n k : ℕ) (f : ℕ → A) → length (list_from n k f) ≡ n
unfolding list_from
length_list_from zero k f = refl
length_list_from (suc n) k f = ap suc (length_list_from n (suc k) f)

get_or_from : {A : Type 0} (n k : ℕ) (f : ℕ → A) (j : ℕ) (d : A) → j < n → get_or (list_from n k f) j d ≡ f (k + j)
unfolding list_from
get_or_from zero k f j d h = absurd (not-suc-le-zero h)
get_or_from (suc n) k f zero d h = ap f (omega arith)
get_or_from (suc n) k f (suc j) d h = get_or_from n (suc k) f j d (le_of_suc-le-suc h) ∙ ap f (omega arith)

get_or_list_from : {A : Type 0} (n : ℕ) (f : ℕ → A) (j : ℕ) (d : A) → j < n → get_or (list_from n 0 f) j d ≡ f j
get_or_list_from n f j d h = get_or_from n 0 f j d h ∙ ap f (omega arith)

-- A list by its elements.
listed : {A : Type 0} (n : ℕ) (f : ℕ → A) (l : List A) (d : A) → length l ≡ n → ((j : ℕ) → j < n → get_or l j d ≡ f j) → l ≡ list_from n 0 f
listed n f l d e h =
    ext_get_or d l (list_from n 0 f) (e ∙ sym (length_list_from n 0 f)) (λ j m. let q : j < n = omega arith in h j q ∙ sym (get_or_list_from n f j d q))

-- ONE ROW

-- Entry c of the row once the hold is entered.
abbrev entered : Hold → List ℕ → ℕ → ℕ
entered h row c = cond (is_held h.registration && eqb h.clock c) (registration_number h.registration) (get_or row c 0)

-- The names from n on are entered.
pub record Entered (b : List ℕ) (i : ℕ) (row : List ℕ) (n : ℕ) : Type 0 where
  pub sized : length row ≡ 16
  pub within : n ≤ 8
  pub here : (s : State) → Lent b s → i < 64 → (c : ℕ) → c < 16 → get_or row c 0 ≡ registration_on c (drop n (act s i).holds)

module _ {b : List ℕ} {i : ℕ} where
  pub entered_none : Entered b i (replicate 16 0) 8
  unfolding registration_on
  entered_none =
      record {
        sized = refl;
        within = omega arith;
        here =
            λ s l m c q.
            let e : length (act s i).holds ≤ 8 = let z = (l.fine.each i m).holds8 in omega arith in
            rw (drop_of_length-le (act s i).holds e) (get_or-replicate 16 c 0 0 q);
      }

  module _ {row : List ℕ} {n m : ℕ} (x : Entered b i row n) (e : n ≡ m + 1) {h : Hold} (r : m < 8 → ReadsAct (λ (a : Activity). hold a m) b i h) where
    -- One name more, whatever its entry makes of the row.
    turn : {next : List ℕ} → length next ≡ 16 → ((c : ℕ) → c < 16 → get_or next c 0 ≡ entered h row c) → Entered b i next m
    unfolding registration_on
    turn sized f =
        let low : m < 8 = let w = x.within in omega arith in
        record {
          sized = sized;
          within = omega arith;
          here =
              λ s l few c q.
              let hs = (act s i).holds in
              let v : h ≡ get_or hs m no_hold = (r low).reads s l few in
              let z = (l.fine.each i few).holds8 in
              let d : drop m hs ≡ get_or hs m no_hold ∷ drop n hs = rw (e, add-one m) (drop-cons hs m no_hold (omega arith)) in
              rw d (rw (x.here s l few c q, v) at (f c q));
        }

    pub entered_store : {v : ℕ} → is_held h.registration ≡ true → h.clock < 16 → v ≡ registration_number h.registration → Entered b i (set row h.clock v) m
    entered_store {v} held low p = turn (length-set row h.clock v ∙ x.sized) (λ c q. go c (eqb h.clock c) refl)
      where
        long : h.clock < length row
        long = let z = x.sized in omega arith

        go : (c : ℕ) (t : Bool) → eqb h.clock c ≡ t → get_or (set row h.clock v) c 0 ≡ entered h row c
        go c true q = rw (held, q, ← eqb-true h.clock c q) (get_or-set_same row h.clock v 0 long ∙ p)
        go c false q = rw (held, q) (get_or-set_other row h.clock c v 0 (λ z. eqb-false h.clock c q (sym z)))

    -- a clock number past the row
    pub entered_high : is_held h.registration ≡ true → 16 ≤ h.clock → Entered b i row m
    entered_high held high = turn x.sized (λ c q. rw (held, ne_eqb h.clock c (λ z. omega arith)))

    -- a free name
    pub entered_free : is_held h.registration ≡ false → Entered b i row m
    entered_free free = turn x.sized (λ c q. rw free)

  pub entered_all : {row : List ℕ} {n : ℕ} → Entered b i row n → n ≡ 0 → ReadsAct (λ (a : Activity). row_of a.holds) b i row
  entered_all {row} {n} x e =
      record { reads = λ s l few. listed 16 (λ c. registration_on c (act s i).holds) row 0 x.sized (λ c q. rw e at (x.here s l few c q)) }

-- ALL ROWS

pub sheet_size : (s : State) → length (sheet_of s) ≡ 64
unfolding sheet_of
sheet_size s = length_list_from 64 0 (λ i. row_of (act s i).holds)

pub sheet_at : (s : State) (i : ℕ) (d : List ℕ) → i < 64 → get_or (sheet_of s) i d ≡ row_of (act s i).holds
unfolding sheet_of
sheet_at s i d h = get_or_list_from 64 (λ j. row_of (act s j).holds) i d h

-- Sixty-four rows by activity number are the sheet.
pub sheet_rows : (s : State) (rows : List (List ℕ)) (d : List ℕ) → length rows ≡ 64 → ((i : ℕ) → i < 64 → get_or rows i d ≡ row_of (act s i).holds) → rows ≡ sheet_of s
unfolding sheet_of
sheet_rows s rows d e h = listed 64 (λ i. row_of (act s i).holds) rows d e h
