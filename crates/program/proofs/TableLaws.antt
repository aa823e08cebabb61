-- Numbers 9 to 12 by saturated counts, and the answers that they lead to.
use Prim.Native.Nat.{ℕ, ◌+◌, ◌≤◌, ◌<◌}
use mathlib.Core.Path.{◌≡◌, refl, sym, ap, ◌∙◌}
use mathlib.Core.List.{List, ◌∷◌}
use mathlib.Core.Bool.{Bool, true, false, cond, ◌&&◌}
use native.Mathlib.Omega.{arith}
use native.Mathlib.Numerals.{add-one}
use native.Mathlib.Decide.{dec_le}
use lib.ListN.{length}
use lib.Dec.{eqb, ltb, leb, leb-suc-suc}
use borrow.Author.Tests.{le-leb, lt-leb, ne_eqb, lt-ltb, le-ltb, ltb-false}
use Rattle.program.specs.Bodies.{program_of}
use Rattle.program.specs.Scan.{fits_length, fits_bodies, scan, layout_of}
use Rattle.program.specs.Count.{tally, own_work, own_activities, work_of, activities_of, clocks_of, accumulators_of}
use Rattle.program.specs.Inner.Counting.{workCount, activityCount, clockCount, accumulatorCount, weight, cap, CountsOf, over_counts}
use Rattle.program.specs.Table.{work_limit, over_count, number_of, counted, table_of}
use Rattle.program.specs.Refusal.{refusal_number, told, answered}
use Rattle.program.specs.declared.refusal.Refusal.{Refusal}
use Rattle.std.specs.Prelude.{Result, Ok, Err}
use Rattle.program.proofs.Refusals.{told_answered, answered_ok, answered_err, answered_at, answered_some}
use Rattle.program.proofs.NumberLaws.{number_small}
use Rattle.program.specs.declared.table.Table.{Table}
use Rattle.program.specs.declared.count.Counts.{Counts}

-- A limit below the cap is passed by the saturated count where it is by the count itself.
cap_over : (limit x : ℕ) → limit < 65536 → ltb limit (cap x) ≡ ltb limit x
cap_over limit x h = by (dec_le x limit)
  where
    by : Dec (x ≤ limit) → ltb limit (cap x) ≡ ltb limit x
    by (yes e) = le-ltb limit (cap x) (omega arith) ∙ sym (le-ltb limit x e)
    by (no e) = lt-ltb limit (cap x) (omega arith) ∙ sym (lt-ltb limit x (omega arith))

module _ (t : List ℕ) (r : Counts) (h : CountsOf t 0 r) where
  pub over_same : over_counts r ≡ over_count work_limit (program_of t)
  unfolding CountsOf over_counts over_count work_of activities_of clocks_of accumulators_of
  over_same =
      let a : ltb 64 (tally own_activities (program_of t) 0 + 1) ≡ ltb 63 (tally own_activities (program_of t) 0) = rw add-one (leb-suc-suc 64 (tally own_activities (program_of t) 0)) in
      rw (
        h workCount,
        h activityCount,
        h clockCount,
        h accumulatorCount,
        a,
        cap_over 63 (tally own_activities (program_of t) 0) (omega arith),
        cap_over 16 (tally (weight clockCount) (program_of t) 0) (omega arith),
        cap_over 16 (tally (weight accumulatorCount) (program_of t) 0) (omega arith),
        cap_over work_limit (tally own_work (program_of t) 0) (omega arith),
      )

-- None of the limits is passed.
record Within (r : Counts) : Type 0 where
  activities_few : r.activities ≤ 63
  clocks_few : r.clocks ≤ 16
  accumulators_few : r.accumulators ≤ 16
  work_few : r.work ≤ work_limit

within : (r : Counts) → over_counts r ≡ 0 → Within r
unfolding over_counts
within r h = by (ltb 63 r.activities) (ltb 16 r.clocks) (ltb 16 r.accumulators) (ltb work_limit r.work) refl refl refl refl h
  where
    by : (a c u w : Bool) → ltb 63 r.activities ≡ a → ltb 16 r.clocks ≡ c → ltb 16 r.accumulators ≡ u → ltb work_limit r.work ≡ w
        → ◌≡◌ {A = ℕ} (cond a 9 (cond c 10 (cond u 11 (cond w 12 0)))) 0 → Within r
    by true c u w p q s z g = absurd (let y : ⊥ = omega arith in y)
    by false true u w p q s z g = absurd (let y : ⊥ = omega arith in y)
    by false false true w p q s z g = absurd (let y : ⊥ = omega arith in y)
    by false false false true p q s z g = absurd (let y : ⊥ = omega arith in y)
    by false false false false p q s z g = record { activities_few = ltb-false _ _ p; clocks_few = ltb-false _ _ q; accumulators_few = ltb-false _ _ s; work_few = ltb-false _ _ z }

-- "1. The table has fewer than 2 or more than 2,048 bytes."
pub too_long : (limit : ℕ) (t : List ℕ) → 2048 < length t → number_of limit t ≡ 1
unfolding number_of scan fits_length
too_long limit t h = let low : 2 ≤ length t = omega arith in rw (le-leb 2 (length t) low, lt-leb (length t) 2048 h)

-- "2. Byte 0 is 0 or above 16.": a number above 16 gives 2, where the length fits.
pub many_bodies : (limit n : ℕ) (s : List ℕ) → 16 < n → number_of limit (n ∷ s) ≡ cond (fits_length (0 ∷ s)) 2 1
unfolding number_of scan fits_length fits_bodies
many_bodies limit n s h = rw none (by (fits_length (0 ∷ s)) (over_count limit (program_of (n ∷ s))))
  where
    none : leb 1 n && leb n 16 ≡ false
    none = let low : 1 ≤ n = omega arith in rw (le-leb 1 n low, lt-leb n 16 h)

    by : (fits : Bool) (m : ℕ) → cond (eqb (cond fits 2 1) 0) m (cond fits 2 1) ≡ cond fits 2 1
    by true m = refl
    by false m = refl

module _ (t : List ℕ) where
  -- WHAT THE TABLE IS ANSWERED

  pub table_unread : {e : Refusal} → answered (scan t) (layout_of t) ≡ Err e → Err e ≡ table_of work_limit t
  unfolding table_of number_of
  table_unread h =
      let k = answered_at (scan t) (layout_of t) h in
      rw (ne_eqb _ _ k.0) (sym (answered_some (scan t) (counted t) k.0 ∙ ap Err k.1))

  module _ (read : scan t ≡ 0) (r : Counts) (h : CountsOf t 0 r) where
    pub table_over : {e : Refusal} → answered (over_counts r) (tt {0}) ≡ Err e → Err e ≡ table_of work_limit t
    unfolding table_of number_of
    table_over g =
        let k = answered_at (over_counts r) (tt {0}) g in
        rw (read, ← over_same t r h) (sym (answered_some (over_counts r) (counted t) k.0 ∙ ap Err k.1))

    pub table_counted : over_counts r ≡ 0
        → Ok (record { layout = layout_of t; work = r.work; activities = r.activities + 1; clocks = r.clocks; accumulators = r.accumulators }) ≡ table_of work_limit t
    unfolding CountsOf table_of number_of counted work_of activities_of clocks_of accumulators_of
    table_counted e =
        let w = within r e in
        let a : tally own_activities (program_of t) 0 ≡ r.activities = let x = h activityCount in let y = w.activities_few in omega arith in
        let c : tally (weight clockCount) (program_of t) 0 ≡ r.clocks = let x = h clockCount in let y = w.clocks_few in omega arith in
        let u : tally (weight accumulatorCount) (program_of t) 0 ≡ r.accumulators = let x = h accumulatorCount in let y = w.accumulators_few in omega arith in
        let k : tally own_work (program_of t) 0 ≡ r.work = let x = h workCount in let y = w.work_few in omega arith in
        rw (read, ← over_same t r h, e, a, c, u, k)

-- WHAT AN ANSWER SAYS

-- The number that is told of a table.
pub table_told : (limit : ℕ) (t : List ℕ) → told (table_of limit t) ≡ number_of limit t
unfolding table_of
table_told limit t = told_answered (number_of limit t) (counted t) (let n = number_small limit t in omega arith)

module _ (limit : ℕ) (t : List ℕ) {r : Result Table Refusal} (is : r ≡ table_of limit t) where
  -- Of an accepted table, what it holds;
  pub table_read : {x : Table} → r ≡ Ok x → (number_of limit t ≡ 0) × (x ≡ counted t)
  unfolding table_of
  table_read h = answered_ok (number_of limit t) (counted t) (sym is ∙ h)

  -- of one that is turned down, its number.
  pub table_refused : {e : Refusal} → r ≡ Err e → (refusal_number e ≡ number_of limit t) × (0 < number_of limit t)
  unfolding table_of
  table_refused h = answered_err (number_of limit t) (counted t) (sym is ∙ h) (let n = number_small limit t in omega arith)
