-- What the code's count keeps: the four counts of a body, saturated, and the bodies already counted.
use Rattle.std.specs.Prelude.{ℕ, ◌+◌, ◌*◌, ◌≤◌, ◌<◌, min, ◌≡◌, List, cond, ltb, get_or, drop, Option, Some, None}
use Rattle.program.specs.Bodies.{program_of}
use Rattle.program.specs.Count.{tally, own_work, own_activities, own_clocks, own_accumulators}
use Rattle.program.specs.Scan.{scan, layout_of}
use Rattle.program.specs.declared.command.Command.{Command}
use Rattle.program.specs.declared.count.Counts.{Counts}
use Rattle.program.specs.Table.{work_limit}

-- Which of the four counts: what is said of each is said once.
pub data Kind : Type 0 where
  workCount activityCount clockCount accumulatorCount : Kind

abbrev pub amount : Counts → Kind → ℕ
amount r workCount = r.work
amount r activityCount = r.activities
amount r clockCount = r.clocks
amount r accumulatorCount = r.accumulators

-- What a command counts by itself.
abbrev pub weight : Kind → Command → ℕ
weight workCount = own_work
weight activityCount = own_activities
weight clockCount = own_clocks
weight accumulatorCount = own_accumulators

unfoldable pub own_counts : Command → Counts
own_counts c =
    record { work = weight workCount c; activities = weight activityCount c; clocks = weight clockCount c; accumulators = weight accumulatorCount c }

-- The counts are saturated one above the greatest limit.
abbrev pub cap : ℕ → ℕ
cap x = min x (work_limit + 1)

abbrev pub Small : Counts → Type 0
Small sums = (k : Kind) → amount sums k ≤ work_limit + 1

-- The sums with a command more, which runs a body of the inner counts so many times.
unfoldable pub added : Counts → Command → ℕ → Counts → Counts
added sums c runs inner =
    let with : Kind → ℕ = λ k. cap (amount sums k + weight k c + runs * amount inner k) in
    record { work = with workCount; activities = with activityCount; clocks = with clockCount; accumulators = with accumulatorCount }

-- The four counts of body i.
unfoldable pub CountsOf : List ℕ → ℕ → Counts → Type 0
CountsOf t i r = (k : Kind) → amount r k ≡ cap (tally (weight k) (program_of t) i)

-- What is noted of a body are its counts.
unfoldable pub Noted : List ℕ → List (Option Counts) → Type 0
Noted t notes = (i : ℕ) (r : Counts) → get_or notes i None ≡ Some r → CountsOf t i r

-- What the count of a body is asked for: an accepted table with the starts of its bodies, and the slice from the body's first command.
pub record Counting (t code starts : List ℕ) (body : ℕ) (notes : List (Option Counts)) : Type 0 where
  pub accepted : scan t ≡ 0
  pub starts_are : starts ≡ (layout_of t).starts
  pub one_of : body < get_or t 0 0
  pub code_is : code ≡ drop (get_or starts body 0) t
  pub noted : Noted t notes

-- What it answers.
pub record Filled (t : List ℕ) (body : ℕ) (r : Counts) (notes : List (Option Counts)) : Type 0 where
  pub noted : Noted t notes
  pub counts : CountsOf t body r

-- Numbers 9 to 12 by the four counts of body 0, main not yet among them; 0 where none is met.
unfoldable pub over_counts : Counts → ℕ
over_counts r = cond (ltb 63 r.activities) 9 (cond (ltb 16 r.clocks) 10 (cond (ltb 16 r.accumulators) 11 (cond (ltb work_limit r.work) 12 0)))
