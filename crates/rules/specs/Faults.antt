-- Faults: the number of the first rule that a command breaches, 0 for none; and whether a finish passes a fault on.
use Rattle.std.specs.Prelude.{ℕ, ◌-◌, ◌/◌, ◌%◌, ◌^◌, Bool, cond, ◌&&◌, not, ltb, eqb}
use Rattle.program.specs.declared.command.Command.{Command}
use Rattle.program.specs.declared.command.Command.TheVariants.{End, Next, Clock, Resume, Drop, Async, Finish, Repeat, Acc, Offer, Read, Reset, Put, Fetch, Store, Add, Atom, Choose}
use Rattle.program.specs.Command.{is_end}
use Rattle.program.specs.Bodies.{Program}
use Rattle.rules.specs.declared.state.Fault.TheVariants.{F1, F2, F3, F4, F5, F6, F7}
use Rattle.rules.specs.declared.state.Activity.{Activity}
use Rattle.rules.specs.declared.state.Accumulator.{Accumulator}
use Rattle.rules.specs.declared.state.State.{State}
use Rattle.rules.specs.Search.{some_below}
use Rattle.rules.specs.State.{fault_number, act, top, hold, bound, is_faulted}
use Rattle.rules.specs.Clocks.{is_live, holds, holds_some}
use Rattle.rules.specs.Tree.{in_own_finish, in_finish_body, inside}

-- What a command may read of the rest of the state: the numbers that a new clock and a new accumulator get, the number of the next activity, the
-- accumulators and the cells.
pub record Env : Type 0 where
  pub clock : ℕ
  pub accumulator : ℕ
  pub first : ℕ
  pub look : ℕ → Accumulator
  pub cell : ℕ → ℕ

-- "m, a mask byte whose bit i means clock name i"
abbrev pub bit : ℕ → ℕ → Bool
bit m k = eqb ((m / (2 ^ k)) % 2) 1

-- "F1 .. ASYNC of a clock not held."
unfoldable pub lends_unheld : Activity → ℕ → Bool
lends_unheld a m = some_below 8 (λ k. bit m k && not (holds a k))

-- "F2 ASYNC of a held clock already quiesced."
unfoldable pub lends_quiesced : Activity → ℕ → Bool
lends_quiesced a m = some_below 8 (λ k. bit m k && (holds a k && not (is_live (hold a k).registration)))

-- "F3 ASYNC with m not 0 while in an own FINISH body; this is tried before F1."
unfoldable pub async_fault : Program → Activity → ℕ → ℕ
async_fault p a m = cond (ltb 0 m && in_own_finish p a) (fault_number F3) (cond (lends_unheld a m) (fault_number F1) (cond (lends_quiesced a m) (fault_number F2) 0))

abbrev pub unbound : Activity → ℕ → Bool
unbound a n = eqb (bound a n) 0

-- The accumulator under a name.
abbrev pub number_under : Activity → ℕ → ℕ
number_under a n = bound a n - 1

-- "F5 OFFER, READ or RESET of an unbound name. F6 READ or RESET of another's accumulator. F7 READ or RESET while holding a clock."
unfoldable pub read_fault : Env → ℕ → Activity → ℕ → ℕ
read_fault e i a n = cond (unbound a n) (fault_number F5) (cond (eqb (e.look (number_under a n)).owner i) (cond (holds_some a) (fault_number F7) 0) (fault_number F6))

-- "F1 RESUME, DROP or ASYNC of a clock not held .. F4 CLOCK on a held name."
unfoldable pub fault_for : Program → Env → ℕ → Activity → Command → ℕ
fault_for p e i a End = 0
fault_for p e i a Next = 0
fault_for p e i a (Clock c) = cond (holds a c) (fault_number F4) 0
fault_for p e i a (Resume c) = cond (holds a c) 0 (fault_number F1)
fault_for p e i a (Drop c) = cond (holds a c) 0 (fault_number F1)
fault_for p e i a (Async b m) = async_fault p a m
fault_for p e i a (Finish b) = 0
fault_for p e i a (Repeat n b) = 0
fault_for p e i a (Acc n o) = 0
fault_for p e i a (Offer n) = cond (unbound a n) (fault_number F5) 0
fault_for p e i a (Read n) = read_fault e i a n
fault_for p e i a (Reset n) = read_fault e i a n
fault_for p e i a (Put v) = 0
fault_for p e i a (Fetch d) = 0
fault_for p e i a (Store d) = 0
fault_for p e i a (Add d) = 0
fault_for p e i a (Atom k) = 0
fault_for p e i a (Choose b) = 0

-- "an activity inside has faulted"
unfoldable pub faulted_inside : State → ℕ → ℕ → ℕ → Bool
faulted_inside s i first x = inside s i first x && is_faulted (act s x).status

-- "When an END of a FINISH body may go on and an activity inside has faulted, the owner now faults with F8": activity i, which is a, at a command, where it
-- may go on.
unfoldable pub spoilt : Program → State → ℕ → Activity → Command → Bool
spoilt p s i a c = is_end c && (in_finish_body p a && some_below s.activities (faulted_inside s i (top a).first))
