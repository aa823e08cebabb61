-- The accumulator of READ and RESET.
use Rattle.std.specs.Prelude.{ℕ, ◌≡◌, ◌≤◌, ◌<◌, List, cond, eqb, Result, Ok, Err}
use Rattle.rules.specs.declared.state.Fault.{Fault}
use Rattle.rules.specs.declared.state.State.{State}
use Rattle.rules.specs.State.{fault_of, act, bound}
use Rattle.rules.specs.Faults.{number_under, read_fault}
use Rattle.rules.specs.Effects.{env_of}
use Rattle.fields.specs.Lent.{Lent}

-- The number of the accumulator under a name of activity i, or the fault of reading it.
abbrev pub own_number : State → ℕ → ℕ → Result ℕ Fault
own_number s i n = let f = read_fault (env_of s) i (act s i) n in cond (eqb f 0) (Ok (number_under (act s i) n)) (Err (fault_of f))

-- It is read, where what stands under the name was made.
pub record Owns (b : List ℕ) (i n : ℕ) (r : Result ℕ Fault) : Type 0 where
  pub reads : (s : State) → Lent b s → i < 64 → bound (act s i) n ≤ 16 → r ≡ own_number s i n
