-- What a run promises: how it ended, the state after it, the answers in the buffer, and how many each step waits for in another.
use Rattle.std.specs.Prelude.{ℕ, List, map, ◌++◌, cond, ◌≡◌, length, take, drop, leb, eqb, Result, Ok, Err, ⊤}
use Rattle.program.specs.declared.refusal.Refusal.{Refusal}
use Rattle.program.specs.declared.refusal.Refusal.TheVariants.{Buffer}
use Rattle.program.specs.Refusal.{refusal_at}
use Rattle.program.specs.Table.{work_limit, number_of}
use Rattle.rules.specs.declared.state.State.{State}
use Rattle.rules.specs.declared.answer.Ran.{Ran}
use Rattle.rules.specs.State.{answer_number, zero_state}
use Rattle.rules.specs.Steps.{base}
use Rattle.rules.specs.Runs.{run, answers, awaiteds}
use Rattle.rules.specs.Demand3.{AtEveryPoint}

abbrev ended : Result ⊤ Refusal → State → Ran
ended completion s = record { completion = completion; state = s }

-- The table's number comes first, then whether the buffer has room for an answer to each step.
unfoldable pub ran_of : List ℕ → List ℕ → ℕ → Ran
ran_of t order room =
    let done = ended (Ok tt) (run base t order) in
    let short = ended (Err Buffer) zero_state in
    let refused = ended (Err (refusal_at (number_of work_limit t))) zero_state in
    cond (eqb (number_of work_limit t) 0) (cond (leb (length order) room) done short) refused

-- The answers stand at the buffer's start, what is past them stays; a run that is not done leaves it as it was.
unfoldable pub answered : List ℕ → List ℕ → List ℕ → List ℕ
answered t order buffer =
    let filled = map answer_number (answers base t order) ++ drop (length order) buffer in
    cond (eqb (number_of work_limit t) 0) (cond (leb (length order) (length buffer)) filled buffer) buffer

-- What `run` returns, what it leaves in the buffer, and demand 3 at every point of the run of an accepted table.
pub record Runs (t order before after : List ℕ) (r : Ran) : Type 0 where
  pub result : r ≡ ran_of t order (length before)
  pub buffer : after ≡ answered t order before
  pub demand : number_of work_limit t ≡ 0 → AtEveryPoint base t order

-- How many each step waits for stands at the start of a second buffer, as far as it reaches, and what is past stays; a run that is not done leaves it as it was.
unfoldable pub awaited_by : List ℕ → List ℕ → ℕ → List ℕ → List ℕ
awaited_by t order room counts =
    let filled = take (length counts) (awaiteds base t order) ++ drop (length order) counts in
    cond (eqb (number_of work_limit t) 0) (cond (leb (length order) room) filled counts) counts

-- What `trace` returns and leaves in both buffers.
pub record Traces (t order before after counts told : List ℕ) (r : Ran) : Type 0 where
  pub runs : Runs t order before after r
  pub numbers : told ≡ awaited_by t order (length before) counts
