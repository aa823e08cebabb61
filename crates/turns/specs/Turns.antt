-- A turn of any activity, an order of turns, and the ready set: what is promised of the lent bytes.
use Rattle.std.specs.Prelude.{ℕ, ◌≤◌, ◌<◌, ◌≡◌, List, map, ◌++◌, Bool, true, false, cond, ltb, length, take, drop, Result, Ok, Err}
use Rattle.program.specs.Bodies.{Program, program_of}
use Rattle.program.specs.Table.{work_limit, number_of}
use Rattle.program.specs.declared.command.Command.{Command}
use Rattle.program.specs.declared.refusal.Refusal.{Refusal}
use Rattle.program.specs.declared.refusal.Refusal.TheVariants.{Unspawned, Ended}
use Rattle.rules.specs.declared.state.State.{State}
use Rattle.rules.specs.State.{answer_number, ended, taken_number}
use Rattle.rules.specs.WellFormed.{well_formed}
use Rattle.rules.specs.Search.{bits_below}
use Rattle.rules.specs.Steps.{base, at, awaited, refusal, can_step}
use Rattle.rules.specs.Runs.{run_from, answers_from, awaited_from}
use Rattle.fields.specs.Lent.{Lent}
use Rattle.moves.specs.Moves.{Turned}
use Rattle.turns.specs.declared.Reply.{Reply}

-- What activity i stands on where 16 is not tried yet: 14 where it was not spawned, 15 where it has ended, else its command.
unfoldable pub standing : Program → State → ℕ → Result Command Refusal
standing p s i = cond (ltb i s.activities) (cond (ended s i) (Err Ended) (Ok (at p s i).command)) (Err Unspawned)

-- So of a well-formed state.
pub record Stands (t b : List ℕ) (i : ℕ) (r : Result Command Refusal) : Type 0 where
  pub stands : (s : State) → Lent b s → well_formed 65535 (program_of t) s ≡ true → r ≡ standing (program_of t) s i

-- What activity i meets on the way to a step: the number 14 to 16 or 0, and how many it waits for.
pub record Sees (p : Program) (s : State) (i : ℕ) (r : Reply) : Type 0 where
  pub number : taken_number r.answer ≡ refusal p s i
  pub count : r.awaited ≡ awaited p s i

-- So of activity i, whichever number it is, of a well-formed state.
pub record Looks (t b : List ℕ) (i : ℕ) (r : Reply) : Type 0 where
  pub sees : (s : State) → Lent b s → well_formed 65535 (program_of t) s ≡ true → Sees (program_of t) s i r

-- It can step.
pub record CanStep (t b : List ℕ) (i : ℕ) (r : Bool) : Type 0 where
  pub tells : (s : State) → Lent b s → well_formed 65535 (program_of t) s ≡ true → r ≡ can_step (program_of t) s i

-- The ready set of a well-formed state.
pub record Readies (t b : List ℕ) (r : ℕ) : Type 0 where
  pub tells : (s : State) → Lent b s → well_formed 65535 (program_of t) s ≡ true → r ≡ bits_below 64 (can_step (program_of t) s)

-- A turn of activity i of a well-formed state, which has not ended and stands on the command: 16, 17 or the one next state; and how many it waits for.
pub record CarriesIn (t : List ℕ) (command : Command) (b c : List ℕ) (i : ℕ) (r : Reply) : Type 0 where
  pub turns : (s : State) → Lent b s → well_formed 65535 (program_of t) s ≡ true → i < s.activities → ended s i ≡ false → (at (program_of t) s i).command ≡ command
      → Turned (program_of t) s i c (taken_number r.answer)
  pub waits : (s : State) → Lent b s → well_formed 65535 (program_of t) s ≡ true → i < s.activities → ended s i ≡ false → (at (program_of t) s i).command ≡ command
      → r.awaited ≡ awaited (program_of t) s i

-- A turn of activity i, whichever number it is, of a well-formed state: numbers 14 to 17, or the one next state; and how many it waits for.
pub record TurnsAny (t b c : List ℕ) (i : ℕ) (r : Reply) : Type 0 where
  pub turns : (s : State) → Lent b s → well_formed 65535 (program_of t) s ≡ true → Turned (program_of t) s i c (taken_number r.answer)
  pub waits : (s : State) → Lent b s → well_formed 65535 (program_of t) s ≡ true → r.awaited ≡ awaited (program_of t) s i

-- An order that can be followed: each state on the way is well-formed, and there is room for an answer to each step.
pub record Followable (t : List ℕ) (s : State) (order : List ℕ) (room : ℕ) : Type 0 where
  pub accepted : number_of work_limit t ≡ 0
  pub formed : (k : ℕ) → k < length order → well_formed 65535 (program_of t) (run_from base t s (take k order)) ≡ true
  pub fits : length order ≤ room

-- The answers at the buffer's start; what is past them stays.
unfoldable pub answered_from : List ℕ → State → List ℕ → List ℕ → List ℕ
answered_from t s order buffer = map answer_number (answers_from base t s order) ++ drop (length order) buffer

-- How many each step waits for, at the start of the buffer and as far as it reaches; what is past them stays.
unfoldable pub awaited_into : List ℕ → State → List ℕ → List ℕ → List ℕ
awaited_into t s order buffer = take (length buffer) (awaited_from base t s order) ++ drop (length order) buffer

-- The bytes go over into those of the state that the order leads to, the answers stand in the one buffer, and how many each step waits for in the other.
pub record Follows (t order before after lent told b c : List ℕ) : Type 0 where
  pub follows : (s : State) → Lent b s → Followable t s order (length before)
      → Lent c (run_from base t s order) × (after ≡ answered_from t s order before) × (told ≡ awaited_into t s order lent)
