-- What is known where a command is carried out in lent bytes, and what is promised of it.
use Rattle.std.specs.Prelude.{◌≡◌, ℕ, ◌+◌, ◌*◌, ◌^◌, ◌<◌, ◌≤◌, true, false, cond, nat_le, List, Result, Ok, Err, ⊤}
use Rattle.program.specs.Command.{is_end, width, held, names}
use Rattle.program.specs.Bodies.{Program, program_of}
use Rattle.program.specs.Count.{work_of}
use Rattle.program.specs.declared.command.Command.{Command}
use Rattle.program.specs.declared.refusal.Refusal.{Refusal}
use Rattle.program.specs.declared.refusal.Refusal.TheVariants.{Spent}
use Rattle.rules.specs.declared.state.Fault.{Fault}
use Rattle.rules.specs.declared.state.State.{State}
use Rattle.rules.specs.State.{fault_number, act, top, bound, answer_number}
use Rattle.rules.specs.WellFormed.{well_formed}
use Rattle.rules.specs.Tree.{next_offset}
use Rattle.rules.specs.Faults.{read_fault}
use Rattle.rules.specs.Effects.{with_top, env_of}
use Rattle.rules.specs.Steps.{base, at, fault, refusal, advance}
use Rattle.fields.specs.Lent.{Lent, with_act, with_steps, onward}

-- ANSWERS

-- Number 17 where no step is left.
abbrev pub unspent : ℕ → State → Result ⊤ Refusal
unspent work s = cond (nat_le work s.steps) (Err Spent) (Ok tt)

-- COMMANDS

-- Activity i of a well-formed state stands on a command and is not turned down; where the command after it stands; and room for one body more.
pub record Standing (p : Program) (s : State) (i work : ℕ) (c : Command) : Type 0 where
  pub formed : well_formed 65535 p s ≡ true
  pub goes : refusal p s i ≡ 0
  pub stands : (at p s i).command ≡ c
  pub counted : work ≡ work_of p
  pub small : work_of p ≤ 65535
  pub next : is_end c ≡ false → next_offset p (top (act s i)) ≡ (top (act s i)).offset + (width c + 2 * held c)
  pub low : is_end c ≡ false → next_offset p (top (act s i)) < 2 ^ 16
  -- there is room for a body that the command names
  pub deep : names c ≡ true → (act s i).depth < 16

-- The turn is the step of the rules, its state and its answer.
pub record Turned (p : Program) (s : State) (i : ℕ) (c : List ℕ) (r : ℕ) : Type 0 where
  pub state : Lent c (advance base p s i).state
  pub number : r ≡ answer_number (advance base p s i).answer

-- What the function of a command promises.
pub record Turns (command : Command) (b c : List ℕ) (work i r : ℕ) : Type 0 where
  pub turns : (p : Program) (s : State) → Lent b s → Standing p s i work command → Turned p s i c r

-- The same of a function that reads the table.
pub record TurnsIn (t : List ℕ) (command : Command) (b c : List ℕ) (work i r : ℕ) : Type 0 where
  pub turns : (s : State) → Lent b s → Standing (program_of t) s i work command → Turned (program_of t) s i c r

-- One step more is counted.
pub record Counts (b c : List ℕ) (r : ℕ) : Type 0 where
  pub number : r ≡ 0
  pub counts : (s : State) → Lent b s → s.steps < 65535 → Lent c (with_steps s (s.steps + 1))

-- The top body goes on so many bytes later, and one step more is counted.
pub record GoesOn (b c : List ℕ) (i size r : ℕ) : Type 0 where
  pub number : r ≡ 0
  pub goes : (s : State) → Lent b s → i < 64 → s.steps < 65535 → 0 < (act s i).depth → (act s i).depth ≤ 16 → (top (act s i)).offset + size < 2 ^ 16
      → Lent c (with_steps (with_act s i (with_top (act s i) (onward (top (act s i)) ((top (act s i)).offset + size)))) (s.steps + 1))

-- The activity meets a fault.
pub record Fails (f : Fault) (b c : List ℕ) (work i r : ℕ) : Type 0 where
  pub fails : (p : Program) (s : State) (command : Command) → Lent b s → Standing p s i work command → fault p s i ≡ fault_number f → Turned p s i c r

-- The turn of a command that meets no fault.
pub record Does (command : Command) (b c : List ℕ) (work i r : ℕ) : Type 0 where
  pub does : (p : Program) (s : State) → Lent b s → Standing p s i work command → fault p s i ≡ 0 → Turned p s i c r

-- The fault of READ or RESET of a name of activity i, where what stands under the name was made.
pub record ReadFault (b : List ℕ) (i n r : ℕ) : Type 0 where
  pub reads : (s : State) → Lent b s → i < 64 → bound (act s i) n ≤ 16 → r ≡ read_fault (env_of s) i (act s i) n
