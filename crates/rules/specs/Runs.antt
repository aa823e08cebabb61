-- Runs: "A run is an accepted table with a list of activity numbers, whatever they are: the start is called once, then one step for each number."
use Rattle.std.specs.Prelude.{ℕ, ◌+◌, List, [], ◌∷◌, Bool, true, false, cond, ◌||◌, ◌&&◌, not, eqb, Ok, Err}
use Rattle.program.specs.declared.command.Command.{Command}
use Rattle.program.specs.Command.{opcode, named}
use Rattle.program.specs.Bodies.{Program, program_of}
use Rattle.program.specs.Count.{tally, own_work}
use Rattle.rules.specs.declared.state.Activity.{Activity}
use Rattle.rules.specs.declared.state.Status.TheVariants.{Running, AtBarrier, Ended, Faulted}
use Rattle.rules.specs.declared.state.State.{State}
use Rattle.rules.specs.Search.{all_below}
use Rattle.rules.specs.State.{Answer, act, ended}
use Rattle.rules.specs.Steps.{Limits, at, start, step, awaited_count}

-- "each later one the state that the step before returned, turned down or not"
unfoldable pub run_from : Limits → List ℕ → State → List ℕ → State
run_from l t s [] = s
run_from l t s (i ∷ order) = run_from l t (step l t s i).state order

unfoldable pub answers_from : Limits → List ℕ → State → List ℕ → List Answer
answers_from l t s [] = []
answers_from l t s (i ∷ order) = (step l t s i).answer ∷ answers_from l t (step l t s i).state order

-- How many the activity of each step waits for when the step is called.
unfoldable pub awaited_from : Limits → List ℕ → State → List ℕ → List ℕ
awaited_from l t s [] = []
awaited_from l t s (i ∷ order) = awaited_count l t s i ∷ awaited_from l t (step l t s i).state order

-- "The first step is handed the start state". The state at the last point of a run, its answers, and how many each step waits for.
unfoldable pub run : Limits → List ℕ → List ℕ → State
run l t order = run_from l t (start l t).state order

unfoldable pub answers : Limits → List ℕ → List ℕ → List Answer
answers l t order = answers_from l t (start l t).state order

unfoldable pub awaiteds : Limits → List ℕ → List ℕ → List ℕ
awaiteds l t order = awaited_from l t (start l t).state order

-- "A step is accepted if its answer is a step or a fault."
abbrev pub is_accepted : Answer → Bool
is_accepted (Ok status) = true
is_accepted (Err e) = false

abbrev pub is_fault : Answer → Bool
is_fault (Ok Running) = false
is_fault (Ok AtBarrier) = false
is_fault (Ok Ended) = false
is_fault (Ok (Faulted f)) = true
is_fault (Err e) = false

-- "What a run has taken is the number of its accepted steps"
unfoldable pub taken : List Answer → ℕ
taken [] = 0
taken (a ∷ more) = cond (is_accepted a) 1 0 + taken more

unfoldable pub some_fault : List Answer → Bool
some_fault [] = false
some_fault (a ∷ more) = is_fault a || some_fault more

-- "A run is finished when every spawned activity has ended."
unfoldable pub finished : State → Bool
finished s = all_below s.activities (ended s)

-- WHAT A RUN SPARES

-- "CHOOSE b runs b once if the hand is not 0": whether the command of an activity is a CHOOSE that runs nothing.
unfoldable pub skips : Activity → Command → Bool
skips a c = eqb (opcode c) 0x11 && eqb a.register 0

-- The work that a step of activity i spares: that of the body which its CHOOSE does not run.
unfoldable pub spares : Program → State → ℕ → ℕ
spares p s i = cond (skips (act s i) (at p s i).command) (tally own_work p (named (at p s i).command)) 0

-- The work that the accepted steps spare.
unfoldable pub spared_from : Limits → List ℕ → State → List ℕ → ℕ
spared_from l t s [] = 0
spared_from l t s (i ∷ order) = cond (is_accepted (step l t s i).answer) (spares (program_of t) s i) 0 + spared_from l t (step l t s i).state order

-- "each CHOOSE step taken in it ran its body"
unfoldable pub all_ran_from : Limits → List ℕ → State → List ℕ → Bool
all_ran_from l t s [] = true
all_ran_from l t s (i ∷ order) = not (is_accepted (step l t s i).answer && skips (act s i) (at (program_of t) s i).command) && all_ran_from l t (step l t s i).state order

-- The same of a whole run.
unfoldable pub spared : Limits → List ℕ → List ℕ → ℕ
spared l t order = spared_from l t (start l t).state order

unfoldable pub all_ran : Limits → List ℕ → List ℕ → Bool
all_ran l t order = all_ran_from l t (start l t).state order
