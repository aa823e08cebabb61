-- Counting from the table, with no bound: one tally over the weight of a command.
use Rattle.std.specs.Prelude.{ℕ, zero, suc, ◌+◌, ◌*◌, [], ◌∷◌, length, get_or}
use Rattle.program.specs.Command.{row_of, named, times}
use Rattle.program.specs.Bodies.{Body, Program}
use Rattle.program.specs.declared.command.Command.{Command}

-- What the commands of a body come to, where `of b` is what body b comes to: "FINISH and ASYNC 1 plus the work of b; REPEAT 1 plus n times that
-- of b; ATOM 1 together with its k commands". Of CHOOSE: "Its work is 1 plus the work of b".
unfoldable pub sum_over : (Command → ℕ) → (ℕ → ℕ) → Body → ℕ
sum_over own of [] = 0
sum_over own of (x ∷ xs) = own x.command + times x.command * of (named x.command) + sum_over own of xs

-- What body i comes to, where bodies are nested fewer than d deep.
unfoldable pub tally_to : (Command → ℕ) → Program → ℕ → ℕ → ℕ
tally_to own p zero i = 0
tally_to own p (suc d) i = sum_over own (tally_to own p d) (get_or p i [])

-- A body names only greater bodies, so there are no more levels than bodies.
unfoldable pub tally : (Command → ℕ) → Program → ℕ → ℕ
tally own p i = tally_to own p (length p) i

-- The weights: what a command counts by itself.
abbrev pub own_work : Command → ℕ
own_work c = (row_of c).work

abbrev pub own_activities : Command → ℕ
own_activities c = (row_of c).activities

abbrev pub own_clocks : Command → ℕ
own_clocks c = (row_of c).clocks

abbrev pub own_accumulators : Command → ℕ
own_accumulators c = (row_of c).accumulators

-- "A table's counts are those of body 0." "Activities (plus one for main)".
unfoldable pub work_of : Program → ℕ
work_of p = tally own_work p 0

unfoldable pub activities_of : Program → ℕ
activities_of p = tally own_activities p 0 + 1

unfoldable pub clocks_of : Program → ℕ
clocks_of p = tally own_clocks p 0

unfoldable pub accumulators_of : Program → ℕ
accumulators_of p = tally own_accumulators p 0
