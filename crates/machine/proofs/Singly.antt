-- One call after the other: the start and a step for each byte of an order leave what one run leaves.
use Prim.Native.Nat.{ℕ, ◌≤◌}
use mathlib.Core.Path.{◌≡◌, refl, ap}
use mathlib.Core.List.{List, [], ◌∷◌, map, ◌++◌}
use lib.ListN.{length, drop}
use borrow.Author.Tests.{le-leb}
use Rattle.program.specs.Table.{work_limit, number_of}
use Rattle.rules.specs.declared.state.State.{State}
use Rattle.rules.specs.State.{answer_number}
use Rattle.rules.specs.Steps.{base, start, step}
use Rattle.rules.specs.Runs.{run_from, answers_from, run, answers}
use Rattle.machine.specs.Ran.{ran_of, answered}

-- The state that the calls of `step` hand on, and the numbers that they answer.
pub handed : List ℕ → State → List ℕ → State
handed t s [] = s
handed t s (i ∷ order) = handed t (step base t s i).state order

pub told : List ℕ → State → List ℕ → List ℕ
told t s [] = []
told t s (i ∷ order) = answer_number (step base t s i).answer ∷ told t (step base t s i).state order

handed_run : (t : List ℕ) (s : State) (order : List ℕ) → run_from base t s order ≡ handed t s order
unfolding run_from handed
handed_run t s [] = refl
handed_run t s (i ∷ order) = handed_run t (step base t s i).state order

told_run : (t : List ℕ) (s : State) (order : List ℕ) → map answer_number (answers_from base t s order) ≡ told t s order
unfolding answers_from told
told_run t s [] = refl
told_run t s (i ∷ order) = ap (λ (l : List ℕ). answer_number (step base t s i).answer ∷ l) (told_run t (step base t s i).state order)

-- So it is for a run that is done.
pub singly : (t order buffer : List ℕ) → number_of work_limit t ≡ 0 → length order ≤ length buffer
    → ((ran_of t order (length buffer)).state ≡ handed t (start base t).state order) × (answered t order buffer ≡ told t (start base t).state order ++ drop (length order) buffer)
unfolding ran_of answered run answers
singly t order buffer z room =
    let l = le-leb (length order) (length buffer) room in
    let s = (start base t).state in
    (rw (z, l) (handed_run t s order), rw (z, l) (ap (λ (x : List ℕ). x ++ drop (length order) buffer) (told_run t s order)))
