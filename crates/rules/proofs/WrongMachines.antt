-- The wrong machines that document 01's testers name: none is the one that the rules give. Each differs at a table and an order, by computation.
use Prim.Native.Nat.{ℕ, ◌+◌}
use native.Mathlib.Omega.{arith}
use mathlib.Core.List.{List, [], ◌∷◌}
use mathlib.Core.Bool.{cond}
use mathlib.Core.Path.{◌≡◌, ap}
use lib.Dec.{eqb}
use Rattle.std.specs.Prelude.{Ok, Err}
use Rattle.program.specs.Bodies.{program_of}
use Rattle.program.specs.Count.{work_of}
use Rattle.program.specs.Table.{work_limit, number_of}
use Rattle.rules.specs.declared.state.Status.TheVariants.{Running}
use Rattle.rules.specs.declared.state.State.{State}
use Rattle.program.specs.declared.refusal.Refusal.TheVariants.{Waits}
use Rattle.rules.specs.declared.answer.Stepped.{Stepped}
use Rattle.rules.specs.State.{answer_number}
use Rattle.rules.specs.Steps.{base, start_state, stepped, step, ready, ready_set}
use Rattle.rules.specs.Runs.{run, answers, taken}
use Rattle.rules.specs.Written.{with_counts, pair}
use Rattle.rules.proofs.Cases.{opened}

-- Two machines that step alike.
abbrev Alike : (List ℕ → State → ℕ → Stepped) → (List ℕ → State → ℕ → Stepped) → Type 0
Alike f g = (t : List ℕ) (s : State) (i : ℕ) → f t s i ≡ g t s i

-- "a machine that works through the job in the first step and afterwards only raises the taken count"
unfoldable pub hasty : List ℕ → State → ℕ → Stepped
hasty t s i =
    let through = run base t (0 ∷ 0 ∷ 0 ∷ 1 ∷ 0 ∷ 0 ∷ 1 ∷ 1 ∷ []) in
    let s' = cond (eqb s.steps 0) through s in
    stepped (Ok Running) (with_counts (s.steps + 1) s'.activities s'.clocks s'.accumulators s')

pub hasty_differs : Alike hasty (step base) → ⊥
unfolding opened hasty
hasty_differs h = let e : ◌≡◌ {A = ℕ} 2 1 = ap (λ (r : Stepped). r.state.activities) (h pair start_state 0) in omega arith

-- "a work number invented to match the run": of the run in which main alone faults F3 in step 3
unfoldable pub invented : List ℕ → List ℕ → ℕ
invented t order = taken (answers base t order)

pub invented_differs : ((t order : List ℕ) → invented t order ≡ work_of (program_of t)) → ⊥
unfolding opened invented
invented_differs h =
    let e : ◌≡◌ {A = ℕ} 3 8 = h (0x03 ∷ 0x02 ∷ 0x00 ∷ 0x06 ∷ 0x01 ∷ 0x00 ∷ 0x05 ∷ 0x02 ∷ 0x01 ∷ 0x00 ∷ 0x01 ∷ 0x00 ∷ []) (0 ∷ 0 ∷ 0 ∷ []) in
    omega arith

-- "a step that always waits (16) before looking"
unfoldable pub waiting : List ℕ → State → ℕ → Stepped
waiting t s i = stepped (Err Waits) s

pub waiting_differs : Alike waiting (step base) → ⊥
unfolding opened waiting
waiting_differs h = let e : ◌≡◌ {A = ℕ} 16 0 = ap (λ (r : Stepped). answer_number r.answer) (h pair start_state 0) in omega arith

-- "one ready set for every state"
pub constant_differs : (set : ℕ) → ((t : List ℕ) (s : State) → set ≡ ready_set (ready base t s)) → ⊥
unfolding opened
constant_differs set h =
    let one : set ≡ 1 = h (0x01 ∷ 0x00 ∷ []) start_state in
    let none : set ≡ 0 = h (0x01 ∷ 0x00 ∷ []) (run base (0x01 ∷ 0x00 ∷ []) (0 ∷ [])) in
    omega arith

-- "a step that alters nothing"
unfoldable pub idle : List ℕ → State → ℕ → Stepped
idle t s i = stepped (step base t s i).answer s

pub idle_differs : Alike idle (step base) → ⊥
unfolding opened idle
idle_differs h = let e : ◌≡◌ {A = ℕ} 0 1 = ap (λ (r : Stepped). r.state.steps) (h pair start_state 0) in omega arith

-- "a reader that turns down each table"
pub refusing_differs : (reader : List ℕ → ℕ) → ((t : List ℕ) → reader t ≡ 0 → ⊥) → ((t : List ℕ) → reader t ≡ number_of work_limit t) → ⊥
unfolding opened
refusing_differs reader never h = let e : reader (0x01 ∷ 0x00 ∷ []) ≡ 0 = h (0x01 ∷ 0x00 ∷ []) in never (0x01 ∷ 0x00 ∷ []) e
