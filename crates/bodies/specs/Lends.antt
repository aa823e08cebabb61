-- The faults of ASYNC.
use Rattle.std.specs.Prelude.{ℕ, ◌<◌, ◌≡◌, List, cond}
use Rattle.program.specs.Bodies.{Program, program_of}
use Rattle.rules.specs.declared.state.Activity.{Activity}
use Rattle.rules.specs.declared.state.State.{State}
use Rattle.rules.specs.State.{act}
use Rattle.rules.specs.Faults.{lends_unheld, lends_quiesced}
use Rattle.places.specs.Stack.{Stacked}
use Rattle.fields.specs.Lent.{Lent}

-- What is read is what activity i, that has a stack, has by an accepted table.
pub record ReadsIn {A : Type 0} (f : Program → Activity → A) (t b : List ℕ) (i : ℕ) (r : A) : Type 0 where
  pub reads : (s : State) → Lent b s → i < 64 → Stacked (program_of t) (act s i) → r ≡ f (program_of t) (act s i)

-- F1 and F2.
abbrev pub lend_fault : Activity → ℕ → ℕ
lend_fault a m = cond (lends_unheld a m) 1 (cond (lends_quiesced a m) 2 0)
