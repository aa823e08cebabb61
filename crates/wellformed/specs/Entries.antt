-- The clauses of number 13 over the entries alone: the definitions of crate rules with the activity, the hold or the accumulator given, and not looked up
-- in its activity or state.
use Rattle.std.specs.Prelude.{ℕ, Bool, cond, ◌||◌, ◌&&◌, not, List, ltb, leb, eqb, get_or}
use Rattle.program.specs.Bodies.{Program}
use Rattle.rules.specs.declared.state.Hold.{Hold}
use Rattle.rules.specs.declared.state.Activity.{Activity}
use Rattle.rules.specs.declared.state.Accumulator.{Accumulator}
use Rattle.rules.specs.Search.{all_below}
use Rattle.rules.specs.State.{bound, no_accumulator}
use Rattle.rules.specs.Clocks.{is_held}
use Rattle.rules.specs.WellFormed.{is_no_accumulator, stack_fits, body_fits, barrier_fits, hold_fits, names_fit, spawner_fits}
use Rattle.wellformed.specs.declared.made.Made.{Made}

-- Two holds are not two names for one clock.
unfoldable pub are_apart : Hold → Hold → Bool
are_apart x y = not (is_held x.registration && is_held y.registration) || not (eqb x.clock y.clock)

-- An activity that was spawned, number i.
unfoldable pub activity_is_fit : Program → Made → ℕ → Activity → Bool
activity_is_fit p made i a =
    stack_fits p made.activities a
    && (body_fits a
    && (barrier_fits p a
    && (all_below 8 (hold_fits 65535 made.clocks a)
    && (names_fit a && (all_below 8 (λ n. leb (bound a n) made.accumulators) && spawner_fits i a)))))

-- Each made one is as it should be, each other one all 0.
unfoldable pub accumulator_entry : Made → ℕ → Accumulator → Bool
accumulator_entry made n x = cond (ltb n made.accumulators) (ltb x.owner made.activities) (is_no_accumulator x)

-- Each of the 16 entries.
unfoldable pub accumulator_entries : Made → List Accumulator → Bool
accumulator_entries made accs = all_below 16 (λ n. accumulator_entry made n (get_or accs n no_accumulator))
