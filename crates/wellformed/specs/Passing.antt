-- Number 13 over the bytes of a state: they encode one, and it is fit.
use Rattle.std.specs.Prelude.{ℕ, Bool, cond, ◌&&◌, List, ltb, leb, eqb, get_or}
use Rattle.program.specs.Bodies.{Program}
use Rattle.rules.specs.Search.{all_below}
use Rattle.rules.specs.State.{absent}
use Rattle.rules.specs.WellFormed.{is_no_activity, stack_fits, hold_fits, counts_fit, well_formed}
use Rattle.rules.specs.Steps.{base, unfit}
use Rattle.encoding.specs.Bytes.{number_of, part, byte_at, all_zero, parts_at, parts_pass}
use Rattle.encoding.specs.Decode.{activity_at, accumulator_at, state_of, frame_encodes, hold_encodes, activity_encodes, accumulator_encodes, encodes}
use Rattle.wellformed.specs.declared.made.Made.{Made}
use Rattle.wellformed.specs.Entries.{activity_is_fit, accumulator_entries}

-- The bytes encode a state, and it is fit.
unfoldable pub passes : Program → List ℕ → Bool
passes p b = encodes b && well_formed 65535 p (state_of b)

-- Numbers 1 to 13 of a table and a state's bytes: 13 too where they encode no state.
unfoldable pub unfit_bytes : ℕ → Program → List ℕ → ℕ
unfit_bytes number p b = cond (encodes b) (unfit base number p (state_of b)) (cond (eqb number 0) 13 number)

-- THE PARTS OF A STATE'S BYTES

-- The fields before the cells.
unfoldable pub head_passes : Program → List ℕ → Bool
head_passes p b = (eqb (byte_at b 0) 1 && (leb (number_of (part b 4 4)) 65535 && all_zero (part b 8 8))) && counts_fit p (state_of b)

-- An accumulator that was made: its 24 bytes.
unfoldable pub accumulator_passes : Made → List ℕ → Bool
accumulator_passes made b = accumulator_encodes b && ltb (accumulator_at b).owner made.activities

-- All accumulators.
unfoldable pub accumulators_pass : Made → List ℕ → Bool
accumulators_pass made b = parts_pass 24 16 accumulator_encodes b && accumulator_entries made (parts_at 24 16 accumulator_at b)

-- An activity that was spawned, number i: its 208 bytes.
unfoldable pub activity_passes : Program → Made → ℕ → List ℕ → Bool
activity_passes p made i b = activity_encodes b && activity_is_fit p made i (activity_at b)

-- All activities.
unfoldable pub activities_pass : Program → Made → List ℕ → Bool
activities_pass p made b =
    parts_pass 208 64 activity_encodes b
    && all_below 64 (λ i. cond (ltb i made.activities) (activity_is_fit p made i (get_or (parts_at 208 64 activity_at b) i absent)) (is_no_activity (get_or (parts_at 208 64 activity_at b) i absent)))

-- WITHIN AN ACTIVITY'S 208 BYTES

-- The stack.
unfoldable pub stack_passes : Program → ℕ → List ℕ → Bool
stack_passes p made b = parts_pass 8 16 frame_encodes (part b 80 128) && stack_fits p made (activity_at b)

-- The clock names.
unfoldable pub holds_pass : ℕ → List ℕ → Bool
holds_pass made b = parts_pass 8 8 hold_encodes (part b 16 64) && all_below 8 (hold_fits 65535 made (activity_at b))
