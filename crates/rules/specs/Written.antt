-- States written out for cases: parts in short, parts changed, and the tables and states that several cases share.
use Rattle.std.specs.Prelude.{ℕ, zero, suc, ◌-◌, List, [], ◌∷◌, ◌++◌, length, set, replicate}
use Rattle.rules.specs.declared.state.Status.{Status}
use Rattle.rules.specs.declared.state.Status.TheVariants.{AtBarrier, Ended}
use Rattle.rules.specs.declared.state.Registration.{Registration}
use Rattle.rules.specs.declared.state.Registration.TheVariants.{Live, Quiesced}
use Rattle.rules.specs.declared.state.Operator.{Operator}
use Rattle.rules.specs.declared.state.Frame.{Frame}
use Rattle.rules.specs.declared.state.Hold.{Hold}
use Rattle.rules.specs.declared.state.Activity.{Activity}
use Rattle.rules.specs.declared.state.Accumulator.{Accumulator}
use Rattle.rules.specs.declared.state.State.{State}
use Rattle.rules.specs.Search.{list_from}
use Rattle.rules.specs.State.{no_frame, no_hold, no_activity, no_accumulator, act}
use Rattle.rules.specs.Effects.{with_frames, with_holds, stopped}
use Rattle.rules.specs.Steps.{start_state}

-- PARTS IN SHORT

abbrev pub frame_at : ℕ → ℕ → ℕ → ℕ → Frame
frame_at offset body runs first = record { offset = offset; body = body; runs = runs; first = first }

-- A body that no command of its activity runs.
abbrev pub bottom : ℕ → ℕ → Frame
bottom offset body = frame_at offset body 0 0

abbrev pub hold_on : ℕ → ℕ → Registration → Hold
hold_on phase clock registration = record { phase = phase; clock = clock; registration = registration }

abbrev pub holding : ℕ → Operator → ℕ → Accumulator
holding value operator owner = record { value = value; owner = owner; operator = operator }

-- An activity by what differs from 0: its stack, bottom first; its clock names and accumulator names, from 0 on.
unfoldable pub activity : Status → ℕ → ℕ → List Frame → List Hold → List ℕ → Activity
activity status spawner register frames holds names =
    record {
      register = register;
      frames = frames ++ replicate (16 - length frames) no_frame;
      holds = holds ++ replicate (8 - length holds) no_hold;
      accumulators = names ++ replicate (8 - length names) 0;
      status = status;
      spawner = spawner;
      depth = length frames;
    }

-- A state by what differs from 0: the steps taken, the clocks made, the cells from 0 on, the activities and the accumulators.
unfoldable pub written : ℕ → ℕ → List ℕ → List Activity → List Accumulator → State
written steps clocks cells acts accs =
    record {
      cells = cells ++ replicate (16 - length cells) 0;
      acts = acts ++ replicate (64 - length acts) no_activity;
      accs = accs ++ replicate (16 - length accs) no_accumulator;
      steps = steps;
      activities = length acts;
      clocks = clocks;
      accumulators = length accs;
    }

-- PARTS CHANGED

abbrev pub with_frame : ℕ → Frame → Activity → Activity
with_frame d f a = with_frames a a.depth (set a.frames d f)

-- A single body on the stack.
abbrev pub on_body : Frame → Activity → Activity
on_body f a = with_frames a 1 (f ∷ replicate 15 no_frame)

abbrev pub with_hold : ℕ → Hold → Activity → Activity
with_hold k h a = with_holds a a.status (set a.holds k h)

abbrev pub with_status : Status → Activity → Activity
with_status status a = with_holds a status a.holds

abbrev pub with_spawner : ℕ → Activity → Activity
with_spawner i a =
    record {
      register = a.register;
      frames = a.frames;
      holds = a.holds;
      accumulators = a.accumulators;
      status = a.status;
      spawner = i;
      depth = a.depth;
    }

-- A state with other activities, other accumulators, or other counts: steps, activities, clocks, accumulators.
unfoldable pub with_acts : List Activity → State → State
with_acts acts s =
    record {
      cells = s.cells;
      acts = acts;
      accs = s.accs;
      steps = s.steps;
      activities = s.activities;
      clocks = s.clocks;
      accumulators = s.accumulators;
    }

unfoldable pub with_accs : List Accumulator → State → State
with_accs accs s =
    record {
      cells = s.cells;
      acts = s.acts;
      accs = accs;
      steps = s.steps;
      activities = s.activities;
      clocks = s.clocks;
      accumulators = s.accumulators;
    }

unfoldable pub with_counts : ℕ → ℕ → ℕ → ℕ → State → State
with_counts steps activities clocks accumulators s =
    record {
      cells = s.cells;
      acts = s.acts;
      accs = s.accs;
      steps = steps;
      activities = activities;
      clocks = clocks;
      accumulators = accumulators;
    }

unfoldable pub change : ℕ → (Activity → Activity) → State → State
change i f s = with_acts (set s.acts i (f (act s i))) s

unfoldable pub change_acc : ℕ → Accumulator → State → State
change_acc n c s = with_accs (set s.accs n c) s

-- TABLES AND STATES TO CHANGE

-- FINISH of a body that repeats another twice; main in the first run of the innermost.
unfoldable pub nest : List ℕ
nest = 0x03 ∷ 0x06 ∷ 0x01 ∷ 0x00 ∷ 0x07 ∷ 0x02 ∷ 0x02 ∷ 0x00 ∷ 0x00 ∷ []

unfoldable pub nested : State
nested = with_counts 2 1 0 0 (change 0 (λ a. with_frames a 3 (frame_at 0 0 0 0 ∷ frame_at 0 1 0 1 ∷ frame_at 0 2 2 0 ∷ replicate 13 no_frame)) start_state)

-- The printed example; main waits for its child at a barrier of clock 0.
unfoldable pub pair : List ℕ
pair = 0x02 ∷ 0x02 ∷ 0x00 ∷ 0x05 ∷ 0x01 ∷ 0x01 ∷ 0x01 ∷ 0x00 ∷ 0x01 ∷ 0x00 ∷ []

unfoldable pub paired : State
paired =
    with_counts 3 2 1 0 (change 1 (λ a. with_hold 0 (hold_on 0 0 Live) (on_body (bottom 0 1) a))
    (change 0 (λ a. with_status AtBarrier (with_hold 0 (hold_on 0 0 Quiesced) (on_body (bottom 5 0) a))) start_state))

-- ASYNC of a body without clocks; main before it, with sixty-three others that have ended.
unfoldable pub crowd : List ℕ
crowd = 0x02 ∷ 0x05 ∷ 0x01 ∷ 0x00 ∷ 0x00 ∷ 0x00 ∷ []

unfoldable pub crowded : State
crowded = with_counts 0 64 0 0 (with_acts (act start_state 0 ∷ replicate 63 (stopped no_activity Ended)) start_state)

-- Sixteen bodies, each but the last repeating the next once; main in the last.
unfoldable pub deep : List ℕ
deep = 0x10 ∷ links 15 1
  where
    links : ℕ → ℕ → List ℕ
    links zero b = 0x00 ∷ []
    links (suc n) b = 0x07 ∷ 0x01 ∷ b ∷ 0x00 ∷ links n (suc b)

unfoldable pub deepest : ℕ → State
deepest depth = change 0 (λ a. with_frames a depth (frame_at 0 0 0 0 ∷ list_from 15 1 (λ b. frame_at 0 b 1 0))) start_state

-- An ATOM of one FETCH.
unfoldable pub atom : List ℕ
atom = 0x01 ∷ 0x10 ∷ 0x01 ∷ 0x0D ∷ 0x00 ∷ 0x00 ∷ []

unfoldable pub standing : ℕ → State
standing offset = change 0 (on_body (bottom offset 0)) start_state
