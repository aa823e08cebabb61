-- The lent bytes as a state: what the functions that read and write them in place promise.
use Rattle.std.specs.Prelude.{ℕ, ◌+◌, ◌^◌, ◌≤◌, ◌<◌, List, ◌≡◌, length, get_or, set}
use borrow.Rule.Slice.PartMut.{put_mid}
use Rattle.rules.specs.declared.state.Frame.{Frame}
use Rattle.rules.specs.declared.state.Hold.{Hold}
use Rattle.rules.specs.declared.state.Status.{Status}
use Rattle.rules.specs.declared.state.Activity.{Activity}
use Rattle.rules.specs.declared.state.Accumulator.{Accumulator}
use Rattle.rules.specs.declared.state.State.{State}
use Rattle.rules.specs.State.{no_frames, no_holds, act, frame, hold, accumulator}
use Rattle.rules.specs.Effects.{with_frames, with_holds, with_names}
use Rattle.encoding.specs.Bytes.{number_of, part}
use Rattle.encoding.specs.Encode.{encode_state}

-- BYTES OF A STATE

-- an activity has its sizes, and its numbers of more than one byte fit
pub record FineActivity (a : Activity) : Type 0 where
  pub frames16 : length a.frames ≡ 16
  pub holds8 : length a.holds ≡ 8
  pub names8 : length a.accumulators ≡ 8
  pub register : a.register < 2 ^ 32
  pub offsets : (d : ℕ) → (frame a d).offset < 2 ^ 16
  pub phases : (k : ℕ) → (hold a k).phase < 2 ^ 16

-- a state likewise
pub record Fine (s : State) : Type 0 where
  pub acts64 : length s.acts ≡ 64
  pub accs16 : length s.accs ≡ 16
  pub cells16 : length s.cells ≡ 16
  pub steps : s.steps < 2 ^ 16
  pub cells : (d : ℕ) → get_or s.cells d 0 < 2 ^ 32
  pub values : (n : ℕ) → (accumulator s n).value < 2 ^ 32
  pub each : (i : ℕ) → i < 64 → FineActivity (act s i)

-- the bytes are those of the state
pub record Lent (b : List ℕ) (s : State) : Type 0 where
  pub bytes : b ≡ encode_state s
  pub fine : Fine s

-- A STATE WITH ONE PART CHANGED

unfoldable pub with_act : State → ℕ → Activity → State
with_act s i a =
    record {
      cells = s.cells;
      acts = set s.acts i a;
      accs = s.accs;
      steps = s.steps;
      activities = s.activities;
      clocks = s.clocks;
      accumulators = s.accumulators;
    }

unfoldable pub with_steps : State → ℕ → State
with_steps s n =
    record {
      cells = s.cells;
      acts = s.acts;
      accs = s.accs;
      steps = n;
      activities = s.activities;
      clocks = s.clocks;
      accumulators = s.accumulators;
    }

unfoldable pub with_acc : State → ℕ → Accumulator → State
with_acc s n c =
    record {
      cells = s.cells;
      acts = s.acts;
      accs = set s.accs n c;
      steps = s.steps;
      activities = s.activities;
      clocks = s.clocks;
      accumulators = s.accumulators;
    }

unfoldable pub with_activities : State → ℕ → State
with_activities s n =
    record {
      cells = s.cells;
      acts = s.acts;
      accs = s.accs;
      steps = s.steps;
      activities = n;
      clocks = s.clocks;
      accumulators = s.accumulators;
    }

unfoldable pub with_clocks : State → ℕ → State
with_clocks s n =
    record {
      cells = s.cells;
      acts = s.acts;
      accs = s.accs;
      steps = s.steps;
      activities = s.activities;
      clocks = n;
      accumulators = s.accumulators;
    }

unfoldable pub with_accumulators : State → ℕ → State
with_accumulators s n =
    record {
      cells = s.cells;
      acts = s.acts;
      accs = s.accs;
      steps = s.steps;
      activities = s.activities;
      clocks = s.clocks;
      accumulators = n;
    }

unfoldable pub with_cell : State → ℕ → ℕ → State
with_cell s d v =
    record {
      cells = set s.cells d v;
      acts = s.acts;
      accs = s.accs;
      steps = s.steps;
      activities = s.activities;
      clocks = s.clocks;
      accumulators = s.accumulators;
    }

abbrev pub with_spawner : Activity → ℕ → Activity
with_spawner a spawner =
    record {
      register = a.register;
      frames = a.frames;
      holds = a.holds;
      accumulators = a.accumulators;
      status = a.status;
      spawner = spawner;
      depth = a.depth;
    }

abbrev pub with_name : Activity → ℕ → ℕ → Activity
with_name a n v = with_names a (set a.accumulators n v)

-- no bodies and no clocks
abbrev pub cleared : Activity → Activity
cleared a = with_frames (with_holds a a.status no_holds) a.depth no_frames

abbrev pub with_status : Activity → Status → Activity
with_status a status = with_holds a status a.holds

abbrev pub with_hold : Activity → ℕ → Hold → Activity
with_hold a k h = with_holds a a.status (set a.holds k h)

abbrev pub with_frame : Activity → ℕ → Frame → Activity
with_frame a d f = with_frames a a.depth (set a.frames d f)

abbrev pub with_depth : Activity → ℕ → Activity
with_depth a d = with_frames a d a.frames

abbrev pub onward : Frame → ℕ → Frame
onward f offset = record { offset = offset; body = f.body; runs = f.runs; first = f.first }

-- WHAT IS PROMISED

-- the number in k bytes from a place on
pub record Gets (k : ℕ) (b : List ℕ) (at r : ℕ) : Type 0 where
  pub gets : length b ≡ 13776 → at + k ≤ 13776 → r ≡ number_of (part b at k)

-- k bytes from a place on become those
pub record Written (k : ℕ) (b c : List ℕ) (at : ℕ) (e : List ℕ) : Type 0 where
  pub puts : length b ≡ 13776 → at + k ≤ 13776 → c ≡ put_mid at k b e

-- what is read is what the state has
pub record Reads {A : Type 0} (f : State → A) (b : List ℕ) (r : A) : Type 0 where
  pub reads : (s : State) → Lent b s → r ≡ f s

-- what activity i has
pub record ReadsAct {A : Type 0} (f : Activity → A) (b : List ℕ) (i : ℕ) (r : A) : Type 0 where
  pub reads : (s : State) → Lent b s → i < 64 → r ≡ f (act s i)

-- the bytes become those of the state changed so
pub record Writes (f : State → State) (b c : List ℕ) : Type 0 where
  pub writes : (s : State) → Lent b s → Lent c (f s)

-- of the state with activity i changed so
pub record WritesAct (f : Activity → Activity) (b c : List ℕ) (i : ℕ) : Type 0 where
  pub writes : (s : State) → Lent b s → i < 64 → Lent c (with_act s i (f (act s i)))
