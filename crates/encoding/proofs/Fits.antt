-- A state whose numbers fit the declared types of their fields.
use Prim.Native.Nat.{ℕ, ◌<◌, ◌^◌}
use lib.ListN.{get_or}
use Rattle.rules.specs.declared.state.Frame.{Frame}
use Rattle.rules.specs.declared.state.Hold.{Hold}
use Rattle.rules.specs.declared.state.Activity.{Activity}
use Rattle.rules.specs.declared.state.Accumulator.{Accumulator}
use Rattle.rules.specs.declared.state.State.{State}
use Rattle.rules.specs.State.{act, frame, hold, accumulator, bound}

-- a body
pub record FitsFrame (f : Frame) : Type 0 where
  pub offset : f.offset < 2 ^ 16
  pub body : f.body < 2 ^ 8
  pub runs : f.runs < 2 ^ 8
  pub first : f.first < 2 ^ 8

-- a clock name
pub record FitsHold (h : Hold) : Type 0 where
  pub phase : h.phase < 2 ^ 16
  pub clock : h.clock < 2 ^ 8

-- an accumulator
pub record FitsAccumulator (c : Accumulator) : Type 0 where
  pub value : c.value < 2 ^ 32
  pub owner : c.owner < 2 ^ 8

-- an activity
pub record FitsActivity (a : Activity) : Type 0 where
  pub register : a.register < 2 ^ 32
  pub spawner : a.spawner < 2 ^ 8
  pub depth : a.depth < 2 ^ 8
  pub names : (n : ℕ) → n < 8 → bound a n < 2 ^ 8
  pub holds : (k : ℕ) → k < 8 → FitsHold (hold a k)
  pub frames : (d : ℕ) → d < 16 → FitsFrame (frame a d)

-- a state
pub record FitsState (s : State) : Type 0 where
  pub steps : s.steps < 2 ^ 16
  pub activities : s.activities < 2 ^ 8
  pub clocks : s.clocks < 2 ^ 8
  pub accumulators : s.accumulators < 2 ^ 8
  pub cells : (x : ℕ) → x < 16 → get_or s.cells x 0 < 2 ^ 32
  pub accs : (n : ℕ) → n < 16 → FitsAccumulator (accumulator s n)
  pub acts : (i : ℕ) → i < 64 → FitsActivity (act s i)
