-- A body that is left or runs again, and END.
use Rattle.std.specs.Prelude.{ℕ, ◌+◌, ◌-◌, ◌^◌, ◌≤◌, ◌<◌, ◌≡◌, List, set, Bool}
use Rattle.program.specs.Bodies.{program_of}
use Rattle.program.specs.Scan.{scan}
use Rattle.program.specs.declared.command.Command.TheVariants.{End}
use Rattle.rules.specs.declared.state.Frame.{Frame}
use Rattle.rules.specs.declared.state.Activity.{Activity}
use Rattle.rules.specs.declared.state.State.{State}
use Rattle.rules.specs.State.{no_frame, act, top}
use Rattle.rules.specs.Faults.{spoilt}
use Rattle.rules.specs.Effects.{with_frames, with_top}
use Rattle.fields.specs.Lent.{Lent, with_act, with_steps, with_frame, onward}
use Rattle.moves.specs.Moves.{Standing, Turned}

-- an activity without its top body
abbrev pub lower : Activity → Activity
lower a = with_frames a (a.depth - 1) (set a.frames (a.depth - 1) no_frame)

-- The top body of activity i, of so many, is gone; the one below goes on so many bytes later, and one step more is counted.
pub record Pops (b c : List ℕ) (i depth size r : ℕ) : Type 0 where
  pub number : r ≡ 0
  pub pops : (s : State) → Lent b s → i < 64 → s.steps < 65535 → depth ≡ (act s i).depth → 1 < depth → depth ≤ 16 → (top (lower (act s i))).offset + size < 2 ^ 16
      → Lent c (with_steps (with_act s i (with_top (lower (act s i)) (onward (top (lower (act s i))) ((top (lower (act s i))).offset + size)))) (s.steps + 1))

-- A body that runs again: its place is its first command, and one run less is left.
abbrev pub rerun : Frame → Frame
rerun f = record { offset = 0; body = f.body; runs = f.runs - 1; first = f.first }

-- Body `at` of activity i runs again, and one step more is counted.
pub record Reruns (f : Frame) (b c : List ℕ) (i at r : ℕ) : Type 0 where
  pub number : r ≡ 0
  pub reruns : (s : State) → Lent b s → i < 64 → at < 16 → s.steps < 65535 → Lent c (with_steps (with_act s i (with_frame (act s i) at (rerun f))) (s.steps + 1))

-- END, told whether one inside the FINISH body that ends has faulted.
pub record Ends (faulted : Bool) (b c : List ℕ) (work i r : ℕ) : Type 0 where
  pub turns : (t : List ℕ) → scan t ≡ 0 → (s : State) → Lent b s → Standing (program_of t) s i work End → faulted ≡ spoilt (program_of t) s i (act s i) End → Turned (program_of t) s i c r
