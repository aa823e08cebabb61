-- The parts of a state, and the paper's number for each value of an enum.
use Rattle.std.specs.Prelude.{ℕ, ◌+◌, ◌-◌, List, [], ◌∷◌, Bool, true, false, get_or, replicate, Option, None, Some, Result, Ok, Err}
use Rattle.program.specs.declared.refusal.Refusal.{Refusal}
use Rattle.program.specs.Refusal.{refusal_number}
use Rattle.rules.specs.declared.state.Fault.{Fault}
use Rattle.rules.specs.declared.state.Fault.TheVariants.{F1, F2, F3, F4, F5, F6, F7, F8}
use Rattle.rules.specs.declared.state.Status.{Status}
use Rattle.rules.specs.declared.state.Status.TheVariants.{Running, AtBarrier, Ended, Faulted}
use Rattle.rules.specs.declared.state.Registration.{Registration}
use Rattle.rules.specs.declared.state.Registration.TheVariants.{Free, Live, Quiesced}
use Rattle.rules.specs.declared.state.Operator.{Operator}
use Rattle.rules.specs.declared.state.Operator.TheVariants.{Sum, Minimum, Maximum}
use Rattle.rules.specs.declared.state.Frame.{Frame}
use Rattle.rules.specs.declared.state.Hold.{Hold}
use Rattle.rules.specs.declared.state.Activity.{Activity}
use Rattle.rules.specs.declared.state.Accumulator.{Accumulator}
use Rattle.rules.specs.declared.state.State.{State}

-- NUMBERS OF THE ENUMS

-- "faulted with its number"
abbrev pub fault_number : Fault → ℕ
fault_number F1 = 1
fault_number F2 = 2
fault_number F3 = 3
fault_number F4 = 4
fault_number F5 = 5
fault_number F6 = 6
fault_number F7 = 7
fault_number F8 = 8

-- The fault of a number from 1 on.
abbrev pub fault_of : ℕ → Fault
fault_of n = get_or (F1 ∷ F2 ∷ F3 ∷ F4 ∷ F5 ∷ F6 ∷ F7 ∷ F8 ∷ []) (n - 1) F1

-- "0 not held, 1 live, 2 quiesced"
abbrev pub registration_number : Registration → ℕ
registration_number Free = 0
registration_number Live = 1
registration_number Quiesced = 2

-- "o is 0 sum modulo 2^32, 1 minimum, 2 maximum"
abbrev pub operator_number : Operator → ℕ
operator_number Sum = 0
operator_number Minimum = 1
operator_number Maximum = 2

abbrev pub operator_of : ℕ → Operator
operator_of o = get_or (Sum ∷ Minimum ∷ Maximum ∷ []) o Sum

-- "The answer is 0 for a step, 100 plus f for fault f, or the number above."
abbrev pub status_answer : Status → ℕ
status_answer Running = 0
status_answer AtBarrier = 0
status_answer Ended = 0
status_answer (Faulted f) = 100 + fault_number f

-- A step that was taken, with the activity's standing after it, or why the call was turned down.
abbrev pub Answer : Type 0
Answer = Result Status Refusal

abbrev pub answer_number : Answer → ℕ
answer_number (Ok status) = status_answer status
answer_number (Err e) = refusal_number e

-- The fault's number, 0 for none.
abbrev pub fault_in : Option Fault → ℕ
fault_in None = 0
fault_in (Some f) = fault_number f

-- The same number of an answer that tells the fault and not the standing.
abbrev pub taken_number : Result (Option Fault) Refusal → ℕ
taken_number (Ok None) = 0
taken_number (Ok (Some f)) = 100 + fault_number f
taken_number (Err r) = refusal_number r

-- UNUSED ENTRIES, ALL 0

abbrev pub no_frame : Frame
no_frame = record { offset = 0; body = 0; runs = 0; first = 0 }

abbrev pub no_hold : Hold
no_hold = record { phase = 0; clock = 0; registration = Free }

abbrev pub no_frames : List Frame
no_frames = replicate 16 no_frame

abbrev pub no_holds : List Hold
no_holds = replicate 8 no_hold

abbrev pub no_activity : Activity
no_activity = record { register = 0; frames = no_frames; holds = no_holds; accumulators = replicate 8 0; status = Running; spawner = 0; depth = 0 }

abbrev pub no_accumulator : Accumulator
no_accumulator = record { value = 0; owner = 0; operator = Sum }

-- "a state of zeros"
abbrev pub zero_state : State
zero_state =
    record {
      cells = replicate 16 0;
      acts = replicate 64 no_activity;
      accs = replicate 16 no_accumulator;
      steps = 0;
      activities = 0;
      clocks = 0;
      accumulators = 0;
    }

-- LOOKING INTO A STATE

-- What stands past the end of the activities.
abbrev pub absent : Activity
absent = record { register = 0; frames = []; holds = []; accumulators = []; status = Running; spawner = 0; depth = 0 }

abbrev pub act : State → ℕ → Activity
act s i = get_or s.acts i absent

abbrev pub frame : Activity → ℕ → Frame
frame a d = get_or a.frames d no_frame

abbrev pub top : Activity → Frame
top a = frame a (a.depth - 1)

abbrev pub hold : Activity → ℕ → Hold
hold a k = get_or a.holds k no_hold

abbrev pub accumulator : State → ℕ → Accumulator
accumulator s n = get_or s.accs n no_accumulator

-- What stands under an accumulator name: 0 unbound, else the accumulator's number plus 1.
abbrev pub bound : Activity → ℕ → ℕ
bound a n = get_or a.accumulators n 0

-- "A faulted activity counts as ended."
abbrev pub is_ended : Status → Bool
is_ended Running = false
is_ended AtBarrier = false
is_ended Ended = true
is_ended (Faulted f) = true

abbrev pub is_faulted : Status → Bool
is_faulted Running = false
is_faulted AtBarrier = false
is_faulted Ended = false
is_faulted (Faulted f) = true

abbrev pub is_at_barrier : Status → Bool
is_at_barrier Running = false
is_at_barrier AtBarrier = true
is_at_barrier Ended = false
is_at_barrier (Faulted f) = false

abbrev pub ended : State → ℕ → Bool
ended s i = is_ended (act s i).status
