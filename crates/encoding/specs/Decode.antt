-- The state that bytes encode, by the offsets of docs/STATE-BYTES.md, and whether they encode one.
use Rattle.std.specs.Prelude.{ℕ, List, [], ◌∷◌, Bool, cond, ◌&&◌, length, get_or, leb, eqb, Option, Some, None}
use Rattle.rules.specs.declared.state.Status.{Status}
use Rattle.rules.specs.declared.state.Status.TheVariants.{Running, AtBarrier, Ended, Faulted}
use Rattle.rules.specs.declared.state.Registration.{Registration}
use Rattle.rules.specs.declared.state.Registration.TheVariants.{Free, Live, Quiesced}
use Rattle.rules.specs.declared.state.Frame.{Frame}
use Rattle.rules.specs.declared.state.Hold.{Hold}
use Rattle.rules.specs.declared.state.Activity.{Activity}
use Rattle.rules.specs.declared.state.Accumulator.{Accumulator}
use Rattle.rules.specs.declared.state.State.{State}
use Rattle.rules.specs.State.{fault_of, operator_of}
use Rattle.encoding.specs.Bytes.{number_of, part, byte_at, all_zero, parts_at, parts_pass}
use Rattle.encoding.specs.Encode.{version}

-- "a phase or the steps taken above 65,535" encode no state
abbrev pub limit : ℕ
limit = 65535

-- THE STATE

-- "0 free, 1 live, 2 quiesced"
abbrev pub registration_of : ℕ → Registration
registration_of n = get_or (Free ∷ Live ∷ Quiesced ∷ []) n Free

-- an activity's standing, by its byte and the byte of its fault
abbrev pub status_of : ℕ → ℕ → Status
status_of n f = get_or (Running ∷ AtBarrier ∷ Ended ∷ Faulted (fault_of f) ∷ []) n Running

-- "A body on the stack: 8 bytes"
unfoldable pub frame_at : List ℕ → Frame
frame_at b = record { offset = number_of (part b 0 2); body = byte_at b 2; runs = byte_at b 3; first = byte_at b 4 }

-- "A clock name: 8 bytes"
unfoldable pub hold_at : List ℕ → Hold
hold_at b = record { phase = number_of (part b 0 4); clock = byte_at b 4; registration = registration_of (byte_at b 5) }

-- "An activity: 208 bytes"
unfoldable pub activity_at : List ℕ → Activity
activity_at b =
    record {
      register = number_of (part b 0 4);
      status = status_of (byte_at b 4) (byte_at b 5);
      spawner = byte_at b 6;
      depth = byte_at b 7;
      accumulators = part b 8 8;
      holds = parts_at 8 8 hold_at (part b 16 64);
      frames = parts_at 8 16 frame_at (part b 80 128);
    }

-- "An accumulator: 24 bytes"
unfoldable pub accumulator_at : List ℕ → Accumulator
accumulator_at b = record { value = number_of (part b 0 4); owner = byte_at b 4; operator = operator_of (byte_at b 5) }

-- "The whole"
unfoldable pub state_of : List ℕ → State
state_of b =
    record {
      activities = byte_at b 1;
      clocks = byte_at b 2;
      accumulators = byte_at b 3;
      steps = number_of (part b 4 4);
      cells = parts_at 4 16 number_of (part b 16 64);
      accs = parts_at 24 16 accumulator_at (part b 80 384);
      acts = parts_at 208 64 activity_at (part b 464 13312);
    }

-- WHEN BYTES ENCODE NO STATE

-- "a standing above 3; a fault byte that is not 1 to 8 where the standing is faulted, or not 0 where it is not"
abbrev pub status_passes : ℕ → ℕ → Bool
status_passes n f = cond (eqb n 3) (leb 1 f && leb f 8) (leb n 2 && eqb f 0)

-- "a reserved byte that is not 0"
unfoldable pub frame_encodes : List ℕ → Bool
frame_encodes b = all_zero (part b 5 3)

-- "a registration .. above 2", "a phase .. above 65,535"; a reserved byte that is not 0
unfoldable pub hold_encodes : List ℕ → Bool
hold_encodes b = leb (number_of (part b 0 4)) limit && (leb (byte_at b 5) 2 && all_zero (part b 6 2))

-- the standing, the clock names and the bodies
unfoldable pub activity_encodes : List ℕ → Bool
activity_encodes b =
    status_passes (byte_at b 4) (byte_at b 5)
    && (parts_pass 8 8 hold_encodes (part b 16 64) && parts_pass 8 16 frame_encodes (part b 80 128))

-- "an operator above 2"; a reserved byte that is not 0
unfoldable pub accumulator_encodes : List ℕ → Bool
accumulator_encodes b = leb (byte_at b 5) 2 && all_zero (part b 6 18)

-- bytes of the right length
unfoldable pub fields_encode : List ℕ → Bool
fields_encode b =
    eqb (byte_at b 0) version
    && (leb (number_of (part b 4 4)) limit
    && (all_zero (part b 8 8)
    && (parts_pass 24 16 accumulator_encodes (part b 80 384) && parts_pass 208 64 activity_encodes (part b 464 13312))))

-- "Another length than 13,776" encodes no state
unfoldable pub encodes : List ℕ → Bool
encodes b = eqb (length b) 13776 && fields_encode b

-- what reading bytes answers: their state, where they encode one
unfoldable pub decoded_of : List ℕ → Option State
decoded_of b = cond (encodes b) (Some (state_of b)) None
