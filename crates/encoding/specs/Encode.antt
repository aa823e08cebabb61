-- The bytes of a state, in the order of docs/STATE-BYTES.md.
use Rattle.std.specs.Prelude.{ℕ, List, [], ◌∷◌, ◌++◌, replicate}
use Rattle.rules.specs.declared.state.Status.{Status}
use Rattle.rules.specs.declared.state.Status.TheVariants.{Running, AtBarrier, Ended, Faulted}
use Rattle.rules.specs.declared.state.Frame.{Frame}
use Rattle.rules.specs.declared.state.Hold.{Hold}
use Rattle.rules.specs.declared.state.Activity.{Activity}
use Rattle.rules.specs.declared.state.Accumulator.{Accumulator}
use Rattle.rules.specs.declared.state.State.{State}
use Rattle.rules.specs.State.{fault_number, registration_number, operator_number}
use Rattle.encoding.specs.Bytes.{bytes_of, encode_each}

-- "version: 1"
abbrev pub version : ℕ
version = 1

-- "0 running, 1 at a meeting, 2 ended, 3 faulted"
abbrev pub status_byte : Status → ℕ
status_byte Running = 0
status_byte AtBarrier = 1
status_byte Ended = 2
status_byte (Faulted f) = 3

-- "the number of its fault, 1 to 8, where it has faulted; else 0"
abbrev pub fault_byte : Status → ℕ
fault_byte Running = 0
fault_byte AtBarrier = 0
fault_byte Ended = 0
fault_byte (Faulted f) = fault_number f

-- "A body on the stack: 8 bytes"
unfoldable pub encode_frame : Frame → List ℕ
encode_frame f = bytes_of 2 f.offset ++ (f.body ∷ f.runs ∷ f.first ∷ []) ++ replicate 3 0

-- "A clock name: 8 bytes"
unfoldable pub encode_hold : Hold → List ℕ
encode_hold h = bytes_of 4 h.phase ++ (h.clock ∷ registration_number h.registration ∷ []) ++ replicate 2 0

-- "An activity: 208 bytes"
unfoldable pub encode_activity : Activity → List ℕ
encode_activity a =
    bytes_of 4 a.register
    ++ (status_byte a.status ∷ fault_byte a.status ∷ a.spawner ∷ a.depth ∷ [])
    ++ a.accumulators
    ++ encode_each encode_hold a.holds
    ++ encode_each encode_frame a.frames

-- "An accumulator: 24 bytes"
unfoldable pub encode_accumulator : Accumulator → List ℕ
encode_accumulator c = bytes_of 4 c.value ++ (c.owner ∷ operator_number c.operator ∷ []) ++ replicate 18 0

-- What is no activity comes first: 464 bytes.
abbrev pub encode_head : State → List ℕ
encode_head s =
    (version ∷ s.activities ∷ s.clocks ∷ s.accumulators ∷ [])
    ++ bytes_of 4 s.steps
    ++ replicate 8 0
    ++ encode_each (bytes_of 4) s.cells
    ++ encode_each encode_accumulator s.accs

-- "a buffer of exactly 13,776 bytes"
unfoldable pub encode_state : State → List ℕ
encode_state s = encode_head s ++ encode_each encode_activity s.acts
