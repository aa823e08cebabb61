-- Number 17 as the code tests it: by the command's byte, and by the holds of who is at a meeting.
use Rattle.std.specs.Prelude.{ℕ, Bool, ◌&&◌, ◌||◌, List, ◌==◌, nat_le, slice_index_or}
use Rattle.program.specs.Command.{opcode}
use Rattle.program.specs.declared.command.Command.{Command}
use Rattle.rules.specs.declared.state.Hold.{Hold}
use Rattle.rules.specs.declared.state.Activity.{Activity}
use Rattle.rules.specs.declared.state.State.{State}
use Rattle.rules.specs.Search.{some_below}
use Rattle.rules.specs.State.{no_hold, is_at_barrier}
use Rattle.rules.specs.Clocks.{is_held}

-- A 65th activity, a 17th clock or a 17th accumulator is needed: ASYNC, CLOCK and ACC make them.
unfoldable pub overfull : State → Command → Bool
overfull s c = (opcode c == 0x05 && nat_le 64 s.activities) || ((opcode c == 0x02 && nat_le 16 s.clocks) || (opcode c == 0x08 && nat_le 16 s.accumulators))

-- A held clock is in the last phase that there is.
abbrev pub is_last : Hold → Bool
is_last h = is_held h.registration && h.phase == 65535

-- One of the eight is.
unfoldable pub some_last : List Hold → Bool
some_last hs = some_below 8 (λ k. is_last (slice_index_or hs k no_hold))

-- Phase 65,536 is needed: only passing raises a phase, and who is at a meeting passes.
unfoldable pub overtakes : Activity → Bool
overtakes a = is_at_barrier a.status && some_last a.holds

-- Number 17: a fault needs nothing but a step.
unfoldable pub exceeds_at : ℕ → State → Activity → ℕ → Command → Bool
exceeds_at work s a f c = nat_le work s.steps || (f == 0 && (overfull s c || overtakes a))
