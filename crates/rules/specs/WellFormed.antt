-- Number 13 of "Turned down": the state is unfit. Each clause has its words beside it.
use Rattle.std.specs.Prelude.{ℕ, zero, suc, Bool, true, false, cond, ◌||◌, ◌&&◌, not, [], length, get_or, ltb, leb, eqb}
use Rattle.program.specs.declared.command.Command.{Command}
use Rattle.program.specs.declared.command.Command.TheVariants.{End, Next, Clock, Resume, Drop, Async, Finish, Repeat, Acc, Offer, Read, Reset, Put, Fetch, Store, Add, Atom, Choose}
use Rattle.program.specs.Command.{opcode}
use Rattle.program.specs.Bodies.{Program, is_place}
use Rattle.program.specs.Count.{work_of}
use Rattle.rules.specs.declared.state.Status.{Status}
use Rattle.rules.specs.declared.state.Status.TheVariants.{Running, AtBarrier, Ended, Faulted}
use Rattle.rules.specs.declared.state.Frame.{Frame}
use Rattle.rules.specs.declared.state.Hold.{Hold}
use Rattle.rules.specs.declared.state.Activity.{Activity}
use Rattle.rules.specs.declared.state.Accumulator.{Accumulator}
use Rattle.rules.specs.declared.state.State.{State}
use Rattle.rules.specs.Search.{all_below}
use Rattle.rules.specs.State.{registration_number, operator_number, act, frame, top, hold, accumulator, bound, is_ended, is_at_barrier}
use Rattle.rules.specs.Clocks.{holds, holds_some}
use Rattle.rules.specs.Tree.{here}

abbrev implies : Bool → Bool → Bool
implies a b = not a || b

-- ENTRIES THAT ARE 0

abbrev pub is_no_frame : Frame → Bool
is_no_frame f = eqb f.offset 0 && (eqb f.body 0 && (eqb f.runs 0 && eqb f.first 0))

abbrev pub is_no_hold : Hold → Bool
is_no_hold h = eqb h.phase 0 && (eqb h.clock 0 && eqb (registration_number h.registration) 0)

abbrev pub is_no_accumulator : Accumulator → Bool
is_no_accumulator c = eqb c.value 0 && (eqb c.owner 0 && eqb (operator_number c.operator) 0)

abbrev pub is_running : Status → Bool
is_running Running = true
is_running AtBarrier = false
is_running Ended = false
is_running (Faulted f) = false

unfoldable pub is_no_activity : Activity → Bool
is_no_activity a =
    eqb a.register 0
    && (all_below 16 (λ d. is_no_frame (frame a d))
    && (all_below 8 (λ k. is_no_hold (hold a k))
    && (all_below 8 (λ n. eqb (bound a n) 0)
    && (is_running a.status && (eqb a.spawner 0 && eqb a.depth 0)))))

-- STACKS

-- The body above a FINISH, REPEAT or CHOOSE: "a repeat has 0 runs left or more than its n (the run under way counts as left)", "a stacked body is not the one
-- run by the FINISH or REPEAT of the body below it", "an unmade thing is named", "an unused entry is not 0" (runs of a FINISH or CHOOSE body, first of a REPEAT or
-- CHOOSE body). CHOOSE: "Number 13 takes it with FINISH and REPEAT."
unfoldable pub run_by : ℕ → Command → Frame → Bool
run_by made End f = false
run_by made Next f = false
run_by made (Clock c) f = false
run_by made (Resume c) f = false
run_by made (Drop c) f = false
run_by made (Async b m) f = false
run_by made (Finish b) f = eqb f.body b && (eqb f.runs 0 && leb f.first made)
run_by made (Repeat n b) f = eqb f.body b && (leb 1 f.runs && (leb f.runs n && eqb f.first 0))
run_by made (Acc n o) f = false
run_by made (Offer n) f = false
run_by made (Read n) f = false
run_by made (Reset n) f = false
run_by made (Put v) f = false
run_by made (Fetch d) f = false
run_by made (Store d) f = false
run_by made (Add d) f = false
run_by made (Atom k) f = false
run_by made (Choose b) f = eqb f.body b && (eqb f.runs 0 && eqb f.first 0)

-- "a place is no command of its body (the k commands belong to their ATOM)"
unfoldable pub is_placed : Program → Frame → Bool
is_placed p f = ltb f.body (length p) && is_place (get_or p f.body []) f.offset

-- The frame at the bottom is run by no command of this activity.
unfoldable pub is_bottom : Frame → Bool
is_bottom f = eqb f.runs 0 && eqb f.first 0

-- A frame on another: it is run by the other's command, and its body is greater ("stacked bodies do not rise" turns it down).
unfoldable pub is_stacked : Program → ℕ → Frame → Frame → Bool
is_stacked p made below f = run_by made (here p below).command f && ltb below.body f.body

unfoldable pub frame_fits : Program → ℕ → Activity → ℕ → Bool
frame_fits p made a zero = is_placed p (frame a zero) && is_bottom (frame a zero)
frame_fits p made a (suc d) = is_placed p (frame a (suc d)) && is_stacked p made (frame a d) (frame a (suc d))

-- The frames of a stack; past its depth, "an unused entry is not 0".
unfoldable pub stack_fits : Program → ℕ → Activity → Bool
stack_fits p made a = leb a.depth 16 && all_below 16 (λ d. cond (ltb d a.depth) (frame_fits p made a d) (is_no_frame (frame a d)))

-- ACTIVITIES

-- "an unended activity has no body, an ended one has a body or a clock"
unfoldable pub body_fits : Activity → Bool
body_fits a = cond (is_ended a.status) (eqb a.depth 0 && not (holds_some a)) (ltb 0 a.depth)

-- "a standing at a meeting is not on NEXT"
unfoldable pub barrier_fits : Program → Activity → Bool
barrier_fits p a = implies (is_at_barrier a.status) (eqb (opcode (here p (top a)).command) 0x01)

-- A hold: "phase is over its limit", "an unmade thing is named"; a free one is all 0.
unfoldable pub hold_fits : ℕ → ℕ → Activity → ℕ → Bool
hold_fits limit made a k = cond (holds a k) (leb (hold a k).phase limit && ltb (hold a k).clock made) (is_no_hold (hold a k))

-- "one activity has two names for one clock"
unfoldable pub names_fit : Activity → Bool
names_fit a = all_below 8 (λ k. all_below k (λ j. implies (holds a j && holds a k) (not (eqb (hold a j).clock (hold a k).clock))))

-- "a spawner is not lower than its child"; main has none.
unfoldable pub spawner_fits : ℕ → Activity → Bool
spawner_fits zero a = eqb a.spawner 0
spawner_fits (suc i) a = ltb a.spawner (suc i)

-- An activity that was spawned, number i.
unfoldable pub activity_fits : ℕ → Program → State → ℕ → Bool
activity_fits limit p s i =
    stack_fits p s.activities (act s i)
    && (body_fits (act s i)
    && (barrier_fits p (act s i)
    && (all_below 8 (hold_fits limit s.clocks (act s i))
    && (names_fit (act s i) && (all_below 8 (λ n. leb (bound (act s i) n) s.accumulators) && spawner_fits i (act s i))))))

-- THE STATE

-- "a count .. is over its limit", "steps taken exceed the work"
unfoldable pub counts_fit : Program → State → Bool
counts_fit p s = leb s.activities 64 && (leb s.clocks 16 && (leb s.accumulators 16 && leb s.steps (work_of p)))

-- Each made one is as it should be, each other one all 0.
unfoldable pub activities_fit : ℕ → Program → State → Bool
activities_fit limit p s = all_below 64 (λ i. cond (ltb i s.activities) (activity_fits limit p s i) (is_no_activity (act s i)))

unfoldable pub accumulators_fit : State → Bool
accumulators_fit s = all_below 16 (λ n. cond (ltb n s.accumulators) (ltb (accumulator s n).owner s.activities) (is_no_accumulator (accumulator s n)))

-- Fit, where phases may reach `limit`.
unfoldable pub well_formed : ℕ → Program → State → Bool
well_formed limit p s = counts_fit p s && (activities_fit limit p s && accumulators_fit s)
