-- The calls: start, step, ready set, how many an activity waits for, and standing sheet, with the numbers for which each is turned down, in checking order.
use Rattle.std.specs.Prelude.{ℕ, List, [], ◌∷◌, Bool, true, false, cond, ◌||◌, ◌&&◌, not, set, replicate, ltb, leb, eqb, Result, Ok, Err}
use Rattle.program.specs.declared.refusal.Refusal.{Refusal}
use Rattle.program.specs.declared.refusal.Refusal.TheVariants.{Spent}
use Rattle.program.specs.Refusal.{refusal_at, answered}
use Rattle.program.specs.Bodies.{Located, Program, program_of}
use Rattle.program.specs.Count.{work_of}
use Rattle.program.specs.Table.{work_limit, number_of}
use Rattle.rules.specs.declared.state.Fault.TheVariants.{F8}
use Rattle.rules.specs.declared.state.Status.TheVariants.{Running, Faulted}
use Rattle.rules.specs.declared.state.Hold.{Hold}
use Rattle.rules.specs.declared.state.State.{State}
use Rattle.rules.specs.declared.answer.Stepped.{Stepped}
use Rattle.rules.specs.Search.{some_below, bits_below, list_from}
use Rattle.rules.specs.State.{Answer, fault_number, fault_of, registration_number, no_activity, zero_state, act, top, hold, ended, no_frames}
use Rattle.rules.specs.Clocks.{is_held}
use Rattle.rules.specs.Tree.{here}
use Rattle.rules.specs.Faults.{fault_for, spoilt}
use Rattle.rules.specs.Waiting.{awaited_at}
use Rattle.rules.specs.Effects.{Spawned, nobody, one, Write, keep, make, offer, reset, Effect, with_frames, effect_of, failing, env_of, applied}
use Rattle.rules.specs.WellFormed.{well_formed}

-- The limits that a wider machine moves: the work of a table, and a phase.
pub record Limits : Type 0 where
  pub work : ℕ
  pub phase : ℕ

-- "12. Work is above 65,535." "phases 65,535"
abbrev pub base : Limits
base = record { work = work_limit; phase = 65535 }

-- ONE ACTIVITY

-- The command that activity i stands on.
unfoldable pub at : Program → State → ℕ → Located
at p s i = here p (top (act s i))

-- The rule that its command breaches, 0 for none.
unfoldable pub breach : Program → State → ℕ → ℕ
breach p s i = fault_for p (env_of s) i (act s i) (at p s i).command

-- How many activities it waits for. One that is unspawned or has ended waits for none; "Faults come before waiting."
unfoldable pub awaited : Program → State → ℕ → ℕ
awaited p s i =
    let n = awaited_at p s i (act s i) (at p s i).command in
    cond (ltb i s.activities && (not (ended s i) && eqb (breach p s i) 0)) n 0

-- "16. The activity waits." The number "is 0 exactly for an activity that doesn't wait."
unfoldable pub waits : Program → State → ℕ → Bool
waits p s i = ltb 0 (awaited p s i)

-- The fault of its step, 0 for none: the breach, or F8, which alone comes after waiting.
unfoldable pub fault : Program → State → ℕ → ℕ
fault p s i = let b = breach p s i in cond (spoilt p s i (act s i) (at p s i).command) (fault_number F8) b

-- What its step does.
unfoldable pub effect : Program → State → ℕ → Effect
effect p s i =
    let f = fault p s i in
    let done = effect_of p (env_of s) i (act s i) (at p s i).command (at p s i).inner in
    let failed = failing (act s i) (Faulted (fault_of f)) in
    cond (eqb f 0) done failed

-- NUMBERS 14 TO 17

-- "14. The activity number has not been spawned. 15. The activity has ended. 16. The activity waits."
unfoldable pub refusal : Program → State → ℕ → ℕ
refusal p s i = let n : ℕ = cond (ended s i) 15 (cond (waits p s i) 16 0) in cond (ltb i s.activities) n 14

abbrev pub spawns : Spawned → Bool
spawns nobody = false
spawns (one c) = true

abbrev pub makes : Write → Bool
makes keep = false
makes (make c) = true
makes (offer x v) = false
makes (reset x v) = false

-- "17. The step would need a 65th activity, 17th clock or accumulator, phase 65,536, or more steps than the work"
unfoldable pub exceeds : Limits → Program → State → Effect → Bool
exceeds l p s e =
    (spawns e.spawned && leb 64 s.activities)
    || ((e.clocked && leb 16 s.clocks)
    || ((makes e.write && leb 16 s.accumulators)
    || (some_below 8 (λ k. ltb l.phase (hold e.self k).phase) || leb (work_of p) s.steps)))

abbrev pub stepped : Answer → State → Stepped
stepped answer s = record { answer = answer; state = s }

-- A step of activity i of a well-formed state: numbers 14 to 17, or the one next state.
unfoldable pub advance : Limits → Program → State → ℕ → Stepped
advance l p s i =
    let r = refusal p s i in
    let e = effect p s i in
    let done = stepped (Ok e.self.status) (applied s i e) in
    cond (eqb r 0) (cond (exceeds l p s e) (stepped (Err Spent) s) done) (stepped (Err (refusal_at r)) s)

-- THE CALLS

-- "Activity 0 starts body 0 with hand 0; the 16 cells start at 0."
abbrev pub start_state : State
start_state =
    record {
      cells = zero_state.cells;
      acts = set zero_state.acts 0 (with_frames no_activity 1 no_frames);
      accs = zero_state.accs;
      steps = 0;
      activities = 1;
      clocks = 0;
      accumulators = 0;
    }

-- Numbers 1 to 13: the table's, then the state's.
unfoldable pub unfit : Limits → ℕ → Program → State → ℕ
unfit l number p s = cond (eqb number 0) (cond (well_formed l.phase p s) 0 13) number

-- "the start 1 to 12"; "a state of zeros from the start"
unfoldable pub start_with : ℕ → Stepped
start_with number = cond (eqb number 0) (stepped (Ok Running) start_state) (stepped (Err (refusal_at number)) zero_state)

unfoldable pub start : Limits → List ℕ → Stepped
start l t = start_with (number_of l.work t)

-- "The step tries 1 to 17"
unfoldable pub step_with : Limits → ℕ → Program → State → ℕ → Stepped
step_with l number p s i =
    let n = unfit l number p s in
    let go = advance l p s i in
    cond (eqb n 0) go (stepped (Err (refusal_at n)) s)

unfoldable pub step : Limits → List ℕ → State → ℕ → Stepped
step l t s i = step_with l (number_of l.work t) (program_of t) s i

-- "The ready set is 64 bits, bit i for activity i, set where 14 to 16 don't apply." "an empty ready set"
unfoldable pub can_step : Program → State → ℕ → Bool
can_step p s i = eqb (refusal p s i) 0

-- The ready set, or why the call was turned down: 1 to 13.
abbrev pub Ready : Type 0
Ready = Result ℕ Refusal

unfoldable pub ready : Limits → List ℕ → State → Ready
ready l t s =
    let n = unfit l (number_of l.work t) (program_of t) s in
    let members = bits_below 64 (can_step (program_of t) s) in
    answered n members

-- The set of that answer: a call that is turned down has "an empty ready set".
abbrev pub ready_set : Ready → ℕ
ready_set (Ok set) = set
ready_set (Err e) = 0

-- How many activities activity i waits for: the call tries 1 to 15, "an activity that doesn't wait" and a call that is turned down having 0.
unfoldable pub awaited_number : Limits → List ℕ → State → ℕ → ℕ
awaited_number l t s i =
    let n = unfit l (number_of l.work t) (program_of t) s in
    let r = refusal (program_of t) s i in
    cond (eqb n 0) (cond (eqb r 16) 0 r) n

unfoldable pub awaited_count : Limits → List ℕ → State → ℕ → ℕ
awaited_count l t s i =
    let n = unfit l (number_of l.work t) (program_of t) s in
    let count = awaited (program_of t) s i in
    cond (eqb n 0) count 0

-- "sixty-four rows of sixteen entries, by activity and clock number: 0 not held, 1 live, 2 quiesced"
unfoldable pub registration_on : ℕ → List Hold → ℕ
registration_on c [] = 0
registration_on c (h ∷ hs) = let r = registration_on c hs in cond (is_held h.registration && eqb h.clock c) (registration_number h.registration) r

unfoldable pub sheet_of : State → List (List ℕ)
sheet_of s = list_from 64 0 (λ i. list_from 16 0 (λ c. registration_on c (act s i).holds))

abbrev pub no_sheet : List (List ℕ)
no_sheet = replicate 64 (replicate 16 0)

unfoldable pub registrations_number : Limits → List ℕ → State → ℕ
registrations_number l t s = unfit l (number_of l.work t) (program_of t) s

unfoldable pub registrations : Limits → List ℕ → State → List (List ℕ)
registrations l t s = let sheet = sheet_of s in cond (eqb (registrations_number l t s) 0) sheet no_sheet
