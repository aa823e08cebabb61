-- Cases of our own: whole calls with a state made by hand. What is answered, the whole state returned, the ready set and the sheet.
use Rattle.std.specs.Prelude.{ℕ, ◌+◌, ◌^◌, List, [], ◌∷◌, ◌++◌, Bool, true, false, ◌&&◌, length, replicate, eqb, Ok, Err}
use Rattle.program.specs.Same.{same_bool}
use Rattle.rules.specs.declared.state.Fault.{Fault}
use Rattle.rules.specs.declared.state.Fault.TheVariants.{F1, F2, F3, F4, F5, F6, F7}
use Rattle.rules.specs.declared.state.Status.TheVariants.{Running, AtBarrier, Ended, Faulted}
use Rattle.rules.specs.declared.state.Registration.{Registration}
use Rattle.rules.specs.declared.state.Registration.TheVariants.{Live, Quiesced}
use Rattle.rules.specs.declared.state.Operator.TheVariants.{Sum, Minimum}
use Rattle.rules.specs.declared.state.Activity.{Activity}
use Rattle.rules.specs.declared.state.State.{State}
use Rattle.program.specs.Refusal.{refusal_at, told}
use Rattle.rules.specs.Search.{list_from}
use Rattle.rules.specs.State.{Answer, no_hold, no_activity, no_accumulator}
use Rattle.rules.specs.Clocks.{quiescent}
use Rattle.rules.specs.Effects.{with_names, stopped}
use Rattle.rules.specs.Steps.{base, start_state, start, step, ready, ready_set, registrations, registrations_number}
use Rattle.rules.specs.Same.{same_answer, same_state}
use Rattle.rules.specs.Written.{frame_at, bottom, hold_on, holding, on_body, activity, written, with_hold, with_status, with_spawner, with_acts, with_counts, change, nest, nested, pair, paired, crowd, crowded}
use Rattle.rules.specs.CasesValues.{begins_with}

-- THE START

-- What the start answers, and its whole state.
pub record Started : Type 0 where
  pub table : List ℕ
  pub answer : Answer
  pub state : State

unfoldable pub starts_so : Started → Bool
starts_so c = let r = start base c.table in same_answer r.answer c.answer && same_state r.state c.state

unfoldable pub all_start : List Started → Bool
all_start [] = true
all_start (c ∷ cs) = let r = all_start cs in starts_so c && r

unfoldable pub started : List Started
started =
    -- "Activity 0 starts body 0 with hand 0; the 16 cells start at 0." "a state of zeros from the start"
    record { table = pair; answer = Ok Running; state = written 0 0 [] (activity Running 0 0 (bottom 0 0 ∷ []) [] [] ∷ []) [] }
    ∷ record { table = []; answer = Err (refusal_at 1); state = written 0 0 [] [] [] }
    ∷ record { table = 0x01 ∷ 0x02 ∷ 0x08 ∷ 0x00 ∷ []; answer = Err (refusal_at 5); state = written 0 0 [] [] [] }
    ∷ record { table = 0x03 ∷ 0x07 ∷ 0xFF ∷ 0x01 ∷ 0x00 ∷ 0x07 ∷ 0xFF ∷ 0x02 ∷ 0x00 ∷ 0x00 ∷ []; answer = Err (refusal_at 12); state = written 0 0 [] [] [] }
    ∷ []

-- THE STEP AND THE READY SET

-- What a step of the activity answers and the whole state after it; the ready set before it, with its number.
pub record Handed : Type 0 where
  pub table : List ℕ
  pub state : State
  pub activity : ℕ
  pub answer : Answer
  pub after : State
  pub number : ℕ
  pub set : ℕ

unfoldable pub answers_so : Handed → Bool
answers_so c =
    let r = ready base c.table c.state in
    let next = step base c.table c.state c.activity in
    same_answer next.answer c.answer && (same_state next.state c.after && (eqb (told r) c.number && eqb (ready_set r) c.set))

unfoldable pub all_so : List Handed → Bool
all_so [] = true
all_so (c ∷ cs) = let r = all_so cs in answers_so c && r

-- Turned down by the table or the state; by the activity; accepted. "Each answer is its number, with the state as it was handed in".
abbrev unread : List ℕ → State → ℕ → ℕ → Handed
unread table s i number = record { table = table; state = s; activity = i; answer = Err (refusal_at number); after = s; number = number; set = 0 }

abbrev pub refused : List ℕ → State → ℕ → ℕ → ℕ → Handed
refused table s i number set = record { table = table; state = s; activity = i; answer = Err (refusal_at number); after = s; number = 0; set = set }

abbrev pub accepted : List ℕ → State → ℕ → ℕ → Answer → State → Handed
accepted table s i set answer after = record { table = table; state = s; activity = i; answer = answer; after = after; number = 0; set = set }

abbrev pub same : Activity → Activity
same a = a

-- READ as the first command of body 0; main, ended or not, owns an accumulator and has a child that has not ended.
unfoldable pub reader : List ℕ
reader = 0x02 ∷ 0x0A ∷ 0x00 ∷ 0x00 ∷ 0x00 ∷ []

unfoldable pub reading : (Activity → Activity) → State
reading f =
    with_counts 0 2 0 1 (change 1 (on_body (bottom 0 1)) (change 0 (λ a. with_names (f a) (1 ∷ replicate 7 0)) start_state))

-- Sixty-three descendants of main, each a child of the one before; all but the last have ended.
unfoldable pub lined : Activity → ℕ → State
lined main accumulators =
    with_counts 0 64 0 accumulators (change 63 (λ a. on_body (bottom 0 1) (with_status Running a))
    (with_acts (main ∷ list_from 63 0 (λ i. with_spawner i (stopped no_activity Ended))) start_state))

-- FINISH of a bare END; main at this END, in a finish that began when there were so many activities.
unfoldable pub finish : List ℕ
finish = 0x02 ∷ 0x06 ∷ 0x01 ∷ 0x00 ∷ 0x00 ∷ []

abbrev pub finishing : ℕ → Activity
finishing first = activity Running 0 0 (bottom 0 0 ∷ frame_at 0 1 0 first ∷ []) [] []

-- `paired` with main alone on its clock, in such a phase and so registered.
abbrev pub lonely : ℕ → Registration → State
lonely phase registration = change 0 (with_hold 0 (hold_on phase 0 registration)) (change 1 (λ a. stopped a Ended) paired)

unfoldable pub hand_made : List Handed
hand_made =
    -- The table's number before 13; 13 before 14, and for one that could step.
    unread (0x00 ∷ 0x00 ∷ []) (with_counts 7 1 0 0 nested) 0 2
    ∷ unread (0x01 ∷ 0x00 ∷ 0x00 ∷ []) paired 0 8
    ∷ unread nest (with_counts 7 1 0 0 nested) 64 13
    ∷ unread pair (change 63 (with_status Ended) paired) 1 13
    -- 14; 16; 15 in the same state but for main's end; a state with no activity, which is fit.
    ∷ refused reader (reading same) 2 14 2
    ∷ refused reader (reading same) 0 16 2
    ∷ refused reader (reading (λ a. stopped a Ended)) 0 15 2
    ∷ refused reader (reading (λ a. stopped a (Faulted F7))) 0 15 2
    ∷ refused nest (with_counts 0 0 0 0 (change 0 (λ a. no_activity) start_state)) 0 14 0
    ∷ refused crowd crowded 64 14 1
    -- 17, with the activity in the ready set: "a 65th activity", "17th clock", "or accumulator", "phase 65,536", "or more steps than the work".
    ∷ refused crowd crowded 0 17 1
    ∷ refused (0x01 ∷ 0x02 ∷ 0x00 ∷ 0x00 ∷ []) (with_counts 0 1 16 0 start_state) 0 17 1
    ∷ refused (0x01 ∷ 0x08 ∷ 0x00 ∷ 0x00 ∷ 0x00 ∷ []) (with_counts 0 1 0 16 start_state) 0 17 1
    ∷ refused pair (lonely 65535 Quiesced) 0 17 1
    ∷ refused pair (with_counts 3 2 2 0 (change 0 (with_hold 7 (hold_on 65535 1 Quiesced)) (lonely 3 Quiesced))) 0 17 1
    ∷ refused pair (with_counts 8 2 1 0 paired) 1 17 2
    -- The last of each is made, and the last phase is reached; to arrive raises no phase; the last step of the work.
    ∷ accepted crowd (with_counts 0 63 0 0 (change 63 (λ a. no_activity) crowded)) 0 1 (Ok Running)
    (with_counts 1 64 0 0 (change 63 (λ a. activity Running 0 0 (bottom 0 1 ∷ []) [] []) (change 0 (on_body (bottom 3 0)) crowded)))
    ∷ accepted (0x01 ∷ 0x02 ∷ 0x06 ∷ 0x00 ∷ []) (with_counts 0 1 15 0 start_state) 0 1 (Ok Running)
    (written 1 16 [] (activity Running 0 0 (bottom 2 0 ∷ []) (replicate 6 no_hold ++ (hold_on 0 15 Live ∷ [])) [] ∷ []) [])
    ∷ accepted (0x01 ∷ 0x08 ∷ 0x06 ∷ 0x01 ∷ 0x00 ∷ []) (with_counts 0 1 0 15 start_state) 0 1 (Ok Running)
    (written 1 0 [] (activity Running 0 0 (bottom 3 0 ∷ []) [] (replicate 6 0 ++ (16 ∷ [])) ∷ []) (replicate 15 no_accumulator ++ (holding 4294967295 Minimum 0 ∷ [])))
    ∷ accepted pair (lonely 65534 Quiesced) 0 1 (Ok Running)
    (with_counts 4 2 1 0 (change 0 (λ a. with_status Running (on_body (bottom 6 0) a)) (lonely 65535 Live)))
    ∷ accepted pair (change 0 (with_status Running) (lonely 65535 Live)) 0 1 (Ok AtBarrier) (with_counts 4 2 1 0 (lonely 65535 Quiesced))
    ∷ accepted pair (with_counts 7 2 1 0 (change 0 (λ a. with_status Running (on_body (bottom 6 0) a)) (lonely 65535 Live))) 0 1 (Ok Ended)
    (with_counts 8 2 1 0 (change 0 (λ a. stopped a Ended) (change 1 (λ a. stopped a Ended) paired)))
    -- Of a faulting step only "more steps than the work": an ASYNC that faults needs no 65th activity.
    ∷ refused (0x01 ∷ 0x03 ∷ 0x00 ∷ 0x00 ∷ []) (with_counts 2 1 0 0 start_state) 0 17 1
    ∷ accepted (0x02 ∷ 0x05 ∷ 0x01 ∷ 0x01 ∷ 0x00 ∷ 0x00 ∷ []) crowded 0 1 (Ok (Faulted F1))
    (with_counts 1 64 0 0 (change 0 (λ a. stopped a (Faulted F1)) crowded))
    -- A clock that the child holds under another name is the same clock.
    ∷ refused pair (change 1 (λ a. with_hold 4 (hold_on 0 0 Live) (with_hold 0 no_hold a)) paired) 0 16 2
    -- 16 before 17: the activity that waits is not in the ready set. At a meeting and live, it waits for itself.
    ∷ refused pair (with_counts 8 2 1 0 paired) 0 16 2
    ∷ refused pair (change 0 (with_hold 0 (hold_on 65535 0 Quiesced)) (change 1 (with_hold 0 (hold_on 65535 0 Live)) paired)) 0 16 2
    ∷ refused pair (lonely 3 Live) 0 16 0
    -- READ, and the END of a FINISH body, wait for the last in a line of sixty-three; it is not inside where the first was spawned before the finish.
    ∷ refused reader (lined (activity Running 0 0 (bottom 0 0 ∷ []) [] (1 ∷ [])) 1) 0 16 (2 ^ 63)
    ∷ refused finish (lined (finishing 1) 0) 0 16 (2 ^ 63)
    ∷ accepted finish (lined (finishing 2) 0) 0 (2 ^ 63 + 1) (Ok Running) (with_counts 1 64 0 0 (change 0 (on_body (bottom 2 0)) (lined (finishing 2) 0)))
    ∷ []

-- FAULTS

-- A state of main at a command that meets the fault.
pub record Breach : Type 0 where
  pub table : List ℕ
  pub state : State
  pub fault : Fault

unfoldable pub all_fault : List Breach → Bool
all_fault [] = true
all_fault (c ∷ cs) = let r = all_fault cs in same_answer (step base c.table c.state 0).answer (Ok (Faulted c.fault)) && r

abbrev breach : Fault → List ℕ → State → Breach
breach f table s = record { table = table; state = s; fault = f }

-- Main as given, a child that has ended, and an accumulator that one of them owns.
abbrev owner : ℕ → Activity → State
owner i main = written 0 1 [] (main ∷ activity Ended 0 0 [] [] [] ∷ []) (holding 0 Sum i ∷ [])

unfoldable pub breaches : List Breach
breaches =
    breach F1 (0x01 ∷ 0x03 ∷ 0x00 ∷ 0x00 ∷ []) start_state
    ∷ breach F2 (0x02 ∷ 0x05 ∷ 0x01 ∷ 0x01 ∷ 0x00 ∷ 0x00 ∷ []) (with_counts 0 1 1 0 (change 0 (with_hold 0 (hold_on 0 0 Quiesced)) start_state))
    ∷ breach F3 (0x03 ∷ 0x06 ∷ 0x01 ∷ 0x00 ∷ 0x05 ∷ 0x02 ∷ 0x01 ∷ 0x00 ∷ 0x00 ∷ []) (written 0 0 [] (finishing 1 ∷ []) [])
    -- F4 before 17.
    ∷ breach F4 (0x01 ∷ 0x02 ∷ 0x00 ∷ 0x00 ∷ []) (with_counts 0 1 16 0 (change 0 (with_hold 0 (hold_on 0 0 Live)) start_state))
    ∷ breach F5 (0x01 ∷ 0x09 ∷ 0x00 ∷ 0x00 ∷ []) start_state
    ∷ breach F6 reader (owner 1 (activity Running 0 0 (bottom 0 0 ∷ []) [] (1 ∷ [])))
    ∷ breach F7 reader (owner 0 (activity Running 0 0 (bottom 0 0 ∷ []) (hold_on 0 0 Live ∷ []) (1 ∷ [])))
    ∷ []

-- THE SHEET

-- The number; the first rows by their first entries, the others 0.
pub record Sheet : Type 0 where
  pub table : List ℕ
  pub state : State
  pub number : ℕ
  pub rows : List (List ℕ)

-- Rows of sixteen entries each.
unfoldable pub rows_begin : List (List ℕ) → List (List ℕ) → Bool
rows_begin [] [] = true
rows_begin [] (y ∷ ys) = false
rows_begin (x ∷ xs) [] = let r = rows_begin xs [] in (eqb (length x) 16 && begins_with x []) && r
rows_begin (x ∷ xs) (y ∷ ys) = let r = rows_begin xs ys in (eqb (length x) 16 && begins_with x y) && r

unfoldable pub shows : Sheet → Bool
shows c =
    let sheet = registrations base c.table c.state in
    eqb (registrations_number base c.table c.state) c.number && (eqb (length sheet) 64 && rows_begin sheet c.rows)

unfoldable pub all_show : List Sheet → Bool
all_show [] = true
all_show (c ∷ cs) = let r = all_show cs in shows c && r

-- CLOCK 0, DROP 0, CLOCK 3.
unfoldable pub renamed : List ℕ
renamed = 0x01 ∷ 0x02 ∷ 0x00 ∷ 0x04 ∷ 0x00 ∷ 0x02 ∷ 0x03 ∷ 0x00 ∷ []

-- Activity 63 on the END of body 1, with clock 3 under name 0 and clock 15 under name 7.
unfoldable pub cornered : State
cornered = with_counts 0 64 16 0 (change 63 (λ a. with_hold 7 (hold_on 2 15 Quiesced) (with_hold 0 (hold_on 1 3 Live) (with_status Running (on_body (bottom 0 1) a)))) crowded)

unfoldable pub sheets : List Sheet
sheets =
    record { table = pair; state = paired; number = 0; rows = (2 ∷ []) ∷ (1 ∷ []) ∷ [] }
    -- By clock number and not by name.
    ∷ record { table = renamed; state = written 3 2 [] (activity Running 0 0 (bottom 6 0 ∷ []) (replicate 3 no_hold ++ (hold_on 0 1 Live ∷ [])) [] ∷ []) []; number = 0; rows = (0 ∷ 1 ∷ []) ∷ [] }
    -- Clock 0 under name 3, past names that are free.
    ∷ record {
      table = renamed;
      state = written 1 1 [] (activity Running 0 0 (bottom 2 0 ∷ []) (replicate 3 no_hold ++ (hold_on 0 0 Live ∷ [])) [] ∷ []) [];
      number = 0;
      rows = (1 ∷ []) ∷ [];
    }
    -- The last row and its last entry.
    ∷ record {
      table = crowd;
      state = cornered;
      number = 0;
      rows = replicate 63 [] ++ ((0 ∷ 0 ∷ 0 ∷ 1 ∷ 0 ∷ 0 ∷ 0 ∷ 0 ∷ 0 ∷ 0 ∷ 0 ∷ 0 ∷ 0 ∷ 0 ∷ 0 ∷ 2 ∷ []) ∷ []);
    }
    -- "a standing sheet of zeros"
    ∷ record { table = pair; state = with_counts 9 2 1 0 paired; number = 13; rows = [] }
    ∷ record { table = 0x01 ∷ 0x12 ∷ []; state = paired; number = 3; rows = [] }
    ∷ []

-- QUIESCENT PHASES

-- A clock of a state, and whether each of its phases from 0 on is quiescent.
pub record Quiet : Type 0 where
  pub state : State
  pub clock : ℕ
  pub phases : List Bool

unfoldable pub quiet_from : State → ℕ → ℕ → List Bool → Bool
quiet_from s c p [] = true
quiet_from s c p (q ∷ qs) = let r = quiet_from s c (p + 1) qs in same_bool (quiescent s c p) q && r

unfoldable pub all_quiet : List Quiet → Bool
all_quiet [] = true
all_quiet (c ∷ cs) = let r = all_quiet cs in quiet_from c.state c.clock 0 c.phases && r

-- "Phase p of a clock is quiescent when no holder is in an earlier phase, or live in p."
unfoldable pub quiets : List Quiet
quiets =
    -- Live in 0; quiesced in 0, the other too; one in 1 and one quiesced in 0.
    record { state = paired; clock = 0; phases = false ∷ false ∷ [] }
    ∷ record { state = change 1 (with_hold 0 (hold_on 0 0 Quiesced)) paired; clock = 0; phases = true ∷ false ∷ [] }
    ∷ record { state = change 1 (with_hold 0 (hold_on 0 0 Quiesced)) (change 0 (with_hold 0 (hold_on 1 0 Live)) paired); clock = 0; phases = true ∷ false ∷ false ∷ [] }
    -- The last activity's clocks, and one that nobody holds.
    ∷ record { state = cornered; clock = 3; phases = true ∷ false ∷ false ∷ [] }
    ∷ record { state = cornered; clock = 15; phases = true ∷ true ∷ true ∷ false ∷ [] }
    ∷ record { state = cornered; clock = 1; phases = true ∷ true ∷ [] }
    ∷ []
