-- Cases of our own: runs with the answer of each step, its status included, and the whole state after them, written out.
use Rattle.std.specs.Prelude.{ℕ, ◌+◌, List, [], ◌∷◌, ◌++◌, Bool, true, false, ◌&&◌, replicate, eqb, Ok, Err}
use Rattle.program.specs.Bodies.{Program, program_of}
use Rattle.program.specs.Table.{work_limit, number_of}
use Rattle.rules.specs.declared.state.Fault.{Fault}
use Rattle.rules.specs.declared.state.Fault.TheVariants.{F1, F2, F3, F4, F5, F6, F7}
use Rattle.rules.specs.declared.state.Status.TheVariants.{Running, AtBarrier, Ended, Faulted}
use Rattle.rules.specs.declared.state.Registration.TheVariants.{Live, Quiesced}
use Rattle.rules.specs.declared.state.Operator.TheVariants.{Sum, Minimum, Maximum}
use Rattle.rules.specs.declared.state.Hold.{Hold}
use Rattle.rules.specs.declared.state.State.{State}
use Rattle.program.specs.Refusal.{refusal_at}
use Rattle.rules.specs.State.{Answer, no_hold}
use Rattle.rules.specs.Steps.{base, start_state, advance}
use Rattle.rules.specs.Same.{same_answer, same_state}
use Rattle.rules.specs.Written.{frame_at, bottom, hold_on, holding, activity, written}

-- An accepted table with an order, the steps' answers, and the state after them.
pub record Run : Type 0 where
  pub table : List ℕ
  pub order : List ℕ
  pub answers : List Answer
  pub after : State

-- The steps of an order, without the test of number 13, are answered so and come to the state.
unfoldable pub goes : Program → State → List ℕ → List Answer → State → Bool
goes p s [] [] after = same_state s after
goes p s [] (a ∷ more) after = false
goes p s (i ∷ order) [] after = false
goes p s (i ∷ order) (a ∷ more) after = let r = advance base p s i in same_answer r.answer a && goes p r.state order more after

unfoldable pub goes_so : Run → Bool
goes_so c = eqb (number_of work_limit c.table) 0 && goes (program_of c.table) start_state c.order c.answers c.after

unfoldable pub all_go : List Run → Bool
all_go [] = true
all_go (c ∷ cs) = let r = all_go cs in goes_so c && r

-- The answers.
abbrev pub running : Answer
running = Ok Running

abbrev pub at_barrier : Answer
at_barrier = Ok AtBarrier

abbrev pub ended : Answer
ended = Ok Ended

abbrev pub faulted : Fault → Answer
faulted f = Ok (Faulted f)

abbrev pub waits : Answer
waits = Err (refusal_at 16)

abbrev free : ℕ → List Hold
free n = replicate n no_hold

-- NAMES

-- CLOCK 2, CLOCK 5, RESUME 5, DROP 2, CLOCK 3.
abbrev two_clocks : List ℕ
two_clocks = 0x01 ∷ 0x02 ∷ 0x02 ∷ 0x02 ∷ 0x05 ∷ 0x03 ∷ 0x05 ∷ 0x04 ∷ 0x02 ∷ 0x02 ∷ 0x03 ∷ 0x00 ∷ []

-- CLOCK 1, CLOCK 4, ASYNC 1 m, NEXT; the child NEXT.
abbrev lending : ℕ → List ℕ
lending m = 0x02 ∷ 0x02 ∷ 0x01 ∷ 0x02 ∷ 0x04 ∷ 0x05 ∷ 0x01 ∷ m ∷ 0x01 ∷ 0x00 ∷ 0x01 ∷ 0x00 ∷ []

abbrev resumed : List ℕ
resumed = 0x01 ∷ 0x02 ∷ 0x02 ∷ 0x03 ∷ 0x02 ∷ 0x03 ∷ 0x02 ∷ 0x01 ∷ 0x00 ∷ []

unfoldable pub naming : List Run
naming =
    -- ACC, OFFER, READ and RESET under names 3 and 7: ACC 3 0, ACC 7 2, PUT 5, OFFER 7, PUT 7, OFFER 3, OFFER 3, READ 7, STORE 4, READ 3, STORE 2, PUT 2,
    -- RESET 7.
    record {
      table = 0x01 ∷ 0x08 ∷ 0x03 ∷ 0x00 ∷ 0x08 ∷ 0x07 ∷ 0x02 ∷ 0x0C ∷ 0x05 ∷ 0x00 ∷ 0x00 ∷ 0x00 ∷ 0x09 ∷ 0x07 ∷ 0x0C ∷ 0x07 ∷ 0x00 ∷ 0x00 ∷ 0x00
          ∷ 0x09 ∷ 0x03 ∷ 0x09 ∷ 0x03 ∷ 0x0A ∷ 0x07 ∷ 0x0E ∷ 0x04 ∷ 0x0A ∷ 0x03 ∷ 0x0E ∷ 0x02 ∷ 0x0C ∷ 0x02 ∷ 0x00 ∷ 0x00 ∷ 0x00 ∷ 0x0B ∷ 0x07 ∷ 0x00 ∷ [];
      order = replicate 13 0;
      answers = replicate 13 running;
      after =
          written 13 0 (0 ∷ 0 ∷ 14 ∷ 0 ∷ 5 ∷ [])
          (activity Running 0 2 (bottom 37 0 ∷ []) [] (0 ∷ 0 ∷ 0 ∷ 1 ∷ 0 ∷ 0 ∷ 0 ∷ 2 ∷ []) ∷ [])
          (holding 14 Sum 0 ∷ holding 2 Maximum 0 ∷ []);
    }
    -- "ACC on a bound name replaces the binding", and no other: ACC 5 0, ACC 2 1, ACC 5 2, PUT 4, OFFER 5, OFFER 2.
    ∷ record {
      table = 0x01 ∷ 0x08 ∷ 0x05 ∷ 0x00 ∷ 0x08 ∷ 0x02 ∷ 0x01 ∷ 0x08 ∷ 0x05 ∷ 0x02 ∷ 0x0C ∷ 0x04 ∷ 0x00 ∷ 0x00 ∷ 0x00 ∷ 0x09 ∷ 0x05 ∷ 0x09 ∷ 0x02 ∷ 0x00 ∷ [];
      order = replicate 6 0;
      answers = replicate 6 running;
      after =
          written 6 0 [] (activity Running 0 4 (bottom 18 0 ∷ []) [] (0 ∷ 0 ∷ 2 ∷ 0 ∷ 0 ∷ 3 ∷ []) ∷ [])
          (holding 0 Sum 0 ∷ holding 4 Minimum 0 ∷ holding 4 Maximum 0 ∷ []);
    }
    -- CLOCK under names 2 and 5; RESUME of the second leaves the first as it was.
    ∷ record {
      table = two_clocks;
      order = replicate 3 0;
      answers = replicate 3 running;
      after = written 3 2 [] (activity Running 0 0 (bottom 6 0 ∷ []) (free 2 ++ (hold_on 0 0 Live ∷ free 2 ++ (hold_on 0 1 Quiesced ∷ []))) [] ∷ []) [];
    }
    -- DROP of the first leaves the second as it was; the next clock has the next number.
    ∷ record {
      table = two_clocks;
      order = replicate 5 0;
      answers = replicate 5 running;
      after = written 5 3 [] (activity Running 0 0 (bottom 10 0 ∷ []) (free 3 ++ (hold_on 0 2 Live ∷ no_hold ∷ hold_on 0 1 Quiesced ∷ [])) [] ∷ []) [];
    }
    -- The other way round: CLOCK 1, CLOCK 6, RESUME 1, DROP 6.
    ∷ record {
      table = 0x01 ∷ 0x02 ∷ 0x01 ∷ 0x02 ∷ 0x06 ∷ 0x03 ∷ 0x01 ∷ 0x04 ∷ 0x06 ∷ 0x00 ∷ [];
      order = replicate 4 0;
      answers = replicate 4 running;
      after = written 4 2 [] (activity Running 0 0 (bottom 8 0 ∷ []) (free 1 ++ (hold_on 0 0 Quiesced ∷ [])) [] ∷ []) [];
    }
    -- Main waits on the second of two own clocks, under name 4; then both its phases rise, and the child's stays.
    ∷ record {
      table = lending 0x10;
      order = 0 ∷ 0 ∷ 0 ∷ 0 ∷ 0 ∷ 1 ∷ 0 ∷ [];
      answers = running ∷ running ∷ running ∷ at_barrier ∷ waits ∷ at_barrier ∷ running ∷ [];
      after =
          written 6 2 []
          (activity Running 0 0 (bottom 8 0 ∷ []) (free 1 ++ (hold_on 1 0 Live ∷ free 2 ++ (hold_on 1 1 Live ∷ []))) []
          ∷ activity AtBarrier 0 0 (bottom 0 1 ∷ []) (free 4 ++ (hold_on 0 1 Quiesced ∷ [])) []
          ∷ [])
          [];
    }
    -- And on the first of two, under name 1.
    ∷ record {
      table = lending 0x02;
      order = 0 ∷ 0 ∷ 0 ∷ 0 ∷ 0 ∷ [];
      answers = running ∷ running ∷ running ∷ at_barrier ∷ waits ∷ [];
      after =
          written 4 2 []
          (activity AtBarrier 0 0 (bottom 7 0 ∷ []) (free 1 ++ (hold_on 0 0 Quiesced ∷ free 2 ++ (hold_on 0 1 Quiesced ∷ []))) []
          ∷ activity Running 0 0 (bottom 0 1 ∷ []) (free 1 ++ (hold_on 0 0 Live ∷ [])) []
          ∷ [])
          [];
    }
    -- A clock under the last name: main waits for the child that holds it under the same.
    ∷ record {
      table = 0x02 ∷ 0x02 ∷ 0x07 ∷ 0x05 ∷ 0x01 ∷ 0x80 ∷ 0x01 ∷ 0x00 ∷ 0x01 ∷ 0x00 ∷ [];
      order = 0 ∷ 0 ∷ 0 ∷ 0 ∷ [];
      answers = running ∷ running ∷ at_barrier ∷ waits ∷ [];
      after =
          written 3 1 []
          (activity AtBarrier 0 0 (bottom 5 0 ∷ []) (free 7 ++ (hold_on 0 0 Quiesced ∷ [])) []
          ∷ activity Running 0 0 (bottom 0 1 ∷ []) (free 7 ++ (hold_on 0 0 Live ∷ [])) []
          ∷ [])
          [];
    }
    -- Nobody waits on a clock that it does not hold: CLOCK 1, CLOCK 4, ASYNC 1 2, DROP 1, NEXT.
    ∷ record {
      table = 0x02 ∷ 0x02 ∷ 0x01 ∷ 0x02 ∷ 0x04 ∷ 0x05 ∷ 0x01 ∷ 0x02 ∷ 0x04 ∷ 0x01 ∷ 0x01 ∷ 0x00 ∷ 0x01 ∷ 0x00 ∷ [];
      order = replicate 6 0;
      answers = replicate 4 running ++ (at_barrier ∷ running ∷ []);
      after =
          written 6 2 []
          (activity Running 0 0 (bottom 10 0 ∷ []) (free 4 ++ (hold_on 1 1 Live ∷ [])) []
          ∷ activity Running 0 0 (bottom 0 1 ∷ []) (free 1 ++ (hold_on 0 0 Live ∷ [])) []
          ∷ [])
          [];
    }
    -- RESUME c: "quiesce on c; again changes nothing". CLOCK 2, RESUME 2, RESUME 2; then NEXT.
    ∷ record {
      table = resumed;
      order = replicate 4 0;
      answers = running ∷ running ∷ running ∷ at_barrier ∷ [];
      after = written 4 1 [] (activity AtBarrier 0 0 (bottom 6 0 ∷ []) (free 2 ++ (hold_on 0 0 Quiesced ∷ [])) [] ∷ []) [];
    }
    ∷ record {
      table = resumed;
      order = replicate 5 0;
      answers = running ∷ running ∷ running ∷ at_barrier ∷ running ∷ [];
      after = written 5 1 [] (activity Running 0 0 (bottom 7 0 ∷ []) (free 2 ++ (hold_on 1 0 Live ∷ [])) [] ∷ []) [];
    }
    ∷ []

-- FAULTS

-- A single activity, faulted, with no clock and no accumulator name.
abbrev alone : ℕ → ℕ → Fault → State
alone steps clocks f = written steps clocks [] (activity (Faulted f) 0 0 [] [] [] ∷ []) []

-- A run of main alone, whose last step faults.
abbrev breach : List ℕ → ℕ → Fault → State → Run
breach table before f after = record { table = table; order = replicate (before + 1) 0; answers = replicate before running ++ (faulted f ∷ []); after = after }

-- CLOCK 7, RESUME 7, ACC 2 0, and the command given under name 2.
abbrev quiesced_reader : ℕ → List ℕ
quiesced_reader op = 0x01 ∷ 0x02 ∷ 0x07 ∷ 0x03 ∷ 0x07 ∷ 0x08 ∷ 0x02 ∷ 0x00 ∷ op ∷ 0x02 ∷ 0x00 ∷ []

abbrev quiesced_reads : State
quiesced_reads = written 4 1 [] (activity (Faulted F7) 0 0 [] [] (0 ∷ 0 ∷ 1 ∷ []) ∷ []) (holding 0 Sum 0 ∷ [])

unfoldable pub faulting : List Run
faulting =
    -- "drops its clocks, changes nothing else but the steps taken": ACC 4 2, PUT 3, CLOCK 6, OFFER 4, STORE 9, RESUME 1. The hand, the accumulator names and what
    -- they name stay.
    breach (0x01 ∷ 0x08 ∷ 0x04 ∷ 0x02 ∷ 0x0C ∷ 0x03 ∷ 0x00 ∷ 0x00 ∷ 0x00 ∷ 0x02 ∷ 0x06 ∷ 0x09 ∷ 0x04 ∷ 0x0E ∷ 0x09 ∷ 0x03 ∷ 0x01 ∷ 0x00 ∷ []) 5 F1
    (written 6 1 (replicate 9 0 ++ (3 ∷ [])) (activity (Faulted F1) 0 3 [] [] (0 ∷ 0 ∷ 0 ∷ 0 ∷ 1 ∷ []) ∷ []) (holding 3 Maximum 0 ∷ []))
    -- F1 where another clock is held: DROP 2; ASYNC of names 0 and 7.
    ∷ breach (0x01 ∷ 0x02 ∷ 0x01 ∷ 0x04 ∷ 0x02 ∷ 0x00 ∷ []) 1 F1 (alone 2 1 F1)
    ∷ breach (0x02 ∷ 0x02 ∷ 0x00 ∷ 0x05 ∷ 0x01 ∷ 0x81 ∷ 0x00 ∷ 0x00 ∷ []) 1 F1 (alone 2 1 F1)
    -- F2 where another clock of m is live: CLOCK 0, CLOCK 7, RESUME 7, ASYNC of both.
    ∷ breach (0x02 ∷ 0x02 ∷ 0x00 ∷ 0x02 ∷ 0x07 ∷ 0x03 ∷ 0x07 ∷ 0x05 ∷ 0x01 ∷ 0x81 ∷ 0x00 ∷ 0x00 ∷ []) 3 F2 (alone 4 2 F2)
    -- F3 where F2 would apply: CLOCK 0, RESUME 0, FINISH of ASYNC 2 1.
    ∷ breach (0x03 ∷ 0x02 ∷ 0x00 ∷ 0x03 ∷ 0x00 ∷ 0x06 ∷ 0x01 ∷ 0x00 ∷ 0x05 ∷ 0x02 ∷ 0x01 ∷ 0x00 ∷ 0x00 ∷ []) 3 F3 (alone 4 1 F3)
    -- F4 on a quiesced name.
    ∷ breach (0x01 ∷ 0x02 ∷ 0x03 ∷ 0x03 ∷ 0x03 ∷ 0x02 ∷ 0x03 ∷ 0x00 ∷ []) 2 F4 (alone 3 1 F4)
    -- F5 where F7 would apply: CLOCK 1, READ 5; CLOCK 1, RESET 5.
    ∷ breach (0x01 ∷ 0x02 ∷ 0x01 ∷ 0x0A ∷ 0x05 ∷ 0x00 ∷ []) 1 F5 (alone 2 1 F5)
    ∷ breach (0x01 ∷ 0x02 ∷ 0x01 ∷ 0x0B ∷ 0x05 ∷ 0x00 ∷ []) 1 F5 (alone 2 1 F5)
    -- F5 by a child, beside an accumulator of another's that it has under name 0.
    ∷ record {
      table = 0x02 ∷ 0x08 ∷ 0x00 ∷ 0x00 ∷ 0x05 ∷ 0x01 ∷ 0x00 ∷ 0x00 ∷ 0x0A ∷ 0x05 ∷ 0x00 ∷ [];
      order = 0 ∷ 0 ∷ 1 ∷ [];
      answers = running ∷ running ∷ faulted F5 ∷ [];
      after = written 3 0 [] (activity Running 0 0 (bottom 6 0 ∷ []) [] (1 ∷ []) ∷ activity (Faulted F5) 0 0 [] [] (1 ∷ []) ∷ []) (holding 0 Sum 0 ∷ []);
    }
    -- F6 under name 1, beside an accumulator of its own under name 0, which it may READ: main ACC 4 0, ACC 1 1, ASYNC; the child ACC 0 2, READ 0, RESET 1.
    ∷ record {
      table = 0x02 ∷ 0x08 ∷ 0x04 ∷ 0x00 ∷ 0x08 ∷ 0x01 ∷ 0x01 ∷ 0x05 ∷ 0x01 ∷ 0x00 ∷ 0x00 ∷ 0x08 ∷ 0x00 ∷ 0x02 ∷ 0x0A ∷ 0x00 ∷ 0x0B ∷ 0x01 ∷ 0x00 ∷ [];
      order = 0 ∷ 0 ∷ 0 ∷ 1 ∷ 1 ∷ 1 ∷ [];
      answers = running ∷ running ∷ running ∷ running ∷ running ∷ faulted F6 ∷ [];
      after =
          written 6 0 []
          (activity Running 0 0 (bottom 9 0 ∷ []) [] (0 ∷ 2 ∷ 0 ∷ 0 ∷ 1 ∷ []) ∷ activity (Faulted F6) 0 0 [] [] (3 ∷ 2 ∷ 0 ∷ 0 ∷ 1 ∷ []) ∷ [])
          (holding 0 Sum 0 ∷ holding 4294967295 Minimum 0 ∷ holding 0 Maximum 1 ∷ []);
    }
    -- F7 by a quiesced clock under the last name: READ, RESET.
    ∷ breach (quiesced_reader 0x0A) 3 F7 quiesced_reads
    ∷ breach (quiesced_reader 0x0B) 3 F7 quiesced_reads
    -- Only the activity that steps can fault: the child waits while main stands at RESUME 5, and passes once main has faulted.
    ∷ record {
      table = 0x02 ∷ 0x02 ∷ 0x00 ∷ 0x05 ∷ 0x01 ∷ 0x01 ∷ 0x03 ∷ 0x05 ∷ 0x00 ∷ 0x01 ∷ 0x00 ∷ [];
      order = 0 ∷ 0 ∷ 1 ∷ 1 ∷ 0 ∷ 1 ∷ [];
      answers = running ∷ running ∷ at_barrier ∷ waits ∷ faulted F1 ∷ running ∷ [];
      after = written 5 1 [] (activity (Faulted F1) 0 0 [] [] [] ∷ activity Running 0 0 (bottom 1 1 ∷ []) (hold_on 1 0 Live ∷ []) [] ∷ []) [];
    }
    -- No F3 in a REPEAT body alone: CLOCK 2, REPEAT 2 of ASYNC 2 4.
    ∷ record {
      table = 0x03 ∷ 0x02 ∷ 0x02 ∷ 0x07 ∷ 0x02 ∷ 0x01 ∷ 0x00 ∷ 0x05 ∷ 0x02 ∷ 0x04 ∷ 0x00 ∷ 0x01 ∷ 0x00 ∷ [];
      order = replicate 5 0;
      answers = replicate 5 running;
      after =
          written 5 1 []
          (activity Running 0 0 (bottom 2 0 ∷ frame_at 3 1 1 0 ∷ []) (free 2 ++ (hold_on 0 0 Live ∷ [])) []
          ∷ activity Running 0 0 (bottom 0 2 ∷ []) (free 2 ++ (hold_on 0 0 Live ∷ [])) []
          ∷ activity Running 0 0 (bottom 0 2 ∷ []) (free 2 ++ (hold_on 0 0 Live ∷ [])) []
          ∷ [])
          [];
    }
    -- Nor for an activity inside another's finish: the child makes a clock and lends it.
    ∷ record {
      table = 0x04 ∷ 0x06 ∷ 0x01 ∷ 0x00 ∷ 0x05 ∷ 0x02 ∷ 0x00 ∷ 0x00 ∷ 0x02 ∷ 0x05 ∷ 0x05 ∷ 0x03 ∷ 0x20 ∷ 0x00 ∷ 0x01 ∷ 0x00 ∷ [];
      order = 0 ∷ 0 ∷ 1 ∷ 1 ∷ 0 ∷ [];
      answers = running ∷ running ∷ running ∷ running ∷ waits ∷ [];
      after =
          written 4 1 []
          (activity Running 0 0 (bottom 0 0 ∷ frame_at 3 1 0 1 ∷ []) [] []
          ∷ activity Running 0 0 (bottom 5 2 ∷ []) (free 5 ++ (hold_on 0 0 Live ∷ [])) []
          ∷ activity Running 1 0 (bottom 0 3 ∷ []) (free 5 ++ (hold_on 0 0 Live ∷ [])) []
          ∷ [])
          [];
    }
    ∷ []

-- EFFECTS

-- CLOCK 3, ASYNC 1 8, NEXT, NEXT; the child NEXT, NEXT.
abbrev meetings : List ℕ
meetings = 0x02 ∷ 0x02 ∷ 0x03 ∷ 0x05 ∷ 0x01 ∷ 0x08 ∷ 0x01 ∷ 0x01 ∷ 0x00 ∷ 0x01 ∷ 0x01 ∷ 0x00 ∷ []

-- Main has passed the first; both have passed the second.
abbrev first_meeting : List ℕ
first_meeting = 0 ∷ 0 ∷ 0 ∷ 1 ∷ 0 ∷ []

abbrev second_meeting : List ℕ
second_meeting = first_meeting ++ (1 ∷ 0 ∷ 0 ∷ 1 ∷ 1 ∷ 0 ∷ [])

abbrev first_answers : List Answer
first_answers = running ∷ running ∷ at_barrier ∷ at_barrier ∷ running ∷ []

abbrev second_answers : List Answer
second_answers = first_answers ++ (running ∷ at_barrier ∷ waits ∷ at_barrier ∷ running ∷ running ∷ [])

-- The commands of a line of five: ACC 2 0, ASYNC of the next, then the command given under name 2; each of the others but the last spawns the next, and ends.
abbrev family : ℕ → List ℕ
family op =
    0x05 ∷ 0x08 ∷ 0x02 ∷ 0x00 ∷ 0x05 ∷ 0x01 ∷ 0x00 ∷ op ∷ 0x02 ∷ 0x00 ∷ 0x05 ∷ 0x02 ∷ 0x00 ∷ 0x00 ∷ 0x05 ∷ 0x03 ∷ 0x00 ∷ 0x00 ∷ 0x05 ∷ 0x04 ∷ 0x00 ∷ 0x00 ∷ 0x00 ∷ []

-- It waits for the child, then for the great-grandchild and for its child, the others having ended.
abbrev reading : ℕ → Run
reading op =
    record {
      table = family op;
      order = 0 ∷ 0 ∷ 0 ∷ 1 ∷ 1 ∷ 2 ∷ 2 ∷ 0 ∷ 3 ∷ 3 ∷ 0 ∷ 4 ∷ 0 ∷ 0 ∷ [];
      answers = running ∷ running ∷ waits ∷ running ∷ ended ∷ running ∷ ended ∷ waits ∷ running ∷ ended ∷ waits ∷ ended ∷ running ∷ ended ∷ [];
      after =
          written 11 0 []
          (activity Ended 0 0 [] [] (0 ∷ 0 ∷ 1 ∷ [])
          ∷ activity Ended 0 0 [] [] (0 ∷ 0 ∷ 1 ∷ [])
          ∷ activity Ended 1 0 [] [] (0 ∷ 0 ∷ 1 ∷ [])
          ∷ activity Ended 2 0 [] [] (0 ∷ 0 ∷ 1 ∷ [])
          ∷ activity Ended 3 0 [] [] (0 ∷ 0 ∷ 1 ∷ [])
          ∷ [])
          (holding 0 Sum 0 ∷ []);
    }

-- ASYNC 3 0, REPEAT 3 of FINISH of ASYNC 3 0; body 3 a bare END.
abbrev finishes : List ℕ
finishes = 0x04 ∷ 0x05 ∷ 0x03 ∷ 0x00 ∷ 0x07 ∷ 0x03 ∷ 0x01 ∷ 0x00 ∷ 0x06 ∷ 0x02 ∷ 0x00 ∷ 0x05 ∷ 0x03 ∷ 0x00 ∷ 0x00 ∷ 0x00 ∷ []

unfoldable pub affected : List Run
affected =
    -- "Arrival quiesces all own clocks. Passing raises each own phase by one and makes each live." Two holders at one meeting and at two.
    record {
      table = meetings;
      order = first_meeting;
      answers = first_answers;
      after =
          written 5 1 []
          (activity Running 0 0 (bottom 6 0 ∷ []) (free 3 ++ (hold_on 1 0 Live ∷ [])) []
          ∷ activity AtBarrier 0 0 (bottom 0 1 ∷ []) (free 3 ++ (hold_on 0 0 Quiesced ∷ [])) []
          ∷ [])
          [];
    }
    ∷ record {
      table = meetings;
      order = first_meeting ++ (1 ∷ []);
      answers = first_answers ++ (running ∷ []);
      after =
          written 6 1 []
          (activity Running 0 0 (bottom 6 0 ∷ []) (free 3 ++ (hold_on 1 0 Live ∷ [])) []
          ∷ activity Running 0 0 (bottom 1 1 ∷ []) (free 3 ++ (hold_on 1 0 Live ∷ [])) []
          ∷ [])
          [];
    }
    -- Each own clock has a phase of its own: CLOCK 0, NEXT, CLOCK 1, NEXT.
    ∷ record {
      table = 0x01 ∷ 0x02 ∷ 0x00 ∷ 0x01 ∷ 0x02 ∷ 0x01 ∷ 0x01 ∷ 0x00 ∷ [];
      order = replicate 6 0;
      answers = running ∷ at_barrier ∷ running ∷ running ∷ at_barrier ∷ running ∷ [];
      after = written 6 2 [] (activity Running 0 0 (bottom 6 0 ∷ []) (hold_on 2 0 Live ∷ hold_on 1 1 Live ∷ []) [] ∷ []) [];
    }
    ∷ record {
      table = meetings;
      order = second_meeting;
      answers = second_answers;
      after =
          written 10 1 []
          (activity Running 0 0 (bottom 7 0 ∷ []) (free 3 ++ (hold_on 2 0 Live ∷ [])) []
          ∷ activity Running 0 0 (bottom 2 1 ∷ []) (free 3 ++ (hold_on 2 0 Live ∷ [])) []
          ∷ [])
          [];
    }
    ∷ record {
      table = meetings;
      order = second_meeting ++ (0 ∷ 1 ∷ 1 ∷ []);
      answers = second_answers ++ (ended ∷ ended ∷ Err (refusal_at 15) ∷ []);
      after = written 12 1 [] (activity Ended 0 0 [] [] [] ∷ activity Ended 0 0 [] [] [] ∷ []) [];
    }
    -- "the clocks of m under the same names, at the spawner's phase, live": CLOCK 1, NEXT, CLOCK 4, CLOCK 6, RESUME 4, ACC 3 1, PUT 8, ASYNC of names 1 and 6.
    ∷ record {
      table = 0x02 ∷ 0x02 ∷ 0x01 ∷ 0x01 ∷ 0x02 ∷ 0x04 ∷ 0x02 ∷ 0x06 ∷ 0x03 ∷ 0x04 ∷ 0x08 ∷ 0x03 ∷ 0x01 ∷ 0x0C ∷ 0x08 ∷ 0x00 ∷ 0x00 ∷ 0x00 ∷ 0x05
          ∷ 0x01 ∷ 0x42 ∷ 0x00 ∷ 0x00 ∷ [];
      order = replicate 9 0;
      answers = running ∷ at_barrier ∷ replicate 7 running;
      after =
          written 9 3 []
          (activity Running 0 8 (bottom 20 0 ∷ []) (no_hold ∷ hold_on 1 0 Live ∷ no_hold ∷ no_hold ∷ hold_on 0 1 Quiesced ∷ no_hold ∷ hold_on 0 2 Live ∷ []) (0 ∷ 0 ∷ 0 ∷ 1 ∷ [])
          ∷ activity Running 0 8 (bottom 0 1 ∷ []) (no_hold ∷ hold_on 1 0 Live ∷ free 4 ++ (hold_on 0 2 Live ∷ [])) (0 ∷ 0 ∷ 0 ∷ 1 ∷ [])
          ∷ [])
          (holding 4294967295 Minimum 0 ∷ []);
    }
    -- A child's own ACC on a name that it got, its READ and its RESET: main ACC 1 0, ASYNC; the child PUT 6, OFFER 1, ACC 1 1, OFFER 1, ACC 5 2, READ 5, READ 1,
    -- RESET 5.
    ∷ record {
      table = 0x02 ∷ 0x08 ∷ 0x01 ∷ 0x00 ∷ 0x05 ∷ 0x01 ∷ 0x00 ∷ 0x00 ∷ 0x0C ∷ 0x06 ∷ 0x00 ∷ 0x00 ∷ 0x00 ∷ 0x09 ∷ 0x01 ∷ 0x08 ∷ 0x01 ∷ 0x01 ∷ 0x09 ∷ 0x01
          ∷ 0x08 ∷ 0x05 ∷ 0x02 ∷ 0x0A ∷ 0x05 ∷ 0x0A ∷ 0x01 ∷ 0x0B ∷ 0x05 ∷ 0x00 ∷ [];
      order = 0 ∷ 0 ∷ replicate 8 1;
      answers = replicate 10 running;
      after =
          written 10 0 []
          (activity Running 0 0 (bottom 6 0 ∷ []) [] (0 ∷ 1 ∷ []) ∷ activity Running 0 6 (bottom 21 1 ∷ []) [] (0 ∷ 2 ∷ 0 ∷ 0 ∷ 0 ∷ 3 ∷ []) ∷ [])
          (holding 6 Sum 0 ∷ holding 6 Minimum 1 ∷ holding 6 Maximum 1 ∷ []);
    }
    -- RESET a: "a's value becomes hand", of a minimum too, which stays one. ACC 2 1, PUT 5, OFFER 2, PUT 9, RESET 2, PUT 12, OFFER 2.
    ∷ record {
      table = 0x01 ∷ 0x08 ∷ 0x02 ∷ 0x01 ∷ 0x0C ∷ 0x05 ∷ 0x00 ∷ 0x00 ∷ 0x00 ∷ 0x09 ∷ 0x02 ∷ 0x0C ∷ 0x09 ∷ 0x00 ∷ 0x00 ∷ 0x00 ∷ 0x0B ∷ 0x02 ∷ 0x0C
          ∷ 0x0C ∷ 0x00 ∷ 0x00 ∷ 0x00 ∷ 0x09 ∷ 0x02 ∷ 0x00 ∷ [];
      order = replicate 7 0;
      answers = replicate 7 running;
      after = written 7 0 [] (activity Running 0 12 (bottom 24 0 ∷ []) [] (0 ∷ 0 ∷ 1 ∷ []) ∷ []) (holding 9 Minimum 0 ∷ []);
    }
    -- ATOM with several cells and all three kinds: PUT 7, STORE 9, PUT 4, ATOM 6 of ADD 2, STORE 11, FETCH 9, ADD 2, FETCH 2, ADD 15.
    ∷ record {
      table = 0x01 ∷ 0x0C ∷ 0x07 ∷ 0x00 ∷ 0x00 ∷ 0x00 ∷ 0x0E ∷ 0x09 ∷ 0x0C ∷ 0x04 ∷ 0x00 ∷ 0x00 ∷ 0x00 ∷ 0x10 ∷ 0x06 ∷ 0x0F ∷ 0x02 ∷ 0x0E ∷ 0x0B
          ∷ 0x0D ∷ 0x09 ∷ 0x0F ∷ 0x02 ∷ 0x0D ∷ 0x02 ∷ 0x0F ∷ 0x0F ∷ 0x00 ∷ [];
      order = replicate 4 0;
      answers = replicate 4 running;
      after =
          written 4 0 (0 ∷ 0 ∷ 11 ∷ 0 ∷ 0 ∷ 0 ∷ 0 ∷ 0 ∷ 0 ∷ 7 ∷ 0 ∷ 4 ∷ 0 ∷ 0 ∷ 0 ∷ 11 ∷ []) (activity Running 0 11 (bottom 26 0 ∷ []) [] [] ∷ []) [];
    }
    -- READ and RESET wait for a great-grandchild, and for its child.
    ∷ reading 0x0A
    ∷ reading 0x0B
    -- In a FINISH body that a REPEAT body runs: `first` and the runs left. The END waits for activity 2, inside, and not for activity 1.
    ∷ record {
      table = finishes;
      order = 0 ∷ 0 ∷ 0 ∷ 0 ∷ 0 ∷ [];
      answers = running ∷ running ∷ running ∷ running ∷ waits ∷ [];
      after =
          written 4 0 []
          (activity Running 0 0 (bottom 3 0 ∷ frame_at 0 1 3 0 ∷ frame_at 3 2 0 2 ∷ []) [] []
          ∷ activity Running 0 0 (bottom 0 3 ∷ []) [] []
          ∷ activity Running 0 0 (bottom 0 3 ∷ []) [] []
          ∷ [])
          [];
    }
    -- Once activity 2 has ended, the body of REPEAT goes on, ends, and runs again.
    ∷ record {
      table = finishes;
      order = 0 ∷ 0 ∷ 0 ∷ 0 ∷ 2 ∷ 0 ∷ [];
      answers = running ∷ running ∷ running ∷ running ∷ ended ∷ running ∷ [];
      after =
          written 6 0 []
          (activity Running 0 0 (bottom 3 0 ∷ frame_at 2 1 3 0 ∷ []) [] [] ∷ activity Running 0 0 (bottom 0 3 ∷ []) [] [] ∷ activity Ended 0 0 [] [] [] ∷ [])
          [];
    }
    ∷ record {
      table = finishes;
      order = 0 ∷ 0 ∷ 0 ∷ 0 ∷ 2 ∷ 0 ∷ 0 ∷ 0 ∷ [];
      answers = running ∷ running ∷ running ∷ running ∷ ended ∷ running ∷ running ∷ running ∷ [];
      after =
          written 8 0 []
          (activity Running 0 0 (bottom 3 0 ∷ frame_at 0 1 2 0 ∷ frame_at 0 2 0 3 ∷ []) [] []
          ∷ activity Running 0 0 (bottom 0 3 ∷ []) [] []
          ∷ activity Ended 0 0 [] [] []
          ∷ [])
          [];
    }
    -- A finish whose owner is not main: main ASYNC 1 0; the child FINISH of ASYNC 3 0; the grandchild ASYNC 4 0. It waits for both that are inside.
    ∷ record {
      table = 0x05 ∷ 0x05 ∷ 0x01 ∷ 0x00 ∷ 0x00 ∷ 0x06 ∷ 0x02 ∷ 0x00 ∷ 0x05 ∷ 0x03 ∷ 0x00 ∷ 0x00 ∷ 0x05 ∷ 0x04 ∷ 0x00 ∷ 0x00 ∷ 0x00 ∷ [];
      order = 0 ∷ 1 ∷ 1 ∷ 1 ∷ 2 ∷ 2 ∷ 1 ∷ 3 ∷ 1 ∷ [];
      answers = running ∷ running ∷ running ∷ waits ∷ running ∷ ended ∷ waits ∷ ended ∷ running ∷ [];
      after =
          written 7 0 []
          (activity Running 0 0 (bottom 3 0 ∷ []) [] []
          ∷ activity Running 0 0 (bottom 2 1 ∷ []) [] []
          ∷ activity Ended 1 0 [] [] []
          ∷ activity Ended 2 0 [] [] []
          ∷ [])
          [];
    }
    -- No other command but READ and RESET waits for who is inside: in a FINISH body ASYNC 2 0, PUT 5, CLOCK 1, RESUME 1, DROP 1, ACC 1 0, OFFER 1, STORE 1, FETCH 1, ADD 1, ATOM 1 of ADD 2,
    -- NEXT, REPEAT 0 2, REPEAT 1 2 and its END, FINISH 2 and its END; only then the END waits.
    ∷ record {
      table = 0x03 ∷ 0x06 ∷ 0x01 ∷ 0x00 ∷ 0x05 ∷ 0x02 ∷ 0x00 ∷ 0x0C ∷ 0x05 ∷ 0x00 ∷ 0x00 ∷ 0x00 ∷ 0x02 ∷ 0x01 ∷ 0x03 ∷ 0x01 ∷ 0x04 ∷ 0x01 ∷ 0x08
          ∷ 0x01 ∷ 0x00 ∷ 0x09 ∷ 0x01 ∷ 0x0E ∷ 0x01 ∷ 0x0D ∷ 0x01 ∷ 0x0F ∷ 0x01 ∷ 0x10 ∷ 0x01 ∷ 0x0F ∷ 0x02 ∷ 0x01 ∷ 0x07 ∷ 0x00 ∷ 0x02 ∷ 0x07
          ∷ 0x01 ∷ 0x02 ∷ 0x06 ∷ 0x02 ∷ 0x00 ∷ 0x00 ∷ [];
      order = replicate 20 0;
      answers = replicate 12 running ++ (at_barrier ∷ replicate 6 running ++ (waits ∷ []));
      after =
          written 19 1 (0 ∷ 10 ∷ 5 ∷ [])
          (activity Running 0 5 (bottom 0 0 ∷ frame_at 38 1 0 1 ∷ []) [] (0 ∷ 1 ∷ []) ∷ activity Running 0 0 (bottom 0 2 ∷ []) [] [] ∷ [])
          (holding 5 Sum 0 ∷ []);
    }
    -- A second STORE, and second OFFERs: ACC 1 2, ACC 2 1, PUT 3, OFFER 1, STORE 6, PUT 9, OFFER 2, PUT 7, OFFER 1, OFFER 2, STORE 6.
    ∷ record {
      table = 0x01 ∷ 0x08 ∷ 0x01 ∷ 0x02 ∷ 0x08 ∷ 0x02 ∷ 0x01 ∷ 0x0C ∷ 0x03 ∷ 0x00 ∷ 0x00 ∷ 0x00 ∷ 0x09 ∷ 0x01 ∷ 0x0E ∷ 0x06 ∷ 0x0C ∷ 0x09 ∷ 0x00
          ∷ 0x00 ∷ 0x00 ∷ 0x09 ∷ 0x02 ∷ 0x0C ∷ 0x07 ∷ 0x00 ∷ 0x00 ∷ 0x00 ∷ 0x09 ∷ 0x01 ∷ 0x09 ∷ 0x02 ∷ 0x0E ∷ 0x06 ∷ 0x00 ∷ [];
      order = replicate 11 0;
      answers = replicate 11 running;
      after =
          written 11 0 (replicate 6 0 ++ (7 ∷ [])) (activity Running 0 7 (bottom 33 0 ∷ []) [] (0 ∷ 1 ∷ 2 ∷ []) ∷ []) (holding 7 Maximum 0 ∷ holding 7 Minimum 0 ∷ []);
    }
    -- With sixteen accumulators and sixteen clocks made, a command that makes none is not turned down with 17: REPEAT 16 of ACC 3 0, CLOCK 2, DROP 2; PUT 9, OFFER 3, PUT 4, RESET 3.
    ∷ record {
      table = 0x02 ∷ 0x07 ∷ 0x10 ∷ 0x01 ∷ 0x0C ∷ 0x09 ∷ 0x00 ∷ 0x00 ∷ 0x00 ∷ 0x09 ∷ 0x03 ∷ 0x0C ∷ 0x04 ∷ 0x00 ∷ 0x00 ∷ 0x00 ∷ 0x0B ∷ 0x03 ∷ 0x00
          ∷ 0x08 ∷ 0x03 ∷ 0x00 ∷ 0x02 ∷ 0x02 ∷ 0x04 ∷ 0x02 ∷ 0x00 ∷ [];
      order = replicate 69 0;
      answers = replicate 69 running;
      after = written 69 16 [] (activity Running 0 4 (bottom 17 0 ∷ []) [] (0 ∷ 0 ∷ 0 ∷ 16 ∷ []) ∷ []) (replicate 15 (holding 0 Sum 0) ++ (holding 4 Sum 0 ∷ []));
    }
    ∷ []
