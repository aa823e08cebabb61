-- Cases of our own: a body under a condition. Runs with the whole state after them, what a run spares, and states made by hand.
use Rattle.std.specs.Prelude.{ℕ, List, [], ◌∷◌, ◌++◌, Bool, true, false, ◌&&◌, replicate, eqb}
use Rattle.program.specs.Same.{same_bool}
use Rattle.rules.specs.declared.state.Fault.TheVariants.{F1, F3, F8}
use Rattle.rules.specs.declared.state.Status.TheVariants.{Running, AtBarrier, Ended, Faulted}
use Rattle.rules.specs.declared.state.Registration.TheVariants.{Live, Quiesced}
use Rattle.rules.specs.declared.state.Operator.TheVariants.{Sum, Minimum, Maximum}
use Rattle.rules.specs.declared.state.Frame.{Frame}
use Rattle.rules.specs.declared.state.Hold.{Hold}
use Rattle.rules.specs.declared.state.Activity.{Activity}
use Rattle.rules.specs.declared.state.State.{State}
use Rattle.rules.specs.State.{no_frame, no_hold}
use Rattle.rules.specs.Effects.{with_frames}
use Rattle.rules.specs.Steps.{base}
use Rattle.rules.specs.Runs.{spared, all_ran}
use Rattle.rules.specs.Written.{frame_at, bottom, hold_on, holding, activity, written, with_status, change, crowded}
use Rattle.rules.specs.Cases.{Case}
use Rattle.rules.specs.CasesStates.{Broken}
use Rattle.rules.specs.CasesCalls.{Handed, refused, accepted}
use Rattle.rules.specs.CasesRuns.{Run, running, at_barrier, ended, faulted, waits}
use Rattle.rules.specs.CasesAwaited.{Asked, asks}

-- TABLES

-- CHOOSE 1; body 1 is a bare END.
abbrev alone : List ℕ
alone = 0x02 ∷ 0x11 ∷ 0x01 ∷ 0x00 ∷ 0x00 ∷ []

-- PUT 9, ASYNC 1 0, PUT 0, CHOOSE 2; body 1 CHOOSE 2; body 2 PUT 4, STORE 3. Main skips body 2, and its child, which has hand 9, runs it.
abbrev own_hand : List ℕ
own_hand = 0x03 ∷ 0x0C ∷ 0x09 ∷ 0x00 ∷ 0x00 ∷ 0x00 ∷ 0x05 ∷ 0x01 ∷ 0x00 ∷ 0x0C ∷ 0x00 ∷ 0x00 ∷ 0x00 ∷ 0x00 ∷ 0x11 ∷ 0x02 ∷ 0x00 ∷ 0x11 ∷ 0x02 ∷ 0x00 ∷ 0x0C ∷ 0x04 ∷ 0x00 ∷ 0x00 ∷ 0x00 ∷ 0x0E ∷ 0x03 ∷ 0x00 ∷ []

-- PUT 256, CHOOSE 1; body 1 PUT 0, CHOOSE 2, PUT 7, CHOOSE 2; body 2 STORE 5.
abbrev within : List ℕ
within = 0x03 ∷ 0x0C ∷ 0x00 ∷ 0x01 ∷ 0x00 ∷ 0x00 ∷ 0x11 ∷ 0x01 ∷ 0x00 ∷ 0x0C ∷ 0x00 ∷ 0x00 ∷ 0x00 ∷ 0x00 ∷ 0x11 ∷ 0x02 ∷ 0x0C ∷ 0x07 ∷ 0x00 ∷ 0x00 ∷ 0x00 ∷ 0x11 ∷ 0x02 ∷ 0x00 ∷ 0x0E ∷ 0x05 ∷ 0x00 ∷ []

-- REPEAT 2 1; body 1 CHOOSE 2, PUT 5; body 2 is a bare END.
abbrev rounds : List ℕ
rounds = 0x03 ∷ 0x07 ∷ 0x02 ∷ 0x01 ∷ 0x00 ∷ 0x11 ∷ 0x02 ∷ 0x0C ∷ 0x05 ∷ 0x00 ∷ 0x00 ∷ 0x00 ∷ 0x00 ∷ 0x00 ∷ []

-- CLOCK 3, CLOCK 6, PUT 1, CHOOSE 1, NEXT; body 1 ASYNC 2 40, NEXT; body 2 NEXT.
abbrev lending : List ℕ
lending = 0x03 ∷ 0x02 ∷ 0x03 ∷ 0x02 ∷ 0x06 ∷ 0x0C ∷ 0x01 ∷ 0x00 ∷ 0x00 ∷ 0x00 ∷ 0x11 ∷ 0x01 ∷ 0x01 ∷ 0x00 ∷ 0x05 ∷ 0x02 ∷ 0x40 ∷ 0x01 ∷ 0x00 ∷ 0x01 ∷ 0x00 ∷ []

-- PUT 1, FINISH 1; body 1 CHOOSE 2; body 2 ASYNC 3 0; body 3 is a bare END.
abbrev in_finish : List ℕ
in_finish = 0x04 ∷ 0x0C ∷ 0x01 ∷ 0x00 ∷ 0x00 ∷ 0x00 ∷ 0x06 ∷ 0x01 ∷ 0x00 ∷ 0x11 ∷ 0x02 ∷ 0x00 ∷ 0x05 ∷ 0x03 ∷ 0x00 ∷ 0x00 ∷ 0x00 ∷ []

-- PUT 8, STORE 2, CLOCK 3, CLOCK 6, RESUME 6, ACC 5 2, CHOOSE 1, PUT 0, CHOOSE 1; body 1 is a bare END.
abbrev holder : List ℕ
holder = 0x02 ∷ 0x0C ∷ 0x08 ∷ 0x00 ∷ 0x00 ∷ 0x00 ∷ 0x0E ∷ 0x02 ∷ 0x02 ∷ 0x03 ∷ 0x02 ∷ 0x06 ∷ 0x03 ∷ 0x06 ∷ 0x08 ∷ 0x05 ∷ 0x02 ∷ 0x11 ∷ 0x01 ∷ 0x0C ∷ 0x00 ∷ 0x00 ∷ 0x00 ∷ 0x00 ∷ 0x11 ∷ 0x01 ∷ 0x00 ∷ 0x00 ∷ []

-- PUT 1, FINISH 1; body 1 CHOOSE 2; body 2 ASYNC 3 0; body 3 RESUME 4.
abbrev faulty : List ℕ
faulty = 0x04 ∷ 0x0C ∷ 0x01 ∷ 0x00 ∷ 0x00 ∷ 0x00 ∷ 0x06 ∷ 0x01 ∷ 0x00 ∷ 0x11 ∷ 0x02 ∷ 0x00 ∷ 0x05 ∷ 0x03 ∷ 0x00 ∷ 0x00 ∷ 0x03 ∷ 0x04 ∷ 0x00 ∷ []

abbrev free : ℕ → List Hold
free n = replicate n no_hold

-- CLOCK 3, CLOCK 6, RESUME 6, ACC 2 1, ASYNC 3 8, FINISH 1; body 1 ASYNC 3 0, CHOOSE 2; body 3 CHOOSE 4; bodies 2 and 4 are bare ENDs. With hand 0, and with PUT 1 before it.
abbrev crowded_finish : List ℕ
crowded_finish = 0x05 ∷ 0x02 ∷ 0x03 ∷ 0x02 ∷ 0x06 ∷ 0x03 ∷ 0x06 ∷ 0x08 ∷ 0x02 ∷ 0x01 ∷ 0x05 ∷ 0x03 ∷ 0x08 ∷ 0x06 ∷ 0x01 ∷ 0x00 ∷ 0x05 ∷ 0x03 ∷ 0x00 ∷ 0x11 ∷ 0x02 ∷ 0x00 ∷ 0x00 ∷ 0x11 ∷ 0x04 ∷ 0x00 ∷ 0x00 ∷ []

abbrev crowded_finish_one : List ℕ
crowded_finish_one = 0x05 ∷ 0x0C ∷ 0x01 ∷ 0x00 ∷ 0x00 ∷ 0x00 ∷ 0x02 ∷ 0x03 ∷ 0x02 ∷ 0x06 ∷ 0x03 ∷ 0x06 ∷ 0x08 ∷ 0x02 ∷ 0x01 ∷ 0x05 ∷ 0x03 ∷ 0x08 ∷ 0x06 ∷ 0x01 ∷ 0x00 ∷ 0x05 ∷ 0x03 ∷ 0x00 ∷ 0x11 ∷ 0x02 ∷ 0x00 ∷ 0x00 ∷ 0x11 ∷ 0x04 ∷ 0x00 ∷ 0x00 ∷ []

-- Main in its body 1, and a child at a place of body 3.
abbrev owner : ℕ → List Frame → Activity
owner hand frames = activity Running 0 hand frames (free 3 ++ (hold_on 0 0 Live ∷ free 2 ++ (hold_on 0 1 Quiesced ∷ []))) (0 ∷ 0 ∷ 1 ∷ [])

abbrev inside : ℕ → ℕ → List Hold → Activity
inside hand offset holds = activity Running 0 hand (bottom offset 3 ∷ []) holds (0 ∷ 0 ∷ 1 ∷ [])

-- RUNS

unfoldable pub chosen : List Run
chosen =
    -- Hand 0: one step, past the command.
    record {
      table = alone;
      order = 0 ∷ [];
      answers = running ∷ [];
      after = written 1 0 [] (activity Running 0 0 (bottom 2 0 ∷ []) [] [] ∷ []) [];
    }
    -- Hand 2^31: one step, into the body.
    ∷ record {
      table = 0x02 ∷ 0x0C ∷ 0x00 ∷ 0x00 ∷ 0x00 ∷ 0x80 ∷ 0x11 ∷ 0x01 ∷ 0x00 ∷ 0x00 ∷ [];
      order = 0 ∷ 0 ∷ [];
      answers = running ∷ running ∷ [];
      after = written 2 0 [] (activity Running 0 2147483648 (bottom 5 0 ∷ frame_at 0 1 0 0 ∷ []) [] [] ∷ []) [];
    }
    -- The own hand decides: main's is 0, its child's is 9.
    ∷ record {
      table = own_hand;
      order = replicate 4 0 ++ (1 ∷ 1 ∷ []);
      answers = replicate 6 running;
      after = written 6 0 [] (activity Running 0 0 (bottom 15 0 ∷ []) [] [] ∷ activity Running 0 4 (bottom 0 1 ∷ frame_at 5 2 0 0 ∷ []) [] [] ∷ []) [];
    }
    -- To the end: the child goes on after its CHOOSE.
    ∷ record {
      table = own_hand;
      order = replicate 4 0 ++ (1 ∷ 1 ∷ 1 ∷ 1 ∷ 1 ∷ 0 ∷ []);
      answers = replicate 8 running ++ (ended ∷ ended ∷ []);
      after = written 10 0 (0 ∷ 0 ∷ 0 ∷ 4 ∷ []) (activity Ended 0 0 [] [] [] ∷ activity Ended 0 4 [] [] [] ∷ []) [];
    }
    -- One in the other, with hand 256, 0 and 7: the inner one is skipped and then run.
    ∷ record {
      table = within;
      order = replicate 6 0;
      answers = replicate 6 running;
      after = written 6 0 [] (activity Running 0 7 (bottom 5 0 ∷ frame_at 12 1 0 0 ∷ frame_at 0 2 0 0 ∷ []) [] [] ∷ []) [];
    }
    -- Each END goes on after its own CHOOSE.
    ∷ record {
      table = within;
      order = replicate 9 0;
      answers = replicate 9 running;
      after = written 9 0 (0 ∷ 0 ∷ 0 ∷ 0 ∷ 0 ∷ 7 ∷ []) (activity Running 0 7 (bottom 7 0 ∷ []) [] [] ∷ []) [];
    }
    -- The body changes the hand: READ gives 5, so body 1 runs; FETCH 9 gives 0, and after its END the same body is skipped. ACC 3 0, PUT 5, OFFER 3, PUT 0, READ 3, CHOOSE 1, CHOOSE 1;
    -- body 1 FETCH 9.
    ∷ record {
      table = 0x02 ∷ 0x08 ∷ 0x03 ∷ 0x00 ∷ 0x0C ∷ 0x05 ∷ 0x00 ∷ 0x00 ∷ 0x00 ∷ 0x09 ∷ 0x03 ∷ 0x0C ∷ 0x00 ∷ 0x00 ∷ 0x00 ∷ 0x00 ∷ 0x0A ∷ 0x03 ∷ 0x11 ∷ 0x01 ∷ 0x11 ∷ 0x01 ∷ 0x00 ∷ 0x0D ∷ 0x09 ∷ 0x00 ∷ [];
      order = replicate 9 0;
      answers = replicate 9 running;
      after = written 9 0 [] (activity Running 0 0 (bottom 21 0 ∷ []) [] (0 ∷ 0 ∷ 0 ∷ 1 ∷ []) ∷ []) (holding 5 Sum 0 ∷ []);
    }
    -- Clocks, names and cells stay as they are: where the body begins,
    ∷ record {
      table = holder;
      order = replicate 7 0;
      answers = replicate 7 running;
      after =
          written 7 2 (0 ∷ 0 ∷ 8 ∷ [])
          (activity Running 0 8 (bottom 16 0 ∷ frame_at 0 1 0 0 ∷ []) (free 3 ++ (hold_on 0 0 Live ∷ free 2 ++ (hold_on 0 1 Quiesced ∷ []))) (0 ∷ 0 ∷ 0 ∷ 0 ∷ 0 ∷ 1 ∷ []) ∷ [])
          (holding 0 Maximum 0 ∷ []);
    }
    -- at its END, and where it is skipped.
    ∷ record {
      table = holder;
      order = replicate 10 0;
      answers = replicate 10 running;
      after =
          written 10 2 (0 ∷ 0 ∷ 8 ∷ [])
          (activity Running 0 0 (bottom 25 0 ∷ []) (free 3 ++ (hold_on 0 0 Live ∷ free 2 ++ (hold_on 0 1 Quiesced ∷ []))) (0 ∷ 0 ∷ 0 ∷ 0 ∷ 0 ∷ 1 ∷ []) ∷ [])
          (holding 0 Maximum 0 ∷ []);
    }
    -- In a REPEAT body: skipped in the first run, and run in the second.
    ∷ record {
      table = rounds;
      order = replicate 5 0;
      answers = replicate 5 running;
      after = written 5 0 [] (activity Running 0 5 (bottom 0 0 ∷ frame_at 0 1 1 0 ∷ frame_at 0 2 0 0 ∷ []) [] [] ∷ []) [];
    }
    -- Its END is one step, and goes on in the REPEAT body.
    ∷ record {
      table = rounds;
      order = replicate 6 0;
      answers = replicate 6 running;
      after = written 6 0 [] (activity Running 0 5 (bottom 0 0 ∷ frame_at 2 1 1 0 ∷ []) [] [] ∷ []) [];
    }
    -- A CHOOSE body is no FINISH body: it may lend a clock, and its END waits for nobody. A meeting in it, on two clocks.
    ∷ record {
      table = lending;
      order = replicate 7 0 ++ (1 ∷ 0 ∷ 0 ∷ []);
      answers = replicate 5 running ++ (at_barrier ∷ waits ∷ at_barrier ∷ running ∷ running ∷ []);
      after =
          written 9 2 []
          (activity Running 0 1 (bottom 11 0 ∷ []) (free 3 ++ (hold_on 1 0 Live ∷ free 2 ++ (hold_on 1 1 Live ∷ []))) []
          ∷ activity AtBarrier 0 1 (bottom 0 2 ∷ []) (free 6 ++ (hold_on 0 1 Quiesced ∷ [])) []
          ∷ [])
          [];
    }
    -- In an own FINISH body it may not: CLOCK 3, PUT 1, FINISH 1; body 1 CHOOSE 2; body 2 ASYNC 3 8.
    ∷ record {
      table = 0x04 ∷ 0x02 ∷ 0x03 ∷ 0x0C ∷ 0x01 ∷ 0x00 ∷ 0x00 ∷ 0x00 ∷ 0x06 ∷ 0x01 ∷ 0x00 ∷ 0x11 ∷ 0x02 ∷ 0x00 ∷ 0x05 ∷ 0x03 ∷ 0x08 ∷ 0x00 ∷ 0x00 ∷ [];
      order = replicate 5 0;
      answers = replicate 4 running ++ (faulted F3 ∷ []);
      after = written 5 1 [] (activity (Faulted F3) 0 1 [] [] [] ∷ []) [];
    }
    -- Who is spawned in a CHOOSE body in a FINISH body is inside the finish: END of the FINISH body waits, END of the CHOOSE body does not.
    ∷ record {
      table = in_finish;
      order = replicate 6 0;
      answers = replicate 5 running ++ (waits ∷ []);
      after = written 5 0 [] (activity Running 0 1 (bottom 5 0 ∷ frame_at 2 1 0 1 ∷ []) [] [] ∷ activity Running 0 1 (bottom 0 3 ∷ []) [] [] ∷ []) [];
    }
    -- Then it goes on.
    ∷ record {
      table = in_finish;
      order = replicate 6 0 ++ (1 ∷ 0 ∷ 0 ∷ []);
      answers = replicate 5 running ++ (waits ∷ ended ∷ running ∷ ended ∷ []);
      after = written 8 0 [] (activity Ended 0 1 [] [] [] ∷ activity Ended 0 1 [] [] [] ∷ []) [];
    }
    -- With unended children, one inside the finish and one from before it: skipped in the FINISH body, whose first number stays, and by a child;
    ∷ record {
      table = crowded_finish;
      order = replicate 8 0 ++ (2 ∷ []);
      answers = replicate 9 running;
      after =
          written 9 2 [] (owner 0 (bottom 12 0 ∷ frame_at 5 1 0 2 ∷ []) ∷ inside 0 0 (free 3 ++ (hold_on 0 0 Live ∷ [])) ∷ inside 0 2 [] ∷ []) (holding 4294967295 Minimum 0 ∷ []);
    }
    -- run there.
    ∷ record {
      table = crowded_finish_one;
      order = replicate 9 0;
      answers = replicate 9 running;
      after =
          written 9 2 [] (owner 1 (bottom 17 0 ∷ frame_at 3 1 0 2 ∷ frame_at 0 2 0 0 ∷ []) ∷ inside 1 0 (free 3 ++ (hold_on 0 0 Live ∷ [])) ∷ inside 1 0 [] ∷ []) (holding 4294967295 Minimum 0 ∷ []);
    }
    -- The END of a CHOOSE body passes no fault on, that of the FINISH body below it does.
    ∷ record {
      table = faulty;
      order = replicate 4 0 ++ (1 ∷ 0 ∷ 0 ∷ []);
      answers = replicate 4 running ++ (faulted F1 ∷ running ∷ faulted F8 ∷ []);
      after = written 7 0 [] (activity (Faulted F8) 0 1 [] [] [] ∷ activity (Faulted F1) 0 1 [] [] [] ∷ []) [];
    }
    -- A finish in a CHOOSE body passes it on: PUT 1, CHOOSE 1; body 1 FINISH 2; body 2 ASYNC 3 0; body 3 RESUME 4.
    ∷ record {
      table = 0x04 ∷ 0x0C ∷ 0x01 ∷ 0x00 ∷ 0x00 ∷ 0x00 ∷ 0x11 ∷ 0x01 ∷ 0x00 ∷ 0x06 ∷ 0x02 ∷ 0x00 ∷ 0x05 ∷ 0x03 ∷ 0x00 ∷ 0x00 ∷ 0x03 ∷ 0x04 ∷ 0x00 ∷ [];
      order = replicate 5 0 ++ (1 ∷ 0 ∷ []);
      answers = replicate 4 running ++ (waits ∷ faulted F1 ∷ faulted F8 ∷ []);
      after = written 6 0 [] (activity (Faulted F8) 0 1 [] [] [] ∷ activity (Faulted F1) 0 1 [] [] [] ∷ []) [];
    }
    ∷ []

-- WORK

-- "A run without faults now takes at most its work, and a finished one exactly its work where each CHOOSE step taken in it ran its body": through the whole calls.
unfoldable pub chosen_work : List Case
chosen_work =
    record { table = alone; order = replicate 3 0; expected = record { number = 0; work = 3; activities = 1; answers = 0 ∷ 0 ∷ 15 ∷ []; taken = 2; ended = 1; spawned = 1 } }
    ∷ record {
      table = 0x02 ∷ 0x0C ∷ 0x01 ∷ 0x00 ∷ 0x00 ∷ 0x00 ∷ 0x11 ∷ 0x01 ∷ 0x00 ∷ 0x00 ∷ [];
      order = replicate 5 0;
      expected = record { number = 0; work = 4; activities = 1; answers = 0 ∷ 0 ∷ 0 ∷ 0 ∷ 15 ∷ []; taken = 4; ended = 1; spawned = 1 };
    }
    ∷ record {
      table = rounds;
      order = replicate 10 0;
      expected = record { number = 0; work = 10; activities = 1; answers = replicate 9 0 ++ (15 ∷ []); taken = 9; ended = 1; spawned = 1 };
    }
    ∷ []

-- What a run spares, and whether each CHOOSE step taken in it ran its body.
pub record Sparing : Type 0 where
  pub table : List ℕ
  pub order : List ℕ
  pub spared : ℕ
  pub ran : Bool

unfoldable pub spares_so : Sparing → Bool
spares_so c = eqb (spared base c.table c.order) c.spared && same_bool (all_ran base c.table c.order) c.ran

unfoldable pub all_spare : List Sparing → Bool
all_spare [] = true
all_spare (c ∷ cs) = let r = all_spare cs in spares_so c && r

-- CHOOSE 1; body 1 NEXT. Its work is 3.
abbrev meeting : List ℕ
meeting = 0x02 ∷ 0x11 ∷ 0x01 ∷ 0x00 ∷ 0x01 ∷ 0x00 ∷ []

unfoldable pub sparing : List Sparing
sparing =
    record { table = meeting; order = []; spared = 0; ran = true }
    -- Calls that are turned down spare nothing: 14 and 15, at the first command of body 0 and with hand 0.
    ∷ record { table = meeting; order = 5 ∷ []; spared = 0; ran = true }
    ∷ record { table = meeting; order = 5 ∷ 0 ∷ 0 ∷ 0 ∷ []; spared = 3; ran = false }
    -- A body that runs spares nothing; nor does FINISH with hand 0, or REPEAT 0.
    ∷ record { table = 0x02 ∷ 0x0C ∷ 0x01 ∷ 0x00 ∷ 0x00 ∷ 0x00 ∷ 0x11 ∷ 0x01 ∷ 0x00 ∷ 0x00 ∷ []; order = replicate 2 0; spared = 0; ran = true }
    ∷ record { table = 0x02 ∷ 0x06 ∷ 0x01 ∷ 0x07 ∷ 0x00 ∷ 0x01 ∷ 0x00 ∷ 0x00 ∷ []; order = replicate 3 0; spared = 0; ran = true }
    -- Nor do other commands with hand 0: CLOCK 0, ASYNC 1 0, NEXT, ATOM 1 of FETCH 0.
    ∷ record { table = 0x02 ∷ 0x02 ∷ 0x00 ∷ 0x05 ∷ 0x01 ∷ 0x00 ∷ 0x01 ∷ 0x10 ∷ 0x01 ∷ 0x0D ∷ 0x00 ∷ 0x00 ∷ 0x00 ∷ []; order = replicate 5 0; spared = 0; ran = true }
    -- Each ran, though calls are answered with 16, or with faults; one in the other, with hand 256; two activities.
    ∷ record { table = in_finish; order = replicate 6 0; spared = 0; ran = true }
    ∷ record { table = faulty; order = replicate 4 0 ++ (1 ∷ []); spared = 0; ran = true }
    ∷ record { table = 0x03 ∷ 0x0C ∷ 0x00 ∷ 0x01 ∷ 0x00 ∷ 0x00 ∷ 0x11 ∷ 0x01 ∷ 0x00 ∷ 0x11 ∷ 0x02 ∷ 0x00 ∷ 0x01 ∷ 0x00 ∷ []; order = replicate 3 0; spared = 0; ran = true }
    ∷ record { table = 0x03 ∷ 0x0C ∷ 0x09 ∷ 0x00 ∷ 0x00 ∷ 0x00 ∷ 0x05 ∷ 0x01 ∷ 0x00 ∷ 0x11 ∷ 0x02 ∷ 0x00 ∷ 0x11 ∷ 0x02 ∷ 0x00 ∷ 0x00 ∷ []; order = 0 ∷ 0 ∷ 0 ∷ 1 ∷ []; spared = 0; ran = true }
    -- By the own hand: a child's is 9, main's is 0.
    ∷ record { table = 0x03 ∷ 0x0C ∷ 0x09 ∷ 0x00 ∷ 0x00 ∷ 0x00 ∷ 0x05 ∷ 0x01 ∷ 0x00 ∷ 0x0C ∷ 0x00 ∷ 0x00 ∷ 0x00 ∷ 0x00 ∷ 0x00 ∷ 0x11 ∷ 0x02 ∷ 0x00 ∷ 0x00 ∷ []; order = 0 ∷ 0 ∷ 0 ∷ 1 ∷ []; spared = 0; ran = true }
    -- A skipped one counts in a run with a fault too: CHOOSE 1, DROP 3.
    ∷ record { table = 0x02 ∷ 0x11 ∷ 0x01 ∷ 0x04 ∷ 0x03 ∷ 0x00 ∷ 0x00 ∷ []; order = replicate 2 0; spared = 1; ran = false }
    -- One of two rounds; the second of three; one of two activities.
    ∷ record { table = rounds; order = replicate 5 0; spared = 1; ran = false }
    ∷ record { table = within; order = replicate 6 0; spared = 2; ran = false }
    ∷ record { table = own_hand; order = replicate 4 0 ++ (1 ∷ []); spared = 3; ran = false }
    -- With the body what it would have run: CHOOSE 1; body 1 CHOOSE 2; body 2 NEXT. And twice: REPEAT 2 1; body 1 CHOOSE 2; body 2 NEXT.
    ∷ record { table = 0x03 ∷ 0x11 ∷ 0x01 ∷ 0x00 ∷ 0x11 ∷ 0x02 ∷ 0x00 ∷ 0x01 ∷ 0x00 ∷ []; order = replicate 2 0; spared = 5; ran = false }
    ∷ record { table = 0x03 ∷ 0x07 ∷ 0x02 ∷ 0x01 ∷ 0x00 ∷ 0x11 ∷ 0x02 ∷ 0x00 ∷ 0x01 ∷ 0x00 ∷ []; order = replicate 4 0; spared = 6; ran = false }
    ∷ []

-- STATES

-- FINISH 2, CHOOSE 1, CHOOSE 2; bodies 1 and 2 are bare ENDs. Activity 63 has a body on another.
abbrev pair : Frame → Frame → State
pair f g = change 63 (λ a. with_status Running (with_frames a 2 (f ∷ g ∷ replicate 14 no_frame))) crowded

-- "Number 13 takes it with FINISH and REPEAT." The hand may be 0: the body may have changed it.
unfoldable pub under_choose : Broken
under_choose =
    record {
      table = 0x03 ∷ 0x06 ∷ 0x02 ∷ 0x11 ∷ 0x01 ∷ 0x11 ∷ 0x02 ∷ 0x00 ∷ 0x00 ∷ 0x00 ∷ [];
      fit = pair (bottom 2 0) (frame_at 0 1 0 0);
      unfit =
          -- runs, first, another body, above another CHOOSE, above END, no place
          pair (bottom 2 0) (frame_at 0 1 1 0)
          ∷ pair (bottom 2 0) (frame_at 0 1 0 1)
          ∷ pair (bottom 2 0) (frame_at 0 2 0 0)
          ∷ pair (bottom 4 0) (frame_at 0 1 0 0)
          ∷ pair (bottom 6 0) (frame_at 0 1 0 0)
          ∷ pair (bottom 2 0) (frame_at 1 1 0 0)
          ∷ [];
    }

-- Main in the CHOOSE body of `alone`, with a child that stands so; so many steps are taken.
abbrev leaving : ℕ → Activity → State
leaving steps x = written steps 0 [] (activity Running 0 0 (bottom 0 0 ∷ frame_at 0 1 0 0 ∷ []) [] [] ∷ x ∷ []) []

abbrev left : ℕ → Activity → State
left steps x = written steps 0 [] (activity Running 0 0 (bottom 2 0 ∷ []) [] [] ∷ x ∷ []) []

abbrev alive : Activity
alive = activity Running 0 6 (bottom 0 1 ∷ []) [] []

abbrev dead : Activity
dead = activity (Faulted F1) 0 6 [] [] []

unfoldable pub choosing : List Handed
choosing =
    -- END of a CHOOSE body goes on, with a child that runs or has faulted; 17 where no step is left of the work.
    accepted alone (leaving 1 alive) 0 3 running (left 2 alive)
    ∷ accepted alone (leaving 2 dead) 0 1 running (left 3 dead)
    ∷ refused alone (leaving 3 alive) 0 17 3
    -- A CHOOSE too goes on with a child that runs, into its body and past it.
    ∷ accepted alone (written 0 0 [] (activity Running 0 5 (bottom 0 0 ∷ []) [] [] ∷ alive ∷ []) []) 0 3 running
    (written 1 0 [] (activity Running 0 5 (bottom 0 0 ∷ frame_at 0 1 0 0 ∷ []) [] [] ∷ alive ∷ []) [])
    ∷ accepted alone (written 0 0 [] (activity Running 0 0 (bottom 0 0 ∷ []) [] [] ∷ alive ∷ []) []) 0 3 running (left 1 alive)
    -- 17 where no step is left, with hand 0 and with another.
    ∷ refused alone (written 3 0 [] (activity Running 0 0 (bottom 0 0 ∷ []) [] [] ∷ []) []) 0 17 1
    ∷ refused alone (written 3 0 [] (activity Running 0 5 (bottom 0 0 ∷ []) [] [] ∷ []) []) 0 17 1
    ∷ []

-- Nobody is waited for.
unfoldable pub unawaited : List Asked
unawaited =
    asks alone (leaving 1 alive) 0 0 0
    ∷ asks alone (written 0 0 [] (activity Running 0 0 (bottom 0 0 ∷ []) [] [] ∷ alive ∷ []) []) 0 0 0
    ∷ asks alone (written 0 0 [] (activity Running 0 5 (bottom 0 0 ∷ []) [] [] ∷ alive ∷ []) []) 0 0 0
    ∷ []
