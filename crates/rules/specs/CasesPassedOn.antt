-- Cases of our own: a finish passes a fault on. Runs with the whole state after them, and states made by hand.
use Rattle.std.specs.Prelude.{ℕ, List, [], ◌∷◌, ◌++◌, replicate, Ok, Err}
use Rattle.rules.specs.declared.state.Fault.TheVariants.{F1, F2, F7, F8}
use Rattle.rules.specs.declared.state.Status.{Status}
use Rattle.rules.specs.declared.state.Status.TheVariants.{Running, Ended, Faulted}
use Rattle.rules.specs.declared.state.Operator.TheVariants.{Sum}
use Rattle.rules.specs.declared.state.Activity.{Activity}
use Rattle.rules.specs.declared.state.State.{State}
use Rattle.program.specs.Refusal.{refusal_at}
use Rattle.rules.specs.State.{no_activity}
use Rattle.rules.specs.Effects.{stopped}
use Rattle.rules.specs.Written.{bottom, holding, activity, written, with_spawner, with_counts, change}
use Rattle.rules.specs.Cases.{Case}
use Rattle.rules.specs.CasesCalls.{Handed, refused, accepted, lined, finish, finishing}
use Rattle.rules.specs.CasesRuns.{Run, running, at_barrier, ended, faulted, waits}

unfoldable pub passed_on : List Run
passed_on =
    -- A child. FINISH 1; body 1 ASYNC 2 0; body 2 RESUME 0. Main waits for it, faults, and has ended.
    record {
      table = 0x03 ∷ 0x06 ∷ 0x01 ∷ 0x00 ∷ 0x05 ∷ 0x02 ∷ 0x00 ∷ 0x00 ∷ 0x03 ∷ 0x00 ∷ 0x00 ∷ [];
      order = 0 ∷ 0 ∷ 0 ∷ 1 ∷ 0 ∷ 0 ∷ [];
      answers = running ∷ running ∷ waits ∷ faulted F1 ∷ faulted F8 ∷ Err (refusal_at 15) ∷ [];
      after = written 4 0 [] (activity (Faulted F8) 0 0 [] [] [] ∷ activity (Faulted F1) 0 0 [] [] [] ∷ []) [];
    }
    -- A grandchild, whose spawner ended well.
    ∷ record {
      table = 0x04 ∷ 0x06 ∷ 0x01 ∷ 0x00 ∷ 0x05 ∷ 0x02 ∷ 0x00 ∷ 0x00 ∷ 0x05 ∷ 0x03 ∷ 0x00 ∷ 0x00 ∷ 0x03 ∷ 0x00 ∷ 0x00 ∷ [];
      order = 0 ∷ 0 ∷ 1 ∷ 1 ∷ 0 ∷ 2 ∷ 0 ∷ [];
      answers = running ∷ running ∷ running ∷ ended ∷ waits ∷ faulted F1 ∷ faulted F8 ∷ [];
      after = written 6 0 [] (activity (Faulted F8) 0 0 [] [] [] ∷ activity Ended 0 0 [] [] [] ∷ activity (Faulted F1) 1 0 [] [] [] ∷ []) [];
    }
    -- A child from before the finish is not inside.
    ∷ record {
      table = 0x03 ∷ 0x05 ∷ 0x02 ∷ 0x00 ∷ 0x06 ∷ 0x01 ∷ 0x00 ∷ 0x00 ∷ 0x03 ∷ 0x00 ∷ 0x00 ∷ [];
      order = 0 ∷ 1 ∷ 0 ∷ 0 ∷ 0 ∷ [];
      answers = running ∷ faulted F1 ∷ running ∷ running ∷ ended ∷ [];
      after = written 5 0 [] (activity Ended 0 0 [] [] [] ∷ activity (Faulted F1) 0 0 [] [] [] ∷ []) [];
    }
    -- Passed on: activity 1 owns a finish of its own, inside which 2 faults; its F8 is a fault inside the finish of main.
    ∷ record {
      table = 0x05 ∷ 0x06 ∷ 0x01 ∷ 0x00 ∷ 0x05 ∷ 0x02 ∷ 0x00 ∷ 0x00 ∷ 0x06 ∷ 0x03 ∷ 0x00 ∷ 0x05 ∷ 0x04 ∷ 0x00 ∷ 0x00 ∷ 0x03 ∷ 0x00 ∷ 0x00 ∷ [];
      order = 0 ∷ 0 ∷ 1 ∷ 1 ∷ 1 ∷ 2 ∷ 1 ∷ 0 ∷ 0 ∷ [];
      answers = running ∷ running ∷ running ∷ running ∷ waits ∷ faulted F1 ∷ faulted F8 ∷ faulted F8 ∷ Err (refusal_at 15) ∷ [];
      after = written 7 0 [] (activity (Faulted F8) 0 0 [] [] [] ∷ activity (Faulted F8) 0 0 [] [] [] ∷ activity (Faulted F1) 1 0 [] [] [] ∷ []) [];
    }
    -- 16 while another inside runs.
    ∷ record {
      table = 0x04 ∷ 0x06 ∷ 0x01 ∷ 0x00 ∷ 0x05 ∷ 0x02 ∷ 0x00 ∷ 0x05 ∷ 0x03 ∷ 0x00 ∷ 0x00 ∷ 0x03 ∷ 0x00 ∷ 0x00 ∷ 0x00 ∷ [];
      order = 0 ∷ 0 ∷ 0 ∷ 1 ∷ 0 ∷ 2 ∷ 0 ∷ [];
      answers = running ∷ running ∷ running ∷ faulted F1 ∷ waits ∷ ended ∷ faulted F8 ∷ [];
      after = written 6 0 [] (activity (Faulted F8) 0 0 [] [] [] ∷ activity (Faulted F1) 0 0 [] [] [] ∷ activity Ended 0 0 [] [] [] ∷ []) [];
    }
    -- F8 drops the clock that activity 1 waits on: CLOCK 0, ASYNC 2 1, FINISH 1, NEXT; body 1 ASYNC 3 0; body 2 NEXT; body 3 RESUME 1.
    ∷ record {
      table = 0x04 ∷ 0x02 ∷ 0x00 ∷ 0x05 ∷ 0x02 ∷ 0x01 ∷ 0x06 ∷ 0x01 ∷ 0x01 ∷ 0x00 ∷ 0x05 ∷ 0x03 ∷ 0x00 ∷ 0x00 ∷ 0x01 ∷ 0x00 ∷ 0x03 ∷ 0x01 ∷ 0x00 ∷ [];
      order = 0 ∷ 0 ∷ 0 ∷ 0 ∷ 0 ∷ 1 ∷ 2 ∷ 1 ∷ 0 ∷ 1 ∷ 1 ∷ [];
      answers = running ∷ running ∷ running ∷ running ∷ waits ∷ at_barrier ∷ faulted F1 ∷ waits ∷ faulted F8 ∷ running ∷ ended ∷ [];
      after = written 9 1 [] (activity (Faulted F8) 0 0 [] [] [] ∷ activity Ended 0 0 [] [] [] ∷ activity (Faulted F1) 0 0 [] [] [] ∷ []) [];
    }
    -- READ tells nothing: ACC 0 0, ASYNC 1 0, READ 0; body 1 RESUME 0.
    ∷ record {
      table = 0x02 ∷ 0x08 ∷ 0x00 ∷ 0x00 ∷ 0x05 ∷ 0x01 ∷ 0x00 ∷ 0x0A ∷ 0x00 ∷ 0x00 ∷ 0x03 ∷ 0x00 ∷ 0x00 ∷ [];
      order = 0 ∷ 0 ∷ 1 ∷ 0 ∷ 0 ∷ [];
      answers = running ∷ running ∷ faulted F1 ∷ running ∷ ended ∷ [];
      after = written 5 0 [] (activity Ended 0 0 [] [] (1 ∷ []) ∷ activity (Faulted F1) 0 0 [] [] (1 ∷ []) ∷ []) (holding 0 Sum 0 ∷ []);
    }
    -- All of the owner: PUT 9, STORE 2, CLOCK 3, CLOCK 5, RESUME 5, ACC 6 0, FINISH 1; body 1 ASYNC 2 0; body 2 OFFER 6, DROP 4. Hand, cell and names stay; both clocks and both bodies go.
    ∷ record {
      table = 0x03 ∷ 0x0C ∷ 0x09 ∷ 0x00 ∷ 0x00 ∷ 0x00 ∷ 0x0E ∷ 0x02 ∷ 0x02 ∷ 0x03 ∷ 0x02 ∷ 0x05 ∷ 0x03 ∷ 0x05 ∷ 0x08 ∷ 0x06 ∷ 0x00 ∷ 0x06 ∷ 0x01 ∷ 0x00 ∷ 0x05 ∷ 0x02 ∷ 0x00 ∷ 0x00 ∷ 0x09 ∷ 0x06 ∷ 0x04 ∷ 0x04 ∷ 0x00 ∷ [];
      order = 0 ∷ 0 ∷ 0 ∷ 0 ∷ 0 ∷ 0 ∷ 0 ∷ 0 ∷ 1 ∷ 1 ∷ 0 ∷ [];
      answers = running ∷ running ∷ running ∷ running ∷ running ∷ running ∷ running ∷ running ∷ running ∷ faulted F1 ∷ faulted F8 ∷ [];
      after = written 11 2 (0 ∷ 0 ∷ 9 ∷ []) (activity (Faulted F8) 0 9 [] [] (replicate 6 0 ++ (1 ∷ [])) ∷ activity (Faulted F1) 0 9 [] [] (replicate 6 0 ++ (1 ∷ [])) ∷ []) (holding 9 Sum 0 ∷ []);
    }
    -- Two finishes of main, one in the other: FINISH 1; body 1 ASYNC 3 0, FINISH 2; body 2 nothing. The child is inside the outer one alone.
    ∷ record {
      table = 0x04 ∷ 0x06 ∷ 0x01 ∷ 0x00 ∷ 0x05 ∷ 0x03 ∷ 0x00 ∷ 0x06 ∷ 0x02 ∷ 0x00 ∷ 0x00 ∷ 0x03 ∷ 0x00 ∷ 0x00 ∷ [];
      order = 0 ∷ 0 ∷ 1 ∷ 0 ∷ 0 ∷ 0 ∷ [];
      answers = running ∷ running ∷ faulted F1 ∷ running ∷ running ∷ faulted F8 ∷ [];
      after = written 6 0 [] (activity (Faulted F8) 0 0 [] [] [] ∷ activity (Faulted F1) 0 0 [] [] [] ∷ []) [];
    }
    -- The END of a REPEAT body tells nothing, not even in a FINISH body: FINISH 1; body 1 REPEAT 2 2; body 2 ASYNC 3 0.
    ∷ record {
      table = 0x04 ∷ 0x06 ∷ 0x01 ∷ 0x00 ∷ 0x07 ∷ 0x02 ∷ 0x02 ∷ 0x00 ∷ 0x05 ∷ 0x03 ∷ 0x00 ∷ 0x00 ∷ 0x03 ∷ 0x00 ∷ 0x00 ∷ [];
      order = 0 ∷ 0 ∷ 0 ∷ 1 ∷ 0 ∷ 0 ∷ 0 ∷ 0 ∷ 2 ∷ 0 ∷ [];
      answers = running ∷ running ∷ running ∷ faulted F1 ∷ running ∷ running ∷ running ∷ waits ∷ faulted F1 ∷ faulted F8 ∷ [];
      after = written 9 0 [] (activity (Faulted F8) 0 0 [] [] [] ∷ activity (Faulted F1) 0 0 [] [] [] ∷ activity (Faulted F1) 0 0 [] [] [] ∷ []) [];
    }
    -- Nor does the END of a spawned body, or of body 0: ASYNC 1 0; body 1 ASYNC 2 0; body 2 RESUME 0.
    ∷ record {
      table = 0x03 ∷ 0x05 ∷ 0x01 ∷ 0x00 ∷ 0x00 ∷ 0x05 ∷ 0x02 ∷ 0x00 ∷ 0x00 ∷ 0x03 ∷ 0x00 ∷ 0x00 ∷ [];
      order = 0 ∷ 1 ∷ 2 ∷ 1 ∷ 0 ∷ [];
      answers = running ∷ running ∷ faulted F1 ∷ ended ∷ ended ∷ [];
      after = written 5 0 [] (activity Ended 0 0 [] [] [] ∷ activity Ended 0 0 [] [] [] ∷ activity (Faulted F1) 1 0 [] [] [] ∷ []) [];
    }
    -- RESET tells nothing either.
    ∷ record {
      table = 0x02 ∷ 0x08 ∷ 0x00 ∷ 0x00 ∷ 0x05 ∷ 0x01 ∷ 0x00 ∷ 0x0B ∷ 0x00 ∷ 0x00 ∷ 0x03 ∷ 0x00 ∷ 0x00 ∷ [];
      order = 0 ∷ 0 ∷ 1 ∷ 0 ∷ 0 ∷ [];
      answers = running ∷ running ∷ faulted F1 ∷ running ∷ ended ∷ [];
      after = written 5 0 [] (activity Ended 0 0 [] [] (1 ∷ []) ∷ activity (Faulted F1) 0 0 [] [] (1 ∷ []) ∷ []) (holding 0 Sum 0 ∷ []);
    }
    -- An inner finish: FINISH 1; body 1 FINISH 2; body 2 ASYNC 3 0; body 3 RESUME 0. All three bodies of main go.
    ∷ record {
      table = 0x04 ∷ 0x06 ∷ 0x01 ∷ 0x00 ∷ 0x06 ∷ 0x02 ∷ 0x00 ∷ 0x05 ∷ 0x03 ∷ 0x00 ∷ 0x00 ∷ 0x03 ∷ 0x00 ∷ 0x00 ∷ [];
      order = 0 ∷ 0 ∷ 0 ∷ 1 ∷ 0 ∷ 0 ∷ [];
      answers = running ∷ running ∷ running ∷ faulted F1 ∷ faulted F8 ∷ Err (refusal_at 15) ∷ [];
      after = written 5 0 [] (activity (Faulted F8) 0 0 [] [] [] ∷ activity (Faulted F1) 0 0 [] [] [] ∷ []) [];
    }
    -- A finish in a REPEAT body: REPEAT 2 1; body 1 FINISH 2; body 2 ASYNC 3 0; body 3 RESUME 0. The second run never comes.
    ∷ record {
      table = 0x04 ∷ 0x07 ∷ 0x02 ∷ 0x01 ∷ 0x00 ∷ 0x06 ∷ 0x02 ∷ 0x00 ∷ 0x05 ∷ 0x03 ∷ 0x00 ∷ 0x00 ∷ 0x03 ∷ 0x00 ∷ 0x00 ∷ [];
      order = 0 ∷ 0 ∷ 0 ∷ 1 ∷ 0 ∷ [];
      answers = running ∷ running ∷ running ∷ faulted F1 ∷ faulted F8 ∷ [];
      after = written 5 0 [] (activity (Faulted F8) 0 0 [] [] [] ∷ activity (Faulted F1) 0 0 [] [] [] ∷ []) [];
    }
    ∷ []

-- "takes less than its work": through the whole calls, with the work.
unfoldable pub lost : List Case
lost =
    record {
      table = 0x03 ∷ 0x06 ∷ 0x01 ∷ 0x00 ∷ 0x05 ∷ 0x02 ∷ 0x00 ∷ 0x00 ∷ 0x03 ∷ 0x00 ∷ 0x00 ∷ [];
      order = 0 ∷ 0 ∷ 0 ∷ 1 ∷ 0 ∷ 0 ∷ [];
      expected = record { number = 0; work = 6; activities = 2; answers = 0 ∷ 0 ∷ 16 ∷ 101 ∷ 108 ∷ 15 ∷ []; taken = 4; ended = 2; spawned = 2 };
    }
    ∷ record {
      table = 0x05 ∷ 0x06 ∷ 0x01 ∷ 0x00 ∷ 0x05 ∷ 0x02 ∷ 0x00 ∷ 0x00 ∷ 0x06 ∷ 0x03 ∷ 0x00 ∷ 0x05 ∷ 0x04 ∷ 0x00 ∷ 0x00 ∷ 0x03 ∷ 0x00 ∷ 0x00 ∷ [];
      order = 0 ∷ 0 ∷ 1 ∷ 1 ∷ 1 ∷ 2 ∷ 1 ∷ 0 ∷ 0 ∷ [];
      expected = record { number = 0; work = 10; activities = 3; answers = 0 ∷ 0 ∷ 0 ∷ 0 ∷ 16 ∷ 101 ∷ 108 ∷ 108 ∷ 15 ∷ []; taken = 7; ended = 3; spawned = 3 };
    }
    ∷ []

-- STATES

-- Main at the END of its finish, which began at number 1, with two children that stand so; so many steps are taken.
abbrev closing : ℕ → Activity → Activity → State
closing steps x y = written steps 0 [] (finishing 1 ∷ x ∷ y ∷ []) []

-- One that has no bodies any more.
abbrev over : Status → Activity
over status = activity status 0 0 [] [] []

-- Sixty-three descendants of main, each a child of the one before; all have ended, the last by a fault.
abbrev faulted_line : Activity → State
faulted_line main = change 63 (λ a. with_spawner 62 (stopped no_activity (Faulted F2))) (lined main 0)

unfoldable pub handed_on : List Handed
handed_on =
    -- The owner is in the ready set, and faults for a child that faulted with F7, or with F8.
    accepted finish (closing 0 (over (Faulted F7)) (over Ended)) 0 1 (faulted F8) (written 1 0 [] (over (Faulted F8) ∷ over (Faulted F7) ∷ over Ended ∷ []) [])
    ∷ accepted finish (closing 0 (over Ended) (over (Faulted F8))) 0 1 (faulted F8) (written 1 0 [] (over (Faulted F8) ∷ over Ended ∷ over (Faulted F8) ∷ []) [])
    -- It is not, while the other child runs.
    ∷ refused finish (closing 0 (over (Faulted F7)) (activity Running 0 0 (bottom 0 1 ∷ []) [] [])) 0 16 4
    -- 17 where no step is left of the work; F8 is the last that it counts.
    ∷ refused finish (closing 3 (over (Faulted F7)) (over Ended)) 0 17 1
    ∷ accepted finish (closing 2 (over (Faulted F7)) (over Ended)) 0 1 (faulted F8) (written 3 0 [] (over (Faulted F8) ∷ over (Faulted F7) ∷ over Ended ∷ []) [])
    -- The last of sixty-three alone; it is not inside where the first was spawned before the finish.
    ∷ accepted finish (faulted_line (finishing 1)) 0 1 (faulted F8) (with_counts 1 64 0 0 (change 0 (λ a. over (Faulted F8)) (faulted_line (finishing 1))))
    ∷ accepted finish (faulted_line (finishing 2)) 0 1 (Ok Running) (with_counts 1 64 0 0 (change 0 (λ a. activity Running 0 0 (bottom 2 0 ∷ []) [] []) (faulted_line (finishing 2))))
    ∷ []
