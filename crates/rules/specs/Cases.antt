-- The cases of document 01 marked P, and cases of our own, each a table with an order and what is expected.
use Rattle.std.specs.Prelude.{ℕ, ◌+◌, List, [], ◌∷◌, map, Bool, true, false, cond, ◌||◌, ◌&&◌, ltb, eqb}
use Rattle.program.specs.Bodies.{Program, program_of}
use Rattle.program.specs.Count.{work_of, activities_of}
use Rattle.program.specs.Same.{same_bool, same_list, same_lists}
use Rattle.rules.specs.Search.{count_below}
use Rattle.rules.specs.declared.state.Fault.TheVariants.{F1, F2, F3, F4, F5, F6, F7, F8}
use Rattle.rules.specs.declared.state.Registration.TheVariants.{Free, Live, Quiesced}
use Rattle.rules.specs.declared.state.Operator.TheVariants.{Sum, Minimum, Maximum}
use Rattle.rules.specs.State.{Answer, fault_number, fault_of, operator_number, operator_of, registration_number, answer_number, ended}
use Rattle.rules.specs.declared.state.State.{State}
use Rattle.rules.specs.Steps.{base, start_state, start, advance}
use Rattle.rules.specs.Runs.{run, answers, awaiteds, is_accepted, taken, some_fault, finished}

-- The start's answer; the work and the activities counted; the steps' answers; at the end the steps taken, the activities ended and those spawned.
pub record Expected : Type 0 where
  pub number : ℕ
  pub work : ℕ
  pub activities : ℕ
  pub answers : List ℕ
  pub taken : ℕ
  pub ended : ℕ
  pub spawned : ℕ

pub record Case : Type 0 where
  pub table : List ℕ
  pub order : List ℕ
  pub expected : Expected

abbrev pub turned_down : List ℕ → ℕ → Case
turned_down table number = record { table = table; order = []; expected = record { number = number; work = 0; activities = 0; answers = []; taken = 0; ended = 0; spawned = 0 } }

-- Whether an answer of the list is a fault's.
unfoldable pub has_fault : List ℕ → Bool
has_fault [] = false
has_fault (n ∷ ns) = let r = has_fault ns in ltb 100 n || r

-- What is expected of an accepted table is what the rules give; of another, its number.
unfoldable pub accepts : Case → Bool
accepts c =
    let e = c.expected in
    let p = program_of c.table in
    let got = answers base c.table c.order in
    let last = run base c.table c.order in
    eqb (work_of p) e.work
    && (eqb (activities_of p) e.activities
    && (same_list (map answer_number got) e.answers
    && (eqb last.steps e.taken
    && (eqb (taken got) e.taken
    && (same_bool (some_fault got) (has_fault e.answers)
    && (eqb (count_below last.activities (ended last)) e.ended
    && (eqb last.activities e.spawned && same_bool (finished last) (eqb e.ended e.spawned))))))))

unfoldable pub holds_for : Case → Bool
holds_for c =
    let n = answer_number (start base c.table).answer in
    let whole = accepts c in
    eqb n c.expected.number && cond (eqb n 0) whole true

unfoldable pub all_hold : List Case → Bool
all_hold [] = true
all_hold (c ∷ cs) = let r = all_hold cs in holds_for c && r

-- The numbers of the enums: of each fault, operator and registration, and there and back for those that have both.
unfoldable pub numbered : Bool
numbered =
    same_list (map fault_number (F1 ∷ F2 ∷ F3 ∷ F4 ∷ F5 ∷ F6 ∷ F7 ∷ F8 ∷ [])) (1 ∷ 2 ∷ 3 ∷ 4 ∷ 5 ∷ 6 ∷ 7 ∷ 8 ∷ [])
    && (same_list (map (λ n. fault_number (fault_of n)) (1 ∷ 2 ∷ 3 ∷ 4 ∷ 5 ∷ 6 ∷ 7 ∷ 8 ∷ [])) (1 ∷ 2 ∷ 3 ∷ 4 ∷ 5 ∷ 6 ∷ 7 ∷ 8 ∷ [])
    && (same_list (map operator_number (Sum ∷ Minimum ∷ Maximum ∷ [])) (0 ∷ 1 ∷ 2 ∷ [])
    && (same_list (map (λ o. operator_number (operator_of o)) (0 ∷ 1 ∷ 2 ∷ [])) (0 ∷ 1 ∷ 2 ∷ [])
    && same_list (map registration_number (Free ∷ Live ∷ Quiesced ∷ [])) (0 ∷ 1 ∷ 2 ∷ []))))

-- The lines of a walk: the activity, the answer and the steps taken so far, `taken` of them before the first; "a walk line with 16 now ends with a blank and this
-- number".
unfoldable pub lines_from : ℕ → List ℕ → List Answer → List ℕ → List (List ℕ)
lines_from taken [] more numbers = []
lines_from taken (i ∷ order) [] numbers = []
lines_from taken (i ∷ order) (a ∷ more) [] = []
lines_from taken (i ∷ order) (a ∷ more) (n ∷ numbers) =
    let next = taken + cond (is_accepted a) 1 0 in
    (i ∷ answer_number a ∷ next ∷ cond (eqb (answer_number a) 16) (n ∷ []) []) ∷ lines_from next order more numbers

-- The walk that document 01 prints, line by line; "so document 01's line 4 becomes `4 0 16 3 1`".
unfoldable pub printed : List (List ℕ)
printed =
    (0 ∷ 0 ∷ 1 ∷ [])
    ∷ (0 ∷ 0 ∷ 2 ∷ [])
    ∷ (0 ∷ 0 ∷ 3 ∷ [])
    ∷ (0 ∷ 16 ∷ 3 ∷ 1 ∷ [])
    ∷ (1 ∷ 0 ∷ 4 ∷ [])
    ∷ (0 ∷ 0 ∷ 5 ∷ [])
    ∷ (0 ∷ 0 ∷ 6 ∷ [])
    ∷ (1 ∷ 0 ∷ 7 ∷ [])
    ∷ (1 ∷ 0 ∷ 8 ∷ [])
    ∷ (0 ∷ 15 ∷ 8 ∷ [])
    ∷ []

abbrev pub walk_table : List ℕ
walk_table = 0x02 ∷ 0x02 ∷ 0x00 ∷ 0x05 ∷ 0x01 ∷ 0x01 ∷ 0x01 ∷ 0x00 ∷ 0x01 ∷ 0x00 ∷ []

abbrev pub walk_order : List ℕ
walk_order = 0 ∷ 0 ∷ 0 ∷ 0 ∷ 1 ∷ 0 ∷ 0 ∷ 1 ∷ 1 ∷ 0 ∷ []

unfoldable pub walk_prints : Bool
walk_prints = same_lists (lines_from 0 walk_order (answers base walk_table walk_order) (awaiteds base walk_table walk_order)) printed

-- MARKED P: "document 01's case 01 11 now gives 4, and 01 13 joins the P cases with 3"

unfoldable pub marked : List Case
marked =
    record {
      table = walk_table;
      order = walk_order;
      expected = record { number = 0; work = 8; activities = 2; answers = 0 ∷ 0 ∷ 0 ∷ 16 ∷ 0 ∷ 0 ∷ 0 ∷ 0 ∷ 0 ∷ 15 ∷ []; taken = 8; ended = 2; spawned = 2 };
    }
    ∷ record { table = 0x01 ∷ 0x00 ∷ []; order = 0 ∷ []; expected = record { number = 0; work = 1; activities = 1; answers = 0 ∷ []; taken = 1; ended = 1; spawned = 1 } }
    ∷ turned_down (0x00 ∷ 0x00 ∷ []) 2
    ∷ turned_down (0x01 ∷ 0x11 ∷ []) 4
    ∷ turned_down (0x01 ∷ 0x13 ∷ []) 3
    ∷ turned_down (0x01 ∷ 0x01 ∷ []) 4
    ∷ turned_down (0x01 ∷ 0x02 ∷ 0x08 ∷ 0x00 ∷ []) 5
    ∷ turned_down (0x01 ∷ 0x06 ∷ 0x00 ∷ 0x00 ∷ []) 6
    ∷ turned_down (0x01 ∷ 0x10 ∷ 0x01 ∷ 0x01 ∷ 0x00 ∷ []) 7
    ∷ turned_down (0x01 ∷ 0x00 ∷ 0x00 ∷ []) 8
    ∷ record {
      table = 0x03 ∷ 0x07 ∷ 0x3F ∷ 0x01 ∷ 0x00 ∷ 0x05 ∷ 0x02 ∷ 0x00 ∷ 0x00 ∷ 0x00 ∷ [];
      order = [];
      expected = record { number = 0; work = 191; activities = 64; answers = []; taken = 0; ended = 0; spawned = 1 };
    }
    ∷ turned_down (0x03 ∷ 0x07 ∷ 0x40 ∷ 0x01 ∷ 0x00 ∷ 0x05 ∷ 0x02 ∷ 0x00 ∷ 0x00 ∷ 0x00 ∷ []) 9
    ∷ record {
      table = 0x03 ∷ 0x02 ∷ 0x00 ∷ 0x06 ∷ 0x01 ∷ 0x00 ∷ 0x05 ∷ 0x02 ∷ 0x01 ∷ 0x00 ∷ 0x01 ∷ 0x00 ∷ [];
      order = 0 ∷ 0 ∷ 0 ∷ [];
      expected = record { number = 0; work = 8; activities = 2; answers = 0 ∷ 0 ∷ 103 ∷ []; taken = 3; ended = 1; spawned = 1 };
    }
    ∷ []

-- OUR OWN

-- Through the whole calls: main has ended, its child has not; at a meeting with no clock; at a meeting in a REPEAT body.
unfoldable pub unfinished : List Case
unfinished =
    record {
      table = 0x02 ∷ 0x05 ∷ 0x01 ∷ 0x00 ∷ 0x00 ∷ 0x00 ∷ [];
      order = 0 ∷ 0 ∷ [];
      expected = record { number = 0; work = 3; activities = 2; answers = 0 ∷ 0 ∷ []; taken = 2; ended = 1; spawned = 2 };
    }
    ∷ record { table = 0x01 ∷ 0x01 ∷ 0x00 ∷ []; order = 0 ∷ 0 ∷ []; expected = record { number = 0; work = 3; activities = 1; answers = 0 ∷ 0 ∷ []; taken = 2; ended = 0; spawned = 1 } }
    ∷ record {
      table = 0x02 ∷ 0x07 ∷ 0x01 ∷ 0x01 ∷ 0x00 ∷ 0x01 ∷ 0x00 ∷ [];
      order = 0 ∷ 0 ∷ 0 ∷ [];
      expected = record { number = 0; work = 5; activities = 1; answers = 0 ∷ 0 ∷ 0 ∷ []; taken = 3; ended = 0; spawned = 1 };
    }
    ∷ []

-- An accepted table with an order, and the steps' answers.
pub record Answered : Type 0 where
  pub table : List ℕ
  pub order : List ℕ
  pub answers : List ℕ

-- The steps of a run without the test of number 13, which the cases marked P take in full: the answers, and the state at the end.
unfoldable pub answers_by : Program → State → List ℕ → List ℕ
answers_by p s [] = []
answers_by p s (i ∷ order) = let r = advance base p s i in answer_number r.answer ∷ answers_by p r.state order

unfoldable pub state_by : Program → State → List ℕ → State
state_by p s [] = s
state_by p s (i ∷ order) = state_by p (advance base p s i).state order

unfoldable pub answers_as : Answered → Bool
answers_as c =
    let same = same_list (answers_by (program_of c.table) start_state c.order) c.answers in
    eqb (answer_number (start base c.table).answer) 0 && same

unfoldable pub all_answer : List Answered → Bool
all_answer [] = true
all_answer (c ∷ cs) = let r = all_answer cs in answers_as c && r

unfoldable pub own : List Answered
own =
    -- DROP: "the name is free". RESUME: "again changes nothing".
    record {
      table = 0x01 ∷ 0x02 ∷ 0x00 ∷ 0x04 ∷ 0x00 ∷ 0x02 ∷ 0x00 ∷ 0x03 ∷ 0x00 ∷ 0x03 ∷ 0x00 ∷ 0x01 ∷ 0x00 ∷ [];
      order = 0 ∷ 0 ∷ 0 ∷ 0 ∷ 0 ∷ 0 ∷ 0 ∷ 0 ∷ [];
      answers = 0 ∷ 0 ∷ 0 ∷ 0 ∷ 0 ∷ 0 ∷ 0 ∷ 0 ∷ [];
    }
    -- "at the spawner's phase": a child of phase 1 holds nobody up once it has come to its NEXT.
    ∷ record {
      table = 0x02 ∷ 0x02 ∷ 0x00 ∷ 0x01 ∷ 0x05 ∷ 0x01 ∷ 0x01 ∷ 0x01 ∷ 0x00 ∷ 0x01 ∷ 0x00 ∷ [];
      order = 0 ∷ 0 ∷ 0 ∷ 0 ∷ 0 ∷ 0 ∷ 1 ∷ 0 ∷ [];
      answers = 0 ∷ 0 ∷ 0 ∷ 0 ∷ 0 ∷ 16 ∷ 0 ∷ 0 ∷ [];
    }
    -- F1 of one clock of m comes before F2 of another.
    ∷ record {
      table = 0x02 ∷ 0x02 ∷ 0x00 ∷ 0x03 ∷ 0x00 ∷ 0x05 ∷ 0x01 ∷ 0x03 ∷ 0x00 ∷ 0x00 ∷ [];
      order = 0 ∷ 0 ∷ 0 ∷ [];
      answers = 0 ∷ 0 ∷ 101 ∷ [];
    }
    -- F3 in a REPEAT body inside the own FINISH body.
    ∷ record {
      table = 0x04 ∷ 0x02 ∷ 0x00 ∷ 0x06 ∷ 0x01 ∷ 0x00 ∷ 0x07 ∷ 0x01 ∷ 0x02 ∷ 0x00 ∷ 0x05 ∷ 0x03 ∷ 0x01 ∷ 0x00 ∷ 0x00 ∷ [];
      order = 0 ∷ 0 ∷ 0 ∷ 0 ∷ [];
      answers = 0 ∷ 0 ∷ 0 ∷ 103 ∷ [];
    }
    -- "Passing .. makes each live": ASYNC of a clock after a NEXT.
    ∷ record {
      table = 0x02 ∷ 0x02 ∷ 0x00 ∷ 0x01 ∷ 0x05 ∷ 0x01 ∷ 0x01 ∷ 0x00 ∷ 0x00 ∷ [];
      order = 0 ∷ 0 ∷ 0 ∷ 0 ∷ [];
      answers = 0 ∷ 0 ∷ 0 ∷ 0 ∷ [];
    }
    -- The END of a FINISH body waits for a grandchild whose spawner has ended.
    ∷ record {
      table = 0x04 ∷ 0x06 ∷ 0x01 ∷ 0x00 ∷ 0x05 ∷ 0x02 ∷ 0x00 ∷ 0x00 ∷ 0x05 ∷ 0x03 ∷ 0x00 ∷ 0x00 ∷ 0x00 ∷ [];
      order = 0 ∷ 0 ∷ 1 ∷ 1 ∷ 0 ∷ 2 ∷ 0 ∷ 0 ∷ [];
      answers = 0 ∷ 0 ∷ 0 ∷ 0 ∷ 16 ∷ 0 ∷ 0 ∷ 0 ∷ [];
    }
    -- READ waits for a grandchild whose spawner has ended; so does RESET.
    ∷ record {
      table = 0x03 ∷ 0x08 ∷ 0x00 ∷ 0x00 ∷ 0x05 ∷ 0x01 ∷ 0x00 ∷ 0x0A ∷ 0x00 ∷ 0x00 ∷ 0x05 ∷ 0x02 ∷ 0x00 ∷ 0x00 ∷ 0x00 ∷ [];
      order = 0 ∷ 0 ∷ 1 ∷ 1 ∷ 0 ∷ 2 ∷ 0 ∷ 0 ∷ [];
      answers = 0 ∷ 0 ∷ 0 ∷ 0 ∷ 16 ∷ 0 ∷ 0 ∷ 0 ∷ [];
    }
    ∷ record {
      table = 0x03 ∷ 0x08 ∷ 0x00 ∷ 0x00 ∷ 0x05 ∷ 0x01 ∷ 0x00 ∷ 0x0B ∷ 0x00 ∷ 0x00 ∷ 0x05 ∷ 0x02 ∷ 0x00 ∷ 0x00 ∷ 0x00 ∷ [];
      order = 0 ∷ 0 ∷ 1 ∷ 1 ∷ 0 ∷ 2 ∷ 0 ∷ 0 ∷ [];
      answers = 0 ∷ 0 ∷ 0 ∷ 0 ∷ 16 ∷ 0 ∷ 0 ∷ 0 ∷ [];
    }
    -- A child from before the finish is not inside.
    ∷ record {
      table = 0x03 ∷ 0x05 ∷ 0x02 ∷ 0x00 ∷ 0x06 ∷ 0x01 ∷ 0x00 ∷ 0x00 ∷ 0x00 ∷ [];
      order = 0 ∷ 0 ∷ 0 ∷ 0 ∷ 1 ∷ [];
      answers = 0 ∷ 0 ∷ 0 ∷ 0 ∷ 0 ∷ [];
    }
    -- "With no clocks it never waits."
    ∷ record {
      table = 0x01 ∷ 0x01 ∷ 0x00 ∷ [];
      order = 0 ∷ 0 ∷ 0 ∷ 0 ∷ [];
      answers = 0 ∷ 0 ∷ 0 ∷ 15 ∷ [];
    }
    -- A dropped clock holds nobody up: the child drops it, and then main passes.
    ∷ record {
      table = 0x02 ∷ 0x02 ∷ 0x00 ∷ 0x05 ∷ 0x01 ∷ 0x01 ∷ 0x01 ∷ 0x00 ∷ 0x04 ∷ 0x00 ∷ 0x00 ∷ [];
      order = 0 ∷ 0 ∷ 0 ∷ 0 ∷ 1 ∷ 0 ∷ 0 ∷ [];
      answers = 0 ∷ 0 ∷ 0 ∷ 16 ∷ 0 ∷ 0 ∷ 0 ∷ [];
    }
    -- A holder that resumed holds nobody up, and meets at the same phase later.
    ∷ record {
      table = 0x02 ∷ 0x02 ∷ 0x00 ∷ 0x05 ∷ 0x01 ∷ 0x01 ∷ 0x01 ∷ 0x00 ∷ 0x03 ∷ 0x00 ∷ 0x01 ∷ 0x00 ∷ [];
      order = 0 ∷ 0 ∷ 0 ∷ 0 ∷ 1 ∷ 0 ∷ 1 ∷ 1 ∷ 1 ∷ [];
      answers = 0 ∷ 0 ∷ 0 ∷ 16 ∷ 0 ∷ 0 ∷ 0 ∷ 0 ∷ 0 ∷ [];
    }
    -- "no holder is in an earlier phase": a slow holder, quiesced in the phase before, is waited for.
    ∷ record {
      table = 0x02 ∷ 0x02 ∷ 0x00 ∷ 0x05 ∷ 0x01 ∷ 0x01 ∷ 0x01 ∷ 0x01 ∷ 0x00 ∷ 0x01 ∷ 0x01 ∷ 0x00 ∷ [];
      order = 0 ∷ 0 ∷ 0 ∷ 1 ∷ 0 ∷ 0 ∷ 0 ∷ 1 ∷ 1 ∷ 0 ∷ [];
      answers = 0 ∷ 0 ∷ 0 ∷ 0 ∷ 0 ∷ 0 ∷ 16 ∷ 0 ∷ 0 ∷ 0 ∷ [];
    }
    -- "END of a REPEAT body runs it again until n runs are done. REPEAT 0 takes one step and runs nothing."
    ∷ record {
      table = 0x02 ∷ 0x07 ∷ 0x02 ∷ 0x01 ∷ 0x00 ∷ 0x00 ∷ [];
      order = 0 ∷ 0 ∷ 0 ∷ 0 ∷ 0 ∷ [];
      answers = 0 ∷ 0 ∷ 0 ∷ 0 ∷ 15 ∷ [];
    }
    ∷ record {
      table = 0x02 ∷ 0x07 ∷ 0x00 ∷ 0x01 ∷ 0x00 ∷ 0x00 ∷ [];
      order = 0 ∷ 0 ∷ 0 ∷ [];
      answers = 0 ∷ 0 ∷ 15 ∷ [];
    }
    -- F1 of RESUME, DROP and ASYNC. A faulted activity counts as ended, and its clocks are dropped.
    ∷ record {
      table = 0x01 ∷ 0x03 ∷ 0x00 ∷ 0x00 ∷ [];
      order = 0 ∷ 0 ∷ [];
      answers = 101 ∷ 15 ∷ [];
    }
    ∷ record {
      table = 0x01 ∷ 0x04 ∷ 0x00 ∷ 0x00 ∷ [];
      order = 0 ∷ [];
      answers = 101 ∷ [];
    }
    ∷ record {
      table = 0x02 ∷ 0x02 ∷ 0x00 ∷ 0x05 ∷ 0x01 ∷ 0x01 ∷ 0x01 ∷ 0x00 ∷ 0x03 ∷ 0x01 ∷ 0x00 ∷ [];
      order = 0 ∷ 0 ∷ 0 ∷ 0 ∷ 1 ∷ 0 ∷ 0 ∷ [];
      answers = 0 ∷ 0 ∷ 0 ∷ 16 ∷ 101 ∷ 0 ∷ 0 ∷ [];
    }
    ∷ record {
      table = 0x02 ∷ 0x05 ∷ 0x01 ∷ 0x01 ∷ 0x00 ∷ 0x00 ∷ [];
      order = 0 ∷ [];
      answers = 101 ∷ [];
    }
    -- F2; F3 before F1; F4.
    ∷ record {
      table = 0x02 ∷ 0x02 ∷ 0x00 ∷ 0x03 ∷ 0x00 ∷ 0x05 ∷ 0x01 ∷ 0x01 ∷ 0x00 ∷ 0x00 ∷ [];
      order = 0 ∷ 0 ∷ 0 ∷ [];
      answers = 0 ∷ 0 ∷ 102 ∷ [];
    }
    ∷ record {
      table = 0x03 ∷ 0x06 ∷ 0x01 ∷ 0x00 ∷ 0x05 ∷ 0x02 ∷ 0x01 ∷ 0x00 ∷ 0x00 ∷ [];
      order = 0 ∷ 0 ∷ [];
      answers = 0 ∷ 103 ∷ [];
    }
    ∷ record {
      table = 0x01 ∷ 0x02 ∷ 0x00 ∷ 0x02 ∷ 0x00 ∷ 0x00 ∷ [];
      order = 0 ∷ 0 ∷ [];
      answers = 0 ∷ 104 ∷ [];
    }
    -- F5 of OFFER, READ and RESET.
    ∷ record {
      table = 0x01 ∷ 0x09 ∷ 0x00 ∷ 0x00 ∷ [];
      order = 0 ∷ [];
      answers = 105 ∷ [];
    }
    ∷ record {
      table = 0x01 ∷ 0x0A ∷ 0x00 ∷ 0x00 ∷ [];
      order = 0 ∷ [];
      answers = 105 ∷ [];
    }
    ∷ record {
      table = 0x01 ∷ 0x0B ∷ 0x00 ∷ 0x00 ∷ [];
      order = 0 ∷ [];
      answers = 105 ∷ [];
    }
    -- F6 of READ and RESET, before F7; an OFFER of another's accumulator, and one with a quiesced clock, is no breach.
    ∷ record {
      table = 0x02 ∷ 0x02 ∷ 0x00 ∷ 0x08 ∷ 0x00 ∷ 0x00 ∷ 0x05 ∷ 0x01 ∷ 0x01 ∷ 0x00 ∷ 0x0A ∷ 0x00 ∷ 0x00 ∷ [];
      order = 0 ∷ 0 ∷ 0 ∷ 1 ∷ [];
      answers = 0 ∷ 0 ∷ 0 ∷ 106 ∷ [];
    }
    ∷ record {
      table = 0x02 ∷ 0x02 ∷ 0x00 ∷ 0x08 ∷ 0x00 ∷ 0x00 ∷ 0x05 ∷ 0x01 ∷ 0x01 ∷ 0x00 ∷ 0x0B ∷ 0x00 ∷ 0x00 ∷ [];
      order = 0 ∷ 0 ∷ 0 ∷ 1 ∷ [];
      answers = 0 ∷ 0 ∷ 0 ∷ 106 ∷ [];
    }
    ∷ record {
      table = 0x02 ∷ 0x08 ∷ 0x00 ∷ 0x00 ∷ 0x05 ∷ 0x01 ∷ 0x00 ∷ 0x00 ∷ 0x0B ∷ 0x00 ∷ 0x00 ∷ [];
      order = 0 ∷ 0 ∷ 1 ∷ [];
      answers = 0 ∷ 0 ∷ 106 ∷ [];
    }
    ∷ record {
      table = 0x02 ∷ 0x08 ∷ 0x00 ∷ 0x00 ∷ 0x05 ∷ 0x01 ∷ 0x00 ∷ 0x00 ∷ 0x09 ∷ 0x00 ∷ 0x00 ∷ [];
      order = 0 ∷ 0 ∷ 1 ∷ [];
      answers = 0 ∷ 0 ∷ 0 ∷ [];
    }
    ∷ record {
      table = 0x01 ∷ 0x08 ∷ 0x00 ∷ 0x00 ∷ 0x02 ∷ 0x00 ∷ 0x03 ∷ 0x00 ∷ 0x09 ∷ 0x00 ∷ 0x00 ∷ [];
      order = 0 ∷ 0 ∷ 0 ∷ 0 ∷ [];
      answers = 0 ∷ 0 ∷ 0 ∷ 0 ∷ [];
    }
    -- "Faults come before waiting.": F7 of READ and RESET, F6, F5.
    ∷ record {
      table = 0x02 ∷ 0x02 ∷ 0x00 ∷ 0x08 ∷ 0x00 ∷ 0x00 ∷ 0x05 ∷ 0x01 ∷ 0x00 ∷ 0x0A ∷ 0x00 ∷ 0x00 ∷ 0x00 ∷ [];
      order = 0 ∷ 0 ∷ 0 ∷ 0 ∷ [];
      answers = 0 ∷ 0 ∷ 0 ∷ 107 ∷ [];
    }
    ∷ record {
      table = 0x02 ∷ 0x02 ∷ 0x00 ∷ 0x08 ∷ 0x00 ∷ 0x00 ∷ 0x05 ∷ 0x01 ∷ 0x00 ∷ 0x0B ∷ 0x00 ∷ 0x00 ∷ 0x00 ∷ [];
      order = 0 ∷ 0 ∷ 0 ∷ 0 ∷ [];
      answers = 0 ∷ 0 ∷ 0 ∷ 107 ∷ [];
    }
    ∷ record {
      table = 0x03 ∷ 0x08 ∷ 0x00 ∷ 0x00 ∷ 0x05 ∷ 0x01 ∷ 0x00 ∷ 0x00 ∷ 0x05 ∷ 0x02 ∷ 0x00 ∷ 0x0A ∷ 0x00 ∷ 0x00 ∷ 0x00 ∷ [];
      order = 0 ∷ 0 ∷ 1 ∷ 1 ∷ [];
      answers = 0 ∷ 0 ∷ 0 ∷ 106 ∷ [];
    }
    ∷ record {
      table = 0x02 ∷ 0x05 ∷ 0x01 ∷ 0x00 ∷ 0x0A ∷ 0x00 ∷ 0x00 ∷ 0x00 ∷ [];
      order = 0 ∷ 0 ∷ [];
      answers = 0 ∷ 105 ∷ [];
    }
    -- "A faulted activity counts as ended.": READ, and the END of a FINISH body, which passes the fault on, do not wait for a faulted child,
    ∷ record {
      table = 0x02 ∷ 0x08 ∷ 0x00 ∷ 0x00 ∷ 0x05 ∷ 0x01 ∷ 0x00 ∷ 0x0A ∷ 0x00 ∷ 0x00 ∷ 0x04 ∷ 0x00 ∷ 0x00 ∷ [];
      order = 0 ∷ 0 ∷ 1 ∷ 0 ∷ [];
      answers = 0 ∷ 0 ∷ 101 ∷ 0 ∷ [];
    }
    ∷ record {
      table = 0x03 ∷ 0x06 ∷ 0x01 ∷ 0x00 ∷ 0x05 ∷ 0x02 ∷ 0x00 ∷ 0x00 ∷ 0x04 ∷ 0x00 ∷ 0x00 ∷ [];
      order = 0 ∷ 0 ∷ 1 ∷ 0 ∷ [];
      answers = 0 ∷ 0 ∷ 101 ∷ 108 ∷ [];
    }
    -- but for its child.
    ∷ record {
      table = 0x03 ∷ 0x08 ∷ 0x00 ∷ 0x00 ∷ 0x05 ∷ 0x01 ∷ 0x00 ∷ 0x0A ∷ 0x00 ∷ 0x00 ∷ 0x05 ∷ 0x02 ∷ 0x00 ∷ 0x04 ∷ 0x00 ∷ 0x00 ∷ 0x00 ∷ [];
      order = 0 ∷ 0 ∷ 1 ∷ 1 ∷ 0 ∷ [];
      answers = 0 ∷ 0 ∷ 0 ∷ 101 ∷ 16 ∷ [];
    }
    ∷ record {
      table = 0x04 ∷ 0x06 ∷ 0x01 ∷ 0x00 ∷ 0x05 ∷ 0x02 ∷ 0x00 ∷ 0x00 ∷ 0x05 ∷ 0x03 ∷ 0x00 ∷ 0x04 ∷ 0x00 ∷ 0x00 ∷ 0x00 ∷ [];
      order = 0 ∷ 0 ∷ 1 ∷ 1 ∷ 0 ∷ [];
      answers = 0 ∷ 0 ∷ 0 ∷ 101 ∷ 16 ∷ [];
    }
    -- OFFER by the owner waits for no descendant.
    ∷ record {
      table = 0x02 ∷ 0x08 ∷ 0x00 ∷ 0x00 ∷ 0x05 ∷ 0x01 ∷ 0x00 ∷ 0x09 ∷ 0x00 ∷ 0x00 ∷ 0x00 ∷ [];
      order = 0 ∷ 0 ∷ 0 ∷ [];
      answers = 0 ∷ 0 ∷ 0 ∷ [];
    }
    -- READ does not wait for a sibling; in an own FINISH body it waits for a child from before too.
    ∷ record {
      table = 0x02 ∷ 0x05 ∷ 0x01 ∷ 0x00 ∷ 0x05 ∷ 0x01 ∷ 0x00 ∷ 0x00 ∷ 0x08 ∷ 0x00 ∷ 0x00 ∷ 0x0A ∷ 0x00 ∷ 0x00 ∷ [];
      order = 0 ∷ 0 ∷ 1 ∷ 1 ∷ [];
      answers = 0 ∷ 0 ∷ 0 ∷ 0 ∷ [];
    }
    ∷ record {
      table = 0x03 ∷ 0x08 ∷ 0x00 ∷ 0x00 ∷ 0x05 ∷ 0x02 ∷ 0x00 ∷ 0x06 ∷ 0x01 ∷ 0x00 ∷ 0x0A ∷ 0x00 ∷ 0x00 ∷ 0x00 ∷ [];
      order = 0 ∷ 0 ∷ 0 ∷ 0 ∷ [];
      answers = 0 ∷ 0 ∷ 0 ∷ 16 ∷ [];
    }
    -- At a meeting siblings wait for each other, also when the spawner has dropped the clock.
    ∷ record {
      table = 0x02 ∷ 0x02 ∷ 0x00 ∷ 0x05 ∷ 0x01 ∷ 0x01 ∷ 0x05 ∷ 0x01 ∷ 0x01 ∷ 0x04 ∷ 0x00 ∷ 0x00 ∷ 0x01 ∷ 0x00 ∷ [];
      order = 0 ∷ 0 ∷ 0 ∷ 0 ∷ 1 ∷ 1 ∷ 2 ∷ 1 ∷ [];
      answers = 0 ∷ 0 ∷ 0 ∷ 0 ∷ 0 ∷ 16 ∷ 0 ∷ 0 ∷ [];
    }
    -- Holders are those of the clock, not of the name: the child drops it and makes another under the same.
    ∷ record {
      table = 0x02 ∷ 0x02 ∷ 0x01 ∷ 0x05 ∷ 0x01 ∷ 0x02 ∷ 0x01 ∷ 0x00 ∷ 0x04 ∷ 0x01 ∷ 0x02 ∷ 0x01 ∷ 0x00 ∷ [];
      order = 0 ∷ 0 ∷ 1 ∷ 1 ∷ 0 ∷ 0 ∷ [];
      answers = 0 ∷ 0 ∷ 0 ∷ 0 ∷ 0 ∷ 0 ∷ [];
    }
    -- "in the activity's phase on it": main is in phase 1 on one clock and in 0 on the one that it shares.
    ∷ record {
      table = 0x02 ∷ 0x02 ∷ 0x00 ∷ 0x01 ∷ 0x02 ∷ 0x01 ∷ 0x05 ∷ 0x01 ∷ 0x02 ∷ 0x01 ∷ 0x00 ∷ 0x01 ∷ 0x00 ∷ [];
      order = 0 ∷ 0 ∷ 0 ∷ 0 ∷ 0 ∷ 0 ∷ 1 ∷ 0 ∷ [];
      answers = 0 ∷ 0 ∷ 0 ∷ 0 ∷ 0 ∷ 0 ∷ 0 ∷ 0 ∷ [];
    }
    -- F3 through two REPEAT bodies; NEXT in an own FINISH body is no breach; the END of a REPEAT body waits for nobody.
    ∷ record {
      table = 0x05 ∷ 0x02 ∷ 0x00 ∷ 0x06 ∷ 0x01 ∷ 0x00 ∷ 0x07 ∷ 0x01 ∷ 0x02 ∷ 0x00 ∷ 0x07 ∷ 0x01 ∷ 0x03 ∷ 0x00 ∷ 0x05 ∷ 0x04 ∷ 0x01 ∷ 0x00 ∷ 0x00 ∷ [];
      order = 0 ∷ 0 ∷ 0 ∷ 0 ∷ 0 ∷ [];
      answers = 0 ∷ 0 ∷ 0 ∷ 0 ∷ 103 ∷ [];
    }
    ∷ record {
      table = 0x02 ∷ 0x02 ∷ 0x00 ∷ 0x06 ∷ 0x01 ∷ 0x00 ∷ 0x01 ∷ 0x00 ∷ [];
      order = 0 ∷ 0 ∷ 0 ∷ 0 ∷ 0 ∷ [];
      answers = 0 ∷ 0 ∷ 0 ∷ 0 ∷ 0 ∷ [];
    }
    ∷ record {
      table = 0x04 ∷ 0x06 ∷ 0x01 ∷ 0x00 ∷ 0x07 ∷ 0x02 ∷ 0x02 ∷ 0x00 ∷ 0x05 ∷ 0x03 ∷ 0x00 ∷ 0x00 ∷ 0x00 ∷ [];
      order = 0 ∷ 0 ∷ 0 ∷ 0 ∷ 0 ∷ [];
      answers = 0 ∷ 0 ∷ 0 ∷ 0 ∷ 0 ∷ [];
    }
    -- Numbers that nobody has: 14, and 15 for one that has ended.
    ∷ record {
      table = 0x01 ∷ 0x00 ∷ [];
      order = 1 ∷ 64 ∷ 255 ∷ 0 ∷ 0 ∷ [];
      answers = 14 ∷ 14 ∷ 14 ∷ 0 ∷ 15 ∷ [];
    }
    ∷ []
