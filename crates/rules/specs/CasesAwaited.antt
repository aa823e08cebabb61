-- Cases of our own: how many an activity waits for, in runs and in states made by hand.
use Rattle.std.specs.Prelude.{ℕ, List, [], ◌∷◌, ◌++◌, Bool, true, false, ◌&&◌, replicate, eqb}
use Rattle.program.specs.Bodies.{Program, program_of}
use Rattle.program.specs.Table.{work_limit, number_of}
use Rattle.rules.specs.declared.state.Status.TheVariants.{Running, Ended}
use Rattle.rules.specs.declared.state.Registration.TheVariants.{Live, Quiesced}
use Rattle.rules.specs.declared.state.Operator.TheVariants.{Sum}
use Rattle.rules.specs.declared.state.Activity.{Activity}
use Rattle.rules.specs.declared.state.State.{State}
use Rattle.rules.specs.Search.{list_from}
use Rattle.rules.specs.State.{answer_number}
use Rattle.rules.specs.Effects.{stopped}
use Rattle.rules.specs.Steps.{base, start_state, awaited, advance, awaited_number, awaited_count}
use Rattle.rules.specs.Written.{bottom, hold_on, holding, activity, written, with_hold, with_spawner, with_acts, with_counts, change, pair, paired, crowd, crowded}
use Rattle.rules.specs.CasesCalls.{same, reader, reading, lined, finish, finishing, lonely}

-- RUNS

-- An accepted table with an order: what each step is answered, and how many its activity waits for when it is called.
pub record Waited : Type 0 where
  pub table : List ℕ
  pub order : List ℕ
  pub answers : List ℕ
  pub awaited : List ℕ

-- The steps of an order, without the test of number 13, are answered so, and wait for so many.
unfoldable pub waits_along : Program → State → List ℕ → List ℕ → List ℕ → Bool
waits_along p s [] [] [] = true
waits_along p s [] [] (n ∷ numbers) = false
waits_along p s [] (a ∷ more) numbers = false
waits_along p s (i ∷ order) [] numbers = false
waits_along p s (i ∷ order) (a ∷ more) [] = false
waits_along p s (i ∷ order) (a ∷ more) (n ∷ numbers) =
    let r = advance base p s i in
    eqb (answer_number r.answer) a && (eqb (awaited p s i) n && waits_along p r.state order more numbers)

unfoldable pub waits_so : Waited → Bool
waits_so c = eqb (number_of work_limit c.table) 0 && waits_along (program_of c.table) start_state c.order c.answers c.awaited

unfoldable pub all_wait : List Waited → Bool
all_wait [] = true
all_wait (c ∷ cs) = let r = all_wait cs in waits_so c && r

-- ACC 0 0, ASYNC of one that spawns another, then the command given under name 0.
abbrev owning : ℕ → List ℕ
owning op = 0x03 ∷ 0x08 ∷ 0x00 ∷ 0x00 ∷ 0x05 ∷ 0x01 ∷ 0x00 ∷ op ∷ 0x00 ∷ 0x00 ∷ 0x05 ∷ 0x02 ∷ 0x00 ∷ 0x00 ∷ 0x00 ∷ []

-- The child; the child and the grandchild; the grandchild, the child having ended.
abbrev owned : ℕ → Waited
owned op =
    record {
      table = owning op;
      order = 0 ∷ 0 ∷ 0 ∷ 1 ∷ 0 ∷ 1 ∷ 0 ∷ 2 ∷ 0 ∷ [];
      answers = 0 ∷ 0 ∷ 16 ∷ 0 ∷ 16 ∷ 0 ∷ 16 ∷ 0 ∷ 0 ∷ [];
      awaited = 0 ∷ 0 ∷ 1 ∷ 0 ∷ 2 ∷ 0 ∷ 1 ∷ 0 ∷ 0 ∷ [];
    }

unfoldable pub waited : List Waited
waited =
    -- "the different activities behind": one who is behind on two clocks. CLOCK 0, CLOCK 1, ASYNC 1 3, NEXT.
    record {
      table = 0x02 ∷ 0x02 ∷ 0x00 ∷ 0x02 ∷ 0x01 ∷ 0x05 ∷ 0x01 ∷ 0x03 ∷ 0x01 ∷ 0x00 ∷ 0x01 ∷ 0x00 ∷ [];
      order = 0 ∷ 0 ∷ 0 ∷ 0 ∷ 0 ∷ 1 ∷ 0 ∷ [];
      answers = 0 ∷ 0 ∷ 0 ∷ 0 ∷ 16 ∷ 0 ∷ 0 ∷ [];
      awaited = 0 ∷ 0 ∷ 0 ∷ 0 ∷ 1 ∷ 0 ∷ 0 ∷ [];
    }
    -- Three on one clock, which arrive one after the other.
    ∷ record {
      table = 0x02 ∷ 0x02 ∷ 0x00 ∷ 0x05 ∷ 0x01 ∷ 0x01 ∷ 0x05 ∷ 0x01 ∷ 0x01 ∷ 0x05 ∷ 0x01 ∷ 0x01 ∷ 0x01 ∷ 0x00 ∷ 0x01 ∷ 0x00 ∷ [];
      order = 0 ∷ 0 ∷ 0 ∷ 0 ∷ 0 ∷ 0 ∷ 2 ∷ 0 ∷ 1 ∷ 0 ∷ 3 ∷ 0 ∷ [];
      answers = 0 ∷ 0 ∷ 0 ∷ 0 ∷ 0 ∷ 16 ∷ 0 ∷ 16 ∷ 0 ∷ 16 ∷ 0 ∷ 0 ∷ [];
      awaited = 0 ∷ 0 ∷ 0 ∷ 0 ∷ 0 ∷ 3 ∷ 0 ∷ 2 ∷ 0 ∷ 1 ∷ 0 ∷ 0 ∷ [];
    }
    -- CLOCK 3, CLOCK 5, and four children: on the first, on the second, on both, on none. Activity 1 waits for main and activity 3; main for activities 2
    -- and 3, then for 2 alone.
    ∷ record {
      table = 0x02 ∷ 0x02 ∷ 0x03 ∷ 0x02 ∷ 0x05 ∷ 0x05 ∷ 0x01 ∷ 0x08 ∷ 0x05 ∷ 0x01 ∷ 0x20 ∷ 0x05 ∷ 0x01 ∷ 0x28 ∷ 0x05 ∷ 0x01 ∷ 0x00 ∷ 0x01 ∷ 0x00 ∷ 0x01 ∷ 0x00 ∷ [];
      order = replicate 6 0 ++ (1 ∷ 1 ∷ 0 ∷ 0 ∷ 3 ∷ 0 ∷ 1 ∷ []);
      answers = replicate 6 0 ++ (0 ∷ 16 ∷ 0 ∷ 16 ∷ 0 ∷ 16 ∷ 0 ∷ []);
      awaited = replicate 6 0 ++ (0 ∷ 2 ∷ 0 ∷ 2 ∷ 0 ∷ 1 ∷ 0 ∷ []);
    }
    -- CLOCK 3, ASYNC 1 8 twice, NEXT twice; each child NEXT twice. Main, past the first meeting and at the second, waits for two who have not passed, though quiesced;
    -- for one who has passed and is live, and the other; for the other alone.
    ∷ record {
      table = 0x02 ∷ 0x02 ∷ 0x03 ∷ 0x05 ∷ 0x01 ∷ 0x08 ∷ 0x05 ∷ 0x01 ∷ 0x08 ∷ 0x01 ∷ 0x01 ∷ 0x00 ∷ 0x01 ∷ 0x01 ∷ 0x00 ∷ [];
      order = 0 ∷ 0 ∷ 0 ∷ 0 ∷ 1 ∷ 2 ∷ 0 ∷ 0 ∷ 0 ∷ 1 ∷ 0 ∷ 1 ∷ 0 ∷ [];
      answers = replicate 8 0 ++ (16 ∷ 0 ∷ 16 ∷ 0 ∷ 16 ∷ []);
      awaited = replicate 8 0 ++ (2 ∷ 0 ∷ 2 ∷ 0 ∷ 1 ∷ []);
    }
    -- "those inside a finish not ended": two children that end one after the other.
    ∷ record {
      table = 0x03 ∷ 0x06 ∷ 0x01 ∷ 0x00 ∷ 0x05 ∷ 0x02 ∷ 0x00 ∷ 0x05 ∷ 0x02 ∷ 0x00 ∷ 0x00 ∷ 0x00 ∷ [];
      order = 0 ∷ 0 ∷ 0 ∷ 0 ∷ 1 ∷ 0 ∷ 2 ∷ 0 ∷ [];
      answers = 0 ∷ 0 ∷ 0 ∷ 16 ∷ 0 ∷ 16 ∷ 0 ∷ 0 ∷ [];
      awaited = 0 ∷ 0 ∷ 0 ∷ 2 ∷ 0 ∷ 1 ∷ 0 ∷ 0 ∷ [];
    }
    -- A child from before the finish is not inside; a grandchild is, also when its spawner has ended. ASYNC 3 0, FINISH 1; body 1 ASYNC 2 0, ASYNC 3 0; body 2
    -- ASYNC 3 0.
    ∷ record {
      table = 0x04 ∷ 0x05 ∷ 0x03 ∷ 0x00 ∷ 0x06 ∷ 0x01 ∷ 0x00 ∷ 0x05 ∷ 0x02 ∷ 0x00 ∷ 0x05 ∷ 0x03 ∷ 0x00 ∷ 0x00 ∷ 0x05 ∷ 0x03 ∷ 0x00 ∷ 0x00 ∷ 0x00 ∷ [];
      order = 0 ∷ 0 ∷ 0 ∷ 0 ∷ 0 ∷ 2 ∷ 0 ∷ 2 ∷ 0 ∷ 3 ∷ 0 ∷ 4 ∷ 0 ∷ [];
      answers = 0 ∷ 0 ∷ 0 ∷ 0 ∷ 16 ∷ 0 ∷ 16 ∷ 0 ∷ 16 ∷ 0 ∷ 16 ∷ 0 ∷ 0 ∷ [];
      awaited = 0 ∷ 0 ∷ 0 ∷ 0 ∷ 2 ∷ 0 ∷ 3 ∷ 0 ∷ 2 ∷ 0 ∷ 1 ∷ 0 ∷ 0 ∷ [];
    }
    -- A faulted one inside is not counted: two children, of whom the first faults; then nobody is waited for, and the fault is passed on.
    ∷ record {
      table = 0x04 ∷ 0x06 ∷ 0x01 ∷ 0x00 ∷ 0x05 ∷ 0x02 ∷ 0x00 ∷ 0x05 ∷ 0x03 ∷ 0x00 ∷ 0x00 ∷ 0x03 ∷ 0x00 ∷ 0x00 ∷ 0x00 ∷ [];
      order = 0 ∷ 0 ∷ 0 ∷ 0 ∷ 1 ∷ 0 ∷ 2 ∷ 0 ∷ [];
      answers = 0 ∷ 0 ∷ 0 ∷ 16 ∷ 101 ∷ 16 ∷ 0 ∷ 108 ∷ [];
      awaited = 0 ∷ 0 ∷ 0 ∷ 2 ∷ 0 ∷ 1 ∷ 0 ∷ 0 ∷ [];
    }
    -- "or the descendants not ended": READ, RESET.
    ∷ owned 0x0A
    ∷ owned 0x0B
    -- A fault, 15 and 14 have 0: the child of a table of two READs an accumulator of another's; then it has ended.
    ∷ record {
      table = 0x02 ∷ 0x08 ∷ 0x02 ∷ 0x00 ∷ 0x05 ∷ 0x01 ∷ 0x00 ∷ 0x0A ∷ 0x02 ∷ 0x00 ∷ 0x0A ∷ 0x02 ∷ 0x00 ∷ [];
      order = 0 ∷ 0 ∷ 0 ∷ 1 ∷ 1 ∷ 7 ∷ 0 ∷ [];
      answers = 0 ∷ 0 ∷ 16 ∷ 106 ∷ 15 ∷ 14 ∷ 0 ∷ [];
      awaited = 0 ∷ 0 ∷ 1 ∷ 0 ∷ 0 ∷ 0 ∷ 0 ∷ [];
    }
    ∷ []

-- STATES

-- What the call answers, and the count.
pub record Asked : Type 0 where
  pub table : List ℕ
  pub state : State
  pub activity : ℕ
  pub number : ℕ
  pub count : ℕ

unfoldable pub counts_so : Asked → Bool
counts_so c =
    eqb (awaited_number base c.table c.state c.activity) c.number && eqb (awaited_count base c.table c.state c.activity) c.count

unfoldable pub all_count : List Asked → Bool
all_count [] = true
all_count (c ∷ cs) = let r = all_count cs in counts_so c && r

abbrev pub asks : List ℕ → State → ℕ → ℕ → ℕ → Asked
asks table s i number count = record { table = table; state = s; activity = i; number = number; count = count }

-- Main at a READ of its own, with three children that have not ended.
abbrev unended : State
unended = written 0 1 [] (activity Running 0 0 (bottom 0 0 ∷ []) [] (1 ∷ []) ∷ replicate 3 (activity Running 0 0 (bottom 0 1 ∷ []) [] [])) (holding 0 Sum 0 ∷ [])

-- Sixty-three descendants of main, each a child of the one before; none has ended.
unfoldable pub standing_line : Activity → State
standing_line main = with_counts 0 64 0 0 (with_acts (main ∷ list_from 63 0 (λ i. with_spawner i (activity Running 0 0 (bottom 0 1 ∷ []) [] []))) start_state)

unfoldable pub asked : List Asked
asked =
    -- The table's number, 13, 14 and 15 have 0, in states where main waits or would.
    asks (0x01 ∷ 0x12 ∷ []) paired 0 3 0
    ∷ asks pair (with_counts 9 2 1 0 paired) 0 13 0
    ∷ asks reader (reading same) 2 14 0
    ∷ asks reader (reading (λ a. stopped a Ended)) 0 15 0
    ∷ asks reader (reading same) 0 0 1
    -- One who can step; one whose step 17 would turn down.
    ∷ asks pair paired 1 0 0
    ∷ asks crowd crowded 0 0 0
    -- A fault comes before waiting: F7 by a READ with three children that have not ended; without the clock it waits for the three.
    ∷ asks reader unended 0 0 3
    ∷ asks reader (change 0 (with_hold 6 (hold_on 0 0 Live)) unended) 0 0 0
    -- In a line of sixty-three: the last alone, all others having ended; all; none is inside where the first was spawned before the finish.
    ∷ asks reader (lined (activity Running 0 0 (bottom 0 0 ∷ []) [] (1 ∷ [])) 1) 0 0 1
    ∷ asks finish (lined (finishing 1) 0) 0 0 1
    ∷ asks finish (standing_line (finishing 1)) 0 0 63
    ∷ asks finish (standing_line (finishing 2)) 0 0 0
    -- At a meeting and live, it waits for itself; with the child that is behind, for two.
    ∷ asks pair (lonely 3 Live) 0 0 1
    ∷ asks pair (change 0 (with_hold 0 (hold_on 0 0 Live)) paired) 0 0 2
    ∷ asks pair (change 0 (with_hold 0 (hold_on 65535 0 Quiesced)) (change 1 (with_hold 0 (hold_on 65535 0 Live)) paired)) 0 0 1
    ∷ []
