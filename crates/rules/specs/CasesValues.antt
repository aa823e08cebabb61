-- Cases of our own: hands, cells and the values of accumulators at the end of a run.
use Rattle.std.specs.Prelude.{ℕ, List, [], ◌∷◌, Bool, true, false, ◌&&◌, eqb}
use Rattle.program.specs.Bodies.{program_of}
use Rattle.rules.specs.declared.state.State.{State}
use Rattle.rules.specs.Search.{list_from}
use Rattle.rules.specs.State.{act, accumulator}
use Rattle.rules.specs.Steps.{start_state}
use Rattle.program.specs.Same.{same_list}
use Rattle.rules.specs.Cases.{state_by}

-- The spawned activities' hands, the first cells (the others are 0), and the made accumulators' values.
pub record Valued : Type 0 where
  pub table : List ℕ
  pub order : List ℕ
  pub hands : List ℕ
  pub cells : List ℕ
  pub values : List ℕ

-- The first entries are those given, the others 0.
unfoldable pub begins_with : List ℕ → List ℕ → Bool
begins_with [] [] = true
begins_with [] (y ∷ ys) = false
begins_with (x ∷ xs) [] = let r = begins_with xs [] in eqb x 0 && r
begins_with (x ∷ xs) (y ∷ ys) = let r = begins_with xs ys in eqb x y && r

unfoldable pub leaves : State → Valued → Bool
leaves s c =
    same_list (list_from s.activities 0 (λ i. (act s i).register)) c.hands
    && (begins_with s.cells c.cells && same_list (list_from s.accumulators 0 (λ n. (accumulator s n).value)) c.values)

unfoldable pub all_leave : List Valued → Bool
all_leave [] = true
all_leave (c ∷ cs) = let r = all_leave cs in leaves (state_by (program_of c.table) start_state c.order) c && r

unfoldable pub valued : List Valued
valued =
    -- PUT v: "hand becomes v", "lowest first". STORE d: "cell becomes hand". An ended activity's hand stays.
    record {
      table = 0x01 ∷ 0x0C ∷ 0x78 ∷ 0x56 ∷ 0x34 ∷ 0x12 ∷ 0x0E ∷ 0x03 ∷ 0x00 ∷ [];
      order = 0 ∷ 0 ∷ 0 ∷ [];
      hands = 305419896 ∷ [];
      cells = 0 ∷ 0 ∷ 0 ∷ 305419896 ∷ [];
      values = [];
    }
    -- FETCH d: "hand becomes the cell".
    ∷ record {
      table = 0x01 ∷ 0x0C ∷ 0x05 ∷ 0x00 ∷ 0x00 ∷ 0x00 ∷ 0x0E ∷ 0x01 ∷ 0x0C ∷ 0x00 ∷ 0x00 ∷ 0x00 ∷ 0x00 ∷ 0x0D ∷ 0x01 ∷ 0x00 ∷ [];
      order = 0 ∷ 0 ∷ 0 ∷ 0 ∷ [];
      hands = 5 ∷ [];
      cells = 0 ∷ 5 ∷ [];
      values = [];
    }
    -- ADD d: "cell becomes cell plus hand modulo 2^32".
    ∷ record {
      table = 0x01 ∷ 0x0C ∷ 0xFF ∷ 0xFF ∷ 0xFF ∷ 0xFF ∷ 0x0E ∷ 0x00 ∷ 0x0F ∷ 0x00 ∷ 0x00 ∷ [];
      order = 0 ∷ 0 ∷ 0 ∷ [];
      hands = 4294967295 ∷ [];
      cells = 4294967294 ∷ [];
      values = [];
    }
    -- ATOM k: "the next k commands, all 0D to 0F, in one step", STORE 0, ADD 0, FETCH 0.
    ∷ record {
      table = 0x01 ∷ 0x0C ∷ 0x05 ∷ 0x00 ∷ 0x00 ∷ 0x00 ∷ 0x10 ∷ 0x03 ∷ 0x0E ∷ 0x00 ∷ 0x0F ∷ 0x00 ∷ 0x0D ∷ 0x00 ∷ 0x00 ∷ [];
      order = 0 ∷ 0 ∷ [];
      hands = 10 ∷ [];
      cells = 10 ∷ [];
      values = [];
    }
    -- Modulo 2^32 within ATOM too: STORE 3, ADD 3.
    ∷ record {
      table = 0x01 ∷ 0x0C ∷ 0xFF ∷ 0xFF ∷ 0xFF ∷ 0xFF ∷ 0x10 ∷ 0x02 ∷ 0x0E ∷ 0x03 ∷ 0x0F ∷ 0x03 ∷ 0x00 ∷ [];
      order = 0 ∷ 0 ∷ [];
      hands = 4294967295 ∷ [];
      cells = 0 ∷ 0 ∷ 0 ∷ 4294967294 ∷ [];
      values = [];
    }
    -- "A new accumulator holds 0, for minimum 4,294,967,295."
    ∷ record {
      table = 0x01 ∷ 0x08 ∷ 0x00 ∷ 0x00 ∷ 0x08 ∷ 0x01 ∷ 0x01 ∷ 0x08 ∷ 0x02 ∷ 0x02 ∷ 0x00 ∷ [];
      order = 0 ∷ 0 ∷ 0 ∷ [];
      hands = 0 ∷ [];
      cells = [];
      values = 0 ∷ 4294967295 ∷ 0 ∷ [];
    }
    -- OFFER a: "reduce hand into a", "sum modulo 2^32", minimum, maximum.
    ∷ record {
      table = 0x01 ∷ 0x08 ∷ 0x00 ∷ 0x00 ∷ 0x0C ∷ 0xFF ∷ 0xFF ∷ 0xFF ∷ 0xFF ∷ 0x09 ∷ 0x00 ∷ 0x09 ∷ 0x00 ∷ 0x00 ∷ [];
      order = 0 ∷ 0 ∷ 0 ∷ 0 ∷ [];
      hands = 4294967295 ∷ [];
      cells = [];
      values = 4294967294 ∷ [];
    }
    ∷ record {
      table = 0x01 ∷ 0x08 ∷ 0x00 ∷ 0x01 ∷ 0x0C ∷ 0x07 ∷ 0x00 ∷ 0x00 ∷ 0x00 ∷ 0x09 ∷ 0x00 ∷ 0x0C ∷ 0x09 ∷ 0x00 ∷ 0x00 ∷ 0x00 ∷ 0x09 ∷ 0x00 ∷ 0x00 ∷ [];
      order = 0 ∷ 0 ∷ 0 ∷ 0 ∷ 0 ∷ [];
      hands = 9 ∷ [];
      cells = [];
      values = 7 ∷ [];
    }
    ∷ record {
      table = 0x01 ∷ 0x08 ∷ 0x00 ∷ 0x02 ∷ 0x0C ∷ 0x07 ∷ 0x00 ∷ 0x00 ∷ 0x00 ∷ 0x09 ∷ 0x00 ∷ 0x0C ∷ 0x03 ∷ 0x00 ∷ 0x00 ∷ 0x00 ∷ 0x09 ∷ 0x00 ∷ 0x00 ∷ [];
      order = 0 ∷ 0 ∷ 0 ∷ 0 ∷ 0 ∷ [];
      hands = 3 ∷ [];
      cells = [];
      values = 7 ∷ [];
    }
    -- READ a: "hand becomes a's value". RESET a: "a's value becomes hand".
    ∷ record {
      table = 0x01 ∷ 0x08 ∷ 0x00 ∷ 0x01 ∷ 0x0A ∷ 0x00 ∷ 0x00 ∷ [];
      order = 0 ∷ 0 ∷ [];
      hands = 4294967295 ∷ [];
      cells = [];
      values = 4294967295 ∷ [];
    }
    ∷ record {
      table = 0x01 ∷ 0x08 ∷ 0x00 ∷ 0x00 ∷ 0x0C ∷ 0x09 ∷ 0x00 ∷ 0x00 ∷ 0x00 ∷ 0x09 ∷ 0x00 ∷ 0x09 ∷ 0x00 ∷ 0x0B ∷ 0x00 ∷ 0x00 ∷ [];
      order = 0 ∷ 0 ∷ 0 ∷ 0 ∷ 0 ∷ [];
      hands = 9 ∷ [];
      cells = [];
      values = 9 ∷ [];
    }
    -- "A spawned activity gets its spawner's hand, all accumulator names".
    ∷ record {
      table = 0x02 ∷ 0x08 ∷ 0x00 ∷ 0x00 ∷ 0x0C ∷ 0x06 ∷ 0x00 ∷ 0x00 ∷ 0x00 ∷ 0x05 ∷ 0x01 ∷ 0x00 ∷ 0x00 ∷ 0x09 ∷ 0x00 ∷ 0x00 ∷ [];
      order = 0 ∷ 0 ∷ 0 ∷ 1 ∷ [];
      hands = 6 ∷ 6 ∷ [];
      cells = [];
      values = 6 ∷ [];
    }
    -- "ACC on a bound name replaces the binding."
    ∷ record {
      table = 0x01 ∷ 0x08 ∷ 0x00 ∷ 0x00 ∷ 0x0C ∷ 0x01 ∷ 0x00 ∷ 0x00 ∷ 0x00 ∷ 0x09 ∷ 0x00 ∷ 0x0C ∷ 0x05 ∷ 0x00 ∷ 0x00 ∷ 0x00 ∷ 0x08 ∷ 0x00 ∷ 0x02 ∷ 0x09 ∷ 0x00 ∷ 0x00 ∷ [];
      order = 0 ∷ 0 ∷ 0 ∷ 0 ∷ 0 ∷ 0 ∷ [];
      hands = 5 ∷ [];
      cells = [];
      values = 1 ∷ 5 ∷ [];
    }
    -- "A fault .. changes nothing else".
    ∷ record {
      table = 0x01 ∷ 0x08 ∷ 0x00 ∷ 0x00 ∷ 0x0C ∷ 0x07 ∷ 0x00 ∷ 0x00 ∷ 0x00 ∷ 0x0E ∷ 0x00 ∷ 0x09 ∷ 0x00 ∷ 0x03 ∷ 0x00 ∷ 0x00 ∷ [];
      order = 0 ∷ 0 ∷ 0 ∷ 0 ∷ 0 ∷ [];
      hands = 7 ∷ [];
      cells = 7 ∷ [];
      values = 7 ∷ [];
    }
    -- "five activities offering 1 inside a finish, then READ, leave hand 5"
    ∷ record {
      table = 0x03 ∷ 0x08 ∷ 0x00 ∷ 0x00 ∷ 0x0C ∷ 0x01 ∷ 0x00 ∷ 0x00 ∷ 0x00 ∷ 0x06 ∷ 0x01 ∷ 0x0A ∷ 0x00 ∷ 0x00 ∷ 0x05 ∷ 0x02 ∷ 0x00 ∷ 0x05 ∷ 0x02 ∷ 0x00 ∷ 0x05 ∷ 0x02 ∷ 0x00 ∷ 0x05 ∷ 0x02 ∷ 0x00 ∷ 0x05 ∷ 0x02 ∷ 0x00 ∷ 0x00 ∷ 0x09 ∷ 0x00 ∷ 0x00 ∷ [];
      order = 0 ∷ 0 ∷ 0 ∷ 0 ∷ 0 ∷ 0 ∷ 0 ∷ 0 ∷ 1 ∷ 1 ∷ 2 ∷ 2 ∷ 3 ∷ 3 ∷ 4 ∷ 4 ∷ 5 ∷ 5 ∷ 0 ∷ 0 ∷ 0 ∷ [];
      hands = 5 ∷ 1 ∷ 1 ∷ 1 ∷ 1 ∷ 1 ∷ [];
      cells = [];
      values = 5 ∷ [];
    }
    -- Minimum and maximum have no sign: 1 and 4,294,967,295.
    ∷ record {
      table = 0x01 ∷ 0x08 ∷ 0x00 ∷ 0x01 ∷ 0x08 ∷ 0x01 ∷ 0x02 ∷ 0x0C ∷ 0x01 ∷ 0x00 ∷ 0x00 ∷ 0x00 ∷ 0x09 ∷ 0x00 ∷ 0x09 ∷ 0x01 ∷ 0x0C ∷ 0xFF ∷ 0xFF
          ∷ 0xFF ∷ 0xFF ∷ 0x09 ∷ 0x00 ∷ 0x09 ∷ 0x01 ∷ 0x00 ∷ [];
      order = 0 ∷ 0 ∷ 0 ∷ 0 ∷ 0 ∷ 0 ∷ 0 ∷ 0 ∷ [];
      hands = 4294967295 ∷ [];
      cells = [];
      values = 1 ∷ 4294967295 ∷ [];
    }
    -- An accumulator outlives its owner: main ends, then its child offers 3.
    ∷ record {
      table = 0x02 ∷ 0x08 ∷ 0x00 ∷ 0x00 ∷ 0x05 ∷ 0x01 ∷ 0x00 ∷ 0x00 ∷ 0x0C ∷ 0x03 ∷ 0x00 ∷ 0x00 ∷ 0x00 ∷ 0x09 ∷ 0x00 ∷ 0x00 ∷ [];
      order = 0 ∷ 0 ∷ 0 ∷ 1 ∷ 1 ∷ [];
      hands = 0 ∷ 3 ∷ [];
      cells = [];
      values = 3 ∷ [];
    }
    ∷ []
