-- The register of an activity and the cells, touched in the lent bytes.
use Rattle.std.specs.Prelude.{◌≡◌, ℕ, ◌+◌, ◌*◌, ◌<◌, true, List, length, drop, slice_index, slice_index_or, slice_set}
use Rattle.program.specs.Command.{operands_of, row_of, uses_cell}
use Rattle.program.specs.Bodies.{program_of}
use Rattle.program.specs.Reading.{whole, all_inside, read}
use Rattle.program.specs.declared.command.Command.{Command}
use Rattle.program.specs.declared.command.Command.TheVariants.{End, Atom}
use Rattle.rules.specs.declared.state.Frame.{Frame}
use Rattle.rules.specs.declared.state.State.{State}
use Rattle.rules.specs.State.{act}
use Rattle.rules.specs.Tree.{here}
use Rattle.rules.specs.Effects.{Touch, with_register, with_stores, touch, touch_all}
use Rattle.places.specs.Known.{On}
use Rattle.fields.specs.Lent.{Lent}
use Rattle.moves.specs.Moves.{Turns}

abbrev pub cell_in : State → ℕ → ℕ
cell_in s d = slice_index s.cells d

-- The state with the register of activity i and the stores in its cells.
unfoldable pub touched : State → ℕ → Touch → State
touched s i x =
    record {
      cells = with_stores s.cells x.stores;
      acts = slice_set s.acts i (with_register (act s i) x.register);
      accs = s.accs;
      steps = s.steps;
      activities = s.activities;
      clocks = s.clocks;
      accumulators = s.accumulators;
    }

-- After what was touched before, a command is touched.
pub record Touches (command : Command) (b c : List ℕ) (i : ℕ) : Type 0 where
  pub touches : (s : State) (x : Touch) → Lent b (touched s i x) → i < 64 → Lent c (touched s i (touch (cell_in s) x command))

-- A command on a cell that there is: FETCH, STORE or ADD.
pub record TouchesBy (command : Command) (b c : List ℕ) (i : ℕ) : Type 0 where
  pub touches : uses_cell command ≡ true → all_inside (row_of command).operands (operands_of command) ≡ true → Touches command b c i

-- Its turn, of what a change makes of the bytes.
pub record TurnsOnCell (Change : List ℕ → List ℕ → Type 0) (b c : List ℕ) (work i r : ℕ) : Type 0 where
  pub turns : (command : Command) → uses_cell command ≡ true → ((d : List ℕ) → Change b d → Touches command b d i) → Turns command b c work i r

-- Commands on cells that stand in bytes from a place on, two bytes each.
pub record Listed (code : List ℕ) (at k : ℕ) (cs : List Command) : Type 0 where
  pub long : length cs ≡ k
  pub stands : (j : ℕ) → j < k → read (drop (at + 2 * j) code) ≡ whole (slice_index_or cs j End) 2
  pub cells : (j : ℕ) → j < k → uses_cell (slice_index_or cs j End) ≡ true

-- They are touched one after the other.
pub record TouchesAll (code : List ℕ) (at k : ℕ) (b c : List ℕ) (i : ℕ) : Type 0 where
  pub touches : (cs : List Command) → Listed code at k cs → (s : State) (x : Touch) → Lent b (touched s i x) → i < 64 → Lent c (touched s i (touch_all (cell_in s) x cs))

-- Those that belong to an ATOM.
pub record TouchesIn (t : List ℕ) (f : Frame) (k : ℕ) (b c : List ℕ) (i : ℕ) : Type 0 where
  pub touches : On t f (Atom k) → (s : State) (x : Touch) → Lent b (touched s i x) → i < 64 → Lent c (touched s i (touch_all (cell_in s) x (here (program_of t) f).inner))
