-- What a command does: an effect with no state in it, and what applying an effect makes of a state.
use Rattle.std.specs.Prelude.{ℕ, zero, suc, ◌+◌, ◌-◌, ◌%◌, List, [], ◌∷◌, map, Bool, true, false, cond, get_or, set, ltb, leb, eqb}
use Rattle.program.specs.declared.command.Command.{Command}
use Rattle.program.specs.declared.command.Command.TheVariants.{End, Next, Clock, Resume, Drop, Async, Finish, Repeat, Acc, Offer, Read, Reset, Put, Fetch, Store, Add, Atom, Choose}
use Rattle.program.specs.Bodies.{Program}
use Rattle.rules.specs.declared.state.Status.{Status}
use Rattle.rules.specs.declared.state.Status.TheVariants.{Running, AtBarrier, Ended}
use Rattle.rules.specs.declared.state.Registration.TheVariants.{Live}
use Rattle.rules.specs.declared.state.Operator.{Operator}
use Rattle.rules.specs.declared.state.Operator.TheVariants.{Sum, Minimum, Maximum}
use Rattle.rules.specs.declared.state.Frame.{Frame}
use Rattle.rules.specs.declared.state.Hold.{Hold}
use Rattle.rules.specs.declared.state.Activity.{Activity}
use Rattle.rules.specs.declared.state.Accumulator.{Accumulator}
use Rattle.rules.specs.declared.state.State.{State}
use Rattle.rules.specs.State.{operator_of, no_frame, no_hold, no_frames, no_holds, top, hold, accumulator, is_at_barrier}
use Rattle.rules.specs.Clocks.{quiesce, pass}
use Rattle.rules.specs.Tree.{next_offset}
use Rattle.rules.specs.Faults.{Env, bit, number_under}

-- AN ACTIVITY WITH SOME FIELDS CHANGED

abbrev pub with_frames : Activity → ℕ → List Frame → Activity
with_frames a depth frames =
    record {
      register = a.register;
      frames = frames;
      holds = a.holds;
      accumulators = a.accumulators;
      status = a.status;
      spawner = a.spawner;
      depth = depth;
    }

abbrev pub with_holds : Activity → Status → List Hold → Activity
with_holds a status holds =
    record {
      register = a.register;
      frames = a.frames;
      holds = holds;
      accumulators = a.accumulators;
      status = status;
      spawner = a.spawner;
      depth = a.depth;
    }

abbrev pub with_register : Activity → ℕ → Activity
with_register a register =
    record {
      register = register;
      frames = a.frames;
      holds = a.holds;
      accumulators = a.accumulators;
      status = a.status;
      spawner = a.spawner;
      depth = a.depth;
    }

abbrev pub with_names : Activity → List ℕ → Activity
with_names a names =
    record {
      register = a.register;
      frames = a.frames;
      holds = a.holds;
      accumulators = names;
      status = a.status;
      spawner = a.spawner;
      depth = a.depth;
    }

-- "An ended activity has no bodies and no clocks; its hand stays."
abbrev pub stopped : Activity → Status → Activity
stopped a status =
    record {
      register = a.register;
      frames = no_frames;
      holds = no_holds;
      accumulators = a.accumulators;
      status = status;
      spawner = a.spawner;
      depth = 0;
    }

-- THE STACK

abbrev pub with_top : Activity → Frame → Activity
with_top a f = with_frames a a.depth (set a.frames (a.depth - 1) f)

-- The top body goes on after its command.
unfoldable pub past : Program → Activity → Activity
past p a = with_top a (record { offset = next_offset p (top a); body = (top a).body; runs = (top a).runs; first = (top a).first })

-- A body begins on top.
unfoldable pub pushed : Activity → ℕ → ℕ → ℕ → Activity
pushed a b runs first = with_frames a (a.depth + 1) (set a.frames a.depth (record { offset = 0; body = b; runs = runs; first = first }))

-- The top body runs again.
unfoldable pub again : Activity → Activity
again a = with_top a (record { offset = 0; body = (top a).body; runs = (top a).runs - 1; first = (top a).first })

-- The top body is gone, and the one below "goes on after the command".
unfoldable pub popped : Program → Activity → Activity
popped p a = past p (with_frames a (a.depth - 1) (set a.frames (a.depth - 1) no_frame))

-- COMMANDS

-- "END of a spawned body, or of body 0, ends the activity and drops its clocks. END of a FINISH body .. goes on after the command. END of a REPEAT
-- body runs it again until n runs are done." Of CHOOSE: "its END is one step".
unfoldable pub end_of : Program → Activity → Activity
end_of p a =
    let over = stopped a Ended in
    let more = again a in
    let out = popped p a in
    cond (leb a.depth 1) over (cond (ltb 1 (top a).runs) more out)

-- "Arrival quiesces all own clocks. Passing raises each own phase by one and makes each live."
unfoldable pub next_of : Program → Activity → Bool → Activity
next_of p a false = with_holds a AtBarrier (map quiesce a.holds)
next_of p a true = past p (with_holds a Running (map pass a.holds))

-- "REPEAT 0 takes one step and runs nothing."
unfoldable pub repeat_of : Program → Activity → ℕ → ℕ → Activity
repeat_of p a zero b = past p a
repeat_of p a (suc n) b = pushed a b (suc n) 0

-- "CHOOSE b runs b once if the hand is not 0, and takes one step in either case."
unfoldable pub choose_of : Program → Activity → ℕ → Activity
choose_of p a b =
    let skipped = past p a in
    let begun = pushed a b 0 0 in
    cond (eqb a.register 0) skipped begun

-- "the clocks of m under the same names, at the spawner's phase, live"; the first hold has name k
unfoldable pub lent : ℕ → ℕ → List Hold → List Hold
lent m k [] = []
lent m k (h ∷ hs) = cond (bit m k) (record { phase = h.phase; clock = h.clock; registration = Live }) no_hold ∷ lent m (suc k) hs

-- "A spawned activity gets its spawner's hand, all accumulator names, and the clocks of m"
unfoldable pub child : ℕ → Activity → ℕ → ℕ → Activity
child i a b m =
    record {
      register = a.register;
      frames = set no_frames 0 (record { offset = 0; body = b; runs = 0; first = 0 });
      holds = lent m 0 a.holds;
      accumulators = a.accumulators;
      status = Running;
      spawner = i;
      depth = 1;
    }

-- "sum modulo 2^32", minimum, maximum
abbrev pub reduce : Operator → ℕ → ℕ → ℕ
reduce Sum x y = (x + y) % 4294967296
reduce Minimum x y = cond (leb x y) x y
reduce Maximum x y = cond (leb x y) y x

-- "A new accumulator holds 0, for minimum 4,294,967,295."
abbrev pub new_value : Operator → ℕ
new_value Sum = 0
new_value Minimum = 4294967295
new_value Maximum = 0

abbrev pub new_accumulator : ℕ → Operator → Accumulator
new_accumulator i o = record { value = new_value o; owner = i; operator = o }

-- CELLS

pub record Stored : Type 0 where
  pub cell : ℕ
  pub value : ℕ

-- A register, and what was stored in cells, the newest first.
pub record Touch : Type 0 where
  pub register : ℕ
  pub stores : List Stored

-- What a cell holds after stores.
unfoldable pub cell_after : (ℕ → ℕ) → List Stored → ℕ → ℕ
cell_after cell [] d = cell d
cell_after cell (x ∷ xs) d = let r = cell_after cell xs d in cond (eqb x.cell d) x.value r

abbrev pub storing : Touch → ℕ → ℕ → Touch
storing t d v = record { register = t.register; stores = record { cell = d; value = v } ∷ t.stores }

-- FETCH d: "hand becomes the cell". STORE d: "cell becomes hand". ADD d: "cell becomes cell plus hand modulo 2^32".
unfoldable pub touch : (ℕ → ℕ) → Touch → Command → Touch
touch cell t End = t
touch cell t Next = t
touch cell t (Clock c) = t
touch cell t (Resume c) = t
touch cell t (Drop c) = t
touch cell t (Async b m) = t
touch cell t (Finish b) = t
touch cell t (Repeat n b) = t
touch cell t (Acc a o) = t
touch cell t (Offer a) = t
touch cell t (Read a) = t
touch cell t (Reset a) = t
touch cell t (Put v) = t
touch cell t (Fetch d) = record { register = cell_after cell t.stores d; stores = t.stores }
touch cell t (Store d) = storing t d t.register
touch cell t (Add d) = storing t d ((cell_after cell t.stores d + t.register) % 4294967296)
touch cell t (Atom k) = t
touch cell t (Choose b) = t

-- ATOM k: "the next k commands, all 0D to 0F, in one step"
unfoldable pub touch_all : (ℕ → ℕ) → Touch → List Command → Touch
touch_all cell t [] = t
touch_all cell t (c ∷ cs) = touch_all cell (touch cell t c) cs

-- EFFECTS

pub data Spawned : Type 0 where
  nobody : Spawned
  one : Activity → Spawned

-- What becomes of the accumulators: nothing, a new one, an offer to one, one set anew.
pub data Write : Type 0 where
  keep : Write
  make : Accumulator → Write
  offer : ℕ → ℕ → Write
  reset : ℕ → ℕ → Write

pub record Effect : Type 0 where
  pub self : Activity
  pub spawned : Spawned
  pub clocked : Bool
  pub write : Write
  pub stores : List Stored

-- Effects on the activity alone, and with one thing more.
abbrev pub alone : Activity → Effect
alone a = record { self = a; spawned = nobody; clocked = false; write = keep; stores = [] }

abbrev pub spawning : Activity → Activity → Effect
spawning a c = record { self = a; spawned = one c; clocked = false; write = keep; stores = [] }

abbrev pub clocking : Activity → Effect
clocking a = record { self = a; spawned = nobody; clocked = true; write = keep; stores = [] }

abbrev pub writing : Activity → Write → Effect
writing a w = record { self = a; spawned = nobody; clocked = false; write = w; stores = [] }

abbrev pub touching : Program → Activity → Touch → Effect
touching p a t = record { self = past p (with_register a t.register); spawned = nobody; clocked = false; write = keep; stores = t.stores }

abbrev pub untouched : Activity → Touch
untouched a = record { register = a.register; stores = [] }

-- What a command does that activity i, which is a, stands on, with the commands inside it: those of an ATOM.
unfoldable pub effect_of : Program → Env → ℕ → Activity → Command → List Command → Effect
effect_of p e i a End inner = alone (end_of p a)
effect_of p e i a Next inner = alone (next_of p a (is_at_barrier a.status))
effect_of p e i a (Clock c) inner = clocking (past p (with_holds a a.status (set a.holds c (record { phase = 0; clock = e.clock; registration = Live }))))
effect_of p e i a (Resume c) inner = alone (past p (with_holds a a.status (set a.holds c (quiesce (hold a c)))))
effect_of p e i a (Drop c) inner = alone (past p (with_holds a a.status (set a.holds c no_hold)))
effect_of p e i a (Async b m) inner = spawning (past p a) (child i a b m)
effect_of p e i a (Finish b) inner = alone (pushed a b 0 e.first)
effect_of p e i a (Repeat n b) inner = alone (repeat_of p a n b)
effect_of p e i a (Acc n o) inner = writing (past p (with_names a (set a.accumulators n (e.accumulator + 1)))) (make (new_accumulator i (operator_of o)))
effect_of p e i a (Offer n) inner = writing (past p a) (offer (number_under a n) a.register)
effect_of p e i a (Read n) inner = alone (past p (with_register a (e.look (number_under a n)).value))
effect_of p e i a (Reset n) inner = writing (past p a) (reset (number_under a n) a.register)
effect_of p e i a (Put v) inner = alone (past p (with_register a v))
effect_of p e i a (Fetch d) inner = touching p a (touch e.cell (untouched a) (Fetch d))
effect_of p e i a (Store d) inner = touching p a (touch e.cell (untouched a) (Store d))
effect_of p e i a (Add d) inner = touching p a (touch e.cell (untouched a) (Add d))
effect_of p e i a (Atom k) inner = touching p a (touch_all e.cell (untouched a) inner)
effect_of p e i a (Choose b) inner = alone (choose_of p a b)

-- "A fault ends the activity in that step, drops its clocks, changes nothing else but the steps taken"
abbrev pub failing : Activity → Status → Effect
failing a status = alone (stopped a status)

-- APPLYING AN EFFECT

abbrev pub env_of : State → Env
env_of s =
    record {
      clock = s.clocks;
      accumulator = s.accumulators;
      first = s.activities;
      look = accumulator s;
      cell = λ d. get_or s.cells d 0;
    }

abbrev pub with_spawned : ℕ → List Activity → Spawned → List Activity
with_spawned n acts nobody = acts
with_spawned n acts (one c) = set acts n c

abbrev pub spawned_count : ℕ → Spawned → ℕ
spawned_count n nobody = n
spawned_count n (one c) = n + 1

abbrev pub clocked_count : ℕ → Bool → ℕ
clocked_count n false = n
clocked_count n true = n + 1

abbrev pub written_count : ℕ → Write → ℕ
written_count n keep = n
written_count n (make c) = n + 1
written_count n (offer x v) = n
written_count n (reset x v) = n

abbrev pub with_value : Accumulator → ℕ → Accumulator
with_value c v = record { value = v; owner = c.owner; operator = c.operator }

abbrev pub with_written : State → Write → List Accumulator
with_written s keep = s.accs
with_written s (make c) = set s.accs s.accumulators c
with_written s (offer x v) = set s.accs x (with_value (accumulator s x) (reduce (accumulator s x).operator (accumulator s x).value v))
with_written s (reset x v) = set s.accs x (with_value (accumulator s x) v)

-- The stores put into the cells, the oldest first: it stands last in the list.
unfoldable pub with_stores : List ℕ → List Stored → List ℕ
with_stores cells [] = cells
with_stores cells (x ∷ xs) = set (with_stores cells xs) x.cell x.value

-- "Activities, clocks and accumulators are numbered in the order of creation". "The steps taken .. rise by one with each accepted step".
unfoldable pub applied : State → ℕ → Effect → State
applied s i e =
    record {
      cells = with_stores s.cells e.stores;
      acts = with_spawned s.activities (set s.acts i e.self) e.spawned;
      accs = with_written s e.write;
      steps = s.steps + 1;
      activities = spawned_count s.activities e.spawned;
      clocks = clocked_count s.clocks e.clocked;
      accumulators = written_count s.accumulators e.write;
    }
