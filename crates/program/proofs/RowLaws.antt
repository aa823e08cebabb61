-- What the rows say: of a command by its byte, where the code looks it up in an arm of a `match` and in its last one, and of every byte.
use Prim.Native.Nat.{ℕ, zero, suc, ◌<◌, ◌≤◌}
use mathlib.Core.Path.{◌≡◌, refl, sym, ap, ◌∙◌}
use mathlib.Core.Bool.{Bool, true, false, cond, ◌&&◌, ◌||◌}
use mathlib.Core.List.{List, [], ◌∷◌}
use native.Mathlib.Omega.{arith}
use lib.Dec.{eqb, leb}
use lib.ListN.{length, get_or, get_or-eq_default}
use borrow.Author.Tests.{leb-true, ne_eqb}
use types.Run.{OneOf, miss}
use denote.Enum.Declared.{tag_of}
use Rattle.program.specs.Command.{Row, rows, row_at, width_at, opcode, row_of, names, named, times, held}
use Rattle.program.specs.Inner.Coding.{commands}
use Rattle.program.specs.Inner.Counting.{Kind, workCount, activityCount, clockCount, accumulatorCount, weight}
use Rattle.program.specs.declared.command.Command.{Command}
use Rattle.program.specs.declared.command.Command.TheVariants.{End, Next, Clock, Resume, Drop, Async, Finish, Repeat, Acc, Offer, Read, Reset, Put, Fetch, Store, Add, Atom, Choose}
use Rattle.program.specs.contracts.command.Command.{the_type}
use Rattle.program.proofs.Basic.{and_true, true_false}
use Rattle.program.proofs.ShapeReading.{each_op}

-- THE LAST ARM OF A MATCH

-- What it knows of its number: none of the arms' numbers, the last arm's first.
abbrev pub Missed : ℕ → List ℕ → Type 0
Missed x [] = Unit {0}
Missed x (k ∷ ks) = Missed x ks × (x ≡ k → ⊥)

abbrev pub is_in : ℕ → List ℕ → Bool
is_in x [] = false
is_in x (k ∷ ks) = eqb x k || is_in x ks

pub missed : (x : ℕ) (ks : List ℕ) → Missed x ks → is_in x ks ≡ false
missed x [] h = refl
missed x (k ∷ ks) h = rw (ne_eqb x k h.1) (missed x ks h.0)

-- Where each command byte has its arm, there is none left.
abbrev every : List ℕ
every = 17 ∷ 16 ∷ 15 ∷ 14 ∷ 13 ∷ 12 ∷ 11 ∷ 10 ∷ 9 ∷ 8 ∷ 7 ∷ 6 ∷ 5 ∷ 4 ∷ 3 ∷ 2 ∷ 1 ∷ 0 ∷ []

pub none_left : (op : ℕ) → op < commands → Missed op every → ⊥
none_left op few h =
    true_false (is_in op every) (each_op (λ (x : ℕ). is_in x every ≡ true) refl refl refl refl refl refl refl refl refl refl refl refl refl refl refl refl refl refl op few) (missed op every h)

-- The commands but ASYNC, FINISH, REPEAT and CHOOSE, and those but ATOM.
abbrev pub nameless : List ℕ
nameless = 0 ∷ 1 ∷ 2 ∷ 3 ∷ 4 ∷ 8 ∷ 9 ∷ 10 ∷ 11 ∷ 12 ∷ 13 ∷ 14 ∷ 15 ∷ 16 ∷ []

abbrev pub holdless : List ℕ
holdless = 0 ∷ 1 ∷ 2 ∷ 3 ∷ 4 ∷ 5 ∷ 6 ∷ 7 ∷ 8 ∷ 9 ∷ 10 ∷ 11 ∷ 12 ∷ 13 ∷ 14 ∷ 15 ∷ 17 ∷ []

-- They name no body,
pub names_none : (c : Command) → OneOf nameless (tag_of the_type c) → (false ≡ names c) × (0 ≡ named c) × (0 ≡ times c)
unfolding rows row_at row_of names named times
names_none End h = (refl, refl, refl)
names_none Next h = (refl, refl, refl)
names_none (Clock c) h = (refl, refl, refl)
names_none (Resume c) h = (refl, refl, refl)
names_none (Drop c) h = (refl, refl, refl)
names_none (Async b m) h = absurd (miss nameless 5 tt h)
names_none (Finish b) h = absurd (miss nameless 6 tt h)
names_none (Repeat n b) h = absurd (miss nameless 7 tt h)
names_none (Acc a o) h = (refl, refl, refl)
names_none (Offer a) h = (refl, refl, refl)
names_none (Read a) h = (refl, refl, refl)
names_none (Reset a) h = (refl, refl, refl)
names_none (Put v) h = (refl, refl, refl)
names_none (Fetch d) h = (refl, refl, refl)
names_none (Store d) h = (refl, refl, refl)
names_none (Add d) h = (refl, refl, refl)
names_none (Atom k) h = (refl, refl, refl)
names_none (Choose b) h = absurd (miss nameless 17 tt h)

-- and hold no commands.
pub held_none : (c : Command) → OneOf holdless (tag_of the_type c) → 0 ≡ held c
unfolding rows row_at row_of held
held_none End h = refl
held_none Next h = refl
held_none (Clock c) h = refl
held_none (Resume c) h = refl
held_none (Drop c) h = refl
held_none (Async b m) h = refl
held_none (Finish b) h = refl
held_none (Repeat n b) h = refl
held_none (Acc a o) h = refl
held_none (Offer a) h = refl
held_none (Read a) h = refl
held_none (Reset a) h = refl
held_none (Put v) h = refl
held_none (Fetch d) h = refl
held_none (Store d) h = refl
held_none (Add d) h = refl
held_none (Atom k) h = absurd (miss holdless 16 tt h)
held_none (Choose b) h = refl

-- WIDTHS

-- A test that holds of each row, and of what stands past their end.
everywhere : (Row → Bool) → List Row → Bool
everywhere test [] = true
everywhere test (x ∷ l) = test x && everywhere test l

-- What stands past their end.
abbrev nothing : Row
nothing = record { operands = []; work = 0; activities = 0; clocks = 0; accumulators = 0 }

each : (test : Row → Bool) (l : List Row) (other : Row) → everywhere test l ≡ true → test other ≡ true → (i : ℕ) → test (get_or l i other) ≡ true
unfolding everywhere
each test [] other all last i = last
each test (x ∷ l) other all last zero = (and_true (test x) (everywhere test l) all).0
each test (x ∷ l) other all last (suc i) = each test l other (and_true (test x) (everywhere test l) all).1 last i

-- A command byte and its operands are at most five bytes, and the byte of no command is one.
pub width_few : (op : ℕ) → width_at op ≤ 5
unfolding width_at row_at rows everywhere
width_few op =
    let h : length (row_at op).operands ≤ 4 = leb-true _ _ (each (λ (r : Row). leb (length r.operands) 4) rows nothing refl refl op) in
    omega arith

pub width_alone : (op : ℕ) → commands ≤ op → width_at op ≡ 1
unfolding width_at row_at rows
width_alone op h = rw (get_or-eq_default rows nothing h)

-- WEIGHTS

-- What a command counts by itself is at most 2.
pub weight_few : (k : Kind) (c : Command) → weight k c ≤ 2
unfolding row_of row_at rows everywhere
weight_few workCount c = leb-true _ _ (each (λ (r : Row). leb r.work 2) rows nothing refl refl (opcode c))
weight_few activityCount c = leb-true _ _ (each (λ (r : Row). leb r.activities 2) rows nothing refl refl (opcode c))
weight_few clockCount c = leb-true _ _ (each (λ (r : Row). leb r.clocks 2) rows nothing refl refl (opcode c))
weight_few accumulatorCount c = leb-true _ _ (each (λ (r : Row). leb r.accumulators 2) rows nothing refl refl (opcode c))

-- NEXT counts 2 work; ASYNC an activity, CLOCK a clock and ACC an accumulator.
abbrev pub weighed : ℕ → List ℕ
weighed op = cond (eqb op 1) 2 1 ∷ cond (eqb op 5) 1 0 ∷ cond (eqb op 2) 1 0 ∷ cond (eqb op 8) 1 0 ∷ []

abbrev counts : Row → List ℕ
counts r = r.work ∷ r.activities ∷ r.clocks ∷ r.accumulators ∷ []

pub weight_is : (k : ℕ) (c : Command) {op : ℕ} → op ≡ opcode c → op < commands
    → get_or (weight workCount c ∷ weight activityCount c ∷ weight clockCount c ∷ weight accumulatorCount c ∷ []) k 0 ≡ get_or (weighed op) k 0
unfolding row_of row_at rows
weight_is k c {op} e few =
    ap (λ (x : ℕ). get_or (counts (row_at x)) k 0) (sym e)
    ∙ ap (λ (l : List ℕ). get_or l k 0)
    (each_op (λ (x : ℕ). counts (row_at x) ≡ weighed x) refl refl refl refl refl refl refl refl refl refl refl refl refl refl refl refl refl refl op few)
