-- What each command's row says of it, so that nothing above has to look into the rows.
use Prim.Native.Nat.{ℕ, ◌+◌, ◌*◌, ◌<◌}
use mathlib.Core.Bool.{Bool, true, false, ◌||◌, ◌&&◌, not}
use mathlib.Core.Path.{◌≡◌, refl, ap}
use native.Mathlib.Omega.{arith}
use lib.Dec.{eqb}
use borrow.Author.Tests.{eqb-true}
use Rattle.program.specs.Command.{rows, row_at, row_of, width, names, named, times, held, is_end, uses_cell}
use Rattle.program.specs.Count.{own_work, own_activities, own_clocks, own_accumulators}
use Rattle.program.specs.declared.command.Command.{Command}
use Rattle.program.specs.declared.command.Command.TheVariants.{End, Next, Clock, Resume, Drop, Async, Finish, Repeat, Acc, Offer, Read, Reset, Put, Fetch, Store, Add, Atom, Choose}
use Rattle.program.proofs.Basic.{and_true, implied, not-true}

-- All that is asked of a command's row.
pub record Saying : Type 0 where
  pub width : ℕ
  pub is_end : Bool
  pub uses_cell : Bool
  pub names : Bool
  pub named : ℕ
  pub times : ℕ
  pub held : ℕ
  pub work : ℕ
  pub activities : ℕ
  pub clocks : ℕ
  pub accumulators : ℕ

-- A command that names no body: whether it is END, whether it uses a cell, its bytes, and what it holds and counts by itself.
abbrev alone : Bool → Bool → ℕ → ℕ → ℕ → ℕ → ℕ → Saying
alone is_end uses_cell width held work clocks accumulators = record {
  width = width;
  is_end = is_end;
  uses_cell = uses_cell;
  names = false;
  named = 0;
  times = 0;
  held = held;
  work = work;
  activities = 0;
  clocks = clocks;
  accumulators = accumulators;
}

-- A command that names body b and runs it n times: its bytes, b, n, and the activities that it counts by itself.
abbrev running : ℕ → ℕ → ℕ → ℕ → Saying
running width b n activities = record {
  width = width;
  is_end = false;
  uses_cell = false;
  names = true;
  named = b;
  times = n;
  held = 0;
  work = 1;
  activities = activities;
  clocks = 0;
  accumulators = 0;
}

-- One that counts 1 work and nothing else, and one on a cell.
abbrev plain : ℕ → Saying
plain width = alone false false width 0 1 0 0

abbrev on_cell : Saying
on_cell = alone false true 2 0 1 0 0

-- The sayings, command by command.
abbrev pub saying : Command → Saying
saying End = alone true false 1 0 1 0 0
saying Next = alone false false 1 0 2 0 0
saying (Clock c) = alone false false 2 0 1 1 0
saying (Resume c) = plain 2
saying (Drop c) = plain 2
saying (Async b m) = running 3 b 1 1
saying (Finish b) = running 2 b 1 0
saying (Repeat n b) = running 3 b n 0
saying (Acc a o) = alone false false 3 0 1 0 1
saying (Offer a) = plain 2
saying (Read a) = plain 2
saying (Reset a) = plain 2
saying (Put v) = plain 5
saying (Fetch d) = on_cell
saying (Store d) = on_cell
saying (Add d) = on_cell
saying (Atom k) = alone false false 2 k 1 0 0
saying (Choose b) = running 2 b 1 0

-- What the rows say.
unfoldable pub said_of : Command → Saying
said_of c = record {
  width = width c;
  is_end = is_end c;
  uses_cell = uses_cell c;
  names = names c;
  named = named c;
  times = times c;
  held = held c;
  work = (row_of c).work;
  activities = (row_of c).activities;
  clocks = (row_of c).clocks;
  accumulators = (row_of c).accumulators;
}

-- A command on a cell is two bytes, is not END, names nothing and holds nothing.
cell_fits : Saying → Bool
cell_fits s = not s.uses_cell || (eqb s.width 2 && (not s.is_end && (not s.names && eqb s.held 0)))

-- END is one byte, names nothing and holds nothing.
end_fits : Saying → Bool
end_fits s = not s.is_end || (eqb s.width 1 && (not s.names && eqb s.held 0))

-- Command by command, the rows say that, and it fits.
each_said : (c : Command) → (said_of c ≡ saying c) × (cell_fits (saying c) && end_fits (saying c) ≡ true)
unfolding said_of cell_fits end_fits rows row_at row_of width names named times held is_end uses_cell
each_said End = (refl, refl)
each_said Next = (refl, refl)
each_said (Clock c) = (refl, refl)
each_said (Resume c) = (refl, refl)
each_said (Drop c) = (refl, refl)
each_said (Async b m) = (refl, refl)
each_said (Finish b) = (refl, refl)
each_said (Repeat n b) = (refl, refl)
each_said (Acc a o) = (refl, refl)
each_said (Offer a) = (refl, refl)
each_said (Read a) = (refl, refl)
each_said (Reset a) = (refl, refl)
each_said (Put v) = (refl, refl)
each_said (Fetch d) = (refl, refl)
each_said (Store d) = (refl, refl)
each_said (Add d) = (refl, refl)
each_said (Atom k) = (refl, refl)
each_said (Choose b) = (refl, refl)

-- The rows say that.
pub said : (c : Command) → said_of c ≡ saying c
said c = (each_said c).0

said_fits : (c : Command) → (cell_fits (said_of c) ≡ true) × (end_fits (said_of c) ≡ true)
said_fits c = and_true (cell_fits (said_of c)) (end_fits (said_of c)) (rw (said c) (each_said c).1)

-- ONE LAW FOR EACH: of a command that is written out, the right side computes

pub width_is : (c : Command) → width c ≡ (saying c).width
unfolding said_of
width_is c = ap (λ (s : Saying). s.width) (said c)

pub names_is : (c : Command) → names c ≡ (saying c).names
unfolding said_of
names_is c = ap (λ (s : Saying). s.names) (said c)

pub named_is : (c : Command) → named c ≡ (saying c).named
unfolding said_of
named_is c = ap (λ (s : Saying). s.named) (said c)

pub times_is : (c : Command) → times c ≡ (saying c).times
unfolding said_of
times_is c = ap (λ (s : Saying). s.times) (said c)

pub held_is : (c : Command) → held c ≡ (saying c).held
unfolding said_of
held_is c = ap (λ (s : Saying). s.held) (said c)

-- The bytes of a command with those of the commands that belong to it, two each.
pub span_is : (c : Command) → width c + 2 * held c ≡ (saying c).width + 2 * (saying c).held
span_is c = rw (width_is c, held_is c)

pub work_is : (c : Command) → own_work c ≡ (saying c).work
unfolding said_of
work_is c = ap (λ (s : Saying). s.work) (said c)

pub activities_is : (c : Command) → own_activities c ≡ (saying c).activities
unfolding said_of
activities_is c = ap (λ (s : Saying). s.activities) (said c)

pub clocks_is : (c : Command) → own_clocks c ≡ (saying c).clocks
unfolding said_of
clocks_is c = ap (λ (s : Saying). s.clocks) (said c)

pub accumulators_is : (c : Command) → own_accumulators c ≡ (saying c).accumulators
unfolding said_of
accumulators_is c = ap (λ (s : Saying). s.accumulators) (said c)

-- WHAT FOLLOWS FOR EVERY COMMAND

-- A command is some bytes.
pub width_pos : (c : Command) → 0 < width c
unfolding width
width_pos c = omega arith

-- A command that names no body runs none.
pub times_none : (c : Command) → names c ≡ false → times c ≡ 0
unfolding times
times_none c e = rw e

-- What is known of a command on a cell.
pub record Celled (c : Command) : Type 0 where
  pub wide : width c ≡ 2
  pub goes : is_end c ≡ false
  pub nameless : names c ≡ false
  pub alone : held c ≡ 0

-- A command on a cell is all that.
pub celled : (c : Command) → uses_cell c ≡ true → Celled c
unfolding cell_fits end_fits said_of
celled c e =
    let g = implied (uses_cell c) _ (said_fits c).0 e in
    let h = and_true (eqb (width c) 2) _ g in
    let k = and_true (not (is_end c)) _ h.1 in
    let l = and_true (not (names c)) _ k.1 in
    record { wide = eqb-true _ _ h.0; goes = not-true _ k.0; nameless = not-true _ l.0; alone = eqb-true _ _ l.1 }

-- What is known of END.
pub record Closing (c : Command) : Type 0 where
  pub wide : width c ≡ 1
  pub nameless : names c ≡ false
  pub alone : held c ≡ 0

-- END is all that.
pub closing : (c : Command) → is_end c ≡ true → Closing c
unfolding cell_fits end_fits said_of
closing c e =
    let g = implied (is_end c) _ (said_fits c).1 e in
    let h = and_true (eqb (width c) 1) _ g in
    let k = and_true (not (names c)) _ h.1 in
    record { wide = eqb-true _ _ h.0; nameless = not-true _ k.0; alone = eqb-true _ _ k.1 }
