-- Laws of the clauses of number 13: what each test of the code says of its definition.
use Prim.Native.Nat.{ℕ, zero, suc, ◌-◌, ◌≤◌, ◌<◌}
use native.Mathlib.Omega.{arith}
use mathlib.Core.Path.{◌≡◌, refl, sym, ◌∙◌}
use mathlib.Core.Bool.{Bool, true, false, cond, ◌||◌, ◌&&◌, not}
use lib.Dec.{ltb, leb, eqb}
use borrow.Author.Tests.{ltb-true, leb-true, lt-leb, lt-ltb, ne_eqb}
use Rattle.program.specs.declared.command.Command.{Command}
use Rattle.program.specs.declared.command.Command.TheVariants.{End, Next, Clock, Resume, Drop, Async, Finish, Repeat, Acc, Offer, Read, Reset, Put, Fetch, Store, Add, Atom, Choose}
use Rattle.program.specs.Command.{opcode, named, times}
use Rattle.program.specs.Bodies.{Program}
use Rattle.program.proofs.ShapeRows.{named_is, times_is}
use Rattle.rules.specs.declared.state.Frame.{Frame}
use Rattle.rules.specs.declared.state.Hold.{Hold}
use Rattle.rules.specs.declared.state.Activity.{Activity}
use Rattle.rules.specs.declared.state.Status.{Status}
use Rattle.rules.specs.declared.state.Status.TheVariants.{Running, AtBarrier, Ended, Faulted}
use Rattle.rules.specs.Search.{some_below, all_below}
use Rattle.rules.specs.State.{frame, top, is_ended, is_at_barrier}
use Rattle.rules.specs.Clocks.{is_held}
use Rattle.rules.specs.WellFormed.{is_no_frame, run_by, is_placed, is_bottom, is_stacked, frame_fits, stack_fits, body_fits, spawner_fits}
use Rattle.rules.proofs.Tests.{and_true, true_false}
use Rattle.rules.proofs.Search.{all_below_at}
use Rattle.wellformed.specs.Entries.{are_apart}

-- None passes where each fails.
pub not_some : (n : ℕ) (f : ℕ → Bool) → not (some_below n f) ≡ all_below n (λ i. not (f i))
unfolding some_below all_below
not_some zero f = refl
not_some (suc n) f = by (f n) (not_some n f)
  where
    by : (q : Bool) → not (some_below n f) ≡ all_below n (λ i. not (f i)) → not (q || some_below n f) ≡ not q && all_below n (λ i. not (f i))
    by true ih = refl
    by false ih = ih

-- A name that is free is apart from every other.
pub apart_free : (x y : Hold) → is_held y.registration ≡ false → are_apart x y ≡ true
unfolding are_apart
apart_free x y free = by (is_held x.registration) (is_held y.registration) free
  where
    by : (p q : Bool) → q ≡ false → not (p && q) || not (eqb x.clock y.clock) ≡ true
    by p true e = absurd (true_false true refl e)
    by true false e = refl
    by false false e = refl

-- COMMANDS THAT RUN A BODY

-- The least number.
least : (x : ℕ) → leb x 0 ≡ eqb x 0
least zero = refl
least (suc x) = lt-leb (suc x) 0 (omega arith) ∙ sym (ne_eqb (suc x) 0 (λ z. omega arith))

-- What runs a frame, by the command's byte.
pub run_by_opcode : (made : ℕ) (c : Command) (f : Frame)
    → run_by made c f
    ≡ cond (eqb (opcode c) 6) (eqb f.body (named c) && (eqb f.runs 0 && leb f.first made))
    (cond (eqb (opcode c) 7) (eqb f.body (named c) && (leb 1 f.runs && (leb f.runs (times c) && eqb f.first 0)))
    (cond (eqb (opcode c) 17) (eqb f.body (named c) && (eqb f.runs 0 && leb f.first 0)) false))
unfolding run_by
run_by_opcode made End f = refl
run_by_opcode made Next f = refl
run_by_opcode made (Clock c) f = refl
run_by_opcode made (Resume c) f = refl
run_by_opcode made (Drop c) f = refl
run_by_opcode made (Async b m) f = refl
run_by_opcode made (Finish b) f = rw (named_is (Finish b))
run_by_opcode made (Repeat n b) f = rw (named_is (Repeat n b), times_is (Repeat n b))
run_by_opcode made (Acc a o) f = refl
run_by_opcode made (Offer a) f = refl
run_by_opcode made (Read a) f = refl
run_by_opcode made (Reset a) f = refl
run_by_opcode made (Put v) f = refl
run_by_opcode made (Fetch d) f = refl
run_by_opcode made (Store d) f = refl
run_by_opcode made (Add d) f = refl
run_by_opcode made (Atom k) f = refl
run_by_opcode made (Choose b) f = rw (named_is (Choose b), least f.first)

-- NEXT is the command of its byte, and no other command is.
pub on_next : (c : Command) → c ≡ Next → true ≡ eqb (opcode c) 1
on_next c e = rw e

pub on_another_command : (c : Command) → (c ≡ Next → ⊥) → false ≡ eqb (opcode c) 1
on_another_command c = elim c as (λ x. (x ≡ Next → ⊥) → false ≡ eqb (opcode x) 1) [ Next ↦ λ h. absurd (h refl) | _ ↦ λ h. refl ]

-- STACKS

module _ (p : Program) (made : ℕ) (a : Activity) where
  -- A frame that fits is at a place.
  pub fits_placed : (d : ℕ) → frame_fits p made a d ≡ true → is_placed p (frame a d) ≡ true
  unfolding frame_fits
  fits_placed zero e = (and_true (is_placed p (frame a 0)) _ e).0
  fits_placed (suc d) e = (and_true (is_placed p (frame a (suc d))) _ e).0

  -- One that is at no place does not fit; of one that is, the rest decides.
  pub unplaced : (d : ℕ) → is_placed p (frame a d) ≡ false → false ≡ frame_fits p made a d
  unfolding frame_fits
  unplaced zero e = rw e
  unplaced (suc d) e = rw e

  pub at_bottom : (d : ℕ) → d ≡ 0 → is_placed p (frame a d) ≡ true → is_bottom (frame a d) ≡ frame_fits p made a d
  unfolding frame_fits
  at_bottom zero z e = rw e
  at_bottom (suc d) z e = absurd (let y : ⊥ = omega arith in y)

  pub on_another : (d : ℕ) → (d ≡ 0 → ⊥) → is_placed p (frame a d) ≡ true → is_stacked p made (frame a (d - 1)) (frame a d) ≡ frame_fits p made a d
  unfolding frame_fits
  on_another zero z e = absurd (z refl)
  on_another (suc d) z e = let k : suc d - 1 ≡ d = omega arith in rw (e, k)

  -- The top of a stack of an activity that waits at a barrier.
  pub record Topped : Type 0 where
    pub some : 0 < a.depth
    pub few : a.depth ≤ 16
    pub placed : is_placed p (top a) ≡ true

  pub topped : stack_fits p made a ≡ true → body_fits a ≡ true → is_at_barrier a.status ≡ true → Topped
  unfolding stack_fits body_fits
  topped e q w =
      let s = and_true (leb a.depth 16) _ e in
      let few = leb-true a.depth 16 s.0 in
      let some = ltb-true 0 a.depth (rw (unended a.status w) at q) in
      let f = all_below_at 16 (λ d. cond (ltb d a.depth) (frame_fits p made a d) (is_no_frame (frame a d))) s.1 (a.depth - 1) (omega arith) in
      record { some = some; few = few; placed = fits_placed (a.depth - 1) (rw (lt-ltb (a.depth - 1) a.depth (omega arith)) at f) }
    where
      unended : (x : Status) → is_at_barrier x ≡ true → is_ended x ≡ false
      unended Running z = refl
      unended AtBarrier z = refl
      unended Ended z = absurd (true_false false z refl)
      unended (Faulted f) z = absurd (true_false false z refl)

-- SPAWNERS

pub main_spawner : (i : ℕ) (a : Activity) → i ≡ 0 → eqb a.spawner 0 ≡ spawner_fits i a
unfolding spawner_fits
main_spawner zero a e = refl
main_spawner (suc i) a e = absurd (let y : ⊥ = omega arith in y)

pub child_spawner : (i : ℕ) (a : Activity) → (i ≡ 0 → ⊥) → ltb a.spawner i ≡ spawner_fits i a
unfolding spawner_fits
child_spawner zero a e = absurd (e refl)
child_spawner (suc i) a e = refl
