-- What the tests of waiting promise of lent bytes.
use Rattle.std.specs.Prelude.{ℕ, ◌+◌, ◌*◌, ◌^◌, ◌≤◌, ◌<◌, ◌≡◌, Bool, true, false, cond, ◌&&◌, not, List, get_or, ltb, eqb}
use Rattle.program.specs.Bodies.{Program, program_of}
use Rattle.program.specs.declared.command.Command.{Command}
use Rattle.program.specs.declared.command.Command.TheVariants.{End, Next}
use Rattle.rules.specs.declared.state.Hold.{Hold}
use Rattle.rules.specs.declared.state.Activity.{Activity}
use Rattle.rules.specs.declared.state.State.{State}
use Rattle.rules.specs.Search.{some_below, count_below}
use Rattle.rules.specs.State.{registration_number, act, hold, bound, is_ended, ended}
use Rattle.rules.specs.Clocks.{is_held, holds}
use Rattle.rules.specs.WellFormed.{well_formed}
use Rattle.rules.specs.Faults.{read_fault, faulted_inside, spoilt}
use Rattle.rules.specs.Effects.{env_of}
use Rattle.rules.specs.Waiting.{behind_of, unended_below, unended_inside, awaited_at}
use Rattle.rules.specs.Steps.{at, awaited}
use Rattle.encoding.specs.Encode.{encode_hold}
use Rattle.places.specs.Rooted.{Rooted, Placed}
use Rattle.fields.specs.Lent.{Lent}
use Rattle.waits.specs.declared.inside.Inside.{Inside}

-- PASSING

-- A place on a clock: twice the phase, and 1 where live, 2 where quiesced. A hold keeps phase p from being quiescent where its place is below that of one quiesced in p.
abbrev pub place_of : Hold → ℕ
place_of h = 2 * h.phase + registration_number h.registration

abbrev pub quiesced_place : ℕ → ℕ
quiesced_place p = 2 * p + 2

-- The activity holds clock c, in a phase that someone at the place keeps from being quiescent.
unfoldable pub keeps : Activity → ℕ → ℕ → Bool
keeps a c place = some_below 8 (λ k. holds a k && (eqb c (hold a k).clock && ltb place (quiesced_place (hold a k).phase)))

-- The clocks that an activity holds: each has one of the sixteen numbers, and one name.
pub record Clocked (a : Activity) : Type 0 where
  pub numbers : (k : ℕ) → k < 8 → holds a k ≡ true → (hold a k).clock < 16
  pub distinct : (j k : ℕ) → j < k → k < 8 → holds a j ≡ true → holds a k ≡ true → (hold a j).clock ≡ (hold a k).clock → ⊥

-- There are no more than sixty-four activities, and one that has ended holds no clock.
pub record Gone (s : State) : Type 0 where
  pub few : s.activities ≤ 64
  pub free : (x k : ℕ) → x < s.activities → ended s x ≡ true → k < 8 → holds (act s x) k ≡ false

-- The places of activity i by clock number: below the entry of a clock are the places of those that it waits for there.
pub record OwnPlaces (b : List ℕ) (i : ℕ) (own : List ℕ) : Type 0 where
  pub tells : (s : State) → Lent b s → i < 64 → Clocked (act s i) → (c place : ℕ) → ltb place (get_or own c 0) ≡ keeps (act s i) c place

-- The clock name in 8 bytes has a place below the entry of its clock.
unfoldable pub is_late : List ℕ → Hold → Bool
is_late own h = is_held h.registration && ltb (place_of h) (get_or own h.clock 0)

pub record Late (own b : List ℕ) (r : Bool) : Type 0 where
  pub looks : (h : Hold) → b ≡ encode_hold h → h.phase < 2 ^ 16 → r ≡ is_late own h

-- So many activities are behind on an own clock of activity i.
pub record Behind (b : List ℕ) (i r : ℕ) : Type 0 where
  pub sees : (s : State) → Lent b s → i < 64 → Clocked (act s i) → Gone s → r ≡ count_below s.activities (behind_of s (act s i))

-- A FINISH BODY

abbrev pub is_unended : Activity → Bool
is_unended a = not (is_ended a.status)

-- Of those inside the finish of activity w that began at number `first`: so many have not ended, and whether one has faulted.
pub record Sees (b : List ℕ) (w first : ℕ) (r : Inside) : Type 0 where
  pub counts : (s : State) → Lent b s → Rooted s → r.unended ≡ count_below s.activities (unended_inside s w first)
  pub finds : (s : State) → Lent b s → Rooted s → r.faulted ≡ some_below s.activities (faulted_inside s w first)

-- AT A COMMAND

-- For how many activity i, which has a stack, waits at END, and whether F8 is due there once it may go on.
pub record EndSees (t b : List ℕ) (i : ℕ) (r : Inside) : Type 0 where
  pub tells : (s : State) → Lent b s → i < 64 → Placed t s (act s i) → r.unended ≡ awaited_at (program_of t) s i (act s i) End
  pub spoils : (s : State) → Lent b s → i < 64 → Placed t s (act s i) → r.faulted ≡ spoilt (program_of t) s i (act s i) End

-- It waits at NEXT for so many.
pub record NextAwaits (b : List ℕ) (i r : ℕ) : Type 0 where
  pub tells : (p : Program) (s : State) → Lent b s → i < 64 → Clocked (act s i) → Gone s → r ≡ awaited_at p s i (act s i) Next

-- READ or RESET of name n, where it meets no fault, waits for so many.
pub record OwnAwaits (n : ℕ) (b : List ℕ) (i r : ℕ) : Type 0 where
  pub tells : (s : State) → Lent b s → i < 64 → bound (act s i) n ≤ 16 → Rooted s
      → r ≡ cond (eqb (read_fault (env_of s) i (act s i) n) 0) (count_below s.activities (unended_below s i)) 0

-- Activity i of a well-formed state, which has not ended and stands on the command, waits for so many.
pub record Awaits (t : List ℕ) (command : Command) (b : List ℕ) (i r : ℕ) : Type 0 where
  pub tells : (s : State) → Lent b s → well_formed 65535 (program_of t) s ≡ true → i < s.activities → ended s i ≡ false
      → (at (program_of t) s i).command ≡ command → r ≡ awaited (program_of t) s i
