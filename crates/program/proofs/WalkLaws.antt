-- What the walk over a body keeps, from command to command: the sums so far and what is yet to come make the body's counts.
use Prim.Native.Nat.{ℕ, zero, suc, ◌+◌, ◌*◌, ◌≤◌, ◌<◌}
use mathlib.Core.Path.{◌≡◌, refl, sym, ap, ◌∙◌}
use mathlib.Core.List.{List, [], ◌∷◌}
use mathlib.Core.Bool.{Bool, true, false, cond}
use native.Mathlib.Omega.{arith}
use native.Mathlib.Nat.{zero-mul}
use native.Mathlib.Decide.{ℕ_discrete}
use lib.ListN.{length, get_or, set, drop, replicate}
use lib.Seq.{get_or-set_same, get_or-set_other}
use Rattle.std.specs.Prelude.{Option, Some, None}
use Rattle.program.specs.Command.{width_at, names, named, times, held, width, is_end}
use Rattle.program.specs.Reading.{whole, read, bare}
use Rattle.program.specs.Bodies.{Located, Body, program_of, from, is_place, head_of, tail_of}
use Rattle.program.specs.Scan.{scan, layout_of}
use Rattle.program.specs.Count.{tally}
use Rattle.program.specs.Inner.Counting.{Kind, workCount, activityCount, clockCount, accumulatorCount, amount, weight, cap, Small, added, CountsOf, Noted, Counting, Filled}
use Rattle.program.specs.declared.command.Command.{Command}
use Rattle.program.specs.declared.count.Counts.{Counts}
use Rattle.program.proofs.Basic.{apart}
use Rattle.program.proofs.Shape.{stride, Accepted}
use Rattle.program.proofs.ShapeRows.{width_pos, times_none, closing}
use Rattle.program.proofs.ShapeReading.{read_first}
use Rattle.program.proofs.ShapeListed.{passes}
use Rattle.program.proofs.ShapeLaws.{length_program, accepted, stride_is}
use Rattle.program.proofs.Located.{place_from, from_place, from_start, start_place, Stands, found, found_onward, onward_goes}
use Rattle.program.proofs.LocatedBytes.{read_code, place_small, start_inside}
use Rattle.program.proofs.RangeLaws.{whole_bare}
use Rattle.program.proofs.Tally.{tally_is, left_of, left_at, left_end}
use Rattle.program.proofs.TotalLaws.{cap_times}

-- What runs a body names one.
runs_names : (c : Command) → 0 < times c → names c ≡ true
unfolding times
runs_names c h = by (names c) refl _ h
  where
    by : (x : Bool) → names c ≡ x → (y : ℕ) → 0 < cond x y 0 → names c ≡ true
    by true e y g = e
    by false e z g = absurd (let y : ⊥ = omega arith in y)

-- THE WALK

-- Before the command at `at`: the sums so far and what is yet to come make the body's counts.
pub record Walked (t : List ℕ) (body : ℕ) (notes : List (Option Counts)) (sums : Counts) (at : ℕ) : Type 0 where
  pub noted : Noted t notes
  pub small : Small sums
  pub rest : (k : Kind) → cap (amount sums k + left_of (weight k) (program_of t) body at) ≡ cap (tally (weight k) (program_of t) body)
  pub place : is_place (get_or (program_of t) body []) at ≡ true

-- No counts.
abbrev pub nothing : Counts
nothing = record { work = 0; activities = 0; clocks = 0; accumulators = 0 }

none : (k : Kind) → amount nothing k ≡ 0
none workCount = refl
none activityCount = refl
none clockCount = refl
none accumulatorCount = refl

pub nothing_small : Small nothing
nothing_small k = let z = none k in omega arith

module _ {t code starts : List ℕ} {body : ℕ} {notes : List (Option Counts)} (p : Counting t code starts body notes) where
  ok : Accepted (program_of t)
  ok = accepted t p.accepted

  body_in : body < length (program_of t)
  body_in = rw (length_program t) p.one_of

  -- The table has at most 16 bodies, and each begins inside it.
  pub asked_few : get_or t 0 0 ≤ 16
  asked_few = (passes t p.accepted).few

  pub asked_inside : (b : ℕ) → b < get_or t 0 0 → get_or starts b 0 ≤ length t
  asked_inside b lt = let h = start_inside t p.accepted b lt in rw p.starts_are (omega arith)

  pub walked_start : Walked t body notes nothing 0
  unfolding left_of
  walked_start = record {
    noted = p.noted;
    small = nothing_small;
    rest = λ k. let z = none k in let e = tally_is ok (weight k) body body_in in rw (from_start ok body body_in, e) (omega arith);
    place = start_place ok body body_in;
  }

  -- A command more.
  module _ {notes₁ : List (Option Counts)} {sums : Counts} {at : ℕ} (w : Walked t body notes₁ sums at) {c : Command} (is : c ≡ bare (drop at code)) where
    abbrev pub here : Located
    here = head_of (from (get_or (program_of t) body []) at)

    abbrev after : Body
    after = tail_of (from (get_or (program_of t) body []) at)

    stands_here : from (get_or (program_of t) body []) at ≡ here ∷ after
    stands_here = place_from (get_or (program_of t) body []) at w.place

    read_here : read (drop at code) ≡ whole here.command (width here.command)
    read_here = ap (λ (s : List ℕ). read (drop at s)) (p.code_is ∙ ap (λ (l : List ℕ). drop (get_or l body 0) t) p.starts_are) ∙ (read_code t p.accepted body p.one_of at stands_here)

    same : c ≡ here.command
    same = is ∙ whole_bare (drop at code) read_here

    standing : Stands (length (program_of t)) body (get_or (program_of t) body []) at here after
    standing = found ok body body_in at stands_here

    pub walked_small : at < 2048
    walked_small = place_small t p.accepted body p.one_of at stands_here

    -- It goes on by its own bytes and those of its commands.
    pub walked_stride : {n : ℕ} → n ≡ width_at (get_or code at 0) + 2 * held c → (0 < n) × (n ≡ stride here)
    walked_stride e =
        let s = stride_is standing.sound in
        let f = read_first code at read_here in
        let w = width_pos here.command in
        let g = rw (same, f) at e in
        (omega arith, omega arith)

    -- The body that it runs lies after this one.
    pub walked_name : 0 < times c → (body < named c) × (named c < get_or t 0 0)
    walked_name h = rw (← length_program t, same) (standing.sound.above (runs_names here.command (rw same at h)))

    -- It is added.
    module _ {sums₂ : Counts} (sum : (k : Kind) → amount sums₂ k ≡ cap (amount sums k + weight k c + times c * tally (weight k) (program_of t) (named c))) where
      pub walked_done : is_end c ≡ true → CountsOf t body sums₂
      unfolding CountsOf
      walked_done stop k =
          let e = sum k in
          let r = w.rest k in
          let l = left_end ok (weight k) body body_in at stands_here (rw same at stop) in
          let z : times c * tally (weight k) (program_of t) (named c) ≡ 0 = rw (times_none c (closing c stop).nameless) (zero-mul (tally (weight k) (program_of t) (named c))) in
          let f : weight k here.command ≡ weight k c = ap (weight k) (sym same) in
          omega arith

      pub walked_on : {notes₂ : List (Option Counts)} {n : ℕ} → is_end c ≡ false → n ≡ stride here → Noted t notes₂ → Walked t body notes₂ sums₂ (at + n)
      walked_on {notes₂} {n} go size noted = record {
        noted = noted;
        small = λ k. let e = sum k in omega arith;
        rest = λ k.
            let e = sum k in
            let r = w.rest k in
            let l = left_at ok (weight k) body body_in at stands_here in
            let f : weight k here.command + times here.command * tally (weight k) (program_of t) (named here.command) ≡ weight k c + times c * tally (weight k) (program_of t) (named c) =
            ap (λ (d : Command). weight k d + times d * tally (weight k) (program_of t) (named d)) (sym same) in
            rw size (omega arith);
        place = rw size (from_place (get_or (program_of t) body []) (at + stride here) (standing.next ∙ onward_goes (found_onward ok body body_in at stands_here) (rw same at go)));
      }

-- THE SUMS WITH A COMMAND MORE

module _ (t : List ℕ) (sums : Counts) (c : Command) (runs : ℕ) (inner : Counts) where
  added_at : (k : Kind) → amount (added sums c runs inner) k ≡ cap (amount sums k + weight k c + runs * amount inner k)
  unfolding added
  added_at workCount = refl
  added_at activityCount = refl
  added_at clockCount = refl
  added_at accumulatorCount = refl

-- What the counts of the body that a command runs are good for.
pub record Run (t : List ℕ) (sums : Counts) (c : Command) (runs : ℕ) (inner : Counts) (notes : List (Option Counts)) : Type 0 where
  pub noted : Noted t notes
  pub small : Small inner
  pub sum : (k : Kind) → amount (added sums c runs inner) k ≡ cap (amount sums k + weight k c + times c * tally (weight k) (program_of t) (named c))

module _ {t : List ℕ} (sums : Counts) {c : Command} {runs : ℕ} {notes : List (Option Counts)} (is : runs ≡ times c) where
  -- They are counted,
  pub run_named : {b : ℕ} {inner : Counts} → b ≡ named c → Filled t b inner notes → Run t sums c runs inner notes
  unfolding CountsOf
  run_named {b} {inner} same f = record {
    noted = f.noted;
    small = λ k. let e = f.counts k in omega arith;
    sum = λ k. added_at t sums c runs inner k
        ∙ rw (is, f.counts k, same) (cap_times (amount sums k + weight k c) (times c) (tally (weight k) (program_of t) (named c)) 65536);
  }

  -- or none is run.
  pub run_none : runs ≡ 0 → Noted t notes → Run t sums c runs nothing notes
  run_none clear noted = record {
    noted = noted;
    small = nothing_small;
    sum = λ k.
        let unrun : times c ≡ 0 = omega arith in
        added_at t sums c runs nothing k ∙ rw (clear, unrun, zero-mul (amount nothing k), zero-mul (tally (weight k) (program_of t) (named c)));
  }

-- The sums with a command more, and what is noted by then.
pub record Summed (t : List ℕ) (sums : Counts) (c : Command) (sums₂ : Counts) (notes : List (Option Counts)) : Type 0 where
  pub noted : Noted t notes
  pub sum : (k : Kind) → amount sums₂ k ≡ cap (amount sums k + weight k c + times c * tally (weight k) (program_of t) (named c))

pub summed : {t : List ℕ} {sums sums₂ inner : Counts} {c : Command} {runs : ℕ} {notes : List (Option Counts)}
    → Run t sums c runs inner notes → sums₂ ≡ added sums c runs inner → Summed t sums c sums₂ notes
summed run is = record { noted = run.noted; sum = λ k. rw is (run.sum k) }

-- THE NOTES

-- A body more.
pub noted_set : {t : List ℕ} (notes : List (Option Counts)) (i : ℕ) (r : Counts) → i < length notes → Noted t notes → CountsOf t i r → Filled t i r (set notes i (Some r))
unfolding Noted
noted_set {t} notes i r room noted here = record { noted = λ j q e. at j (ℕ_discrete j i) q e; counts = here }
  where
    at : (j : ℕ) → Dec (j ≡ i) → (q : Counts) → get_or (set notes i (Some r)) j None ≡ Some q → CountsOf t j q
    at j (yes e) q h =
        let same : r ≡ q = cc (get_or-set_same notes i (Some r) None room) in
        rw (e, ← same) here
    at j (no e) q h = noted j q (rw (get_or-set_other notes i j (Some r) None e) at h)

-- A body that is noted.
pub noted_at : {t : List ℕ} {notes : List (Option Counts)} {i : ℕ} {r : Counts} → Noted t notes → get_or notes i None ≡ Some r → Filled t i r notes
unfolding Noted
noted_at {i = i} {r = r} noted e = record { noted = noted; counts = noted i r e }

-- WHAT A COUNT IS ASKED FOR

-- A body that is named is asked for in its turn.
pub asked_named : {t code starts : List ℕ} {body : ℕ} {notes : List (Option Counts)} → Counting t code starts body notes
    → {code₁ : List ℕ} {b : ℕ} {notes₁ : List (Option Counts)} → b < get_or t 0 0 → code₁ ≡ drop (get_or starts b 0) t → Noted t notes₁ → Counting t code₁ starts b notes₁
asked_named p lt is noted = record { accepted = p.accepted; starts_are = p.starts_are; one_of = lt; code_is = is; noted = noted }

pub counts_small : (t : List ℕ) (i : ℕ) (r : Counts) → CountsOf t i r → Small r
unfolding CountsOf
counts_small t i r h k = let e = h k in omega arith

no_notes : (n i : ℕ) (r : Counts) → get_or (replicate n None) i None ≡ Some r → ⊥
no_notes zero i r e = apart (cc)
no_notes (suc n) zero r e = apart (cc)
no_notes (suc n) (suc i) r e = no_notes n i r e

-- Body 0 is asked for first, with none noted.
pub asked_first : (t starts : List ℕ) → scan t ≡ 0 → starts ≡ (layout_of t).starts → (code : List ℕ) → code ≡ drop (get_or starts 0 0) t → Counting t code starts 0 (replicate 16 None)
unfolding Noted
asked_first t starts accepted is code at = record {
  accepted = accepted;
  starts_are = is;
  one_of = let s = (passes t accepted).some in omega arith;
  code_is = at;
  noted = λ i r e. absurd (no_notes 16 i r e);
}
