-- The command that an activity stands on, and numbers 14 to 16 with how many it waits for.
use Prim.Native.Nat.{ℕ, ◌-◌, ◌≤◌, ◌<◌}
use native.Mathlib.Omega.{arith}
use mathlib.Core.Path.{◌≡◌, refl, sym, ap, ◌∙◌}
use mathlib.Core.List.{List}
use mathlib.Core.Bool.{Bool, true, false, cond}
use lib.Dec.{eqb, ltb}
use borrow.Author.Tests.{lt-ltb, le-ltb, ltb-true, ne_eqb}
use Rattle.std.specs.Prelude.{Option, None, Some, Result, Ok, Err}
use Rattle.std.specs.Result.{is_ok}
use Rattle.program.specs.Bodies.{Program, program_of}
use Rattle.program.specs.declared.command.Command.{Command}
use Rattle.program.specs.declared.refusal.Refusal.{Refusal}
use Rattle.program.specs.declared.refusal.Refusal.TheVariants.{Unspawned, Ended, Waits}
use Rattle.program.specs.Refusal.{refusal_number}
use Rattle.rules.specs.declared.state.Fault.{Fault}
use Rattle.rules.specs.declared.state.Frame.{Frame}
use Rattle.rules.specs.declared.state.Status.{Status}
use Rattle.rules.specs.declared.state.Activity.{Activity}
use Rattle.rules.specs.declared.state.State.{State}
use Rattle.rules.specs.State.{act, frame, top, ended, is_ended, taken_number}
use Rattle.rules.specs.Tree.{here}
use Rattle.rules.specs.WellFormed.{is_placed, well_formed}
use Rattle.rules.specs.Steps.{at, awaited, refusal, can_step}
use Rattle.rules.proofs.AnswerNumbers.{number_positive, refusal_range}
use Rattle.rules.proofs.WellFormedFacts.{Facts, ActivityFacts, facts}
use Rattle.fields.specs.Lent.{Lent, Reads, ReadsAct}
use Rattle.waits.specs.Waits.{Awaits}
use Rattle.turns.specs.declared.Reply.{Reply}
use Rattle.turns.specs.Turns.{standing, Stands, Looks, CanStep, CarriesIn, TurnsAny}
use Rattle.turns.proofs.Carrying.{refused_by_lem, goes_on}

-- THE COMMAND THAT IT STANDS ON

module _ (t : List ℕ) {b : List ℕ} {i n : ℕ} (f : Reads (λ (x : State). x.activities) b n) where
  -- Number 14.
  pub not_spawned : n ≤ i → Stands t b i (Err Unspawned)
  unfolding standing
  not_spawned h = record { stands = λ s l w. let q : n ≡ s.activities = f.reads s l in rw (le-ltb i s.activities (omega arith)) }

  module _ (below : i < n) where
    module _ {s : State} (l : Lent b s) (formed : well_formed 65535 (program_of t) s ≡ true) where
      known : Facts 65535 (program_of t) s
      known = facts 65535 (program_of t) s formed

      spawned : i < s.activities
      spawned = let e : n ≡ s.activities = f.reads s l in omega arith

      few : i < 64
      few = let h = spawned in let m = known.acts64 in omega arith

      own : ActivityFacts 65535 (program_of t) s.activities s.clocks s.accumulators i (act s i)
      own = known.spawned i spawned

    module _ {x : Status} (g : ReadsAct (λ (a : Activity). a.status) b i x) where
      status : (s : State) → Lent b s → well_formed 65535 (program_of t) s ≡ true → ended s i ≡ is_ended x
      status s l w = ap is_ended (sym (g.reads s l (few l w)))

      -- Number 15.
      pub has_ended : is_ended x ≡ true → Stands t b i (Err Ended)
      unfolding standing
      has_ended e = record { stands = λ s l w. rw (lt-ltb i s.activities (spawned l w), status s l w, e) }

      module _ (u : is_ended x ≡ false) {d : ℕ} (h : ReadsAct (λ (a : Activity). a.depth) b i d) where
        module _ (s : State) (l : Lent b s) (w : well_formed 65535 (program_of t) s ≡ true) where
          unended : ended s i ≡ false
          unended = status s l w ∙ u

          depth : d ≡ (act s i).depth
          depth = h.reads s l (few l w)

          -- Who has not ended has a body.
          pub some : 0 < d
          some = let e = depth in let m = (own l w).bodied unended in omega arith

          shallow : d - 1 < 16
          shallow = let e = depth in let m = (own l w).stack.few in let z = some in omega arith

        pub bodiless : d ≡ 0 → Stands t b i (Err Ended)
        bodiless e = record { stands = λ s l w. let z = some s l w in absurd (let y : ⊥ = omega arith in y) }

        -- Its command.
        pub on : {y : Frame} {command : Command} → (d - 1 < 16 → ReadsAct (λ (a : Activity). frame a (d - 1)) b i y)
            → (is_placed (program_of t) y ≡ true → command ≡ (here (program_of t) y).command) → Stands t b i (Ok command)
        unfolding standing at
        on {y} {command} r c = record {
          stands =
              λ s l w.
              let p = program_of t in
              let top_is : y ≡ top (act s i) = (r (shallow s l w)).reads s l (few l w) ∙ ap (λ (m : ℕ). frame (act s i) (m - 1)) (depth s l w) in
              let bodied : 0 < (act s i).depth = (own l w).bodied (unended s l w) in
              let placed : is_placed p (top (act s i)) ≡ true = (own l w).stack.placed ((act s i).depth - 1) (omega arith) in
              let stands : command ≡ (here p (top (act s i))).command = c (rw top_is placed) ∙ ap (λ (z : Frame). (here p z).command) top_is in
              rw (lt-ltb i s.activities (spawned l w), unended s l w, stands);
        }

-- WHAT THAT SAYS

-- A command: it was spawned, has not ended, and stands on it.
pub record Acts (p : Program) (s : State) (i : ℕ) (command : Command) : Type 0 where
  pub spawned : i < s.activities
  pub unended : ended s i ≡ false
  pub stands : (at p s i).command ≡ command

pub acts : (p : Program) (s : State) (i : ℕ) {command : Command} → Ok command ≡ standing p s i → Acts p s i command
unfolding standing
acts p s i {command} e = go (ltb i s.activities) (ended s i) refl refl e
  where
    go : (x y : Bool) → ltb i s.activities ≡ x → ended s i ≡ y → Ok command ≡ cond x (cond y (Err Ended) (Ok (at p s i).command)) (Err Unspawned) → Acts p s i command
    go true true q u e = absurd (cc)
    go true false q u e = record { spawned = ltb-true i s.activities q; unended = u; stands = cc }
    go false y q u e = absurd (cc)

-- 14 or 15: it waits for nobody.
pub stays : (p : Program) (s : State) (i : ℕ) {e : Refusal} → Err e ≡ standing p s i → (refusal_number e ≡ refusal p s i) × (0 ≡ awaited p s i)
unfolding standing refusal awaited
stays p s i {e} h = go (ltb i s.activities) (ended s i) refl refl h
  where
    same : {x : Refusal} → ◌≡◌ {A = Result Command Refusal} (Err e) (Err x) → e ≡ x
    same q = cc

    go : (x y : Bool) → ltb i s.activities ≡ x → ended s i ≡ y → Err e ≡ cond x (cond y (Err Ended) (Ok (at p s i).command)) (Err Unspawned)
        → (refusal_number e ≡ refusal p s i) × (0 ≡ awaited p s i)
    go true true q u h = (ap refusal_number (same h) ∙ rw (q, u), rw (q, u))
    go true false q u h = absurd (cc)
    go false y q u h = (ap refusal_number (same h) ∙ rw q, rw q)

module _ {t b : List ℕ} {i : ℕ} where
  -- Numbers 14 and 15.
  pub turned_down : {r : Reply} {e : Refusal} → Stands t b i (Err e) → (r.answer ≡ Err e) × (r.awaited ≡ 0) → Looks t b i r
  turned_down k alone = record {
    sees = λ s l w. let d = stays (program_of t) s i (k.stands s l w) in record { number = ap taken_number alone.0 ∙ d.0; count = alone.1 ∙ d.1 };
  }

  module _ {command : Command} (k : Stands t b i (Ok command)) where
    module _ {v : ℕ} (a : Awaits t command b i v) where
      asked : (s : State) → Lent b s → well_formed 65535 (program_of t) s ≡ true → v ≡ awaited (program_of t) s i
      asked s l w = let x = acts (program_of t) s i (k.stands s l w) in a.tells s l w x.spawned x.unended x.stands

      -- Number 16.
      pub waiting : {r : Reply} → (v ≡ 0 → ⊥) → r.answer ≡ Err Waits → r.awaited ≡ v → Looks t b i r
      waiting h e n = record {
        sees =
            λ s l w.
            let q = asked s l w in
            record { number = ap taken_number e ∙ sym (refused_by_lem (program_of t) s i q h); count = n ∙ q };
      }

      -- None of them.
      pub moving : {r : Reply} → v ≡ 0 → (r.answer ≡ Ok None) × (r.awaited ≡ 0) → Looks t b i r
      moving z alone = record {
        sees =
            λ s l w.
            let q = asked s l w in
            let x = acts (program_of t) s i (k.stands s l w) in
            record { number = ap taken_number alone.0 ∙ sym (goes_on (program_of t) s i x.spawned x.unended q z); count = alone.1 ∙ sym z ∙ q };
      }

    -- A turn at its command.
    pub turned : {c : List ℕ} {r : Reply} → CarriesIn t command b c i r → TurnsAny t b c i r
    turned m = record {
      turns = λ s l w. let x = acts (program_of t) s i (k.stands s l w) in m.turns s l w x.spawned x.unended x.stands;
      waits = λ s l w. let x = acts (program_of t) s i (k.stands s l w) in m.waits s l w x.spawned x.unended x.stands;
    }

-- Who meets none of them can step.
pub able : {t b : List ℕ} {i : ℕ} {r : Reply} → Looks t b i r → CanStep t b i (is_ok r.answer)
unfolding can_step
able {t} {i = i} {r} g = record { tells = λ s l w. go r.answer (refusal (program_of t) s i) (g.sees s l w).number (refusal_range (program_of t) s i) }
  where
    go : (a : Result (Option Fault) Refusal) (n : ℕ) → taken_number a ≡ n → ((n ≡ 0 → ⊥) → (14 ≤ n) × (n ≤ 16)) → is_ok a ≡ eqb n 0
    go (Ok None) n e h = rw (← e)
    go (Ok (Some f)) n e h = let k = (h (λ z. omega arith)).1 in absurd (omega arith)
    go (Err x) n e h = let k = number_positive x in sym (ne_eqb n 0 (λ z. omega arith))
