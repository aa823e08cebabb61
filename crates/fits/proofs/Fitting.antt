-- Every state that the rules reach has the sizes of the declared types, and its numbers fit them: so its bytes are those of no other (`encoding/proofs/StateLaws`).
use Prim.Native.Nat.{ℕ, zero, suc, ◌^◌, ◌≤◌, ◌<◌}
use native.Mathlib.Omega.{arith}
use mathlib.Core.Path.{◌≡◌, refl, ◌∙◌}
use mathlib.Core.List.{List, [], ◌∷◌}
use mathlib.Core.Bool.{Bool, true, false}
use lib.ListN.{length, get_or, set, replicate, length-set, length-replicate}
use lib.Dec.{eqb}
use Rattle.program.specs.Bodies.{program_of}
use Rattle.program.specs.Table.{number_of}
use Rattle.program.proofs.Basic.{Bytes}
use Rattle.program.proofs.ShapeLaws.{accepted, numbered}
use Rattle.rules.specs.declared.state.Activity.{Activity}
use Rattle.rules.specs.declared.state.State.{State}
use Rattle.rules.specs.State.{no_frame, no_hold, no_frames, no_activity, no_accumulator, zero_state, absent}
use Rattle.rules.specs.Effects.{with_frames}
use Rattle.rules.specs.Steps.{base, start_state, start_with, start, step}
use Rattle.rules.specs.Runs.{run_from, run}
use Rattle.rules.proofs.Sized.{SizedActivity, Sized}
use Rattle.rules.proofs.Sizes.{step_sized}
use Rattle.rules.proofs.Turn.{turn}
use Rattle.rules.proofs.StepLaws.{Outcome, unfits, refuses, overflows, takes, outcome}
use Rattle.rules.proofs.WellFormedFacts.{facts}
use Rattle.rules.proofs.WellFormedStep.{step_well_formed}
use Rattle.encoding.proofs.Fits.{FitsFrame, FitsHold, FitsAccumulator, FitsActivity, FitsState}
use Rattle.fits.proofs.Small.{Four, Small, put, small_step}
use Rattle.fits.proofs.Formed.{formed_fits}

-- What the laws of the encoding ask of a state.
pub record Fitting (s : State) : Type 0 where
  pub sized : Sized s
  pub fits : FitsState s

-- THE FIRST STATES

-- What holds of an entry and of what stands past the end holds throughout a list of that entry.
all : {A : Type 0} (P : A → Type 0) (n : ℕ) (a d : A) → P a → P d → (j : ℕ) → P (get_or (replicate n a) j d)
all P zero a d h k j = k
all P (suc n) a d h k zero = h
all P (suc n) a d h k (suc j) = all P n a d h k j

frame_zero : FitsFrame no_frame
frame_zero = record { offset = omega arith; body = omega arith; runs = omega arith; first = omega arith }

hold_zero : FitsHold no_hold
hold_zero = record { phase = omega arith; clock = omega arith }

accumulator_zero : FitsAccumulator no_accumulator
accumulator_zero = record { value = omega arith; owner = omega arith }

-- An activity without clocks and names, its frames all 0.
bare : (depth : ℕ) → depth ≤ 1 → FitsActivity (with_frames no_activity depth no_frames)
bare depth h =
    record {
      register = omega arith;
      spawner = omega arith;
      depth = omega arith;
      names = λ n l. all (λ (x : ℕ). x < 2 ^ 8) 8 0 0 (omega arith) (omega arith) n;
      holds = λ k l. all FitsHold 8 no_hold no_hold hold_zero hold_zero k;
      frames = λ d l. all FitsFrame 16 no_frame no_frame frame_zero frame_zero d;
    }

-- What stands past the end.
gone : FitsActivity absent
gone =
    record {
      register = omega arith;
      spawner = omega arith;
      depth = omega arith;
      names = λ n l. omega arith;
      holds = λ k l. hold_zero;
      frames = λ d l. frame_zero;
    }

bare_sized : (depth : ℕ) → SizedActivity (with_frames no_activity depth no_frames)
bare_sized depth = record { frames16 = refl; holds8 = refl; names8 = refl }

-- Where at most one activity was spawned, and nothing done.
first : (acts : List Activity) (count : ℕ) → count ≤ 1 → length acts ≡ 64 → ((i : ℕ) → i < 64 → SizedActivity (get_or acts i absent)) → ((i : ℕ) → FitsActivity (get_or acts i absent))
    → Fitting (record { cells = zero_state.cells; acts = acts; accs = zero_state.accs; steps = 0; activities = count; clocks = 0; accumulators = 0 })
first acts count l n sized fits =
    record {
      sized = record { acts64 = n; accs16 = refl; cells16 = refl; each = sized };
      fits =
          record {
            steps = omega arith;
            activities = omega arith;
            clocks = omega arith;
            accumulators = omega arith;
            cells = λ x l. all Four 16 0 0 (omega arith) (omega arith) x;
            accs = λ k l. all FitsAccumulator 16 no_accumulator no_accumulator accumulator_zero accumulator_zero k;
            acts = λ i l. fits i;
          };
    }

nobody_fits : (i : ℕ) → FitsActivity (get_or (replicate 64 no_activity) i absent)
nobody_fits = all FitsActivity 64 no_activity absent (bare 0 (omega arith)) gone

nobody_sized : (i : ℕ) → i < 64 → SizedActivity (get_or (replicate 64 no_activity) i absent)
nobody_sized = sizes 64
  where
    sizes : (n i : ℕ) → i < n → SizedActivity (get_or (replicate n no_activity) i absent)
    sizes zero i l = absurd (omega arith)
    sizes (suc n) zero l = bare_sized 0
    sizes (suc n) (suc i) l = sizes n i (omega arith)

-- The state of zeros, and the start state.
pub zero_fits : Fitting zero_state
zero_fits = first (replicate 64 no_activity) 0 (omega arith) (length-replicate 64 no_activity) nobody_sized nobody_fits

pub start_fits : Fitting start_state
start_fits =
    first (set (replicate 64 no_activity) 0 main) 1 (omega arith) (length-set (replicate 64 no_activity) 0 main ∙ length-replicate 64 no_activity) sized
    (put FitsActivity (replicate 64 no_activity) 0 main absent nobody_fits (bare 1 (omega arith)))
  where
    main : Activity
    main = with_frames no_activity 1 no_frames

    sized : (i : ℕ) → i < 64 → SizedActivity (get_or (set (replicate 64 no_activity) 0 main) i absent)
    sized zero l = bare_sized 1
    sized (suc i) l = nobody_sized (suc i) l

-- THE STEP

-- The entries past the end are small too.
pub past_end : {A : Type 0} (P : A → Type 0) (n : ℕ) (l : List A) (d : A) → length l ≡ n → ((j : ℕ) → j < n → P (get_or l j d)) → P d → (j : ℕ) → P (get_or l j d)
past_end P n [] d e f h j = h
past_end P zero (x ∷ l) d e f h j = absurd (omega arith)
past_end P (suc n) (x ∷ l) d e f h zero = f 0 (omega arith)
past_end P (suc n) (x ∷ l) d e f h (suc j) = past_end P n l d (omega arith) (λ k m. f (suc k) (omega arith)) h j

small : (s : State) → Fitting s → Small s
small s f =
    record {
      cells = past_end Four 16 s.cells 0 f.sized.cells16 f.fits.cells (omega arith);
      values = past_end (λ c. Four c.value) 16 s.accs no_accumulator f.sized.accs16 (λ n l. (f.fits.accs n l).value) (omega arith);
      registers = past_end (λ a. Four a.register) 64 s.acts absent f.sized.acts64 (λ i l. (f.fits.acts i l).register) (omega arith);
    }

-- Whatever the table, the state and the number: the state that a call of the step returns fits where the one fitted that it was handed.
pub step_fits : (t : List ℕ) → Bytes t → (s : State) → Fitting s → (i : ℕ) → Fitting (step base t s i).state
step_fits t y s f i = go (outcome base t s i)
  where
    go : Outcome base t s i → Fitting (step base t s i).state
    go (unfits n q k e) = rw e f
    go (refuses n q k e) = rw e f
    go (overflows q x e) = rw e f
    go (takes n w r x e) =
        let u = turn (program_of t) s i r in
        let formed = step_well_formed base (accepted t (numbered base.work t n)) s f.sized i w r x in
        let few : i < 64 = omega (arith, u.spawned, (facts 65535 (program_of t) s w).acts64) in
        record {
          sized = rw e (step_sized (program_of t) s f.sized i few);
          fits = rw e (formed_fits t n y _ formed (rw e at (small_step t y base s i (small s f))));
        }

-- RUNS

-- A step for each number of a list.
pub run_from_fits : (t : List ℕ) → Bytes t → (order : List ℕ) (s : State) → Fitting s → Fitting (run_from base t s order)
unfolding run_from
run_from_fits t y [] s f = f
run_from_fits t y (i ∷ order) s f = run_from_fits t y order (step base t s i).state (step_fits t y s f i)

-- What the start returns, of an accepted table or another.
pub start_call_fits : (t : List ℕ) → Fitting (start base t).state
unfolding start start_with
start_call_fits t = go (eqb (number_of base.work t) 0) refl
  where
    go : (b : Bool) → eqb (number_of base.work t) 0 ≡ b → Fitting (start base t).state
    go true e = rw e start_fits
    go false e = rw e zero_fits

-- Every state that the rules reach: the start, and a step for each number of a list.
pub run_fits : (t : List ℕ) → Bytes t → (order : List ℕ) → Fitting (run base t order)
unfolding run
run_fits t y order = run_from_fits t y order (start base t).state (start_call_fits t)
