-- What is known of a state by value: its arrays have their sizes, and its numbers fit their types.
use Prim.Native.Nat.{ℕ, zero, suc, ◌<◌}
use native.Mathlib.Omega.{arith}
use mathlib.Core.Path.{◌≡◌}
use mathlib.Core.List.{List, [], ◌∷◌}
use lib.ListN.{length, get_or}
use mir.Val.{Val}
use denote.Shadow.{shadow}
use denote.Array.{Array, each}
use denote.Builtin.{u8, u32}
use denote.RattleType.{RattleType}
use borrow.Author.Rules.{rules}
use Rattle.rules.specs.declared.state.Frame.{Frame}
use Rattle.rules.specs.declared.state.Hold.{Hold}
use Rattle.rules.specs.declared.state.Activity.{Activity}
use Rattle.rules.specs.declared.state.Accumulator.{Accumulator}
use Rattle.rules.specs.declared.state.State.{State}
use Rattle.rules.specs.State.{no_frame, no_hold, no_accumulator, absent}
use Rattle.rules.proofs.Sized.{SizedActivity, Sized}
use Rattle.rules.specs.contracts.state.Frame
use Rattle.rules.specs.contracts.state.Hold
use Rattle.rules.specs.contracts.state.Activity
use Rattle.rules.specs.contracts.state.Accumulator
use Rattle.rules.specs.contracts.state.State
use Rattle.fits.proofs.Fitting.{Fitting}
use Rattle.encoding.proofs.Fits.{FitsFrame, FitsHold, FitsAccumulator, FitsActivity, FitsState}

-- Each entry of an array is what its type says.
each_at : (R : RattleType) (xs : List R.Denot) (us : List Val) (i : ℕ) (d : R.Denot) → i < length xs → shadow (each R.Denot R.own_val xs us)
    → (v : Val) × shadow (R.own_val (get_or xs i d) (v ∷ []))
each_at R [] us i d h p = absurd (let z : ⊥ = omega arith in z)
each_at R (x ∷ xs) [] i d h p = absurd p
each_at R (x ∷ xs) (u ∷ us) zero d h p = (u, p.0)
each_at R (x ∷ xs) (u ∷ us) (suc i) d h p = each_at R xs us i d (omega arith) p.1

module _ (R : RattleType) (n : ℕ) (xs : List R.Denot) (vs : List Val) (p : shadow ((Array R n).own_val xs vs)) where
  array_long : length xs ≡ n
  array_long = p.1.0.1

  array_at : (i : ℕ) (d : R.Denot) → i < n → (v : Val) × shadow (R.own_val (get_or xs i d) (v ∷ []))
  array_at i d h = each_at R xs p.0 i d (rw array_long h) p.1.1

frame_typed : (f : Frame) (vs : List Val) → shadow ((Rattle.rules.specs.contracts.state.Frame.the_field).row.own_val ((Rattle.rules.specs.contracts.state.Frame.the_field).into f) vs) → FitsFrame f
frame_typed f vs p = record { offset = search rules; body = search rules; runs = search rules; first = search rules }

hold_typed : (h : Hold) (vs : List Val) → shadow ((Rattle.rules.specs.contracts.state.Hold.the_field).row.own_val ((Rattle.rules.specs.contracts.state.Hold.the_field).into h) vs) → FitsHold h
hold_typed h vs p = record { phase = search rules; clock = search rules }

acc_typed : (a : Accumulator) (vs : List Val) → shadow ((Rattle.rules.specs.contracts.state.Accumulator.the_field).row.own_val ((Rattle.rules.specs.contracts.state.Accumulator.the_field).into a) vs) → FitsAccumulator a
acc_typed a vs p = record { value = search rules; owner = search rules }

activity_typed : (a : Activity) (vs : List Val) → shadow ((Rattle.rules.specs.contracts.state.Activity.the_field).row.own_val ((Rattle.rules.specs.contracts.state.Activity.the_field).into a) vs) → FitsActivity a
activity_typed a vs p =
    let q = p.1.1 in
    record {
      register = q.0.1;
      spawner = search rules;
      depth = search rules;
      names = λ n h. (array_at u8 8 a.accumulators _ q.1.1.1.0 n 0 h).1.1;
      holds = λ k h. let x = array_at Rattle.rules.specs.contracts.state.Hold.the_row 8 a.holds _ q.1.1.0 k no_hold h in hold_typed _ _ x.1;
      frames = λ d h. let x = array_at Rattle.rules.specs.contracts.state.Frame.the_row 16 a.frames _ q.1.0 d no_frame h in frame_typed _ _ x.1;
    }

activity_sized : (a : Activity) (vs : List Val) → shadow ((Rattle.rules.specs.contracts.state.Activity.the_field).row.own_val ((Rattle.rules.specs.contracts.state.Activity.the_field).into a) vs) → SizedActivity a
activity_sized a vs p =
    let q = p.1.1 in
    record {
      frames16 = array_long Rattle.rules.specs.contracts.state.Frame.the_row 16 a.frames _ q.1.0;
      holds8 = array_long Rattle.rules.specs.contracts.state.Hold.the_row 8 a.holds _ q.1.1.0;
      names8 = array_long u8 8 a.accumulators _ q.1.1.1.0;
    }

-- THE STATE

-- So its bytes are those of no other state.
module _ (s : State) (vs : List Val) (p : shadow ((Rattle.rules.specs.contracts.state.State.the_field).row.own_val ((Rattle.rules.specs.contracts.state.State.the_field).into s) vs)) where
  state_fits : FitsState s
  state_fits =
      let q = p.1.1 in
      record {
        steps = search rules;
        activities = search rules;
        clocks = search rules;
        accumulators = search rules;
        cells = λ x h. (array_at u32 16 s.cells _ q.0 x 0 h).1.1;
        accs = λ n h. let x = array_at Rattle.rules.specs.contracts.state.Accumulator.the_row 16 s.accs _ q.1.1.0 n no_accumulator h in acc_typed _ _ x.1;
        acts = λ i h. let x = array_at Rattle.rules.specs.contracts.state.Activity.the_row 64 s.acts _ q.1.0 i absent h in activity_typed _ _ x.1;
      }

  state_sized : Sized s
  state_sized =
      let q = p.1.1 in
      record {
        acts64 = array_long Rattle.rules.specs.contracts.state.Activity.the_row 64 s.acts _ q.1.0;
        accs16 = array_long Rattle.rules.specs.contracts.state.Accumulator.the_row 16 s.accs _ q.1.1.0;
        cells16 = array_long u32 16 s.cells _ q.0;
        each = λ i h. let x = array_at Rattle.rules.specs.contracts.state.Activity.the_row 64 s.acts _ q.1.0 i absent h in activity_sized _ _ x.1;
      }

  pub fitting : Fitting s
  fitting = record { sized = state_sized; fits = state_fits }
