-- Bytes that encode a state, as the functions in place take them.
use Prim.Native.Nat.{ℕ, ◌^◌, ◌<◌}
use native.Mathlib.Omega.{arith}
use mathlib.Core.Path.{◌≡◌, refl, sym}
use mathlib.Core.List.{List}
use mathlib.Core.Bool.{true}
use Rattle.program.proofs.Basic.{Bytes}
use Rattle.rules.specs.declared.state.Frame.{Frame}
use Rattle.rules.specs.declared.state.Hold.{Hold}
use Rattle.rules.specs.declared.state.Activity.{Activity}
use Rattle.rules.specs.declared.state.Accumulator.{Accumulator}
use Rattle.rules.specs.declared.state.State.{State}
use Rattle.rules.specs.State.{no_frame, no_hold, no_accumulator}
use Rattle.rules.proofs.Sized.{SizedActivity, Sized}
use Rattle.encoding.specs.Encode.{encode_state}
use Rattle.encoding.specs.Decode.{encodes, state_of}
use Rattle.encoding.proofs.Fits.{FitsActivity, FitsState}
use Rattle.encoding.proofs.StateLaws.{encode_state_state_of, state_of_sized, state_of_fits}
use Rattle.fits.proofs.Fitting.{past_end}
use Rattle.fields.specs.Lent.{FineActivity, Fine, Lent}

-- Sizes and numbers that fit the declared types are fine.
fine_activity : (a : Activity) → SizedActivity a → FitsActivity a → FineActivity a
fine_activity a z f =
    record {
      frames16 = z.frames16;
      holds8 = z.holds8;
      names8 = z.names8;
      register = f.register;
      offsets = past_end (λ (x : Frame). x.offset < 2 ^ 16) 16 a.frames no_frame z.frames16 (λ d h. (f.frames d h).offset) (omega arith);
      phases = past_end (λ (x : Hold). x.phase < 2 ^ 16) 8 a.holds no_hold z.holds8 (λ k h. (f.holds k h).phase) (omega arith);
    }

pub fine_state : (s : State) → Sized s → FitsState s → Fine s
fine_state s z f =
    record {
      acts64 = z.acts64;
      accs16 = z.accs16;
      cells16 = z.cells16;
      steps = f.steps;
      cells = past_end (λ (x : ℕ). x < 2 ^ 32) 16 s.cells 0 z.cells16 f.cells (omega arith);
      values = past_end (λ (x : Accumulator). x.value < 2 ^ 32) 16 s.accs no_accumulator z.accs16 (λ n h. (f.accs n h).value) (omega arith);
      each = λ i h. fine_activity _ (z.each i h) (f.acts i h);
    }

-- The bytes of a state.
pub lent_state : (s : State) → Sized s → FitsState s → Lent (encode_state s) s
lent_state s z f = record { bytes = refl; fine = fine_state s z f }

-- Bytes that encode a state are lent as this state.
pub lent_bytes : (b : List ℕ) → Bytes b → encodes b ≡ true → Lent b (state_of b)
lent_bytes b y e = record { bytes = sym (encode_state_state_of b y e); fine = fine_state (state_of b) (state_of_sized b y e) (state_of_fits b y e) }
