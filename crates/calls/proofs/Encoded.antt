-- The calls over the bytes of a state are the rules' calls of that state.
use Prim.Native.Nat.{ℕ}
use mathlib.Core.Path.{◌≡◌}
use mathlib.Core.List.{List}
use mathlib.Core.Bool.{true}
use Rattle.program.specs.Refusal.{told}
use Rattle.rules.specs.declared.state.State.{State}
use Rattle.rules.specs.State.{answer_number}
use Rattle.rules.specs.Steps.{base, step, ready}
use Rattle.rules.specs.Steps.{ready_set as members}
use Rattle.encoding.specs.Encode.{encode_state}
use Rattle.encoding.specs.Decode.{encodes, state_of}
use Rattle.encoding.proofs.StateLaws.{encode_state_encodes, encode_state_bytes, state_of_encode_state}
use Rattle.fits.proofs.Fitting.{Fitting}
use Rattle.calls.specs.Calls.{step_number, step_bytes, ready_number, ready_set}
use Rattle.calls.proofs.Stepping.{step_bytes_encode}

module _ (t : List ℕ) (s : State) (f : Fitting s) where
  -- The bytes encode a state, and it is this one.
  pub whole_of : encodes (encode_state s) ≡ true
  whole_of = encode_state_encodes s f.sized f.fits

  pub back_to : state_of (encode_state s) ≡ s
  back_to = state_of_encode_state s f.sized f.fits

  -- A step.
  pub step_number_lem : (i : ℕ) → step_number t (encode_state s) i ≡ answer_number (step base t s i).answer
  unfolding step_number
  step_number_lem i = rw (whole_of, back_to)

  pub step_bytes_lem : (i : ℕ) → step_bytes t (encode_state s) i ≡ encode_state (step base t s i).state
  step_bytes_lem i = rw back_to at (step_bytes_encode t (encode_state s) i (encode_state_bytes s f.sized f.fits) whole_of)

  -- The ready set.
  pub ready_number_lem : ready_number t (encode_state s) ≡ told (ready base t s)
  unfolding ready_number
  ready_number_lem = rw (whole_of, back_to)

  pub ready_set_lem : ready_set t (encode_state s) ≡ members (ready base t s)
  unfolding ready_set
  ready_set_lem = rw (whole_of, back_to)
