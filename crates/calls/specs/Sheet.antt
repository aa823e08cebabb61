-- The standing sheet as bytes.
use Rattle.std.specs.Prelude.{ℕ, List, ◌≡◌}
use Rattle.rules.specs.declared.state.State.{State}
use Rattle.rules.specs.Steps.{sheet_of}
use Rattle.encoding.specs.Bytes.{encode_each}
use Rattle.fields.specs.Lent.{Lent}
use Rattle.calls.specs.Calls.{row_bytes}

-- What is written are the rows of the state that the bytes encode.
pub record Tells (b c : List ℕ) : Type 0 where
  pub tells : (s : State) → Lent b s → c ≡ encode_each row_bytes (sheet_of s)
