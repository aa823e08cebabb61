-- No byte pattern passes for two states, and nothing of a state is lost.
use Prim.Native.Nat.{ℕ}
use mathlib.Core.List.{List}
use mathlib.Core.Bool.{true}
use mathlib.Core.Path.{◌≡◌, sym, ap, ◌∙◌}
use lib.ListN.{length}
use lib.Dec.{eqb}
use borrow.Author.Tests.{eq-eqb, eqb-true}
use Rattle.rules.specs.declared.state.State.{State}
use Rattle.rules.proofs.Sized.{Sized}
use Rattle.rules.proofs.Tests.{and_true}
use Rattle.encoding.specs.Encode.{encode_state}
use Rattle.encoding.specs.Decode.{state_of, fields_encode, encodes}
use Rattle.program.proofs.Basic.{Bytes}
use Rattle.encoding.proofs.Fits.{FitsState}
use Rattle.encoding.proofs.FromState.{state_round}
use Rattle.encoding.proofs.FromBytes.{state_back}
use Rattle.encoding.proofs.StateFits.{state_sized, state_fits}
use Rattle.encoding.proofs.BytesFit.{state_bytes}

-- the bytes of a state are as many as the page says
pub encode_state_length : (s : State) → Sized s → FitsState s → length (encode_state s) ≡ 13776
encode_state_length s z h = (state_round z h).size

-- the bytes of a state encode a state
pub encode_state_encodes : (s : State) → Sized s → FitsState s → encodes (encode_state s) ≡ true
unfolding encodes
encode_state_encodes s z h = let r = state_round z h in rw (eq-eqb (length (encode_state s)) 13776 r.size) r.passes

-- each is a byte
pub encode_state_bytes : (s : State) → Sized s → FitsState s → Bytes (encode_state s)
encode_state_bytes = state_bytes

-- and that state is the one they were made of
pub state_of_encode_state : (s : State) → Sized s → FitsState s → state_of (encode_state s) ≡ s
state_of_encode_state s z h = (state_round z h).back

-- bytes that encode a state are the bytes of that state
pub encode_state_state_of : (b : List ℕ) → Bytes b → encodes b ≡ true → encode_state (state_of b) ≡ b
unfolding encodes
encode_state_state_of b y e =
    let q = and_true (eqb (length b) 13776) (fields_encode b) e in
    state_back.same b (eqb-true (length b) 13776 q.0) y q.1

-- whose arrays have their sizes
pub state_of_sized : (b : List ℕ) → Bytes b → encodes b ≡ true → Sized (state_of b)
unfolding encodes
state_of_sized b y e =
    let q = and_true (eqb (length b) 13776) (fields_encode b) e in
    state_sized b (eqb-true (length b) 13776 q.0) y q.1

-- and whose numbers fit their types
pub state_of_fits : (b : List ℕ) → Bytes b → encodes b ≡ true → FitsState (state_of b)
unfolding encodes
state_of_fits b y e =
    let q = and_true (eqb (length b) 13776) (fields_encode b) e in
    state_fits b (eqb-true (length b) 13776 q.0) y q.1

-- so two states with the same bytes are one,
pub encode_state_injective : (s t : State) → Sized s → FitsState s → Sized t → FitsState t → encode_state s ≡ encode_state t → s ≡ t
encode_state_injective s t z h z' h' e = sym (state_of_encode_state s z h) ∙ ap state_of e ∙ state_of_encode_state t z' h'

-- and so are two lists of bytes that encode the same state
pub state_of_injective : (b c : List ℕ) → Bytes b → Bytes c → encodes b ≡ true → encodes c ≡ true → state_of b ≡ state_of c → b ≡ c
state_of_injective b c y y' e e' h = sym (encode_state_state_of b y e) ∙ ap encode_state h ∙ encode_state_state_of c y' e'
