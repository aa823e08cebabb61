-- A step: turned down by the check, or a turn in the lent bytes.
use Prim.Native.Nat.{ℕ}
use Rattle.std.specs.Prelude.{Ok, Err}
use mathlib.Core.Path.{◌≡◌, refl, sym, ap, ◌∙◌}
use mathlib.Core.List.{List}
use mathlib.Core.Bool.{Bool, true, false}
use borrow.Author.Tests.{ne_eqb}
use Rattle.program.specs.Bodies.{program_of}
use Rattle.program.specs.Table.{work_limit, number_of}
use Rattle.program.specs.Refusal.{refusal_number, refusal_at}
use Rattle.program.proofs.Basic.{Bytes}
use Rattle.rules.specs.declared.state.State.{State}
use Rattle.rules.specs.declared.answer.Stepped.{Stepped}
use Rattle.rules.specs.State.{Answer, taken_number}
use Rattle.rules.specs.WellFormed.{well_formed}
use Rattle.rules.specs.Steps.{base, stepped, step_with, step, advance}
use Rattle.rules.proofs.AnswerNumbers.{unfit_number}
use Rattle.rules.proofs.StepLaws.{fit, step_refused}
use Rattle.encoding.specs.Encode.{encode_state}
use Rattle.encoding.specs.Decode.{encodes, state_of}
use Rattle.encoding.proofs.StateLaws.{encode_state_state_of}
use Rattle.turns.specs.declared.Reply.{Reply}
use Rattle.turns.specs.Turns.{TurnsAny}
use Rattle.wellformed.specs.Passing.{unfit_bytes}
use Rattle.calls.specs.Calls.{step_number, bytes_after, step_bytes}
use Rattle.calls.proofs.Lending.{lent_bytes}
use Rattle.calls.proofs.Checking.{number_whole, number_none, Passed}

-- THE BYTES AFTER A STEP

-- A buffer that encodes a state goes over into the encoding of the state that the rules' step gives, whether the step was taken or refused.
pub step_bytes_encode : (t b : List ℕ) (i : ℕ) → Bytes b → encodes b ≡ true → step_bytes t b i ≡ encode_state (step base t (state_of b) i).state
unfolding step_bytes bytes_after
step_bytes_encode t b i y e = rw e (go (step base t (state_of b) i).answer refl)
  where
    go : (a : Answer) → (step base t (state_of b) i).answer ≡ a → bytes_after (step base t (state_of b) i) b ≡ encode_state (step base t (state_of b) i).state
    go (Ok status) h = rw h
    go (Err r) h = rw (h, step_refused base t (state_of b) i r h) (sym (encode_state_state_of b y e))

-- THE CALL

-- An accepted table and a well-formed state: the step is the rules' turn.
pub step_advance : (t : List ℕ) (s : State) (i : ℕ) → number_of work_limit t ≡ 0 → well_formed 65535 (program_of t) s ≡ true → step base t s i ≡ advance base (program_of t) s i
unfolding step step_with
step_advance t s i n w = rw (fit base t s n w)

module _ (t b : List ℕ) (i : ℕ) where
  -- Turned down by the check: the bytes stay.
  module _ {n : ℕ} (e : n ≡ unfit_bytes (number_of work_limit t) (program_of t) b) (h : n ≡ 0 → ⊥) where
    step_unfit : encodes b ≡ true → step base t (state_of b) i ≡ stepped (Err (refusal_at n)) (state_of b)
    unfolding step step_with
    step_unfit w = let q = e ∙ number_whole t b w in rw (sym q, ne_eqb n 0 h)

    step_unfit_number : encodes b ≡ true → refusal_number (refusal_at n) ≡ n
    step_unfit_number w = let q = e ∙ number_whole t b w in rw q (unfit_number base t (state_of b) (λ z. h (q ∙ z)))

    pub step_kept : (n ≡ step_number t b i) × (b ≡ step_bytes t b i)
    unfolding step_number step_bytes bytes_after
    step_kept = go (encodes b) refl
      where
        go : (x : Bool) → encodes b ≡ x → (n ≡ step_number t b i) × (b ≡ step_bytes t b i)
        go true w = (rw (w, step_unfit w) (sym (step_unfit_number w)), rw (w, step_unfit w))
        go false w = (rw w (e ∙ number_none t b w), rw w)

  -- The turn of a well-formed state.
  pub step_turned : {c : List ℕ} {r : Reply} → Passed t b → Bytes b → TurnsAny t b c i r → (taken_number r.answer ≡ step_number t b i) × (c ≡ step_bytes t b i)
  unfolding step_number
  step_turned p y m =
      let d = m.turns (state_of b) (lent_bytes b y p.whole) p.formed in
      let q = step_advance t (state_of b) i p.accepted p.formed in (
        rw (p.whole, q) d.number,
        d.state.bytes ∙ ap (λ (x : Stepped). encode_state x.state) (sym q) ∙ sym (step_bytes_encode t b i y p.whole),
      )
