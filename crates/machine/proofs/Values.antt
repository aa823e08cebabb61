-- A call by value is the call in place on the bytes of the state.
use Prim.Native.Nat.{ℕ, ◌+◌, ◌≤◌, ◌<◌}
use native.Mathlib.Omega.{arith}
use mathlib.Core.Path.{◌≡◌, refl, sym, ap, ◌∙◌}
use mathlib.Core.List.{List}
use mathlib.Core.Bool.{true, cond}
use lib.Dec.{eqb}
use lib.ListN.{length, replicate, length-replicate}
use borrow.Author.Tests.{eq-eqb, ne_eqb}
use Rattle.program.specs.Bodies.{program_of}
use Rattle.program.specs.Table.{work_limit, number_of, counted, table_of}
use Rattle.program.specs.declared.table.Table.{Table}
use Rattle.program.specs.declared.refusal.Refusal.{Refusal}
use Rattle.program.specs.declared.refusal.Refusal.TheVariants.{Spent, Buffer}
use Rattle.program.specs.Refusal.{refusal_number, refusal_at, told}
use Rattle.program.proofs.Basic.{Bytes}
use Rattle.program.proofs.Refusals.{answered_ok, answered_at, answered_refusal, refusal_some}
use Rattle.rules.specs.declared.state.Fault.{Fault}
use Rattle.rules.specs.declared.state.Fault.TheVariants.{F1, F2, F3, F4, F5, F6, F7, F8}
use Rattle.rules.specs.declared.state.Status.{Status}
use Rattle.rules.specs.declared.state.Status.TheVariants.{Running, AtBarrier, Ended, Faulted}
use Rattle.rules.specs.declared.state.Activity.{Activity}
use Rattle.rules.specs.declared.state.State.{State}
use Rattle.rules.specs.declared.answer.Stepped.{Stepped}
use Rattle.rules.specs.State.{Answer, zero_state, fault_number, status_answer, answer_number, act, taken_number}
use Rattle.rules.specs.Effects.{applied}
use Rattle.rules.specs.Steps.{base, start_state, start_with, start, effect, stepped, step, Ready, ready, ready_set as set_of, no_sheet, sheet_of, registrations, registrations_number}
use Rattle.rules.proofs.Turn.{turn}
use Rattle.rules.proofs.WellFormedFacts.{facts}
use Rattle.rules.proofs.StepLaws.{Outcome, unfits, refuses, overflows, takes, outcome}
use Rattle.rules.proofs.FaultNumbers.{fault_range}
use Rattle.encoding.specs.Encode.{encode_state}
use Rattle.encoding.specs.Decode.{state_of, fields_encode, encodes, decoded_of}
use Rattle.encoding.proofs.FromState.{state_round}
use Rattle.encoding.proofs.StateLaws.{encode_state_encodes, state_of_encode_state}
use Rattle.fits.proofs.Fitting.{Fitting, step_fits}
use Rattle.fields.specs.Lent.{Lent, Reads, ReadsAct}
use Rattle.wellformed.specs.Passing.{unfit_bytes}
use Rattle.calls.specs.Calls.{step_number, step_bytes, ready_number, ready_set}
use Rattle.calls.proofs.Lending.{lent_state}
use Rattle.calls.proofs.Encoded.{step_number_lem, step_bytes_lem, ready_number_lem, ready_set_lem}
use Rattle.machine.specs.Numbers.{answer_of}
use Rattle.std.specs.Prelude.{Option, Some, None, Result, Ok, Err}
use Rattle.std.specs.Result.{result_unwrap_or}
use Rattle.machine.proofs.Kept.{after, own_after, together, same}

-- THE BYTES OF A STATE

module _ {s : State} (f : Fitting s) where
  pub encoded : encodes (encode_state s) ≡ true
  encoded = encode_state_encodes s f.sized f.fits

  pub back : state_of (encode_state s) ≡ s
  back = state_of_encode_state s f.sized f.fits

  pub lent : Lent (encode_state s) s
  lent = lent_state s f.sized f.fits

  -- What they are decoded to.
  pub decoded : {b : List ℕ} → b ≡ encode_state s → decoded_of b ≡ Some s
  unfolding decoded_of
  decoded q = rw (q, encoded) (ap Some back)

  -- They go into bytes of the call's own.
  pub own_bytes : {c : List ℕ} → c ≡ cond (eqb (length {A = ℕ} (replicate 13776 0)) 13776) (encode_state s) (replicate 13776 0) → c ≡ encode_state s
  own_bytes e = into (replicate 13776 0) (length-replicate {A = ℕ} 13776 0) e
    where
      into : (b : List ℕ) {c : List ℕ} → length b ≡ 13776 → c ≡ cond (eqb (length b) 13776) (encode_state s) b → c ≡ encode_state s
      into b n e = e ∙ rw (eq-eqb (length b) 13776 n)

-- THE START

pub start_refused : (t : List ℕ) {e : Refusal} → Err e ≡ table_of work_limit t → stepped (Err e) zero_state ≡ start base t
unfolding start start_with table_of
start_refused t {e} q = let r = answered_at (number_of work_limit t) (counted t) (sym q) in rw (← r.1, ne_eqb _ 0 r.0)

pub start_accepted : (t : List ℕ) {x : Table} → Ok x ≡ table_of work_limit t → stepped (Ok Running) start_state ≡ start base t
unfolding start start_with table_of
start_accepted t q = rw (answered_ok (number_of work_limit t) (counted t) (sym q)).0

-- NUMBERS

-- A refusal is that of its number, so it is known by it.
refusal_there : (a : Refusal) → refusal_at (refusal_number a) ≡ a
refusal_there a = (answered_at {A = ℕ} _ 0 (answered_refusal a 0)).1

pub refusal_is : {a b : Refusal} → refusal_number a ≡ refusal_number b → a ≡ b
refusal_is {a} {b} e = sym (refusal_there a) ∙ ap refusal_at e ∙ refusal_there b

-- No refusal has a fault's number.
no_fault_number : (a : Refusal) (f : Fault) → refusal_number a ≡ 100 + fault_number f → ⊥
no_fault_number a f e =
    let back : Buffer ≡ a = sym (past f) ∙ ap refusal_at (sym e) ∙ refusal_there a in
    absurd (omega (arith, fault_range f, ap refusal_number back))
  where
    past : (f : Fault) → refusal_at (100 + fault_number f) ≡ Buffer
    past F1 = refl
    past F2 = refl
    past F3 = refl
    past F4 = refl
    past F5 = refl
    past F6 = refl
    past F7 = refl
    past F8 = refl

-- What is told of a refused step is its refusal, and of one that is taken no refusal.
told_refused : (x : Result (Option Fault) Refusal) (e : Refusal) → taken_number x ≡ refusal_number e → x ≡ Err e
told_refused (Ok None) e q = absurd (omega (arith, refusal_some e))
told_refused (Ok (Some f)) e q = absurd (no_fault_number e f (sym q))
told_refused (Err r) e q = ap Err (refusal_is q)

told_taken : (x : Result (Option Fault) Refusal) (status r : Status) → taken_number x ≡ status_answer status → answer_of x r ≡ Ok r
told_taken (Ok x) status r q = refl
told_taken (Err e) Running r q = absurd (omega (arith, refusal_some e))
told_taken (Err e) AtBarrier r q = absurd (omega (arith, refusal_some e))
told_taken (Err e) Ended r q = absurd (omega (arith, refusal_some e))
told_taken (Err e) (Faulted f) r q = absurd (no_fault_number e f q)

-- THE STEP

module _ (t : List ℕ) {s : State} (f : Fitting s) (i : ℕ) (n : Result (Option Fault) Refusal) {b c : List ℕ} (q : b ≡ encode_state s) (e : taken_number n ≡ step_number t b i)
    (g : c ≡ step_bytes t b i) where
  number_is : taken_number n ≡ answer_number (step base t s i).answer
  number_is = e ∙ ap (λ (x : List ℕ). step_number t x i) q ∙ step_number_lem t s f i

  bytes_are : c ≡ encode_state (step base t s i).state
  bytes_are = g ∙ ap (λ (x : List ℕ). step_bytes t x i) q ∙ step_bytes_lem t s f i

  -- The state after it fits, so its bytes encode it.
  module _ (y : Bytes t) where
    fits_after : Fitting (step base t s i).state
    fits_after = step_fits t y s f i

    pub after_passes : (length c ≡ 13776) × (fields_encode c ≡ true)
    after_passes = let r = state_round fits_after.sized fits_after.fits in (rw bytes_are r.size, rw bytes_are r.passes)

    after_is : state_of c ≡ (step base t s i).state
    after_is = ap state_of bytes_are ∙ back fits_after

    -- It is turned down, and the state stays.
    turned_down : (x : Refusal) → step base t s i ≡ stepped (Err x) s → (r : Status) → stepped (answer_of n r) (after s (state_of c) i) ≡ step base t s i
    turned_down x d r =
        let k : n ≡ Err x = told_refused n x (number_is ∙ ap (λ (z : Stepped). answer_number z.answer) d) in
        let v : state_of c ≡ s = after_is ∙ ap (λ (z : Stepped). z.state) d in
        rw (k, v, same s i) (sym d)

    -- It is taken, by an activity that there is.
    taken : (r : Status) → ReadsAct (λ (a : Activity). a.status) c i r → i < s.activities → s.activities ≤ 64
        → step base t s i ≡ stepped (Ok (effect (program_of t) s i).self.status) (applied s i (effect (program_of t) s i))
        → stepped (answer_of n r) (after s (state_of c) i) ≡ step base t s i
    taken r m h few d =
        let e = effect (program_of t) s i in
        let k : answer_of n r ≡ Ok r = told_taken n e.self.status r (number_is ∙ ap (λ (x : Stepped). answer_number x.answer) d) in
        let v : state_of c ≡ applied s i e = after_is ∙ ap (λ (x : Stepped). x.state) d in
        let q : act (step base t s i).state i ≡ e.self = ap (λ (x : Stepped). act x.state i) d ∙ own_after s i e f.sized.acts64 h few in
        let l : r ≡ e.self.status = m.reads (step base t s i).state (rw bytes_are (lent fits_after)) (omega arith) ∙ ap (λ (x : Activity). x.status) q in
        rw (k, v, together s i e f.sized.acts64 h few, l) (sym d)

    -- Either way the answer and the state are those of the step.
    pub as_told : {z : State} {r : Status} {x : Answer} → z ≡ after s (state_of c) i → ReadsAct (λ (a : Activity). a.status) c i r → x ≡ answer_of n r → stepped x z ≡ step base t s i
    as_told {z} {r} {x} o m w = rw (o, w) (go (outcome base t s i))
      where
        go : Outcome base t s i → stepped (answer_of n r) (after s (state_of c) i) ≡ step base t s i
        go (unfits k a h d) = turned_down (refusal_at k) d r
        go (refuses k a h d) = turned_down (refusal_at k) d r
        go (overflows a h d) = turned_down Spent d r
        go (takes a h q b d) = taken r m (turn (program_of t) s i q).spawned (facts 65535 (program_of t) s h).acts64 d

-- THE READY SET

-- An answer is known by its number and by what it has, or 0.
same_answer : (x y : Ready) → told x ≡ told y → result_unwrap_or x 0 ≡ set_of y → x ≡ y
same_answer (Ok a) (Ok b) e q = ap Ok q
same_answer (Ok a) (Err b) e q = absurd (omega (arith, refusal_some b))
same_answer (Err a) (Ok b) e q = absurd (omega (arith, refusal_some a))
same_answer (Err a) (Err b) e q = ap Err (refusal_is e)

module _ (t : List ℕ) {s : State} (f : Fitting s) {b : List ℕ} (q : b ≡ encode_state s) where
  pub ready_is : {x : Ready} → told x ≡ ready_number t b → result_unwrap_or x 0 ≡ ready_set t b → x ≡ ready base t s
  ready_is {x} e g =
      same_answer x (ready base t s) (e ∙ ap (ready_number t) q ∙ ready_number_lem t s f) (g ∙ ap (ready_set t) q ∙ ready_set_lem t s f)

  -- THE SHEET

  number_lem : unfit_bytes (number_of work_limit t) (program_of t) b ≡ registrations_number base t s
  unfolding unfit_bytes registrations_number
  number_lem = rw (q, encoded f, back f)

  module _ {n : ℕ} (e : n ≡ unfit_bytes (number_of work_limit t) (program_of t) b) where
    pub sheet_number_lem : n ≡ registrations_number base t s
    sheet_number_lem = e ∙ number_lem

    pub sheet_unfit : 0 < n → no_sheet ≡ registrations base t s
    unfolding registrations registrations_number
    sheet_unfit h = rw (ne_eqb (registrations_number base t s) 0 (λ z. omega (arith, sheet_number_lem)))

    pub sheet_fit : {r : List (List ℕ)} → n ≡ 0 → Reads sheet_of b r → r ≡ registrations base t s
    unfolding registrations registrations_number
    sheet_fit z m = let k : registrations_number base t s ≡ 0 = sym sheet_number_lem ∙ z in m.reads s (rw q (lent f)) ∙ rw k
