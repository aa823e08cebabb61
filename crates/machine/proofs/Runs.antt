-- A whole run by value is the run in bytes of its own.
use Prim.Native.Nat.{ℕ}
use native.Mathlib.Omega.{arith}
use mathlib.Core.Path.{◌≡◌, refl, sym, ◌∙◌}
use mathlib.Core.List.{List, ◌++◌}
use mathlib.Core.Bool.{Bool, true, false, cond}
use lib.Dec.{leb, eqb}
use lib.ListN.{length, take, drop}
use borrow.Author.Tests.{eq-eqb, ne_eqb}
use Rattle.program.specs.Table.{work_limit, number_of}
use Rattle.program.proofs.Basic.{Bytes}
use Rattle.program.specs.declared.refusal.Refusal.{Refusal}
use Rattle.program.specs.declared.refusal.Refusal.TheVariants.{Buffer}
use Rattle.program.specs.Refusal.{refusal_number, refusal_at}
use Rattle.program.proofs.NumberLaws.{number_small}
use Rattle.program.proofs.Refusals.{refusal_some}
use Rattle.std.specs.Prelude.{Some, Ok, Err}
use Rattle.rules.proofs.AnswerNumbers.{number_back}
use Rattle.rules.specs.declared.state.State.{State}
use Rattle.rules.specs.State.{zero_state}
use Rattle.rules.specs.Steps.{base}
use Rattle.rules.specs.Demand3.{AtEveryPoint}
use Rattle.rules.specs.Runs.{run, awaiteds}
use Rattle.rules.proofs.Tests.{true_false}
use Rattle.rules.proofs.Demand3.{at_every_point}
use Rattle.encoding.specs.Decode.{decoded_of}
use Rattle.fits.proofs.Fitting.{run_fits}
use Rattle.calls.specs.Calls.{table_first, fits_state, run_number, run_answers, run_bytes, trace_counts}
use Rattle.machine.specs.Ran.{ran_of, answered, awaited_by, Runs}
use Rattle.machine.proofs.Values.{decoded, refusal_is}

module _ (t order before own : List ℕ) {after c : List ℕ} {n : ℕ} (long : length own ≡ 13776) (e : n ≡ run_number t order (length before) own)
    (f : after ≡ run_answers t order before own) (g : c ≡ run_bytes t order (length before) own) where
  -- Demand 3 of an accepted table.
  demanded : number_of work_limit t ≡ 0 → AtEveryPoint base t order
  demanded z = at_every_point base t (omega arith) z order

  -- The number by the table's number x and the room y for the answers.
  by_room : n ≡ cond (eqb (number_of work_limit t) 0) (cond (leb (length order) (length before)) 0 255) (number_of work_limit t)
  unfolding run_number table_first fits_state
  by_room = e ∙ rw (eq-eqb (length own) 13776 long)

  -- A run that is not done leaves the answers.
  stays : (n ≡ 0 → ⊥) → after ≡ before
  unfolding run_answers
  stays h = f ∙ rw (sym e, ne_eqb n 0 h)

  -- It is turned down: by the table, or for want of room.
  pub refused : {r : Refusal} {s : State} → n ≡ refusal_number r → s ≡ zero_state → Runs t order before after (record { completion = Err r; state = s })
  unfolding ran_of answered
  refused {r} {s} h q = go (eqb (number_of work_limit t) 0) refl (leb (length order) (length before)) refl
    where
      same : after ≡ before
      same = stays (λ z. absurd (omega (arith, refusal_some r)))

      go : (x : Bool) → eqb (number_of work_limit t) 0 ≡ x → (y : Bool) → leb (length order) (length before) ≡ y → Runs t order before after (record { completion = Err r; state = s })
      go true a false b = let k : r ≡ Buffer = refusal_is (sym h ∙ by_room ∙ rw (a, b)) in record { result = rw (q, k, a, b); buffer = same ∙ rw (a, b); demand = demanded }
      go true a true b = let z : refusal_number r ≡ 0 = sym h ∙ by_room ∙ rw (a, b) in absurd (omega (arith, refusal_some r))
      go false a y b =
          let z : refusal_number r ≡ number_of work_limit t = sym h ∙ by_room ∙ rw a in
          let k : r ≡ refusal_at (number_of work_limit t) = refusal_is (z ∙ sym (number_back _ (omega (arith, refusal_some r)) (omega (arith, number_small work_limit t)))) in
          record { result = rw (q, k, a); buffer = same ∙ rw a; demand = demanded }

  -- Done, its own bytes are those of the run's state.
  pub ran : Bytes t → n ≡ 0 → decoded_of c ≡ Some (run base t order)
  unfolding run_bytes
  ran y z = decoded (run_fits t y order) (g ∙ rw (sym e ∙ z))

  pub done : {s : State} → n ≡ 0 → s ≡ run base t order → Runs t order before after (record { completion = Ok tt; state = s })
  unfolding ran_of answered run_answers
  done {s} z o = go (eqb (number_of work_limit t) 0) refl (leb (length order) (length before)) refl
    where
      go : (x : Bool) → eqb (number_of work_limit t) 0 ≡ x → (w : Bool) → leb (length order) (length before) ≡ w
          → Runs t order before after (record { completion = Ok tt; state = s })
      go true a true b = record { result = rw (o, a, b); buffer = f ∙ rw (sym e ∙ z, a, b); demand = demanded }
      go true a false b = let k : ◌≡◌ {A = ℕ} 0 255 = sym z ∙ by_room ∙ rw (a, b) in absurd (omega arith)
      go false a w b = absurd (true_false _ (eq-eqb (number_of work_limit t) 0 (sym (by_room ∙ rw a) ∙ z)) a)

-- How many each step waits for, in the second buffer.
pub told_by : (t order before counts own : List ℕ) {told : List ℕ} → length own ≡ 13776 → told ≡ trace_counts t order (length before) counts own
    → told ≡ awaited_by t order (length before) counts
unfolding trace_counts awaited_by run_number table_first fits_state
told_by t order before counts own long e = e ∙ rw (eq-eqb (length own) 13776 long) (go (number_of work_limit t) (eqb (number_of work_limit t) 0) refl (leb (length order) (length before)))
  where
    filled : List ℕ
    filled = take (length counts) (awaiteds base t order) ++ drop (length order) counts

    go : (n : ℕ) (x : Bool) → eqb n 0 ≡ x → (y : Bool) → cond (eqb (cond x (cond y 0 255) n) 0) filled counts ≡ cond x (cond y filled counts) counts
    go n true a true = refl
    go n true a false = refl
    go n false a y = rw a
