-- A run: turned down, without room, or followed from the start state.
use Prim.Native.Nat.{ℕ, ◌≤◌, ◌<◌}
use native.Mathlib.Omega.{arith}
use mathlib.Core.Path.{◌≡◌, sym, ◌∙◌}
use mathlib.Core.List.{List}
use mathlib.Core.Bool.{cond}
use lib.ListN.{length, take}
use lib.Dec.{eqb}
use borrow.Author.Tests.{eq-eqb, ne_eqb, le-leb, lt-leb}
use Rattle.program.specs.Table.{work_limit, number_of}
use Rattle.rules.specs.Steps.{base, start_state}
use Rattle.rules.proofs.Demand3.{good_start, good_run, run_start, answers_start}
use Rattle.rules.proofs.AwaitedCalls.{awaiteds_start}
use Rattle.encoding.specs.Encode.{encode_state}
use Rattle.fields.proofs.Start.{lent_start}
use Rattle.turns.specs.Turns.{Followable, answered_from, awaited_into, Follows}
use Rattle.calls.specs.Calls.{table_first, length_number, fits_state, run_number, run_answers, run_bytes, trace_counts}

-- An order can be followed from the start of an accepted table: each state of a run is well-formed.
pub from_start : (t order : List ℕ) {room : ℕ} → number_of work_limit t ≡ 0 → length order ≤ room → Followable t start_state order room
from_start t order z room =
    record {
      accepted = z;
      formed = λ k h. (good_run base t (omega arith) z (take k order) start_state (good_start base t (omega arith) z)).fit;
      fits = room;
    }

module _ (t order buffer counts b : List ℕ) where
  -- What a call leaves: its number, the answers, how many each step waits for, and the state's bytes.
  abbrev pub Ends : ℕ → List ℕ → List ℕ → List ℕ → Type 0
  Ends n filled told after =
      (n ≡ run_number t order (length buffer) b)
      × ((filled ≡ run_answers t order buffer b) × ((told ≡ trace_counts t order (length buffer) counts b) × (after ≡ run_bytes t order (length buffer) b)))

  -- With a number, every byte stays.
  kept : {n : ℕ} → n ≡ run_number t order (length buffer) b → (n ≡ 0 → ⊥) → Ends n buffer counts b
  unfolding run_answers run_bytes trace_counts
  kept {n} e h = let q = ne_eqb n 0 h in (e, (rw (sym e, q), (rw (sym e, q), rw (sym e, q))))

  -- The table is turned down.
  pub run_refused : {n : ℕ} → n ≡ number_of work_limit t → (n ≡ 0 → ⊥) → Ends n buffer counts b
  unfolding run_number table_first
  run_refused {n} e h = kept (rw (sym e, ne_eqb n 0 h)) h

  module _ (z : number_of work_limit t ≡ 0) where
    -- The state's buffer has another length.
    pub run_length : (length b ≡ 13776 → ⊥) → Ends length_number buffer counts b
    unfolding run_number table_first fits_state
    run_length h = kept (rw (z, ne_eqb (length b) 13776 h)) (λ e. omega arith)

    module _ (l : length b ≡ 13776) where
      -- The answers have too little room.
      pub run_short : length buffer < length order → Ends length_number buffer counts b
      unfolding run_number table_first fits_state
      run_short h = kept (rw (z, eq-eqb (length b) 13776 l, lt-leb (length order) (length buffer) h)) (λ e. omega arith)

      module _ (room : length order ≤ length buffer) where
        -- Nothing is wrong.
        number_done : 0 ≡ run_number t order (length buffer) b
        unfolding run_number table_first fits_state
        number_done = rw (z, eq-eqb (length b) 13776 l, le-leb (length order) (length buffer) room)

        -- The order is followed from the start state.
        pub run_followed : {begun filled told after : List ℕ} → begun ≡ cond (eqb (length b) 13776) (encode_state start_state) b
            → Follows t order buffer filled counts told begun after → Ends 0 filled told after
        unfolding run_answers run_bytes trace_counts answered_from awaited_into
        run_followed {begun} e m =
            let g : begun ≡ encode_state start_state = e ∙ rw (eq-eqb (length b) 13776 l) in
            let w = m.follows start_state (lent_start g) (from_start t order z room) in (
              number_done,
              (
                w.1 ∙ rw (sym number_done, answers_start base t (omega arith) z order),
                (
                  w.2 ∙ rw (sym number_done, awaiteds_start base t z order),
                  w.0.bytes ∙ rw (sym number_done, run_start base t (omega arith) z order),
                ),
              ),
            )
