-- Runs: the steps of an order in turn, from a state on. The answers so far stand at the start of one buffer, how many each step waits for at the start of another.
use Prim.Native.Nat.{ℕ, ◌+◌, ◌≤◌, ◌<◌}
use native.Mathlib.Omega.{arith}
use native.Mathlib.Numerals.{add-one}
use mathlib.Core.Path.{◌≡◌, refl, sym, ap, ◌∙◌}
use mathlib.Core.Bool.{true}
use mathlib.Core.List.{List, [], ◌∷◌, map, ◌++◌}
use lib.ListN.{length, take, get_or, set}
use lib.Seq.{take-suc, take_all}
use Rattle.program.specs.Bodies.{program_of}
use Rattle.rules.specs.declared.state.State.{State}
use Rattle.rules.specs.declared.answer.Stepped.{Stepped}
use Rattle.rules.specs.State.{answer_number}
use Rattle.rules.specs.WellFormed.{well_formed}
use Rattle.rules.specs.Steps.{base, step_with, step, advance, awaited, awaited_count}
use Rattle.rules.specs.Runs.{run_from, answers_from, awaited_from}
use Rattle.rules.proofs.StepLaws.{fit}
use Rattle.turns.specs.Turns.{Followable, answered_from, awaited_into}
use Rattle.turns.proofs.Filled.{Filled, filled_none, filled_store, filled_past, filled_all, filled_room}

-- ONE CALL MORE

run_more : (t : List ℕ) (order : List ℕ) (s : State) (i : ℕ) → run_from base t s (order ++ (i ∷ [])) ≡ (step base t (run_from base t s order) i).state
unfolding run_from
run_more t [] s i = refl
run_more t (j ∷ order) s i = run_more t order (step base t s j).state i

answers_more : (t : List ℕ) (order : List ℕ) (s : State) (i : ℕ)
    → map answer_number (answers_from base t s (order ++ (i ∷ []))) ≡ map answer_number (answers_from base t s order) ++ (answer_number (step base t (run_from base t s order) i).answer ∷ [])
unfolding run_from answers_from
answers_more t [] s i = refl
answers_more t (j ∷ order) s i = ap (λ (x : List ℕ). answer_number (step base t s j).answer ∷ x) (answers_more t order (step base t s j).state i)

awaited_more : (t : List ℕ) (order : List ℕ) (s : State) (i : ℕ)
    → awaited_from base t s (order ++ (i ∷ [])) ≡ awaited_from base t s order ++ (awaited_count base t (run_from base t s order) i ∷ [])
unfolding run_from awaited_from
awaited_more t [] s i = refl
awaited_more t (j ∷ order) s i = ap (λ (x : List ℕ). awaited_count base t s j ∷ x) (awaited_more t order (step base t s j).state i)

-- A RUN UNDER WAY

-- After k steps from a state: the state, and what the two buffers hold.
pub record Under (t order before lent : List ℕ) (first s : State) (buffer told : List ℕ) (k : ℕ) : Type 0 where
  pub within : k ≤ length order
  pub here : s ≡ run_from base t first (take k order)
  pub answers : Filled before buffer (map answer_number (answers_from base t first (take k order))) k
  pub counts : Filled lent told (awaited_from base t first (take k order)) k

pub under_start : (t order before lent : List ℕ) (s : State) → Under t order before lent s s before lent 0
unfolding run_from answers_from awaited_from
under_start t order before lent s = record { within = omega arith; here = refl; answers = filled_none before; counts = filled_none lent }

module _ {t order before lent : List ℕ} {first s : State} {buffer told : List ℕ} {k : ℕ} (u : Under t order before lent first s buffer told k) where
  -- One step more, whatever becomes of the second buffer.
  module _ (more : k < length order) (room : length order ≤ length before) where
    next : take (k + 1) order ≡ take k order ++ (get_or order k 0 ∷ [])
    next = rw (add-one k) (take-suc order k 0 more)

    under_step : {r : Stepped} {i v n : ℕ} {now : List ℕ} → r ≡ step base t s i → i ≡ get_or order k 0 → v ≡ answer_number r.answer → n ≡ awaited_count base t s i
        → Filled lent now (awaited_from base t first (take k order) ++ (n ∷ [])) (k + 1) → Under t order before lent first r.state (set buffer k v) now (k + 1)
    under_step {r} {i} {v} {n} e read answer count told' =
        let m = u.answers.sized in
        let q : r ≡ step base t (run_from base t first (take k order)) (get_or order k 0) = e ∙ rw (u.here, read) in
        let value : v ≡ answer_number (step base t (run_from base t first (take k order)) (get_or order k 0)).answer = answer ∙ ap (λ (x : Stepped). answer_number x.answer) q in
        let number : n ≡ awaited_count base t (run_from base t first (take k order)) (get_or order k 0) = count ∙ rw (u.here, read) in
        record {
          within = omega arith;
          here = ap (λ (x : Stepped). x.state) q ∙ sym (run_more t (take k order) first (get_or order k 0)) ∙ ap (run_from base t first) (sym next);
          answers = rw (next, answers_more t (take k order) first (get_or order k 0), ← value) (filled_store u.answers v (omega arith));
          counts = rw (next, awaited_more t (take k order) first (get_or order k 0), ← number) told';
        }

  -- The end.
  pub under_end : length order ≤ k → length order ≤ length before
      → (s ≡ run_from base t first order) × (buffer ≡ answered_from t first order before) × (told ≡ awaited_into t first order lent)
  unfolding answered_from awaited_into
  under_end h room =
      let last : k ≡ length order = omega (arith, u.within) in
      let all : take k order ≡ order = take_all k order h in (
        u.here ∙ ap (run_from base t first) all,
        filled_room u.answers (omega arith) ∙ rw (all, last),
        filled_all u.counts ∙ rw (all, last),
      )

-- An order that can be followed.
module _ {t order before lent : List ℕ} {first : State} (f : Followable t first order (length before)) {s : State} {buffer told : List ℕ} {k : ℕ}
    (u : Under t order before lent first s buffer told k) (more : k < length order) where
  -- The state on the way is well-formed, so its step needs no check.
  formed_here : well_formed 65535 (program_of t) s ≡ true
  formed_here = rw u.here (f.formed k more)

  module _ {r : State} {i v n : ℕ} (read : i ≡ get_or order k 0) (e : r ≡ (advance base (program_of t) s i).state) (answer : v ≡ answer_number (advance base (program_of t) s i).answer)
      (count : n ≡ awaited (program_of t) s i) where
    advanced : {now : List ℕ} → Filled lent now (awaited_from base t first (take k order) ++ (n ∷ [])) (k + 1) → Under t order before lent first r (set buffer k v) now (k + 1)
    unfolding step step_with awaited_count
    advanced told' =
        let z = fit base t s f.accepted formed_here in
        let q : advance base (program_of t) s i ≡ step base t s i = rw z in
        let c : n ≡ awaited_count base t s i = count ∙ rw z in
        rw e (under_step u more f.fits q read answer c told')

    -- There is room for the number.
    pub under_stored : k < length told → Under t order before lent first r (set buffer k v) (set told k n) (k + 1)
    under_stored h = advanced (filled_store u.counts n h)

    -- There is none.
    pub under_past : length told ≤ k → Under t order before lent first r (set buffer k v) told (k + 1)
    under_past h = advanced (filled_past u.counts n h)
