-- What the program hands on, joined, is what the rules say that it prints.
use Prim.Native.Nat.{ℕ, ◌+◌, ◌≤◌, min}
use mathlib.Core.List.{List, [], ◌∷◌, ◌++◌, map}
use mathlib.Core.Path.{◌≡◌, refl, sym, ap, ◌∙◌, subst}
use native.Mathlib.Omega.{arith}
use borrow.Author.Tests.{ne_eqb, le-leb}
use lib.ListN.{length, take, drop, length-map, length-append}
use lib.Seq.{take_at, take_all}
use Rattle.std.specs.Prelude.{Ok}
use Rattle.program.specs.Bodies.{program_of}
use Rattle.program.specs.Refusal.{refusal_number, refusal_at}
use Rattle.program.specs.Count.{work_of}
use Rattle.program.specs.Table.{work_limit, number_of}
use Rattle.rules.specs.declared.state.Status.{Status}
use Rattle.rules.specs.declared.state.Status.TheVariants.{Running, AtBarrier, Ended, Faulted}
use Rattle.rules.specs.declared.state.State.{State}
use Rattle.rules.specs.declared.answer.Stepped.{Stepped}
use Rattle.rules.specs.declared.answer.Ran.{Ran}
use Rattle.rules.specs.Search.{count_below}
use Rattle.rules.specs.State.{Answer, answer_number, status_answer, ended}
use Rattle.rules.specs.Steps.{base, start_state, start, refusal, step, awaited_count}
use Rattle.rules.specs.Runs.{run, answers, answers_from, awaiteds, awaited_from}
use Rattle.rules.proofs.AnswerNumbers.{refusal_range, refused_number}
use Rattle.rules.proofs.Applied.{steps_applied}
use Rattle.rules.proofs.Turn.{doing, failed}
use Rattle.rules.proofs.Calls.{start_taken}
use Rattle.rules.proofs.Demand3.{Good, Call, refused, performed, faulted, call, good_start, good_step, good_at, answers_start}
use Rattle.rules.proofs.AwaitedCalls.{awaiteds_start}
use Rattle.machine.specs.Ran.{Traces, ran_of, answered, awaited_by}
use Rattle.lines.specs.Text.{header_of, line_of, total_of, refused_of}
use Rattle.lines.specs.Walk.{steps_of, lines_from, walk_text}
use Rattle.lines.specs.Paged.{Pages, joined}
use Rattle.lines.proofs.Paging.{steps_zero, steps_refused, steps_fault}
use Rattle.lines.proofs.Pages.{text_whole, text_past}
use Rattle.walk.specs.Walked.{lines_of, total_in, walked}

-- Every answer of a step that is accepted counts as a step.
accepted_counts : (status : Status) → steps_of (status_answer status) ≡ 1
accepted_counts Running = steps_zero refl
accepted_counts AtBarrier = steps_zero refl
accepted_counts Ended = steps_zero refl
accepted_counts (Faulted f) = steps_fault (λ e. omega arith) (omega arith)

module _ (t : List ℕ) (z : number_of work_limit t ≡ 0) where
  -- The steps taken rise by what the answer's number says.
  steps_number : (s : State) → Good base t s → (i : ℕ) → (step base t s i).state.steps ≡ s.steps + steps_of (answer_number (step base t s i).answer)
  steps_number s g i = go (call base t (omega arith) z s g i)
    where
      P : Stepped → Type 0
      P x = x.state.steps ≡ s.steps + steps_of (answer_number x.answer)

      go : Call base t s i → P (step base t s i)
      go (refused r e) =
          let n : ℕ = refusal_number (refusal_at (refusal (program_of t) s i)) in
          let q = refusal_range (program_of t) s i r in
          let same : n ≡ refusal (program_of t) s i = refused_number (program_of t) s i r in
          subst P (sym e) (omega (arith, steps_refused {a = n} (λ z. absurd (omega (arith, q.0))) (omega (arith, q.1))))
      go (performed r f e) = subst P (sym e) (omega (arith, steps_applied s i (doing (program_of t) s i), accepted_counts (doing (program_of t) s i).self.status))
      go (faulted r f e) = subst P (sym e) (omega (arith, steps_applied s i (failed (program_of t) s i), accepted_counts (failed (program_of t) s i).self.status))

  -- The lines by the rules are those made of the answers' numbers and of how many each step waits for.
  lines_same : (line : ℕ) (s : State) → Good base t s → (order : List ℕ)
      → lines_of t line s order ≡ lines_from line s.steps order (map answer_number (answers_from base t s order)) (awaited_from base t s order)
  unfolding lines_of lines_from answers_from awaited_from
  lines_same line s g [] = refl
  lines_same line s g (i ∷ order) =
      let done = step base t s i in
      let n = answer_number done.answer in
      let k = awaited_count base t s i in
      let e = steps_number s g i in
      ap (λ (l : List ℕ). line_of (line + 1) i n done.state.steps k ++ l) (lines_same (line + 1) done.state (good_step base t (omega arith) z s g i) order)
      ∙ ap (λ (m : ℕ). line_of (line + 1) i n m k ++ lines_from (line + 1) m order (map answer_number (answers_from base t done.state order)) (awaited_from base t done.state order)) e

  -- What the text is made of.
  made : (order : List ℕ) → walked t order
      ≡ walk_text order (map answer_number (answers base t order)) (awaiteds base t order) (work_of (program_of t)) (run base t order).steps
      (count_below (run base t order).activities (ended (run base t order))) (run base t order).activities
  unfolding walked walk_text total_in
  made order =
      let begun = start_taken base t z in
      let lines = lines_same 0 start_state (good_start base t (omega arith) z) order in
      rw (z, begun)
      (ap (λ (l : List ℕ). header_of ++ l ++ total_in t (run base t order))
      (lines
      ∙ ap (λ (a : List Answer). lines_from 0 0 order (map answer_number a) (awaited_from base t start_state order)) (sym (answers_start base t (omega arith) z order))
      ∙ ap (lines_from 0 0 order (map answer_number (answers base t order))) (sym (awaiteds_start base t z order))))

-- There is an answer to each byte.
answers_length : (t : List ℕ) (s : State) (order : List ℕ) → length (answers_from base t s order) ≡ length order
unfolding answers_from
answers_length t s [] = refl
answers_length t s (i ∷ order) = let q = answers_length t (step base t s i).state order in omega arith

-- And a number.
numbers_length : (t : List ℕ) (s : State) (order : List ℕ) → length (awaited_from base t s order) ≡ length order
unfolding awaited_from
numbers_length t s [] = refl
numbers_length t s (i ∷ order) = let q = numbers_length t (step base t s i).state order in omega arith

module _ (t order before counts : List ℕ) {after told : List ℕ} {r : Ran} (traced : Traces t order before after counts told r) (room : length order ≤ length before)
    (space : length order ≤ length counts) (z : number_of work_limit t ≡ 0) where
  -- The state that a run leaves, and its buffers.
  state_left : r.state ≡ run base t order
  unfolding ran_of
  state_left =
      let whole : ran_of t order (length before) ≡ record { completion = Ok tt; state = run base t order } = rw (z, le-leb (length order) (length before) room) in
      ap (λ (x : Ran). x.state) (traced.runs.result ∙ whole)

  left : after ≡ map answer_number (answers base t order) ++ drop (length order) before
  unfolding answered
  left =
      let whole : answered t order before ≡ map answer_number (answers base t order) ++ drop (length order) before = rw (z, le-leb (length order) (length before) room) in
      traced.runs.buffer ∙ whole

  long : length (map answer_number (answers base t order)) ≡ length order
  unfolding answers
  long = length-map (answers base t order) answer_number ∙ answers_length t (start base t).state order

  answers_left : take (length order) after ≡ map answer_number (answers base t order)
  answers_left = ap (take (length order)) left ∙ take_at (map answer_number (answers base t order)) (drop (length order) before) (length order) long

  enough : length order ≤ length after
  enough = omega (arith, ap length left, length-append (map answer_number (answers base t order)) (drop (length order) before), long)

  as_long : length (awaiteds base t order) ≡ length order
  unfolding awaiteds
  as_long = numbers_length t (start base t).state order

  told_left : told ≡ awaiteds base t order ++ drop (length order) counts
  unfolding awaited_by
  told_left =
      let q = as_long in
      let whole : awaited_by t order (length before) counts ≡ awaiteds base t order ++ drop (length order) counts =
      rw (z, le-leb (length order) (length before) room, take_all (length counts) (awaiteds base t order) (omega arith))
      in
      traced.numbers ∙ whole

  numbers_left : take (length order) told ≡ awaiteds base t order
  numbers_left = ap (take (length order)) told_left ∙ take_at (awaiteds base t order) (drop (length order) counts) (length order) as_long

  plenty : length order ≤ length told
  plenty = omega (arith, ap length told_left, length-append (awaiteds base t order) (drop (length order) counts), as_long)

  -- The text made of a run's answers and numbers, and of the total of its state, is the text by the rules.
  pub printed_text : walk_text order after told (work_of (program_of t)) r.state.steps (count_below (min r.state.activities 64) (ended r.state)) r.state.activities ≡ walked t order
  printed_text =
      let work = work_of (program_of t) in
      let few = (good_at base t (omega arith) z order).reached.inv.bounded.count in
      let all : min r.state.activities 64 ≡ r.state.activities = omega (arith, few, ap (λ (s : State). s.activities) state_left) in
      let text : List ℕ → List ℕ → State → ℕ → List ℕ = λ a n s m. walk_text order a n work s.steps (count_below m (ended s)) s.activities in
      sym (text_past order after told work r.state.steps _ r.state.activities)
      ∙ ap (λ (a : List ℕ). text a (take (length order) told) r.state (min r.state.activities 64)) answers_left
      ∙ ap (λ (n : List ℕ). text (map answer_number (answers base t order)) n r.state (min r.state.activities 64)) numbers_left
      ∙ ap (λ (m : ℕ). text (map answer_number (answers base t order)) (awaiteds base t order) r.state m) all
      ∙ ap (λ (s : State). text (map answer_number (answers base t order)) (awaiteds base t order) s s.activities) state_left
      ∙ sym (made t z order)

  -- The header, the pages made of a run's answers and numbers, and the total of its state, joined, are the text by the rules.
  pub printed : {pieces : List (List ℕ)} → Pages order after told 0 pieces
      → header_of ++ joined pieces ++ total_of (work_of (program_of t)) r.state.steps (count_below (min r.state.activities 64) (ended r.state)) r.state.activities ≡ walked t order
  printed pages = text_whole order after told (work_of (program_of t)) r.state.steps _ r.state.activities enough plenty pages ∙ printed_text

-- The line of a table turned down is the text by the rules.
pub printed_refused : (t order : List ℕ) → (number_of work_limit t ≡ 0 → ⊥) → refused_of (number_of work_limit t) ≡ walked t order
unfolding walked
printed_refused t order n = rw (ne_eqb (number_of work_limit t) 0 n)
