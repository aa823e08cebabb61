-- Where the END of a FINISH body may go on, all inside have ended; where it goes on, all have ended well: no owner goes on as if a faulted one had delivered.
use Prim.Native.Nat.{ℕ, ◌+◌, ◌<◌}
use native.Mathlib.Omega.{arith}
use native.Mathlib.Decide.{ℕ_discrete}
use mathlib.Core.List.{List}
use mathlib.Core.Bool.{true, false, ◌&&◌}
use mathlib.Core.Path.{◌≡◌, refl, sym, ap, ◌∙◌}
use lib.Dec.{eqb}
use Rattle.std.specs.Prelude.{Err}
use Rattle.program.specs.declared.command.Command.TheVariants.{End}
use Rattle.program.specs.Command.{is_end}
use Rattle.program.specs.declared.refusal.Refusal.{Refusal}
use Rattle.program.specs.declared.refusal.Refusal.TheVariants.{Spent}
use Rattle.program.specs.Refusal.{refusal_number, refusal_at}
use Rattle.program.specs.Bodies.{Program, program_of}
use Rattle.rules.specs.declared.state.Status.{Status}
use Rattle.rules.specs.declared.state.Status.TheVariants.{Running, AtBarrier, Ended, Faulted}
use Rattle.rules.specs.declared.state.State.{State}
use Rattle.rules.specs.declared.answer.Stepped.{Stepped}
use Rattle.rules.specs.State.{act, top, ended, is_ended, is_faulted, fault_number, fault_of, status_answer, answer_number}
use Rattle.rules.specs.Tree.{in_finish_body, inside}
use Rattle.rules.specs.Faults.{fault_for, faulted_inside, spoilt}
use Rattle.rules.specs.Waiting.{unended_inside, waits_for}
use Rattle.rules.specs.Effects.{Effect, env_of}
use Rattle.rules.specs.Steps.{Limits, at, breach, fault, effect, stepped, step}
use Rattle.rules.proofs.Tests.{and_false, true_false, not-false}
use Rattle.rules.proofs.Search.{some_below_none}
use Rattle.rules.proofs.Awaited.{waits_at, waits_live}
use Rattle.rules.proofs.Shapes.{kind, is_end_lem}
use Rattle.rules.proofs.Turn.{Turn, turn, faultless, effect_failed}
use Rattle.rules.proofs.AnswerNumbers.{number_positive}
use Rattle.rules.proofs.StepLaws.{Outcome, unfits, refuses, overflows, takes, outcome}

-- Who has not ended has not faulted.
pub unended_faultless : (t : Status) → is_ended t ≡ false → is_faulted t ≡ false
unended_faultless Running e = refl
unended_faultless AtBarrier e = refl
unended_faultless Ended e = absurd (true_false true refl e)
unended_faultless (Faulted f) e = absurd (true_false true refl e)

-- Ended, and not by a fault.
ended_well : (t : Status) → is_ended t ≡ true → is_faulted t ≡ false → t ≡ Ended
ended_well Running e f = absurd (true_false false e refl)
ended_well AtBarrier e f = absurd (true_false false e refl)
ended_well Ended e f = refl
ended_well (Faulted n) e f = absurd (true_false true refl f)

-- Activity i, which can step, stands on the END of a FINISH body.
module _ (p : Program) (s : State) (i : ℕ) (u : Turn p s i) (end : is_end (at p s i).command ≡ true) (closing : in_finish_body p (act s i) ≡ true) where
  -- It waits for nobody, so all inside have ended.
  pub inside_ended : (x : ℕ) → x < s.activities → inside s i (top (act s i)).first x ≡ true → ended s x ≡ true
  unfolding breach fault_for waits_for unended_inside
  inside_ended x h j =
      let on-end : (at p s i).command ≡ End = is_end_lem (kind p (env_of s) i (act s i) (at p s i).command (at p s i).inner) end in
      let w : eqb (breach p s i) 0 && waits_at p s i (act s i) (at p s i).command ≡ false = sym (waits_live p s i u.spawned u.unended) ∙ u.moves in
      let v : waits_at p s i (act s i) End ≡ false = rw on-end at w in
      let n = some_below_none s.activities (waits_for p s i (act s i) End) v x h in
      not-false (ended s x) (and_false (inside s i (top (act s i)).first x) _ (and_false (in_finish_body p (act s i)) _ n closing) j)

  -- It meets no fault, so nobody inside has faulted.
  pub inside_well : fault p s i ≡ 0 → (x : ℕ) → x < s.activities → inside s i (top (act s i)).first x ≡ true → (act s x).status ≡ Ended
  unfolding spoilt faulted_inside
  inside_well f x h j =
      let v = and_false (in_finish_body p (act s i)) _ (and_false (is_end (at p s i).command) _ (faultless p s i f).1 end) closing in
      let n = some_below_none s.activities (faulted_inside s i (top (act s i)).first) v x h in
      ended_well (act s x).status (inside_ended x h j) (and_false (inside s i (top (act s i)).first x) _ n j)

-- A step that is answered with 0 meets no fault.
step_faultless : (l : Limits) (t : List ℕ) (s : State) (i : ℕ) → answer_number (step l t s i).answer ≡ 0 → Turn (program_of t) s i × (fault (program_of t) s i ≡ 0)
step_faultless l t s i e = go (outcome l t s i)
  where
    p : Program
    p = program_of t

    meets_none : status_answer (effect p s i).self.status ≡ 0 → Dec (fault p s i ≡ 0) → fault p s i ≡ 0
    meets_none z (yes f) = f
    meets_none z (no f) =
        let q : 100 + fault_number (fault_of (fault p s i)) ≡ 0 = sym (ap (λ (x : Effect). status_answer x.self.status) (effect_failed p s i f)) ∙ z in
        absurd (omega arith)

    turned_down : (r : Refusal) → step l t s i ≡ stepped (Err r) s → Turn p s i × (fault p s i ≡ 0)
    turned_down r d =
        let z : refusal_number r ≡ 0 = sym (ap (λ (x : Stepped). answer_number x.answer) d) ∙ e in
        absurd (omega (arith, number_positive r))

    go : Outcome l t s i → Turn p s i × (fault p s i ≡ 0)
    go (unfits n q h d) = turned_down (refusal_at n) d
    go (refuses n q h d) = turned_down (refusal_at n) d
    go (overflows q x d) = turned_down Spent d
    go (takes a b c x d) = (turn p s i c, meets_none (sym (ap (λ (x : Stepped). answer_number x.answer) d) ∙ e) (ℕ_discrete (fault p s i) 0))

-- So where the step of one that stands on the END of a FINISH body is answered with 0, each activity inside has ended, and not by a fault.
pub delivered : (l : Limits) (t : List ℕ) (s : State) (i : ℕ) → answer_number (step l t s i).answer ≡ 0 → is_end (at (program_of t) s i).command ≡ true
    → in_finish_body (program_of t) (act s i) ≡ true → (x : ℕ) → x < s.activities → inside s i (top (act s i)).first x ≡ true → (act s x).status ≡ Ended
delivered l t s i e end closing = let q = step_faultless l t s i e in inside_well (program_of t) s i q.0 end closing q.1
