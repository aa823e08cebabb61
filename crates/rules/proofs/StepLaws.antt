-- What a call of the step does, as one of four cases: it is turned down with 1 to 13, with 14 to 16 or with 17, and returns the state it was handed, or it is taken.
-- So an accepted step raises the steps by one, and the ready set tells of each activity whether the step turns it down with 14 to 16.
use Prim.Native.Nat.{ℕ, ◌+◌, ◌≤◌, ◌<◌}
use native.Mathlib.Omega.{arith}
use native.Mathlib.Decide.{dec_lt}
use mathlib.Core.List.{List}
use mathlib.Core.Bool.{Bool, true, false, cond}
use mathlib.Core.Path.{◌≡◌, refl, sym, ap, ◌∙◌}
use mathlib.Core.Logic.{◌⊎◌, inl, inr}
use lib.Dec.{eqb}
use borrow.Author.Tests.{le-ltb, eqb-true, eqb-false, ne_eqb}
use Rattle.std.specs.Prelude.{Ok, Err}
use Rattle.program.specs.Bodies.{Program, program_of}
use Rattle.program.specs.Table.{number_of}
use Rattle.program.specs.Refusal.{refusal_number, refusal_at}
use Rattle.program.specs.declared.refusal.Refusal.{Refusal}
use Rattle.program.specs.declared.refusal.Refusal.TheVariants.{Spent}
use Rattle.rules.specs.declared.state.State.{State}
use Rattle.rules.specs.Search.{bits_below}
use Rattle.rules.specs.State.{Answer}
use Rattle.rules.specs.Faults.{bit}
use Rattle.rules.specs.Effects.{applied}
use Rattle.rules.specs.WellFormed.{well_formed}
use Rattle.rules.specs.Steps.{ready_set, Limits, effect, refusal, exceeds, stepped, advance, unfit, step_with, step, can_step, ready}
use Rattle.rules.specs.Runs.{is_accepted}
use Rattle.rules.proofs.AnswerNumbers.{number_back, refusal_range}
use Rattle.rules.proofs.Tests.{true_false, decide}
use Rattle.rules.proofs.Bits.{bit_at, bit_past}
use Rattle.rules.proofs.WellFormedFacts.{Facts, facts}

-- an accepted table and a well-formed state
pub fit : (l : Limits) (t : List ℕ) (s : State) → number_of l.work t ≡ 0 → well_formed l.phase (program_of t) s ≡ true → unfit l (number_of l.work t) (program_of t) s ≡ 0
unfolding unfit
fit l t s n w = rw (n, w)

module _ (l : Limits) (t : List ℕ) (s : State) (i : ℕ) where
  -- The program of the table.
  abbrev p : Program
  p = program_of t

  -- What the call does.
  pub data Outcome : Type 0 where
    unfits : (n : ℕ) → unfit l (number_of l.work t) p s ≡ n → (n ≡ 0 → ⊥) → step l t s i ≡ stepped (Err (refusal_at n)) s → Outcome
    refuses : (n : ℕ) → refusal p s i ≡ n → (n ≡ 0 → ⊥) → step l t s i ≡ stepped (Err (refusal_at n)) s → Outcome
    overflows : refusal p s i ≡ 0 → exceeds l p s (effect p s i) ≡ true → step l t s i ≡ stepped (Err Spent) s → Outcome
    takes : number_of l.work t ≡ 0 → well_formed l.phase p s ≡ true → refusal p s i ≡ 0 → exceeds l p s (effect p s i) ≡ false
        → step l t s i ≡ stepped (Ok (effect p s i).self.status) (applied s i (effect p s i)) → Outcome

  -- no number 1 to 13
  fit_parts : unfit l (number_of l.work t) p s ≡ 0 → (number_of l.work t ≡ 0) × (well_formed l.phase p s ≡ true)
  unfolding unfit
  fit_parts e = go (number_of l.work t) (well_formed l.phase p s) e (decide (eqb (number_of l.work t) 0))
    where
      go : (n : ℕ) (w : Bool) → cond (eqb n 0) (cond w 0 13) n ≡ 0 → (eqb n 0 ≡ true) ⊎ (eqb n 0 ≡ false) → (n ≡ 0) × (w ≡ true)
      go n true e (inl h) = (eqb-true n 0 h, refl)
      go n false e (inl h) = let z : ◌≡◌ {A = ℕ} 13 0 = rw h at e in absurd (omega arith)
      go n w e (inr h) = absurd (eqb-false n 0 h (rw h at e))

  -- each call is one of the four
  pub outcome : Outcome
  unfolding step step_with advance
  outcome =
      go (eqb (unfit l (number_of l.work t) p s) 0) refl (eqb (refusal p s i) 0) refl (exceeds l p s (effect p s i)) refl refl
    where
      go : (x : Bool) → eqb (unfit l (number_of l.work t) p s) 0 ≡ x → (y : Bool) → eqb (refusal p s i) 0 ≡ y → (z : Bool) → exceeds l p s (effect p s i) ≡ z
          → step l t s i
          ≡ cond x (cond y (cond z (stepped (Err Spent) s) (stepped (Ok (effect p s i).self.status) (applied s i (effect p s i)))) (stepped (Err (refusal_at (refusal p s i))) s))
          (stepped (Err (refusal_at (unfit l (number_of l.work t) p s))) s)
          → Outcome
      go false a y b z c e = unfits _ refl (eqb-false _ 0 a) e
      go true a false b z c e = refuses _ refl (eqb-false _ 0 b) e
      go true a true b true c e = overflows (eqb-true _ 0 b) c e
      go true a true b false c e = let q = fit_parts (eqb-true _ 0 a) in takes q.0 q.1 (eqb-true _ 0 b) c e

  -- a refused step returns the state it was handed
  pub step_refused : (r : Refusal) → (step l t s i).answer ≡ Err r → (step l t s i).state ≡ s
  step_refused r e = go outcome
    where
      go : Outcome → (step l t s i).state ≡ s
      go (unfits m q h d) = ap (λ x. x.state) d
      go (refuses m q h d) = ap (λ x. x.state) d
      go (overflows q x d) = ap (λ x. x.state) d
      go (takes a b c x d) =
          let g : Ok (effect p s i).self.status ≡ Err r = sym (ap (λ x. x.answer) d) ∙ e in
          absurd (true_false true refl (ap is_accepted g))

  -- an accepted step raises the steps by one
  pub step_accepted : is_accepted (step l t s i).answer ≡ true → (step l t s i).state.steps ≡ s.steps + 1
  unfolding applied
  step_accepted e = go outcome
    where
      go : Outcome → (step l t s i).state.steps ≡ s.steps + 1
      go (unfits m q h d) = absurd (true_false false (rw d at e) refl)
      go (refuses m q h d) = absurd (true_false false (rw d at e) refl)
      go (overflows q x d) = absurd (true_false false (rw d at e) refl)
      go (takes a b c x d) = ap (λ x. x.state.steps) d

-- Not 14 to 16: a step or a fault, or 17.
abbrev pub may_go : Answer → Bool
may_go (Ok status) = true
may_go (Err e) = eqb (refusal_number e) 17

-- who has not been spawned may not step
refusal_past : (p : Program) (s : State) (i : ℕ) → s.activities ≤ i → refusal p s i ≡ 14
unfolding refusal
refusal_past p s i h = rw (le-ltb i s.activities h)

-- step and ready set agree on 14 to 16
module _ (l : Limits) (t : List ℕ) (s : State) (number : number_of l.work t ≡ 0) (formed : well_formed l.phase (program_of t) s ≡ true) where
  -- a bit of the ready set tells who can step
  pub ready_bit : (i : ℕ) → bit (ready_set (ready l t s)) i ≡ can_step (program_of t) s i
  unfolding ready can_step
  ready_bit i = rw (fit l t s number formed) (go (dec_lt i 64))
    where
      f : Facts l.phase (program_of t) s
      f = facts l.phase (program_of t) s formed

      go : Dec (i < 64) → bit (bits_below 64 (can_step (program_of t) s)) i ≡ eqb (refusal (program_of t) s i) 0
      go (yes h) = bit_at 64 (can_step (program_of t) s) i h
      go (no h) = bit_past 64 (can_step (program_of t) s) i (omega arith) ∙ rw (refusal_past (program_of t) s i (omega (arith, f.acts64)))

  -- that is, whom the step does not turn down with 14 to 16
  pub ready_agrees : (i : ℕ) → bit (ready_set (ready l t s)) i ≡ may_go (step l t s i).answer
  unfolding can_step
  ready_agrees i = ready_bit i ∙ go (outcome l t s i)
    where
      go : Outcome l t s i → eqb (refusal (program_of t) s i) 0 ≡ may_go (step l t s i).answer
      go (unfits n q h d) = absurd (h (sym q ∙ fit l t s number formed))
      go (refuses n q h d) =
          let r = refusal_range (program_of t) s i (λ e. h (sym q ∙ e)) in
          rw (d, q, ne_eqb n 0 h, number_back n (omega (arith, h)) (omega arith), ne_eqb n 17 (λ e. omega arith))
      go (overflows q x d) = rw (d, q)
      go (takes a b c x d) = rw (d, c)
