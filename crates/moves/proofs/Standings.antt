-- A command that is carried out: number 17, and the step.
use Rattle.std.proofs.Common.{◌≡◌, ℕ, ◌+◌, ◌-◌, ◌*◌, ◌<◌, ◌≤◌, Bool, true, false, cond, ◌&&◌, eqb, leb, ◌⊎◌, List, Option, Result, Ok, Err, IsErr, IsErrAnd, sym, refl, ap, ◌∙◌, subst, inl, inr, add_assoc, arith, ne_eqb, leb-false}
use Rattle.std.specs.Bool.{⊤}
use Rattle.program.specs.Command.{opcode, is_end, width, held, names, named}
use Rattle.program.specs.Bodies.{Program, program_of}
use Rattle.program.specs.Scan.{scan}
use Rattle.program.specs.Count.{work_of}
use Rattle.program.specs.Refusal.{refusal_number}
use Rattle.program.specs.declared.refusal.Refusal.{Refusal}
use Rattle.program.specs.declared.refusal.Refusal.TheVariants.{Spent}
use Rattle.program.specs.declared.command.Command.{Command}
use Rattle.program.proofs.ShapeLaws.{accepted}
use Rattle.rules.specs.declared.state.Fault.{Fault}
use Rattle.rules.specs.declared.state.Activity.{Activity}
use Rattle.rules.specs.declared.state.State.{State}
use Rattle.rules.specs.declared.answer.Stepped.{Stepped}
use Rattle.rules.specs.State.{bound, fault_number, fault_of, act, top, is_ended, is_at_barrier, status_answer, answer_number, taken_number}
use Rattle.rules.specs.declared.state.Status.{Status}
use Rattle.rules.specs.declared.state.Status.TheVariants.{Running, AtBarrier, Ended, Faulted}
use Rattle.rules.specs.Tree.{here, next_offset}
use Rattle.rules.specs.WellFormed.{is_placed, well_formed}
use Rattle.rules.specs.Faults.{fault_for, spoilt}
use Rattle.rules.specs.Effects.{Effect, failing, stopped, alone, past, with_top, effect_of, env_of, with_stores, applied}
use Rattle.rules.specs.Steps.{base, at, breach, fault, effect, refusal, exceeds, stepped, advance}
use Rattle.rules.proofs.Tests.{true_false, decide}
use Rattle.rules.proofs.FaultNumbers.{fault_there, fault_range}
use Rattle.rules.proofs.Turn.{turn, effect_doing, effect_failed}
use Rattle.rules.proofs.WellFormedStack.{stack_room}
use Rattle.rules.proofs.WellFormedFacts.{Facts, ActivityFacts, facts}
use Rattle.moves.specs.Exceeding.{overfull, overtakes, exceeds_at}
use Rattle.places.proofs.Places.{sound_here, next_is, next_small}
use Rattle.moves.proofs.Exceeding.{measured, exceeds_at_lem}
use Rattle.fields.specs.Lent.{Lent, Reads, with_act, with_steps, onward}
use Rattle.moves.specs.Moves.{Standing, Turned, Turns, GoesOn, unspent}

-- What the test of the steps answers.
err_spent : (x : Bool) {r : Result ⊤ Refusal} {e : Refusal} → r ≡ cond x (Err Spent) (Ok tt) → r ≡ Err e → (true ≡ x) × (refusal_number e ≡ 17)
err_spent true {e = e} q z = let k : e ≡ Spent = cc in (refl, rw k)
err_spent false q z = absurd (cc)

ok_left : (x : Bool) {r : Result ⊤ Refusal} {u : ⊤} → r ≡ cond x (Err Spent) (Ok tt) → r ≡ Ok u → false ≡ x
ok_left true q z = absurd (cc)
ok_left false q z = refl

-- A step is left.
pub left : {b : List ℕ} {s : State} (work : ℕ) {r : Result ⊤ Refusal} {u : ⊤} → Lent b s → Reads (unspent work) b r → r ≡ Ok u → false ≡ leb work s.steps
left {s = s} work l f e = ok_left (leb work s.steps) (f.reads s l) e

faulty : (f : Fault) → fault_number f ≡ 0 → ⊥
faulty f e = let h = (fault_range f).0 in omega arith

module _ {p : Program} {s : State} {i work : ℕ} {c : Command} (w : Standing p s i work c) where
  known : Facts 65535 p s
  known = facts 65535 p s w.formed

  pub spawned : i < s.activities
  spawned = (turn p s i w.goes).spawned

  pub few : i < 64
  few = let h = spawned in let k = known.acts64 in omega arith

  own : ActivityFacts 65535 p s.activities s.clocks s.accumulators i (act s i)
  own = known.spawned i spawned

  pub some : 0 < (act s i).depth
  some = own.bodied (turn p s i w.goes).unended

  pub shallow : (act s i).depth ≤ 16
  shallow = own.stack.few

  -- What stands under an accumulator name was made.
  pub bounds : (n : ℕ) → n < 8 → bound (act s i) n ≤ 16
  bounds n h = let a = own.bounds n h in let b = known.accs16 in omega arith

  -- Whoever stands on another command than NEXT is at no meeting.
  pub still : (opcode c ≡ 1 → ⊥) → is_at_barrier (act s i).status ≡ false
  unfolding at
  still n = go (decide (is_at_barrier (act s i).status))
    where
      go : (is_at_barrier (act s i).status ≡ true) ⊎ (is_at_barrier (act s i).status ≡ false) → is_at_barrier (act s i).status ≡ false
      go (inl e) = absurd (n (ap opcode (sym w.stands) ∙ own.barrier e))
      go (inr e) = e

  -- The fault, by the command.
  pub fault_at : fault p s i ≡ cond (spoilt p s i (act s i) c) 8 (fault_for p (env_of s) i (act s i) c)
  unfolding fault breach
  fault_at = rw w.stands

  -- Of another command than END it is the breach.
  pub fault_here : eqb (opcode c) 0 ≡ false → fault p s i ≡ fault_for p (env_of s) i (act s i) c
  unfolding spoilt is_end
  fault_here e = fault_at ∙ rw e

  -- Number 17 as the code tests it.
  pub asks : {f : ℕ} {r : Bool} → f ≡ fault p s i → r ≡ exceeds_at work s (act s i) f c → r ≡ exceeds base p s (effect p s i)
  asks = λ e q. exceeds_at_lem p s i (measured known i spawned) w.counted e (sym w.stands) q

  -- It applies where no step is left.
  pub spent : true ≡ leb work s.steps → true ≡ exceeds base p s (effect p s i)
  unfolding exceeds_at
  spent e = asks refl (rw (sym e))

  -- It does not where one is left, to a command that makes nothing and is not NEXT.
  pub plain : false ≡ leb work s.steps → overfull s c ≡ false → (opcode c ≡ 1 → ⊥) → false ≡ exceeds base p s (effect p s i)
  unfolding exceeds_at overtakes
  plain e o n = asks refl (rw (sym e, o, still n) (sym (none (eqb (fault p s i) 0))))
    where
      none : (b : Bool) → b && false ≡ false
      none true = refl
      none false = refl

  pub steps_room : false ≡ leb work s.steps → s.steps < 65535
  steps_room e = let h = leb-false work s.steps (sym e) in let k = w.counted in let m = w.small in omega arith

  -- Whoever has not ended answers 0.
  pub calm : status_answer (act s i).status ≡ 0
  calm = go (act s i).status (turn p s i w.goes).unended
    where
      go : (x : Status) → is_ended x ≡ false → status_answer x ≡ 0
      go Running e = refl
      go AtBarrier e = refl
      go Ended e = refl
      go (Faulted f) e = absurd (true_false true refl e)

  -- After other changes the activity goes on behind its command.
  pub went : {b b₁ : List ℕ} {t : State} {size r : ℕ} → is_end c ≡ false → width c + 2 * held c ≡ size → false ≡ leb work s.steps → Lent b t
      → (act t i).frames ≡ (act s i).frames → (act t i).depth ≡ (act s i).depth → t.steps ≡ s.steps → GoesOn b b₁ i size r
      → Lent b₁ (with_steps (with_act t i (past p (act t i))) (s.steps + 1))
  unfolding past
  went {b} {b₁} {t} {size} {r} k z h l f d n g =
      let room = steps_room h in
      let e : next_offset p (top (act s i)) ≡ (top (act s i)).offset + size = w.next k ∙ rw z in
      let m = w.low k in
      let same : top (act t i) ≡ top (act s i) = rw (f, d) in
      let q : (top (act t i)).offset + size ≡ next_offset p (top (act t i)) = rw same (sym e) in
      let a = g.goes t l few (rw n room) (rw d some) (rw d shallow) (rw (same, ← e) m) in
      subst (λ (o : ℕ). Lent b₁ (with_steps (with_act t i (with_top (act t i) (onward (top (act t i)) o))) (s.steps + 1))) q
      (subst (λ (k : ℕ). Lent b₁ (with_steps (with_act t i (with_top (act t i) (onward (top (act t i)) ((top (act t i)).offset + size)))) (k + 1))) n a)

  -- It applies.
  pub over : {b : List ℕ} → Lent b s → true ≡ exceeds base p s (effect p s i) → Turned p s i b 17
  unfolding advance
  over {b} l x =
      let q : advance base p s i ≡ stepped (Err Spent) s = rw (w.goes, sym x) in
      record { state = subst (λ (r : Stepped). Lent b r.state) (sym q) l; number = ap (λ (r : Stepped). answer_number r.answer) (sym q) }

  -- No step is left.
  pub turned_down : {b : List ℕ} {r : Result ⊤ Refusal} {e : Refusal} → Lent b s → Reads (unspent work) b r → r ≡ Err e → (t : Result (Option Fault) Refusal) → IsErr t × IsErrAnd t (λ x. x ≡ e)
      → Turned p s i b (taken_number t)
  turned_down l f e (Ok x) g = absurd g.1
  turned_down {b = b} l f e (Err x) g =
      let z = err_spent (leb work s.steps) (f.reads s l) e in
      let m : refusal_number x ≡ 17 = ap refusal_number g.1 ∙ z.1 in
      subst (λ (n : ℕ). Turned p s i b n) (sym m) (over l (spent z.0))

  -- It does not, and the command meets no fault.
  module _ (clear : fault p s i ≡ 0) (fits : false ≡ exceeds base p s (effect p s i)) where
    effect_here : effect p s i ≡ effect_of p (env_of s) i (act s i) c (at p s i).inner
    effect_here = effect_doing p s i clear ∙ ap (λ (x : Command). effect_of p (env_of s) i (act s i) x (at p s i).inner) w.stands

    pub done : {b : List ℕ} {r : ℕ} → let e = effect_of p (env_of s) i (act s i) c (at p s i).inner in Lent b (applied s i e) → r ≡ status_answer e.self.status → Turned p s i b r
    unfolding advance
    done {b} {r} l n =
        let e = effect_of p (env_of s) i (act s i) c (at p s i).inner in
        let q : advance base p s i ≡ stepped (Ok e.self.status) (applied s i e) = rw (w.goes, sym fits, effect_here) in
        record { state = subst (λ (t : Stepped). Lent b t.state) (sym q) l; number = n ∙ ap (λ (t : Stepped). answer_number t.answer) (sym q) }

    -- An effect on the activity alone.
    pub done_alone : {b : List ℕ} {r : ℕ} (x : Activity) → effect_of p (env_of s) i (act s i) c (at p s i).inner ≡ alone x → Lent b (with_steps (with_act s i x) (s.steps + 1))
        → r ≡ status_answer x.status → Turned p s i b r
    unfolding applied with_stores with_act with_steps
    done_alone {b} {r} x e l n =
        done (subst (λ (y : Effect). Lent b (applied s i y)) (sym e) l) (n ∙ ap (λ (y : Effect). status_answer y.self.status) (sym e))

  -- It meets a fault, and a step is left.
  pub done_failed : {b : List ℕ} {r : ℕ} (f : Fault) → fault p s i ≡ fault_number f → false ≡ leb work s.steps
      → Lent b (with_steps (with_act s i (stopped (act s i) (Faulted f))) (s.steps + 1)) → r ≡ status_answer (Faulted f) → Turned p s i b r
  unfolding advance exceeds_at applied with_stores with_act with_steps
  done_failed {b} {r} f e left l n =
      let m : fault p s i ≡ 0 → ⊥ = λ z. faulty f (sym e ∙ z) in
      let x : false ≡ exceeds base p s (effect p s i) = asks refl (rw (sym left, ne_eqb (fault p s i) 0 m)) in
      let y : effect p s i ≡ failing (act s i) (Faulted f) = effect_failed p s i m ∙ ap (λ (k : Fault). failing (act s i) (Faulted k)) (ap fault_of e ∙ fault_there f) in
      let q : advance base p s i ≡ stepped (Ok (Faulted f)) (applied s i (failing (act s i) (Faulted f))) = rw (w.goes, sym x, y) in
      record { state = subst (λ (t : Stepped). Lent b t.state) (sym q) l; number = n ∙ ap (λ (t : Stepped). answer_number t.answer) (sym q) }

-- No step is left to the function of a command.
pub turns_down : {command : Command} {b : List ℕ} {work i : ℕ} {r : Result ⊤ Refusal} {e : Refusal} → Reads (unspent work) b r → r ≡ Err e → (t : Result (Option Fault) Refusal)
    → IsErr t × IsErrAnd t (λ x. x ≡ e) → Turns command b b work i (taken_number t)
turns_down f e t g = record { turns = λ p s l w. turned_down w l f e t g }

-- What `turn` knows is enough: an accepted table, a well-formed state, and who is not turned down.
pub standing : (t : List ℕ) (s : State) (i work : ℕ) (c : Command) → scan t ≡ 0 → well_formed 65535 (program_of t) s ≡ true → refusal (program_of t) s i ≡ 0
    → (at (program_of t) s i).command ≡ c → work ≡ work_of (program_of t) → work_of (program_of t) ≤ 65535 → Standing (program_of t) s i work c
unfolding at
standing t s i work c ok formed goes stands counted small =
    let p = program_of t in
    let u = turn p s i goes in
    let a = (facts 65535 p s formed).spawned i u.spawned in
    let d : 0 < (act s i).depth = a.bodied u.unended in
    let on : is_placed p (top (act s i)) ≡ true = a.stack.placed ((act s i).depth - 1) (omega arith) in
    record {
      formed = formed;
      goes = goes;
      stands = stands;
      counted = counted;
      small = small;
      next =
          λ e.
          next_is t ok (top (act s i)) on (ap is_end stands ∙ e)
          ∙ rw stands (add_assoc (top (act s i)).offset (width c) (2 * held c));
      low = λ e. let h = next_small t ok (top (act s i)) on (ap is_end stands ∙ e) in omega arith;
      deep =
          λ e.
          let k = (sound_here t ok (top (act s i)) on).above (ap names stands ∙ e) in
          stack_room (accepted t ok) (named (here p (top (act s i))).command) a.stack d k.0 k.1;
    }
