-- READ and RESET.
use Rattle.std.proofs.Common.{◌≡◌, ℕ, ◌-◌, ◌≤◌, ◌<◌, Bool, true, false, cond, eqb, leb, List, Option, None, Some, Result, Ok, Err, sym, refl, ap, ◌∙◌, arith, eqb-true, ne_eqb}
use borrow.Author.Tests.{eqb-false}
use Rattle.program.specs.Command.{is_end}
use Rattle.program.specs.Bodies.{Program}
use Rattle.program.specs.declared.command.Command.{Command}
use Rattle.program.specs.declared.command.Command.TheVariants.{Read, Reset}
use Rattle.program.proofs.Basic.{apart}
use Rattle.program.proofs.ShapeRows.{span_is}
use Rattle.rules.specs.declared.state.Fault.{Fault}
use Rattle.rules.specs.declared.state.Activity.{Activity}
use Rattle.rules.specs.declared.state.Accumulator.{Accumulator}
use Rattle.rules.specs.declared.state.State.{State}
use Rattle.rules.specs.State.{fault_number, fault_of, act, bound, accumulator, fault_in}
use Rattle.rules.specs.Clocks.{holds_some}
use Rattle.rules.specs.Faults.{Env, unbound, number_under, read_fault, fault_for}
use Rattle.rules.specs.Effects.{with_register, with_value, past, effect_of, env_of, with_stores, applied}
use Rattle.rules.specs.Steps.{fault}
use Rattle.rules.proofs.FaultNumbers.{fault_there, fault_range}
use Rattle.moves.specs.Exceeding.{overfull}
use Rattle.fields.specs.Lent.{Lent, Reads, ReadsAct, Writes, WritesAct, with_act, with_steps, with_acc}
use Rattle.moves.specs.Moves.{Standing, Turned, GoesOn, Fails, ReadFault}
use Rattle.values.specs.Owned.{own_number, Owns}
use Rattle.moves.proofs.Withs.{act_with, with_with, steps_with}
use Rattle.moves.proofs.Standings.{few, fault_here, bounds, plain, calm, went, done, done_alone}

-- A fault has its number.
fault_number_lem : (e : Env) (i : ℕ) (a : Activity) (n : ℕ) → (read_fault e i a n ≡ 0 → ⊥) → read_fault e i a n ≡ fault_number (fault_of (read_fault e i a n))
unfolding read_fault
fault_number_lem e i a n = go (unbound a n) (eqb (e.look (number_under a n)).owner i) (holds_some a)
  where
    go : (x y z : Bool) → let r : ℕ = cond x 5 (cond y (cond z 7 0) 6) in (r ≡ 0 → ⊥) → r ≡ fault_number (fault_of r)
    go true y z h = refl
    go false true true h = refl
    go false true false h = absurd (h refl)
    go false false z h = refl

-- What the answer says, by the test of the fault.
found : (q : Bool) (y : ℕ) (t : Fault) {x : ℕ} → Ok x ≡ cond q (Ok y) (Err t) → (q ≡ true) × (x ≡ y)
found true y t e = (refl, cc)
found false y t e = apart (cc)

spoilt_by : (q : Bool) (y : ℕ) (t : Fault) {g : Fault} → Err g ≡ cond q (Ok y) (Err t) → (q ≡ false) × (g ≡ t)
spoilt_by true y t e = apart (cc)
spoilt_by false y t e = (refl, cc)

-- The number where no fault was read, or the fault.
module _ {b : List ℕ} {s : State} {i n : ℕ} (l : Lent b s) (j : i < 64) (made : bound (act s i) n ≤ 16) where
  pub no_fault : {f : Option Fault} {e x : ℕ} → ReadFault b i n (fault_in f) → f ≡ None → ReadsAct (λ (a : Activity). bound a n) b i e → x ≡ e - 1 → Ok x ≡ own_number s i n
  no_fault t z under q = rw (← t.reads s l j made, z, q, under.reads s l j)

  pub some_fault : {f : Option Fault} {g : Fault} → ReadFault b i n (fault_in f) → f ≡ Some g → Err g ≡ own_number s i n
  some_fault {g = g} t z = rw (← t.reads s l j made, z, ne_eqb (fault_number g) 0 (λ q. let h = (fault_range g).0 in omega arith), fault_there g)

module _ {b : List ℕ} {p : Program} {s : State} {i work n : ℕ} {command : Command} (l : Lent b s) (w : Standing p s i work command) (small : n < 8) {r : Result ℕ Fault}
    (test : n < 8 → Owns b i n r) (fault-is : fault p s i ≡ read_fault (env_of s) i (act s i) n) where
  same : r ≡ own_number s i n
  same = (test small).reads s l (few w) (bounds w n small)

  pub unread : {b₁ : List ℕ} {f : Fault} {k : ℕ} → r ≡ Err f → Fails f b b₁ work i k → Turned p s i b₁ k
  unread q g =
      let k = read_fault (env_of s) i (act s i) n in
      let z = spoilt_by (eqb k 0) _ _ (sym q ∙ same) in
      g.fails p s _ l w (fault-is ∙ fault_number_lem (env_of s) i (act s i) n (eqb-false k 0 z.0) ∙ rw z.1)

  owned : {k : ℕ} → r ≡ Ok k → (read_fault (env_of s) i (act s i) n ≡ 0) × (k ≡ number_under (act s i) n)
  owned q =
      let k = read_fault (env_of s) i (act s i) n in
      let z = found (eqb k 0) _ _ (sym q ∙ same) in
      (eqb-true k 0 z.0, z.1)

module _ {b b₁ b₂ : List ℕ} {p : Program} {s : State} {i work n k m : ℕ} {r : Result ℕ Fault} (l : Lent b s) (small : n < 8) (left : false ≡ leb work s.steps) (test : n < 8 → Owns b i n r) (z : r ≡ Ok k)
    (g : GoesOn b₁ b₂ i 2 m) where
  pub was_read : {c : Accumulator} → Standing p s i work (Read n) → (k < 16 → Reads (λ (t : State). accumulator t k) b c)
      → WritesAct (λ (a : Activity). with_register a c.value) b b₁ i → Turned p s i b₂ m
  unfolding fault_for effect_of overfull past is_end
  was_read {c} w look put =
      let o = owned l w small test (fault_here w refl) z in
      let h = bounds w n small in
      let low : k < 16 = omega (arith, o.1) in
      let q : c ≡ accumulator s k = (look low).reads s l in
      let x = with_register (act s i) c.value in
      let y : act (with_act s i x) i ≡ x = act_with x l (few w) in
      let t = went w refl (span_is (Read n)) left (put.writes s l (few w)) (ap (λ (a : Activity). a.frames) y) (ap (λ (a : Activity). a.depth) y) (steps_with s i x) g in
      done_alone w (fault_here w refl ∙ o.0) (plain w left refl (λ q. omega arith)) (past p x) (rw (q, o.1)) (rw (y, with_with) at t) (g.number ∙ sym (calm w))

  pub was_reset : {reg : ℕ} → Standing p s i work (Reset n) → ReadsAct (λ (a : Activity). a.register) b i reg
      → (k < 16 → Writes (λ (t : State). with_acc t k (with_value (accumulator t k) reg)) b b₁) → Turned p s i b₂ m
  unfolding fault_for effect_of overfull past is_end applied with_stores with_act with_steps with_acc
  was_reset {reg} w own put =
      let o = owned l w small test (fault_here w refl) z in
      let h = bounds w n small in
      let low : k < 16 = omega (arith, o.1) in
      let y : reg ≡ (act s i).register = own.reads s l (few w) in
      let t = went w refl (span_is (Reset n)) left ((put low).writes s l) refl refl refl g in
      done w (fault_here w refl ∙ o.0) (plain w left refl (λ o. omega arith)) (rw (y, o.1) at t) (g.number ∙ sym (calm w))
