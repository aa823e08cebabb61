-- A turn at a command: it waits, or its function carries it out.
use Prim.Native.Nat.{ℕ, ◌≤◌, ◌<◌}
use native.Mathlib.Omega.{arith}
use mathlib.Core.Path.{◌≡◌, refl, sym, ap, ◌∙◌, subst}
use mathlib.Core.List.{List}
use mathlib.Core.Bool.{Bool, true, false}
use lib.Dec.{eqb}
use borrow.Author.Tests.{lt-ltb, le-ltb, eqb-true, eqb-false}
use Rattle.std.specs.Prelude.{Option, Result, Err}
use Rattle.program.specs.Bodies.{Program, program_of}
use Rattle.program.specs.declared.command.Command.{Command}
use Rattle.program.specs.declared.command.Command.TheVariants.{End, Next, Read, Reset}
use Rattle.program.specs.declared.refusal.Refusal.{Refusal}
use Rattle.program.specs.declared.refusal.Refusal.TheVariants.{Waits}
use Rattle.program.specs.Refusal.{refusal_at}
use Rattle.program.proofs.ShapeRanges.{Within, within}
use Rattle.rules.specs.declared.state.Fault.{Fault}
use Rattle.rules.specs.declared.state.State.{State}
use Rattle.rules.specs.declared.answer.Stepped.{Stepped}
use Rattle.rules.specs.State.{ended, answer_number, taken_number}
use Rattle.rules.specs.Steps.{base, stepped, awaited, waits, refusal, advance}
use Rattle.rules.proofs.Awaited.{awaited_zero}
use Rattle.rules.proofs.Turn.{turn, turn_back}
use Rattle.places.specs.declared.accepted.Accepted.{Accepted}
use Rattle.places.specs.Known.{Known}
use Rattle.fields.specs.Lent.{Lent}
use Rattle.moves.specs.Moves.{Turns, TurnsIn}
use Rattle.moves.proofs.Standings.{spawned, standing}
use Rattle.moves.proofs.Ranges.{ranged_here}
use Rattle.waits.specs.declared.inside.Inside.{Inside}
use Rattle.waits.specs.Waits.{EndSees, Awaits}
use Rattle.waits.proofs.Waitings.{Other, spoilt_end, awaits_other}
use Rattle.bodies.specs.Pops.{Ends}
use Rattle.turns.specs.declared.Reply.{Reply}
use Rattle.turns.specs.Turns.{CarriesIn}

-- ONE ACTIVITY

-- It waits for somebody: 16.
pub refused_by_lem : (p : Program) (s : State) (i : ℕ) {v : ℕ} → v ≡ awaited p s i → (v ≡ 0 → ⊥) → refusal p s i ≡ 16
refused_by_lem p s i e h = eqb-true (refusal p s i) 16 (sym (awaited_zero p s i) ∙ lt-ltb 0 (awaited p s i) (above h e))
  where
    above : {x y : ℕ} → (x ≡ 0 → ⊥) → x ≡ y → 0 < y
    above h e = omega arith

-- It waits for nobody: no number.
pub goes_on : (p : Program) (s : State) (i : ℕ) {v : ℕ} → i < s.activities → ended s i ≡ false → v ≡ awaited p s i → v ≡ 0 → refusal p s i ≡ 0
unfolding waits
goes_on p s i m u e z =
    let q : awaited p s i ≤ 0 = omega arith in
    turn_back p s i (record { spawned = m; unended = u; moves = le-ltb 0 (awaited p s i) q })

-- END where it may go on: one inside has faulted exactly where F8 is due.
pub ends : {t starts b c : List ℕ} {i work n : ℕ} {r : Inside} → Known t starts → EndSees t b i r → Ends r.faulted b c work i n → TurnsIn t End b c work i n
ends {t} {i = i} k e m = record { turns = λ s l w. m.turns t k.scanned s l w (spoilt_end e k s l w.formed (spawned w) (turn (program_of t) s i w.goes).unended) }

-- A COMMAND, BY HOW MANY IT WAITS FOR

module _ (table : Accepted) {b : List ℕ} {i v : ℕ} {c : Command} (w : Awaits table.bytes.now c b i v) {r : Reply} where
  -- Somebody is waited for.
  pub kept : (v ≡ 0 → ⊥) → r.answer ≡ Err Waits → r.awaited ≡ v → CarriesIn table.bytes.now c b b i r
  unfolding advance
  kept h e n = record {
    turns =
        λ s l f m u a.
        let p = program_of table.bytes.now in
        let q : advance base p s i ≡ stepped (Err (refusal_at 16)) s = rw (refused_by_lem p s i (w.tells s l f m u a) h) in
        record { state = subst (λ (x : Stepped). Lent b x.state) (sym q) l; number = ap taken_number e ∙ ap (λ (x : Stepped). answer_number x.answer) (sym q) };
    waits = λ s l f m u a. n ∙ w.tells s l f m u a;
  }

  module _ {e : List ℕ} where
    -- Nobody is.
    pub carried : v ≡ 0 → r.awaited ≡ 0 → TurnsIn table.bytes.now c b e table.work i (taken_number r.answer) → CarriesIn table.bytes.now c b e i r
    carried z n m = record {
      turns =
          λ s l f j u a.
          let t = table.bytes.now in
          let g = goes_on (program_of t) s i j u (w.tells s l f j u a) z in
          m.turns s l (standing t s i table.work c table.known.scanned f g a table.counted (rw (← table.counted) table.small));
      waits = λ s l f j u a. n ∙ sym z ∙ w.tells s l f j u a;
    }

    -- One that asks how many it waits for.
    pub met : ((v ≡ 0 → ⊥) → (r.answer ≡ Err Waits) × (r.awaited ≡ v) × (e ≡ b)) → (v ≡ 0 → r.awaited ≡ 0)
        → (v ≡ 0 → TurnsIn table.bytes.now c b e table.work i (taken_number r.answer)) → CarriesIn table.bytes.now c b e i r
    met h n m = go (eqb v 0) refl
      where
        go : (x : Bool) → eqb v 0 ≡ x → CarriesIn table.bytes.now c b e i r
        go true q = let z = eqb-true v 0 q in carried z (n z) (m z)
        go false q = let d = h (eqb-false v 0 q) in rw d.2 (kept (eqb-false v 0 q) d.0 d.1)

-- OF A FUNCTION

module _ (table : Accepted) {b e : List ℕ} {i n : ℕ} {c : Command} where
  -- that does not read the table
  pub simply : Turns c b e table.work i n → TurnsIn table.bytes.now c b e table.work i n
  simply m = record { turns = λ s l d. m.turns (program_of table.bytes.now) s l d }

  -- that asks for operands inside their ranges
  pub ranging : (Within c → Turns c b e table.work i n) → TurnsIn table.bytes.now c b e table.work i n
  ranging m = record { turns = λ s l d. (m (within c (ranged_here table.known d))).turns (program_of table.bytes.now) s l d }

-- Whether it asks how many it waits for.
abbrev asks : Command → Bool
asks End = true
asks Next = true
asks (Read n) = true
asks (Reset n) = true
asks _ = false

other : {c : Command} → asks c ≡ false → Other c
other {c} idle = record {
  not_end = λ e. let k : asks c ≡ true = ap asks e in cc;
  not_next = λ e. let k : asks c ≡ true = ap asks e in cc;
  not_read = λ n e. let k : asks c ≡ true = ap asks e in cc;
  not_reset = λ n e. let k : asks c ≡ true = ap asks e in cc;
}

-- A command that was matched and waits for nobody.
module _ (table : Accepted) {b e : List ℕ} {i : ℕ} {r : Reply} {command c : Command} (q : command ≡ c) {a : Result (Option Fault) Refusal} (idle : asks c ≡ false)
    (alone : (r.answer ≡ a) × (r.awaited ≡ 0)) where
  pub plain : TurnsIn table.bytes.now c b e table.work i (taken_number a) → CarriesIn table.bytes.now command b e i r
  plain m = rw q (carried table (awaits_other (other idle)) refl alone.1 (rw alone.0 m))

  pub plain_simply : Turns c b e table.work i (taken_number a) → CarriesIn table.bytes.now command b e i r
  plain_simply m = plain (simply table m)

  pub plain_ranging : (Within c → Turns c b e table.work i (taken_number a)) → CarriesIn table.bytes.now command b e i r
  plain_ranging m = plain (ranging table m)
