-- FETCH, STORE and ADD.
use Rattle.std.proofs.Common.{◌≡◌, ℕ, ◌+◌, ◌*◌, ◌%◌, ◌^◌, ◌<◌, Bool, true, false, cond, eqb, leb, Result, Ok, List, [], ◌∷◌, length, get_or, set, sym, refl, ap, ◌∙◌, arith, length-set, get_or-set_other, get_or-set_same, set-set, eqb-true}
use Rattle.std.specs.Bool.{⊤}
use lib.Seq.{set-get_or}
use borrow.Author.Tests.{eqb-false}
use Rattle.program.specs.Command.{opcode, is_end, uses_cell, width, held}
use Rattle.program.specs.Bodies.{Program}
use Rattle.program.specs.declared.command.Command.{Command}
use Rattle.program.specs.declared.command.Command.TheVariants.{End, Next, Clock, Resume, Drop, Async, Finish, Repeat, Acc, Offer, Read, Reset, Put, Fetch, Store, Add, Atom, Choose}
use Rattle.program.specs.declared.refusal.Refusal.{Refusal}
use Rattle.program.proofs.Basic.{apart}
use Rattle.program.proofs.Shape.{Ranged}
use Rattle.program.proofs.ShapeRows.{span_is}
use Rattle.rules.specs.declared.state.Activity.{Activity}
use Rattle.rules.specs.declared.state.State.{State}
use Rattle.rules.specs.State.{act, absent}
use Rattle.rules.specs.Faults.{fault_for}
use Rattle.rules.specs.Effects.{Stored, Touch, with_register, cell_after, with_stores, touch, untouched, past, touching, effect_of, env_of, applied}
use Rattle.rules.specs.Steps.{at, fault}
use Rattle.moves.specs.Exceeding.{overfull}
use Rattle.fields.specs.Lent.{Lent, Reads, ReadsAct, Writes, WritesAct, with_act, with_steps, with_cell}
use Rattle.moves.specs.Moves.{Standing, Turned, Turns, GoesOn, unspent}
use Rattle.moves.proofs.Standings.{few, left, fault_here, plain, calm, went, done}
use Rattle.values.specs.Touched.{cell_in, touched, Touches, TouchesBy, TurnsOnCell}

-- CELLS AFTER STORES

length_stores : (cells : List ℕ) (stores : List Stored) → length (with_stores cells stores) ≡ length cells
unfolding with_stores
length_stores cells [] = refl
length_stores cells (x ∷ xs) = length-set (with_stores cells xs) x.cell x.value ∙ length_stores cells xs

cell_after_lem : (cells : List ℕ) (stores : List Stored) (d : ℕ) → d < length cells → get_or (with_stores cells stores) d 0 ≡ cell_after (λ n. get_or cells n 0) stores d
unfolding with_stores cell_after
cell_after_lem cells [] d h = refl
cell_after_lem cells (x ∷ xs) d h = go (eqb x.cell d) refl (cell_after_lem cells xs d h)
  where
    go : (b : Bool) → eqb x.cell d ≡ b → get_or (with_stores cells xs) d 0 ≡ cell_after (λ n. get_or cells n 0) xs d
        → get_or (set (with_stores cells xs) x.cell x.value) d 0 ≡ cond b x.value (cell_after (λ n. get_or cells n 0) xs d)
    go true e ih =
        let same = eqb-true x.cell d e in
        let long = length_stores cells xs in
        rw same (get_or-set_same (with_stores cells xs) d x.value 0 (omega arith))
    go false e ih = get_or-set_other (with_stores cells xs) x.cell d x.value 0 (λ q. eqb-false x.cell d e (sym q)) ∙ ih

-- A STATE THAT WAS TOUCHED

module _ {b : List ℕ} (s : State) (i : ℕ) (x : Touch) (l : Lent b (touched s i x)) where
  cell_there : {d : ℕ} → d < 16 → get_or (touched s i x).cells d 0 ≡ cell_after (cell_in s) x.stores d
  unfolding touched
  cell_there {d} h =
      let n : length s.cells ≡ 16 = sym (length_stores s.cells x.stores) ∙ l.fine.cells16 in
      cell_after_lem s.cells x.stores d (omega arith)

  pub own_there : i < 64 → act (touched s i x) i ≡ with_register (act s i) x.register
  unfolding touched
  own_there h =
      let n : length s.acts ≡ 64 = sym (length-set s.acts i (with_register (act s i) x.register)) ∙ l.fine.acts64 in
      get_or-set_same s.acts i (with_register (act s i) x.register) absent (omega arith)

-- Another register.
touched_register : (s : State) (i v : ℕ) (x : Touch) → with_act (touched s i x) i (with_register (act s i) v) ≡ touched s i (record { register = v; stores = x.stores })
unfolding touched with_act
touched_register s i v x = rw (set-set s.acts i (with_register (act s i) x.register) (with_register (act s i) v))

-- Before anything was touched.
pub touched_none : (s : State) (i : ℕ) → touched s i (untouched (act s i)) ≡ s
unfolding touched with_stores
touched_none s i = rw (set-get_or s.acts i absent)

-- ONE COMMAND

module _ {b c : List ℕ} {i d v : ℕ} (small : d < 16) where
  pub fetches : (d < 16 → Reads (λ (s : State). get_or s.cells d 0) b v) → WritesAct (λ (a : Activity). with_register a v) b c i → Touches (Fetch d) b c i
  unfolding touch
  fetches f w =
      record {
        touches =
            λ s x l h.
            let e : v ≡ cell_after (cell_in s) x.stores d = (f small).reads _ l ∙ cell_there s i x l small in
            rw (own_there s i x l h, touched_register, e) at (w.writes _ l h);
      }

  pub stores : ReadsAct (λ (a : Activity). a.register) b i v → (d < 16 → Writes (λ (s : State). with_cell s d v) b c) → Touches (Store d) b c i
  unfolding touch touched with_cell with_stores
  stores f w =
      record {
        touches =
            λ s x l h.
            let e : v ≡ x.register = f.reads _ l h ∙ ap (λ (a : Activity). a.register) (own_there s i x l h) in
            rw e at ((w small).writes _ l);
      }

  pub adds : {reg sum : ℕ} → (d < 16 → Reads (λ (s : State). get_or s.cells d 0) b v) → ReadsAct (λ (a : Activity). a.register) b i reg → sum ≡ (v + reg) % 2 ^ 32
      → (d < 16 → Writes (λ (s : State). with_cell s d sum) b c) → Touches (Add d) b c i
  unfolding touch touched with_cell with_stores
  adds {reg} {sum} f g q w =
      record {
        touches =
            λ s x l h.
            let e : v ≡ cell_after (cell_in s) x.stores d = (f small).reads _ l ∙ cell_there s i x l small in
            let k : reg ≡ x.register = g.reads _ l h ∙ ap (λ (a : Activity). a.register) (own_there s i x l h) in
            rw (q, e, k) at ((w small).writes _ l);
      }

-- By the command.
pub touch_by : {command made : Command} {b c : List ℕ} {i : ℕ} → command ≡ made → (Ranged made → Touches made b c i) → TouchesBy command b c i
unfolding Ranged
touch_by e f = rw e (record { touches = λ u r. f r })

-- No other is on a cell.
on_cells : (P : Command → Type 0) → ((d : ℕ) → P (Fetch d)) → ((d : ℕ) → P (Store d)) → ((d : ℕ) → P (Add d)) → (c : Command) → uses_cell c ≡ true → P c
unfolding uses_cell
on_cells P f s a End u = apart (cc)
on_cells P f s a Next u = apart (cc)
on_cells P f s a (Clock x) u = apart (cc)
on_cells P f s a (Resume x) u = apart (cc)
on_cells P f s a (Drop x) u = apart (cc)
on_cells P f s a (Async x y) u = apart (cc)
on_cells P f s a (Finish x) u = apart (cc)
on_cells P f s a (Repeat x y) u = apart (cc)
on_cells P f s a (Acc x y) u = apart (cc)
on_cells P f s a (Offer x) u = apart (cc)
on_cells P f s a (Read x) u = apart (cc)
on_cells P f s a (Reset x) u = apart (cc)
on_cells P f s a (Put x) u = apart (cc)
on_cells P f s a (Fetch d) u = f d
on_cells P f s a (Store d) u = s d
on_cells P f s a (Add d) u = a d
on_cells P f s a (Atom x) u = apart (cc)
on_cells P f s a (Choose x) u = apart (cc)

pub touch_other : {c : Command} {b d : List ℕ} {i : ℕ} → ((n : ℕ) → c ≡ Fetch n → ⊥) → ((n : ℕ) → c ≡ Store n → ⊥) → ((n : ℕ) → c ≡ Add n → ⊥) → TouchesBy c b d i
touch_other {c} f s a = record { touches = λ u r. absurd (on_cells (λ (k : Command). c ≡ k → ⊥) f s a c u refl) }

-- THE STEP

applied_touching : (p : Program) (s : State) (i : ℕ) (x : Touch)
    → with_steps (with_act (touched s i x) i (past p (with_register (act s i) x.register))) (s.steps + 1) ≡ applied s i (touching p (act s i) x)
unfolding with_steps with_act touched applied
applied_touching p s i x = rw (set-set s.acts i (with_register (act s i) x.register) (past p (with_register (act s i) x.register)))

touched_steps : (s : State) (i : ℕ) (x : Touch) → (touched s i x).steps ≡ s.steps
unfolding touched
touched_steps s i x = refl

module _ {b : List ℕ} {p : Program} {s : State} {i work : ℕ} {c : Command} (l : Lent b s) (w : Standing p s i work c) (left : false ≡ leb work s.steps) where
  -- Touched, and on behind the command.
  pub touch_done : {b₁ b₂ : List ℕ} {size r : ℕ} (x : Touch) → fault p s i ≡ 0 → overfull s c ≡ false → (opcode c ≡ 1 → ⊥) → is_end c ≡ false → width c + 2 * held c ≡ size
      → effect_of p (env_of s) i (act s i) c (at p s i).inner ≡ touching p (act s i) x → Lent b₁ (touched s i x) → GoesOn b₁ b₂ i size r → Turned p s i b₂ r
  unfolding past
  touch_done {b₂ = b₂} x clear fits n e z q t g =
      let o = own_there s i x t (few w) in
      let m = went w e z left t (ap (λ (a : Activity). a.frames) o) (ap (λ (a : Activity). a.depth) o) (touched_steps s i x) g in
      let k = rw (o, applied_touching) at m in
      done w clear (plain w left fits n) (rw q k) (g.number ∙ sym (calm w) ∙ rw q)

  first_touch : {b₁ : List ℕ} → Touches c b b₁ i → Lent b₁ (touched s i (touch (cell_in s) (untouched (act s i)) c))
  first_touch f = f.touches s (untouched (act s i)) (rw (touched_none s i) l) (few w)

module _ {b b₁ b₂ : List ℕ} {p : Program} {s : State} {i work d r : ℕ} (l : Lent b s) where
  pub fetched : Standing p s i work (Fetch d) → false ≡ leb work s.steps → Touches (Fetch d) b b₁ i → GoesOn b₁ b₂ i 2 r → Turned p s i b₂ r
  unfolding fault_for effect_of overfull is_end
  fetched w left f g = touch_done l w left _ (fault_here w refl) refl (λ q. omega arith) refl (span_is (Fetch d)) refl (first_touch l w left f) g

  pub stored : Standing p s i work (Store d) → false ≡ leb work s.steps → Touches (Store d) b b₁ i → GoesOn b₁ b₂ i 2 r → Turned p s i b₂ r
  unfolding fault_for effect_of overfull is_end
  stored w left f g = touch_done l w left _ (fault_here w refl) refl (λ q. omega arith) refl (span_is (Store d)) refl (first_touch l w left f) g

  pub added : Standing p s i work (Add d) → false ≡ leb work s.steps → Touches (Add d) b b₁ i → GoesOn b₁ b₂ i 2 r → Turned p s i b₂ r
  unfolding fault_for effect_of overfull is_end
  added w left f g = touch_done l w left _ (fault_here w refl) refl (λ q. omega arith) refl (span_is (Add d)) refl (first_touch l w left f) g

-- A change of the bytes, and on.
pub cell_done : {Change : List ℕ → List ℕ → Type 0} {b b₁ b₂ : List ℕ} {i work k : ℕ} {r : Result ⊤ Refusal} {u : ⊤} → Reads (unspent work) b r → r ≡ Ok u → Change b b₁ → GoesOn b₁ b₂ i 2 k
    → TurnsOnCell Change b b₂ work i k
cell_done {b = b} {b₁} {b₂} {i} {work} {k} f e q g =
    record {
      turns =
          λ c u t.
          on_cells (λ (x : Command). Touches x b b₁ i → Turns x b b₂ work i k)
          (λ d o. record { turns = λ p s l w. fetched l w (left work l f e) o g })
          (λ d o. record { turns = λ p s l w. stored l w (left work l f e) o g })
          (λ d o. record { turns = λ p s l w. added l w (left work l f e) o g })
          c u (t b₁ q);
    }
