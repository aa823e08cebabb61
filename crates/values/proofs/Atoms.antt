-- ATOM.
use Rattle.std.proofs.Common.{◌≡◌, ℕ, zero, suc, ◌+◌, ◌-◌, ◌*◌, ◌<◌, ◌≤◌, true, false, leb, List, [], ◌∷◌, ◌++◌, length, get_or, take, drop, sym, refl, ap, ◌∙◌, add-one, arith, take_all, take-suc}
use Rattle.program.specs.Command.{is_end, width, held, uses_cell}
use Rattle.program.specs.Bodies.{program_of}
use Rattle.program.specs.Reading.{bare}
use Rattle.program.specs.declared.command.Command.{Command}
use Rattle.program.specs.declared.command.Command.TheVariants.{End, Atom}
use Rattle.program.proofs.RangeLaws.{tail_part, whole_bare}
use Rattle.program.proofs.Shape.{Ranged, OnCells}
use Rattle.program.proofs.ShapeReading.{known}
use Rattle.program.proofs.ShapeRows.{held_is, width_is, span_is}
use Rattle.rules.specs.declared.state.Frame.{Frame}
use Rattle.rules.specs.declared.state.Activity.{Activity}
use Rattle.rules.specs.declared.state.State.{State}
use Rattle.rules.specs.State.{act, frame, top}
use Rattle.rules.specs.Tree.{here}
use Rattle.rules.specs.Faults.{fault_for}
use Rattle.rules.specs.Effects.{Touch, touch, touch_all, untouched, effect_of}
use Rattle.rules.specs.Steps.{at}
use Rattle.rules.proofs.WellFormedFacts.{facts}
use Rattle.places.specs.Known.{Known, On}
use Rattle.moves.specs.Exceeding.{overfull}
use Rattle.places.proofs.Places.{sound_here, read_inner}
use Rattle.fields.specs.Lent.{Lent, ReadsAct}
use Rattle.moves.specs.Moves.{Standing, Turned, GoesOn}
use Rattle.moves.proofs.Standings.{few, some, shallow, spawned, fault_here}
use Rattle.values.specs.Touched.{cell_in, touched, TouchesBy, Listed, TouchesAll, TouchesIn}
use Rattle.values.proofs.Touching.{touched_none, touch_done}

-- ONE AFTER THE OTHER

touch_last : (cell : ℕ → ℕ) (x : Touch) (cs : List Command) (c : Command) → touch_all cell x (cs ++ (c ∷ [])) ≡ touch cell (touch_all cell x cs) c
unfolding touch_all
touch_last cell x [] c = refl
touch_last cell x (d ∷ cs) c = touch_last cell (touch cell x d) cs c

-- The first j of them were touched.
pub record TouchesTo (j : ℕ) (code : List ℕ) (at k : ℕ) (b c : List ℕ) (i : ℕ) : Type 0 where
  pub touches : (cs : List Command) → Listed code at k cs → (s : State) (x : Touch) → Lent b (touched s i x) → i < 64 → Lent c (touched s i (touch_all (cell_in s) x (take j cs)))

module _ {code : List ℕ} {at k : ℕ} {b : List ℕ} {i : ℕ} where
  pub touch_none : TouchesTo 0 code at k b b i
  unfolding touch_all
  touch_none = record { touches = λ cs g s x l h. l }

  pub touch_more : {j q : ℕ} {c : Command} {b₁ b₂ : List ℕ} → TouchesTo j code at k b b₁ i → j < k → q ≡ at + 2 * j → c ≡ bare (drop q code) → TouchesBy c b₁ b₂ i → TouchesTo (j + 1) code at k b b₂ i
  unfolding Ranged
  touch_more {j} {q} {c} {b₁} {b₂} f low e same t =
      record {
        touches =
            λ cs g s x l h.
            let d = get_or cs j End in
            let u = drop (at + 2 * j) code in
            let o : c ≡ d = same ∙ ap (λ (n : ℕ). bare (drop n code)) e ∙ whole_bare u (g.stands j low) in
            let y = touch_all (cell_in s) x (take j cs) in
            let one = (t.touches (rw o (g.cells j low)) (rw o (known u (g.stands j low)).ranged)).touches s y (f.touches cs g s x l h) h in
            let next : Lent b₂ (touched s i (touch (cell_in s) y d)) = rw o at one in
            rw (add-one j, take-suc cs j End (rw g.long low), touch_last (cell_in s) x (take j cs) d) next;
      }

  pub touch_end : {j : ℕ} {c : List ℕ} → TouchesTo j code at k b c i → k ≤ j → TouchesAll code at k b c i
  touch_end {j} f h = record { touches = λ cs g s x l o. rw (take_all j cs (rw g.long h)) at (f.touches cs g s x l o) }

-- IN A TABLE

cells_at : (cs : List Command) (j : ℕ) → j < length cs → OnCells cs → uses_cell (get_or cs j End) ≡ true
unfolding OnCells
cells_at [] j h o = absurd (let z : ⊥ = omega arith in z)
cells_at (c ∷ cs) zero h o = o.0
cells_at (c ∷ cs) (suc j) h o = cells_at cs j (omega arith) o.2

module _ {t starts : List ℕ} {f : Frame} {k : ℕ} (ok : Known t starts) (on : On t f (Atom k)) where
  inner_long : length (here (program_of t) f).inner ≡ k
  inner_long = (sound_here t on.scanned f on.placed).whole ∙ ap held (sym on.stands) ∙ held_is (Atom k)

  atom_wide : width (here (program_of t) f).command ≡ 2
  atom_wide = ap width (sym on.stands) ∙ width_is (Atom k)

  -- The commands that belong to the ATOM stand after it.
  inner_listed : {u : List ℕ} → u ≡ drop (get_or starts f.body 0) t → Listed u (f.offset + 2) k (here (program_of t) f).inner
  inner_listed e =
      record {
        long = inner_long;
        stands = λ j h. rw (e, ok.laid) (rw atom_wide at (read_inner t ok.scanned f on.placed j (rw inner_long h)));
        cells = λ j h. cells_at (here (program_of t) f).inner j (rw inner_long h) (sound_here t on.scanned f on.placed).cells;
      }

pub in_table : {t starts : List ℕ} {f : Frame} {k first : ℕ} {rest b c : List ℕ} {i : ℕ} → Known t starts → first ≡ get_or starts f.body 0 → rest ≡ take (length t - first) (drop first t)
    → TouchesAll rest (f.offset + 2) k b c i → TouchesIn t f k b c i
in_table {t} {starts} {f} {k} {first} ok e r g =
    record { touches = λ on. g.touches (here (program_of t) f).inner (inner_listed ok on (r ∙ tail_part t first ∙ ap (λ (n : ℕ). drop n t) e)) }

-- THE STEP

module _ {t starts : List ℕ} {s : State} {i work k : ℕ} (ok : Known t starts) (w : Standing (program_of t) s i work (Atom k)) where
  on_atom : On t (top (act s i)) (Atom k)
  unfolding at
  on_atom =
      let h = some w in
      record {
        scanned = ok.scanned;
        placed = ((facts 65535 (program_of t) s w.formed).spawned i (spawned w)).stack.placed ((act s i).depth - 1) (omega arith);
        stands = sym w.stands;
      }

  pub atom_done : {b b₁ b₂ : List ℕ} {d size m r : ℕ} {f : Frame} → Lent b s → false ≡ leb work s.steps → ReadsAct (λ (a : Activity). a.depth) b i d
      → (d - 1 < 16 → ReadsAct (λ (a : Activity). frame a (d - 1)) b i f) → TouchesIn t f k b b₁ i → m ≡ k → size ≡ 2 + 2 * m → GoesOn b₁ b₂ i size r → Turned (program_of t) s i b₂ r
  unfolding fault_for effect_of overfull is_end at
  atom_done {b₁ = b₁} {d = d} {size = size} {m = m} {f = f} l left deep frm g same z go =
      let j = few w in
      let o = some w in
      let p = shallow w in
      let e : d ≡ (act s i).depth = deep.reads s l j in
      let q : f ≡ top (act s i) = (frm (omega arith)).reads s l j ∙ rw e in
      let x = touch_all (cell_in s) (untouched (act s i)) (here (program_of t) (top (act s i))).inner in
      let y : Lent b₁ (touched s i x) = rw q at (g.touches (rw q on_atom) s (untouched (act s i)) (rw (touched_none s i) l) j) in
      touch_done l w left x (fault_here w refl) refl (λ q. omega arith) refl (omega (arith, span_is (Atom k))) refl y go
