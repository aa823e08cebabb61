-- An accepted table's program has its shape, and its counts are within their limits; and each of its commands can be read where it stands.
use Prim.Native.Nat.{ℕ, zero, suc, ◌+◌, ◌*◌, ◌<◌}
use native.Mathlib.Omega.{arith}
use native.Mathlib.Nat.{zero-add}
use mathlib.Core.Path.{◌≡◌, refl, ap}
use mathlib.Core.List.{List, [], ◌∷◌}
use mathlib.Core.Bool.{Bool, true, false, cond}
use lib.ListN.{length, get_or, take, drop}
use lib.Seq.{drop-drop}
use lib.Dec.{ltb}
use borrow.Author.Tests.{ltb-false, le-ltb}
use Rattle.program.specs.Command.{width, held, is_end}
use Rattle.program.specs.Reading.{whole, read, commands_of}
use Rattle.program.specs.Bodies.{Located, Body, first_body, after_end, locate, bodies_of, program_of, head_of}
use Rattle.program.specs.Scan.{scan, left_after, body_after, bytes}
use Rattle.program.specs.Count.{work_of, activities_of, clocks_of, accumulators_of}
use Rattle.program.specs.Table.{over_count, number_of}
use Rattle.program.specs.declared.command.Command.{Command}
use Rattle.program.specs.declared.command.Command.TheVariants.{End}
use Rattle.program.proofs.Basic.{true_false, cond_zero, neither}
use Rattle.program.proofs.Shape.{OnCells, Sound, stride, Shaped, Accepted, Counted}
use Rattle.program.proofs.ShapeRows.{width_pos, celled, closing}
use Rattle.program.proofs.ShapeReading.{known}
use Rattle.program.proofs.ShapeListed.{Fit, Listed, over, next, passes, onwards, before, listed_at}

-- A command, and each of the commands that belong to it, is read where it stands in the bytes of its body.
pub record Legible (s : List ℕ) (x : Located) : Type 0 where
  pub own : read (drop x.offset s) ≡ whole x.command (width x.command)
  pub inner : (j : ℕ) → j < length x.inner → read (drop (x.offset + width x.command + 2 * j) s) ≡ whole (get_or x.inner j End) 2

-- A fact of each command of a body.
unfoldable pub Each : (Located → Type 0) → Body → Type 0
Each P [] = Unit {0}
Each P (x ∷ xs) = P x × Each P xs

-- Commands on cells are two bytes each.
cells_bytes : (cs : List Command) → OnCells cs → bytes cs ≡ 2 * length cs
unfolding OnCells bytes
cells_bytes [] h = refl
cells_bytes (c ∷ cs) h = let w = (celled c h.0).wide in let e = cells_bytes cs h.2 in omega arith

-- The next command of a body stands after this one.
pub stride_pos : (x : Located) → 0 < stride x
unfolding stride
stride_pos x = let w = width_pos x.command in omega arith

-- From a command to the next of its body: its own bytes, and two for each command that belongs to it.
pub stride_is : {n b : ℕ} {x : Located} → Sound n b x → stride x ≡ width x.command + 2 * held x.command
unfolding stride
stride_is {x = x} h = let e = cells_bytes x.inner h.cells in let l = h.whole in omega arith

-- The first k of the commands cs, at `at` in the bytes s, belong to an ATOM.
record Held (s : List ℕ) (at k : ℕ) (cs : List Command) : Type 0 where
  long : length (take k cs) ≡ k
  cells : OnCells (take k cs)
  legible : (j : ℕ) → j < k → read (drop (at + 2 * j) s) ≡ whole (get_or (take k cs) j End) 2

-- The commands cs are those of body i of n from `at` on in the bytes s, and the first `left` of them belong to an ATOM.
record Walked (n i : ℕ) (s : List ℕ) (at left : ℕ) (cs : List Command) : Type 0 where
  held : Held s at left cs
  shaped : Shaped n i (locate at left cs)
  first : (head_of (locate at left cs)).offset ≡ at + 2 * left
  legible : Each (Legible s) (locate at left cs)

-- Where none is left to belong to an ATOM.
none_held : (s : List ℕ) (at : ℕ) (cs : List Command) → Held s at 0 cs
unfolding OnCells
none_held s at cs = record { long = refl; cells = tt; legible = λ j h. absurd (let y : ⊥ = omega arith in y) }

-- A command before others, the first of which stands where it ends.
shaped_on : {n b : ℕ} {x : Located} → Sound n b x → is_end x.command ≡ false → (r : Body) → (head_of r).offset ≡ x.offset + stride x → Shaped n b r → Shaped n b (x ∷ r)
unfolding Shaped
shaped_on sound goes [] e h = absurd h
shaped_on sound goes (y ∷ r) e h = (sound, goes, e, h)

module _ (n i : ℕ) (s : List ℕ) (c : Command) (at : ℕ) (own : read (drop at s) ≡ whole c (width c)) where
  -- A body that ends with this command.
  walked_end : (left : ℕ) → Fit n i left c → is_end c ≡ true → Walked n i s at left (c ∷ [])
  unfolding locate Shaped Each OnCells
  walked_end (suc left) fit e = absurd (true_false _ e (celled c (fit.cell (omega arith))).goes)
  walked_end zero fit e =
      let none = (closing c e).alone in
      record {
        held = none_held s at (c ∷ []);
        shaped = (record { above = fit.above; ranged = (known (drop at s) own).ranged; whole = rw none; cells = rw none tt }, e);
        first = omega arith;
        legible = (record { own = own; inner = λ j h. absurd (let z : j < 0 = rw none at h in omega arith) }, tt);
      }

  -- A body that goes on after it.
  walked_on : (left : ℕ) (cs : List Command) → Fit n i left c → is_end c ≡ false → Walked n i s (at + width c) (left_after left c) cs → Walked n i s at left (c ∷ cs)
  unfolding locate Each OnCells left_after
  walked_on zero cs fit e w =
      let h = w.held in
      let sound : Sound n i x = record { above = fit.above; ranged = (known (drop at s) own).ranged; whole = h.long; cells = h.cells } in
      record {
        held = none_held s at (c ∷ cs);
        shaped = shaped_on sound e (locate (at + width c) (held c) cs) (let f = w.first in let z = stride_is sound in omega arith) w.shaped;
        first = omega arith;
        legible = (record { own = own; inner = λ j l. h.legible j (omega (arith, h.long)) }, w.legible);
      }
    where
      x : Located
      x = record { offset = at; command = c; inner = take (held c) cs }
  walked_on (suc left) cs fit e w =
      let h = w.held in
      let cell = fit.cell (omega arith) in
      let two = (celled c cell).wide in
      let f = w.first in
      record {
        held = record {
          long = ap suc h.long;
          cells = (cell, (known (drop at s) own).ranged, h.cells);
          legible = reading two h;
        };
        shaped = w.shaped;
        first = omega arith;
        legible = w.legible;
      }
    where
      reading : width c ≡ 2 → Held s (at + width c) left cs → (j : ℕ) → j < suc left → read (drop (at + 2 * j) s) ≡ whole (get_or (take (suc left) (c ∷ cs)) j End) 2
      reading two h zero l = let k : at + 2 * 0 ≡ at = omega arith in rw k (rw two at own)
      reading two h (suc j) l = let k : at + 2 * suc j ≡ at + width c + 2 * j = omega arith in rw k (h.legible j (omega arith))

-- The commands that are listed, up to the first END.
walked : {n i left : ℕ} {u : List ℕ} {cs : List Command} → Listed n i left u cs → i < n → (s : List ℕ) (at : ℕ) → u ≡ drop at s → Walked n i s at left (first_body cs)
unfolding first_body body_after
walked (over e) h s at d = absurd (let y : ⊥ = omega arith in y)
walked {n = n} {i = i} {left = left} {u = u} (next {c = c} {cs = cs} inside own fit r) h s at d = by (is_end c) refl (walked r)
  where
    by : (e : Bool) → is_end c ≡ e → (cond e (i + 1) i < n → (s : List ℕ) (at : ℕ) → drop (width c) u ≡ drop at s → Walked n (cond e (i + 1) i) s at (left_after left c) (first_body cs))
        → Walked n i s at left (c ∷ cond e [] (first_body cs))
    by true e ih = walked_end n i s c at (rw d at own) left fit e
    by false e ih = walked_on n i s c at (rw d at own) left (first_body cs) fit e (ih h s (at + width c) (rw d (drop-drop (width c) at s)))

-- THE PROGRAM OF A TABLE

-- There are as many bodies as were asked for, and body b is the commands from there on, up to END.
pub length_bodies : (n : ℕ) (cs : List Command) → length (bodies_of n cs) ≡ n
unfolding bodies_of
length_bodies zero cs = refl
length_bodies (suc n) cs = ap suc (length_bodies n (after_end cs))

pub body_at : (n b : ℕ) (cs : List Command) → b < n → get_or (bodies_of n cs) b [] ≡ locate 0 0 (first_body (onwards b cs))
unfolding bodies_of onwards
body_at zero b cs h = absurd (let y : ⊥ = omega arith in y)
body_at (suc n) zero cs h = refl
body_at (suc n) (suc b) cs h = body_at n b (after_end cs) (omega arith)

-- A program has as many bodies as its table says.
pub length_program : (t : List ℕ) → length (program_of t) ≡ get_or t 0 0
unfolding program_of
length_program t = length_bodies (get_or t 0 0) (commands_of t)

module _ (t : List ℕ) (ok : scan t ≡ 0) (b : ℕ) (h : b < get_or t 0 0) where
  -- A body in the bytes from its first command on: its shape, its first offset, and the readings of its commands.
  walked_body : Walked (get_or t 0 0) b (drop (before b (commands_of t)) (drop 1 t)) 0 0 (first_body (onwards b (commands_of t)))
  walked_body =
      let l = rw zero-add at (listed_at b (passes t ok).listed (omega arith)) in
      walked l h (drop (before b (commands_of t)) (drop 1 t)) 0 refl

  body_shaped : Shaped (get_or t 0 0) b (get_or (program_of t) b [])
  unfolding program_of
  body_shaped = rw (body_at (get_or t 0 0) b (commands_of t) h) walked_body.shaped

  body_first : (head_of (get_or (program_of t) b [])).offset ≡ 0
  unfolding program_of
  body_first = rw (body_at (get_or t 0 0) b (commands_of t) h) walked_body.first

  pub body_legible : Each (Legible (drop (1 + before b (commands_of t)) t)) (get_or (program_of t) b [])
  unfolding program_of
  body_legible = rw (body_at (get_or t 0 0) b (commands_of t) h, ← drop-drop (before b (commands_of t)) 1 t) walked_body.legible

-- A table with none of the numbers 1 to 8 has a program of the shape that the crates above rely on.
pub accepted : (t : List ℕ) → scan t ≡ 0 → Accepted (program_of t)
accepted t ok =
    let n = length_program t in
    let p = passes t ok in
    record {
      some = rw n p.some;
      few = rw n p.few;
      shaped = λ b h. rw n (body_shaped t ok b (rw n at h));
      first = λ b h. body_first t ok b (rw n at h);
    }

-- THE NUMBER OF A TABLE

-- A table has no number exactly where the scan lets it pass and its counts are within their limits.
pub numbered : (limit : ℕ) (t : List ℕ) → number_of limit t ≡ 0 → scan t ≡ 0
unfolding number_of
numbered limit t e = (neither (scan t) _ e).0

pub numbered_counted : (limit : ℕ) (t : List ℕ) → number_of limit t ≡ 0 → Counted limit (program_of t)
unfolding number_of over_count
numbered_counted limit t e =
    let p = program_of t in
    let a = cond_zero (ltb 64 (activities_of p)) 8 _ (neither (scan t) _ e).1 in
    let c = cond_zero (ltb 16 (clocks_of p)) 9 _ a.1 in
    let k = cond_zero (ltb 16 (accumulators_of p)) 10 _ c.1 in
    let w = cond_zero (ltb limit (work_of p)) 11 0 k.1 in
    record { activities = ltb-false _ _ a.0; clocks = ltb-false _ _ c.0; accumulators = ltb-false _ _ k.0; work = ltb-false _ _ w.0 }

pub unnumbered : (limit : ℕ) (t : List ℕ) → scan t ≡ 0 → Counted limit (program_of t) → number_of limit t ≡ 0
unfolding number_of over_count
unnumbered limit t ok h =
    rw (ok, le-ltb _ _ h.activities, le-ltb _ _ h.clocks, le-ltb _ _ h.accumulators, le-ltb _ _ h.work)
