-- Finding a command by its offset: what is left of a body from a place on, and where the next command stands.
use Prim.Native.Nat.{ℕ, ◌+◌, ◌≤◌, ◌<◌}
use native.Mathlib.Omega.{arith}
use mathlib.Core.Path.{◌≡◌, refl, sym, ap, subst₂, ◌∙◌}
use mathlib.Core.List.{[], ◌∷◌}
use mathlib.Core.Bool.{Bool, true, false, cond, ◌||◌}
use lib.ListN.{length, get_or}
use lib.Dec.{eqb}
use borrow.Author.Tests.{eqb-true, eq-eqb, ne_eqb}
use Rattle.program.specs.Command.{is_end}
use Rattle.program.specs.Bodies.{Located, Body, Program, from, is_place, head_of, tail_of}
use Rattle.program.proofs.Basic.{apart, true_false}
use Rattle.program.proofs.Shape.{Sound, stride, Shaped, Accepted}
use Rattle.program.proofs.ShapeLaws.{Each, stride_pos}

-- PLACES, OF ANY BODY

-- A place is an offset from which something is left.
pub place_from : (body : Body) (o : ℕ) → is_place body o ≡ true → from body o ≡ head_of (from body o) ∷ tail_of (from body o)
unfolding from is_place
place_from [] o e = absurd (true_false _ e refl)
place_from (x ∷ xs) o e = by (eqb x.offset o) (place_from xs o) e
  where
    by : (q : Bool) → (is_place xs o ≡ true → from xs o ≡ head_of (from xs o) ∷ tail_of (from xs o)) → q || is_place xs o ≡ true
        → cond q (x ∷ xs) (from xs o) ≡ head_of (cond q (x ∷ xs) (from xs o)) ∷ tail_of (cond q (x ∷ xs) (from xs o))
    by true ih e = refl
    by false ih e = ih e

-- And the other way.
pub from_place : (body : Body) (o : ℕ) {x : Located} {r : Body} → from body o ≡ x ∷ r → is_place body o ≡ true
unfolding from is_place
from_place [] o e = apart (cc)
from_place (y ∷ ys) o {x} {r} e = by (eqb y.offset o) (from_place ys o) e
  where
    by : (q : Bool) → (from ys o ≡ x ∷ r → is_place ys o ≡ true) → cond q (y ∷ ys) (from ys o) ≡ x ∷ r → q || is_place ys o ≡ true
    by true ih e = refl
    by false ih e = ih e

-- A fact of each command is one of the command found.
pub each_at : (P : Located → Type 0) (body : Body) (o : ℕ) {x : Located} {r : Body} → Each P body → from body o ≡ x ∷ r → P x
unfolding from Each
each_at P [] o h e = apart (cc)
each_at P (y ∷ ys) o {x} {r} h e = by (eqb y.offset o) (each_at P ys o) e
  where
    by : (q : Bool) → (Each P ys → from ys o ≡ x ∷ r → P x) → cond q (y ∷ ys) (from ys o) ≡ x ∷ r → P x
    by true ih e = let same : y ≡ x = cc in rw same at h.0
    by false ih e = ih h.1 e

-- OF A BODY OF ITS SHAPE

-- What may come after a command: nothing after END, and the rest of the body after any other.
pub data Onward (n b : ℕ) (x : Located) : Body → Type 0 where
  last : is_end x.command ≡ true → Onward n b x []
  more : {y : Located} {r : Body} → is_end x.command ≡ false → y.offset ≡ x.offset + stride x → Shaped n b (y ∷ r) → Onward n b x (y ∷ r)

-- Of a body of its shape: what may come after its first command, and that command is sound.
pub onward : {n b : ℕ} {x : Located} (r : Body) → Shaped n b (x ∷ r) → Onward n b x r
unfolding Shaped
onward [] h = last h.1
onward (y ∷ r) h = more h.1 h.2 h.3

pub shaped_sound : {n b : ℕ} {x : Located} (r : Body) → Shaped n b (x ∷ r) → Sound n b x
unfolding Shaped
shaped_sound [] h = h.0
shaped_sound (y ∷ r) h = h.0

-- Command x stands at offset o of a body of its shape, and r is left after it.
pub record Stands (n b : ℕ) (body : Body) (o : ℕ) (x : Located) (r : Body) : Type 0 where
  pub offset : x.offset ≡ o
  pub sound : Sound n b x
  pub shaped : Shaped n b (x ∷ r)
  -- what is left after it is what is left from the next offset
  pub next : from body (o + stride x) ≡ r
  pub after : (head_of body).offset ≤ o

-- Looking for an offset: the first command stands there, before it, or where it ends.
pub from_here : (x : Located) (xs : Body) (o : ℕ) → x.offset ≡ o → from (x ∷ xs) o ≡ x ∷ xs
unfolding from
from_here x xs o e = rw (eq-eqb x.offset o e)

from_past : (x : Located) (xs : Body) (o : ℕ) → x.offset < o → from (x ∷ xs) o ≡ from xs o
unfolding from
from_past x xs o h = rw (ne_eqb x.offset o (λ e. omega arith))

from_onward : {n b : ℕ} (x : Located) {r : Body} → Onward n b x r → from (x ∷ r) (x.offset + stride x) ≡ r
unfolding from
from_onward x (last e) = let p = stride_pos x in from_past x [] _ (omega arith)
from_onward x (more {y = y} {r = r} e q h) = let p = stride_pos x in from_past x (y ∷ r) _ (omega arith) ∙ from_here y r _ q

-- A command found after another one.
stands_past : {n b : ℕ} {y : Located} {ys : Body} {o : ℕ} {x : Located} {r : Body} → Onward n b y ys → from ys o ≡ x ∷ r
    → (Shaped n b ys → from ys o ≡ x ∷ r → Stands n b ys o x r) → Stands n b (y ∷ ys) o x r
unfolding from
stands_past (last f) e ih = apart (cc)
stands_past {y = y} (more {y = z} {r = s} f g k) e ih =
    let w = ih k e in
    let p = stride_pos y in
    let l = w.after in
    record { offset = w.offset; sound = w.sound; shaped = w.shaped; next = from_past y (z ∷ s) _ (omega arith) ∙ w.next; after = omega arith }

-- What is found at an offset stands there.
pub stands : {n b : ℕ} (body : Body) (o : ℕ) {x : Located} {r : Body} → Shaped n b body → from body o ≡ x ∷ r → Stands n b body o x r
unfolding from
stands [] o h e = apart (cc)
stands {n} {b} (y ∷ ys) o {x} {r} h e = by (eqb y.offset o) refl e (onward ys h) (stands ys o)
  where
    by : (q : Bool) → eqb y.offset o ≡ q → cond q (y ∷ ys) (from ys o) ≡ x ∷ r → Onward n b y ys
        → (Shaped n b ys → from ys o ≡ x ∷ r → Stands n b ys o x r) → Stands n b (y ∷ ys) o x r
    by true q e w ih =
        let here = eqb-true y.offset o q in
        let z : Stands n b (y ∷ ys) o y ys = record { offset = here; sound = shaped_sound ys h; shaped = h; next = rw (← here) (from_onward y w); after = omega arith } in
        let same : y ≡ x = cc in
        let rest : ys ≡ r = cc in
        subst₂ (λ (u : Located) (v : Body). Stands n b (y ∷ ys) o u v) same rest z
    by false q e w ih = stands_past w e ih

-- A body has a first command.
pub shaped_some : (n b : ℕ) (body : Body) → Shaped n b body → body ≡ head_of body ∷ tail_of body
unfolding Shaped
shaped_some n b [] h = absurd h
shaped_some n b (x ∷ r) h = refl

-- Nothing is left after END, and after another command the next one, which stands where this one ends.
pub onward_end : {n b : ℕ} {x : Located} {r : Body} → Onward n b x r → is_end x.command ≡ true → r ≡ []
onward_end (last e) h = refl
onward_end (more e q k) h = absurd (true_false _ h e)

pub onward_goes : {n b : ℕ} {x : Located} {r : Body} → Onward n b x r → is_end x.command ≡ false → r ≡ head_of r ∷ tail_of r
onward_goes (last e) h = absurd (true_false _ e h)
onward_goes (more e q k) h = refl

pub onward_offset : {n b : ℕ} {x y : Located} {r : Body} → Onward n b x (y ∷ r) → y.offset ≡ x.offset + stride x
onward_offset (more e q k) = q

-- OF AN ACCEPTED PROGRAM

module _ {p : Program} (ok : Accepted p) (b : ℕ) (h : b < length p) where
  -- From offset 0 the whole body is left, so 0 is a place.
  pub from_start : from (get_or p b []) 0 ≡ get_or p b []
  from_start =
      let e = shaped_some (length p) b (get_or p b []) (ok.shaped b h) in
      ap (λ (l : Body). from l 0) e ∙ from_here (head_of (get_or p b [])) (tail_of (get_or p b [])) 0 (ok.first b h) ∙ sym e

  pub start_place : is_place (get_or p b []) 0 ≡ true
  start_place = from_place (get_or p b []) 0 (from_start ∙ shaped_some (length p) b (get_or p b []) (ok.shaped b h))

  module _ (o : ℕ) {x : Located} {r : Body} (at : from (get_or p b []) o ≡ x ∷ r) where
    -- A command found stands at its offset, and what is left after it is what is left from the next offset.
    pub found : Stands (length p) b (get_or p b []) o x r
    found = stands (get_or p b []) o (ok.shaped b h) at

    -- What may come after it.
    pub found_onward : Onward (length p) b x r
    found_onward = onward r found.shaped

    -- END is the last command of its body.
    pub end_last : is_end x.command ≡ true → r ≡ []
    end_last e = onward_end found_onward e

  -- The next command stands where this one ends.
  pub next_offset_lem : (o : ℕ) {x y : Located} {r : Body} → from (get_or p b []) o ≡ x ∷ (y ∷ r) → y.offset ≡ o + stride x
  next_offset_lem o at = let e = (found o at).offset in let f = onward_offset (found_onward o at) in omega arith
