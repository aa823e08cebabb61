-- The marks of an accepted table say where the commands of its bodies stand.
use Prim.Native.Nat.{ℕ, zero, suc, ◌+◌, ◌-◌, ◌≤◌, ◌<◌}
use native.Mathlib.Omega.{arith}
use native.Mathlib.Nat.{zero-add}
use native.Mathlib.Decide.{dec_le}
use mathlib.Core.Path.{◌≡◌, refl, ap, subst, ◌∙◌}
use mathlib.Core.List.{List, [], ◌∷◌}
use mathlib.Core.Bool.{Bool, true, false, cond}
use lib.ListN.{length, get_or, replicate, length-replicate, get_or-replicate, get_or-append}
use lib.Seq.{get_or-append-add}
use lib.Dec.{eqb}
use borrow.Author.Tests.{eq-eqb, ne_eqb}
use Rattle.program.specs.Command.{width, held, is_end}
use Rattle.program.specs.Reading.{commands_of}
use Rattle.program.specs.Bodies.{first_body, after_end, locate, program_of, is_place}
use Rattle.program.specs.Scan.{scan, left_after, body_after, bytes, layout_of}
use Rattle.program.specs.Places.{marks, table_marks, places_of}
use Rattle.program.specs.declared.command.Command.{Command}
use Rattle.program.proofs.Basic.{get_or_padded}
use Rattle.program.proofs.ShapeRows.{width_pos}
use Rattle.program.proofs.ShapeListed.{Listed, over, next, none_left, next_body, passes, onwards, before}
use Rattle.program.proofs.ShapeLaws.{body_at}
use Rattle.program.proofs.LocatedBytes.{start_is}

-- Before where they stand, located commands have no place.
place_before : (cs : List Command) (at left o : ℕ) → o < at → is_place (locate at left cs) o ≡ false
unfolding locate is_place
place_before [] at left o h = refl
place_before (c ∷ cs) at zero o h =
    let w = width_pos c in
    rw (ne_eqb at o (λ e. omega arith)) (place_before cs (at + width c) (held c) o (omega arith))
place_before (c ∷ cs) at (suc left) o h = place_before cs (at + width c) left o (omega arith)

-- Past the first of them, the places are those of the others.
place_step : (c : Command) (cs : List Command) (at left o : ℕ) → at < o → is_place (locate at left (c ∷ cs)) o ≡ is_place (locate (at + width c) (left_after left c) cs) o
unfolding locate is_place left_after
place_step c cs at zero o h = rw (ne_eqb at o (λ e. omega arith))
place_step c cs at (suc left) o h = refl

-- A byte of a command and of what follows: the first one, another of its own, or one past it.
data Byte (w : ℕ) : ℕ → Type 0 where
  first : Byte w 0
  own : {o : ℕ} → suc o < w → Byte w (suc o)
  past : (o : ℕ) → Byte w (w + o)

-- Each byte is one of these.
byte : (w o : ℕ) → 0 < w → Byte w o
byte w zero h = first
byte w (suc o) h = by (dec_le w (suc o))
  where
    by : Dec (w ≤ suc o) → Byte w (suc o)
    by (yes l) = let e : w + (suc o - w) ≡ suc o = omega arith in subst (λ (k : ℕ). Byte w k) e (past (suc o - w))
    by (no l) = own {o = o} (omega arith)

-- The marks of a command past its first byte, and of what follows it.
marks_own : (i left : ℕ) (c : Command) (cs : List Command) (o : ℕ) → suc o < width c → get_or (marks i left (c ∷ cs)) (suc o) 0 ≡ 0
unfolding marks
marks_own i left c cs o h =
    let k : o < length (replicate {A = ℕ} (width c - 1) 0) = rw length-replicate (omega arith) in
    rw (get_or-append, k) (get_or-replicate (width c - 1) o 0 0 (omega arith))

marks_past : (i left : ℕ) (c : Command) (cs : List Command) (o : ℕ) → get_or (marks i left (c ∷ cs)) (width c + o) 0 ≡ get_or (marks (body_after i c) (left_after left c) cs) o 0
unfolding marks
marks_past i left c cs o =
    let w = width_pos c in
    let e : width c + o ≡ suc (length (replicate {A = ℕ} (width c - 1) 0) + o) = rw length-replicate (omega arith) in
    rw (e, get_or-append-add)

-- A mark is 0 or the number of a body from the first one on, plus 1.
Later : List Command → Type 0
Later cs = (i left o b : ℕ) → b < i → eqb (get_or (marks i left cs) o 0) (b + 1) ≡ false

marks_later : (cs : List Command) → Later cs
unfolding Later marks body_after
marks_later [] i left o b h = ne_eqb 0 (b + 1) (λ e. omega arith)
marks_later (c ∷ cs) i left o b h = by (byte (width c) o (width_pos c)) (marks_later cs)
  where
    start : (q : Bool) → eqb (cond q (i + 1) 0) (b + 1) ≡ false
    start true = ne_eqb (i + 1) (b + 1) (λ e. omega arith)
    start false = ne_eqb 0 (b + 1) (λ e. omega arith)

    grows : (q : Bool) → b < cond q (i + 1) i
    grows true = omega arith
    grows false = h

    by : {o : ℕ} → Byte (width c) o → Later cs → eqb (get_or (marks i left (c ∷ cs)) o 0) (b + 1) ≡ false
    by first ih = start (eqb left 0)
    by (own {o = o} l) ih = rw (marks_own i left c cs o l) (ne_eqb 0 (b + 1) (λ e. omega arith))
    by (past o) ih = rw (marks_past i left c cs o) (ih (body_after i c) (left_after left c) o b (grows (is_end c)))

-- The marks of body i are at the places of its commands.
Here : List Command → Type 0
Here cs = (i left at o : ℕ) → eqb (get_or (marks i left cs) o 0) (i + 1) ≡ is_place (locate at left (first_body cs)) (at + o)

marks_here : (cs : List Command) → Here cs
unfolding Later Here marks locate is_place first_body body_after
marks_here [] i left at o = ne_eqb 0 (i + 1) (λ e. omega arith)
marks_here (c ∷ cs) i left at o = by (byte (width c) o (width_pos c)) (marks_here cs)
  where
    rest : List Command
    rest = cond (is_end c) [] (first_body cs)

    start : (left : ℕ) → eqb (cond (eqb left 0) (i + 1) 0) (i + 1) ≡ is_place (locate at left (c ∷ rest)) (at + 0)
    start zero = let e : at ≡ at + 0 = omega arith in rw (eq-eqb at (at + 0) e) (eq-eqb (i + 1) (i + 1) refl)
    start (suc left) =
        let w = width_pos c in
        rw (ne_eqb (suc left) 0 (λ e. omega arith), place_before rest (at + width c) left (at + 0) (omega arith)) (ne_eqb 0 (i + 1) (λ e. omega arith))

    on : (q : Bool) (o : ℕ) → Here cs
        → eqb (get_or (marks (cond q (i + 1) i) (left_after left c) cs) o 0) (i + 1) ≡ is_place (locate (at + width c) (left_after left c) (cond q [] (first_body cs))) (at + width c + o)
    on true o ih = marks_later cs (i + 1) (left_after left c) o i (omega arith)
    on false o ih = ih i (left_after left c) (at + width c) o

    by : {o : ℕ} → Byte (width c) o → Here cs
        → eqb (get_or (marks i left (c ∷ cs)) o 0) (i + 1) ≡ is_place (locate at left (c ∷ rest)) (at + o)
    by first ih = start left
    by (own {o = o} l) ih =
        rw (marks_own i left c cs o l, place_step c rest at left (at + suc o) (omega arith), place_before rest (at + width c) (left_after left c) (at + suc o) (omega arith))
        (ne_eqb 0 (i + 1) (λ e. omega arith))
    by (past o) ih =
        let w = width_pos c in
        let e : at + (width c + o) ≡ at + width c + o = omega arith in
        rw (marks_past i left c cs o, e, place_step c rest at left (at + width c + o) (omega arith)) (on (is_end c) o ih)

-- The marks from the next body on, and from body b on.
marks_next : {n i left : ℕ} {s : List ℕ} {cs : List Command} → Listed n i left s cs → i < n → (o : ℕ) → get_or (marks i left cs) (bytes (first_body cs) + o) 0 ≡ get_or (marks (i + 1) 0 (after_end cs)) o 0
unfolding first_body after_end bytes body_after
marks_next (over e) h o = absurd (let y : ⊥ = omega arith in y)
marks_next {n = n} {i = i} {left = left} (next {c = c} {cs = cs} inside legible fits r) h o = by (is_end c) refl (λ l. marks_next r l o)
  where
    by : (e : Bool) → is_end c ≡ e
        → (body_after i c < n → get_or (marks (body_after i c) (left_after left c) cs) (bytes (first_body cs) + o) 0 ≡ get_or (marks (body_after i c + 1) 0 (after_end cs)) o 0)
        → get_or (marks i left (c ∷ cs)) (width c + bytes (cond e [] (first_body cs)) + o) 0 ≡ get_or (marks (i + 1) 0 (cond e cs (after_end cs))) o 0
    by true e ih = let k : width c + 0 + o ≡ width c + o = omega arith in rw (k, marks_past i left c cs o, none_left n i left c fits e, e)
    by false e ih =
        let k : width c + bytes (first_body cs) + o ≡ width c + (bytes (first_body cs) + o) = omega arith in
        let g = rw e at ih in
        rw (k, marks_past i left c cs (bytes (first_body cs) + o), e) (g h)

marks_at : {n i : ℕ} {s : List ℕ} {cs : List Command} (b : ℕ) → Listed n i 0 s cs → i + b < n → (o : ℕ) → get_or (marks i 0 cs) (before b cs + o) 0 ≡ get_or (marks (i + b) 0 (onwards b cs)) o 0
unfolding onwards before
marks_at {i = i} zero l h o = let e : i + 0 ≡ i = omega arith in let f : 0 + o ≡ o = omega arith in rw (e, f)
marks_at {i = i} {cs = cs} (suc b) l h o =
    let e : i + suc b ≡ i + 1 + b = omega arith in
    let f : bytes (first_body cs) + before b (after_end cs) + o ≡ bytes (first_body cs) + (before b (after_end cs) + o) = omega arith in
    rw (e, f) (marks_next l (omega arith) _ ∙ marks_at {i = i + 1} b (next_body l (omega arith)) (omega arith) o)

-- The mark of a byte of a body is the body's where a command of the body stands there, and only there.
pub marked : (t : List ℕ) → scan t ≡ 0 → (b : ℕ) → b < get_or t 0 0 → (o : ℕ)
    → eqb (get_or (places_of t) (get_or (layout_of t).starts b 0 + o) 0) (b + 1) ≡ is_place (get_or (program_of t) b []) o
unfolding places_of table_marks program_of Here
marked t ok b h o =
    let cs = commands_of t in
    let e : 1 + before b cs + o ≡ suc (before b cs + o) = omega arith in
    let f : 0 + o ≡ o = omega arith in
    let g = get_or_padded (marks 0 0 cs) (2047 - length (marks 0 0 cs)) (before b cs + o) 0 ∙ rw zero-add at (marks_at b (passes t ok).listed (omega arith) o) in
    rw (ok, start_is t b h, e, body_at (get_or t 0 0) b cs h) (ap (λ (m : ℕ). eqb m (b + 1)) g ∙ rw f at (marks_here (onwards b cs) b 0 0 o))
