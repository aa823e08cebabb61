-- A table that the scan lets pass, command by command: each is read where the one before it ends and fits its body. All else follows from this.
use Prim.Native.Nat.{ℕ, zero, suc, ◌+◌, ◌-◌, ◌≤◌, ◌<◌}
use native.Mathlib.Omega.{arith}
use mathlib.Core.Path.{◌≡◌, refl, ap, subst, ◌∙◌}
use mathlib.Core.List.{List, [], ◌∷◌}
use mathlib.Core.Bool.{Bool, true, false, cond}
use lib.ListN.{length, get_or, drop, length-drop}
use lib.Seq.{drop-drop}
use lib.Dec.{ltb, leb, eqb}
use borrow.Author.Tests.{ltb-true, leb-true, eqb-true, eqb-false, ne_eqb}
use Rattle.program.specs.Command.{width, names, named, is_end, uses_cell}
use Rattle.std.specs.Prelude.{Ok, Err}
use Rattle.program.specs.Reading.{Reading, whole, read, readings_after, readings, wholes, commands_of, and_on}
use Rattle.program.specs.Bodies.{first_body, after_end}
use Rattle.program.specs.Scan.{name_fits, atom_fits, placing, left_after, body_after, verdict, fits_length, fits_bodies, scan, bytes}
use Rattle.program.specs.declared.command.Command.{Command}
use Rattle.program.proofs.Basic.{true_false, and_true, implied, passed, cond_zero, neither, drop_pos}
use Rattle.program.proofs.ShapeRows.{width_pos, celled, closing}
use Rattle.program.proofs.ShapeReading.{known}
use Rattle.program.specs.Refusal.{refusal_number}
use Rattle.program.proofs.Refusals.{refusal_some}

-- A command of body i of n, where `left` commands still belong to an ATOM.
pub record Fit (n i left : ℕ) (c : Command) : Type 0 where
  pub above : names c ≡ true → (i < named c) × (named c < n)
  pub cell : 0 < left → uses_cell c ≡ true

-- The commands cs stand in the bytes s, the first of them in body i of n, where `left` commands still belong to an ATOM.
pub data Listed (n : ℕ) : ℕ → ℕ → List ℕ → List Command → Type 0 where
  over : {i left : ℕ} → i ≡ n → Listed n i left [] []
  next : {i left : ℕ} {s : List ℕ} {c : Command} {cs : List Command} → (i ≡ n → ⊥) → read s ≡ whole c (width c) → Fit n i left c
      → Listed n (body_after i c) (left_after left c) (drop (width c) s) cs → Listed n i left s (c ∷ cs)

-- A command with neither number 6 nor number 7.
pub fit : (n i left : ℕ) (c : Command) → placing n i left c ≡ 0 → Fit n i left c
unfolding placing name_fits atom_fits
fit n i left c e =
    let f = passed (name_fits n i c) (cond (atom_fits left c) 0 7) 5 e in
    let g = passed (atom_fits left c) 0 6 f.1 in
    record {
      above = λ h. let k = and_true (ltb i (named c)) _ (implied (names c) _ f.0 h) in (ltb-true _ _ k.0, ltb-true _ _ k.1);
      cell = λ h. let k : eqb left 0 ≡ false = ne_eqb left 0 (λ z. omega arith) in rw k at g.0;
    }

module _ (n : ℕ) where
  -- What the scan lets pass is listed.
  listed_after : (s : List ℕ) (skip i left : ℕ) → verdict n i left (readings_after s skip) ≡ 0 → Listed n i left (drop skip s) (wholes (readings_after s skip))
  unfolding readings_after verdict wholes
  listed_after [] zero i left e = over (eqb-true i n (passed (eqb i n) 0 3 e).0)
  listed_after [] (suc skip) i left e = over (eqb-true i n (passed (eqb i n) 0 3 e).0)
  listed_after (x ∷ s) (suc skip) i left e = listed_after s skip i left e
  listed_after (x ∷ s) zero i left e = by (read (x ∷ s)) refl (listed_after s) e
    where
      by : (r : Reading) → read (x ∷ s) ≡ r
          → ((skip i left : ℕ) → verdict n i left (readings_after s skip) ≡ 0 → Listed n i left (drop skip s) (wholes (readings_after s skip)))
          → verdict n i left (and_on r (readings_after s)) ≡ 0 → Listed n i left (x ∷ s) (wholes (and_on r (readings_after s)))
      by (Err x) h ih e = absurd (let z = (cond_zero (eqb i n) 7 (refusal_number x) e).1 in let y = refusal_some x in let v : ⊥ = omega arith in v)
      by (Ok w) h ih e =
          let c = w.command in
          let k = (known (x ∷ s) h).wide in
          let f = cond_zero (eqb i n) 7 _ e in
          let g = neither (placing n i left c) _ f.1 in
          let d : drop (w.size - 1) s ≡ drop (width c) (x ∷ s) = rw k (drop_pos x s (width_pos c)) in
          next (eqb-false i n f.0) (h ∙ ap (whole c) k) (fit n i left c g.0)
          (subst (λ (u : List ℕ). Listed n (body_after i c) (left_after left c) u (wholes (readings_after s (w.size - 1)))) d (ih (w.size - 1) (body_after i c) (left_after left c) g.1))

-- The limits of a table that passes, and its commands.
pub record Passed (t : List ℕ) : Type 0 where
  pub long : 2 ≤ length t
  pub short : length t ≤ 2048
  pub some : 1 ≤ get_or t 0 0
  pub few : get_or t 0 0 ≤ 16
  pub listed : Listed (get_or t 0 0) 0 0 (drop 1 t) (commands_of t)

-- A table that the scan lets pass is within its limits, and its commands are listed.
pub passes : (t : List ℕ) → scan t ≡ 0 → Passed t
unfolding scan fits_length fits_bodies commands_of readings
passes t e =
    let f = passed (fits_length t) _ 0 e in
    let g = passed (fits_bodies t) _ 1 f.1 in
    let h = and_true (leb 2 (length t)) _ f.0 in
    let k = and_true (leb 1 (get_or t 0 0)) _ g.0 in
    record {
      long = leb-true _ _ h.0;
      short = leb-true _ _ h.1;
      some = leb-true _ _ k.0;
      few = leb-true _ _ k.1;
      listed = listed_after (get_or t 0 0) (drop 1 t) 0 0 0 g.1;
    }

-- FROM BODY TO BODY

-- The commands from body b on, and the bytes before it.
unfoldable pub onwards : ℕ → List Command → List Command
onwards zero cs = cs
onwards (suc b) cs = onwards b (after_end cs)

unfoldable pub before : ℕ → List Command → ℕ
before zero cs = 0
before (suc b) cs = bytes (first_body cs) + before b (after_end cs)

-- After END no command belongs to an ATOM.
pub none_left : (n i left : ℕ) (c : Command) → Fit n i left c → is_end c ≡ true → left_after left c ≡ 0
unfolding left_after
none_left n i zero c f e = (closing c e).alone
none_left n i (suc left) c f e = absurd (true_false _ e (celled c (f.cell (omega arith))).goes)

-- The next body is listed, and so is body b.
pub next_body : {n i left : ℕ} {s : List ℕ} {cs : List Command} → Listed n i left s cs → i < n → Listed n (i + 1) 0 (drop (bytes (first_body cs)) s) (after_end cs)
unfolding first_body after_end bytes body_after
next_body (over e) h = absurd (let y : ⊥ = omega arith in y)
next_body {n = n} {i = i} {left = left} {s = s} (next {c = c} {cs = cs} inside own fits r) h = by (is_end c) refl r (next_body r)
  where
    Rest : Bool → Type 0
    Rest e = Listed n (cond e (i + 1) i) (left_after left c) (drop (width c) s) cs

    by : (e : Bool) → is_end c ≡ e → Rest e → (cond e (i + 1) i < n → Listed n (cond e (i + 1) i + 1) 0 (drop (bytes (first_body cs)) (drop (width c) s)) (after_end cs))
        → Listed n (i + 1) 0 (drop (width c + bytes (cond e [] (first_body cs))) s) (cond e cs (after_end cs))
    by true e r ih = let k : width c + 0 ≡ width c = omega arith in rw (k, ← none_left n i left c fits e) r
    by false e r ih = rw (drop-drop (bytes (first_body cs)) (width c) s) at (ih h)

pub listed_at : {n i : ℕ} {s : List ℕ} {cs : List Command} (b : ℕ) → Listed n i 0 s cs → i + b < n → Listed n (i + b) 0 (drop (before b cs) s) (onwards b cs)
unfolding onwards before
listed_at {i = i} zero l h = let e : i + 0 ≡ i = omega arith in rw e l
listed_at {i = i} {s = s} {cs = cs} (suc b) l h =
    let e : i + suc b ≡ i + 1 + b = omega arith in
    let r = listed_at {i = i + 1} b (next_body l (omega arith)) (omega arith) in
    rw (e, ← drop-drop (before b (after_end cs)) (bytes (first_body cs)) s) r

-- The bytes of what is listed are all the bytes.
pub listed_bytes : {n i left : ℕ} {s : List ℕ} {cs : List Command} → Listed n i left s cs → bytes cs ≡ length s
unfolding bytes
listed_bytes (over e) = refl
listed_bytes {s = s} (next {c = c} inside own fits r) =
    let e = rw length-drop at (listed_bytes r) in
    let k = (known s own).inside in
    omega arith
