-- What the scan makes of a body, command by command, and how the numbers of the bodies make the table's.
use Prim.Native.Nat.{ℕ, ◌+◌, ◌<◌, ◌≤◌}
use mathlib.Core.Path.{◌≡◌, refl, sym, ap, ◌∙◌}
use mathlib.Core.List.{List, [], ◌∷◌}
use mathlib.Core.Bool.{Bool, true, false, cond}
use native.Mathlib.Omega.{arith}
use lib.ListN.{length, drop, length-drop}
use lib.Seq.{drop-drop}
use lib.Dec.{eqb}
use borrow.Author.Tests.{eq-eqb, ne_eqb, eqb-true, eqb-false}
use Rattle.program.specs.Command.{is_end}
use Rattle.std.specs.Prelude.{Ok, Err}
use Rattle.program.specs.Reading.{Reading, read, readings, wholes}
use Rattle.program.specs.Refusal.{refusal_number, refusal_at}
use Rattle.program.specs.Bodies.{first_body, after_end}
use Rattle.program.specs.Scan.{name_fits, atom_fits, placing, left_after, body_after, verdict, bytes}
use Rattle.program.specs.Inner.Scanned.{extent_of}
use Rattle.program.specs.declared.command.Command.{Command}
use Rattle.program.specs.declared.reading.Whole.{Whole}
use Rattle.program.specs.declared.refusal.Refusal.{Refusal}
use Rattle.program.specs.declared.refusal.Refusal.TheVariants.{Cut}
use Rattle.program.proofs.Basic.{apart}
use Rattle.program.proofs.ShapeReading.{known}
use Rattle.program.proofs.ShapeListed.{fit, none_left}
use Rattle.program.proofs.ReadLaws.{readings_whole, Stopped, ran_out, stopped, readings_stop, read_back_lem}

-- Numbers 6 and 7 are those of their refusals.
refusal_at_placing : (n i left : ℕ) (c : Command) → (placing n i left c ≡ 0 → ⊥) → refusal_number (refusal_at (placing n i left c)) ≡ placing n i left c
unfolding placing
refusal_at_placing n i left c bad = by (name_fits n i c) (atom_fits left c) bad
  where
    by : (x y : Bool) → (◌≡◌ {A = ℕ} (cond x (cond y 0 7) 6) 0 → ⊥) → refusal_number (refusal_at (cond x (cond y 0 7) 6)) ≡ cond x (cond y 0 7) 6
    by true true h = absurd (h refl)
    by true false h = refl
    by false y h = refl

-- A BODY, COMMAND BY COMMAND

module _ (n i left at : ℕ) (s : List ℕ) where
  module _ (w : Whole) (h : Ok w ≡ read s) where
    pub extent_refused : {e : Refusal} → (placing n i left w.command ≡ 0 → ⊥) → refusal_at (placing n i left w.command) ≡ e → extent_of n i left at (readings s) ≡ Err e
    unfolding extent_of
    extent_refused bad is = rw (readings_whole s w h, ne_eqb _ _ bad, is)

    pub extent_end : placing n i left w.command ≡ 0 → is_end w.command ≡ true → extent_of n i left at (readings s) ≡ Ok (at + w.size)
    unfolding extent_of
    extent_end ok stop = rw (readings_whole s w h, eq-eqb _ _ ok, stop)

    pub extent_on : placing n i left w.command ≡ 0 → is_end w.command ≡ false
        → extent_of n i left at (readings s) ≡ extent_of n i (left_after left w.command) (at + w.size) (readings (drop w.size s))
    unfolding extent_of
    extent_on ok go = rw (readings_whole s w h, eq-eqb _ _ ok, go)

  pub extent_stop : (e : Refusal) → Err e ≡ read s → extent_of n i left at (readings s) ≡ Err e
  unfolding extent_of
  extent_stop e h = by s (readings s) (readings_stop s e h)
    where
      by : (s : List ℕ) (rs : List Reading) → Stopped e s rs → extent_of n i left at rs ≡ Err e
      by s rs (ran_out c) = ap Err c
      by s rs stopped = refl

-- A BODY THAT WAS READ TO ITS END

-- The body's bytes are the first `size`, and the scan goes on after them with the next body.
pub record Span (n i left : ℕ) (s : List ℕ) (rs : List Reading) (size : ℕ) : Type 0 where
  pub some : 0 < size
  pub inside : size ≤ length s
  pub next : verdict n i left rs ≡ verdict n (i + 1) 0 (readings (drop size s))
  pub long : bytes (first_body (wholes rs)) ≡ size
  pub after : after_end (wholes rs) ≡ wholes (readings (drop size s))

pub record Reached (n i left at e : ℕ) (s : List ℕ) (rs : List Reading) : Type 0 where
  pub size : ℕ
  pub end : e ≡ at + size
  pub span : Span n i left s rs size

module _ (n i : ℕ) (lt : i < n) where
  here : eqb i n ≡ false
  here = ne_eqb i n (λ e. omega arith)

  module _ (left : ℕ) (s : List ℕ) (w : Whole) (rs : List Reading) (whole : Ok w ≡ read s) (rest : rs ≡ readings (drop w.size s)) (ok : placing n i left w.command ≡ 0) where
    ends : is_end w.command ≡ true → Span n i left s (Ok w ∷ rs) w.size
    unfolding verdict wholes first_body after_end bytes body_after
    ends stop =
        let k = known s (sym whole) in
        record {
          some = k.some;
          inside = k.inside;
          next = rw (here, eq-eqb _ _ ok, stop, none_left n i left w.command (fit n i left w.command ok) stop, rest);
          long = rw stop (let x = k.wide in omega arith);
          after = rw (stop, rest);
        }

    goes : {more : ℕ} → is_end w.command ≡ false → Span n i (left_after left w.command) (drop w.size s) rs more → Span n i left s (Ok w ∷ rs) (w.size + more)
    unfolding verdict wholes first_body after_end bytes body_after
    goes {more} go p =
        let k = known s (sym whole) in
        let x = k.wide in
        let l = p.long in
        let q = simp length-drop at p.inside in
        let room = k.inside in
        let d : drop more (drop w.size s) ≡ drop (w.size + more) s = drop-drop more w.size s in
        record {
          some = let z = k.some in omega arith;
          inside = omega arith;
          next = rw (here, eq-eqb _ _ ok, go) (p.next ∙ ap (λ (x : List ℕ). verdict n (i + 1) 0 (readings x)) d);
          long = rw go (omega arith);
          after = rw go (p.after ∙ ap (λ (x : List ℕ). wholes (readings x)) d);
        }

  pub reached : (rs : List Reading) (s : List ℕ) (left at e : ℕ) → rs ≡ readings s → Ok e ≡ extent_of n i left at rs → Reached n i left at e s rs
  unfolding extent_of
  reached [] s left at e r h = apart (cc)
  reached (Err x ∷ rs) s left at e r h = apart (cc)
  reached (Ok w ∷ rs) s left at e r h = by_placing (eqb (placing n i left w.command) 0) refl h
      (λ d. reached rs (drop w.size s) (left_after left w.command) (at + w.size) e d)
    where
      IH : Type 0
      IH = rs ≡ readings (drop w.size s) → Ok e ≡ extent_of n i (left_after left w.command) (at + w.size) rs → Reached n i (left_after left w.command) (at + w.size) e (drop w.size s) rs

      by_end : placing n i left w.command ≡ 0 → (x : Bool) → is_end w.command ≡ x
          → Ok e ≡ cond x (Ok (at + w.size)) (extent_of n i (left_after left w.command) (at + w.size) rs) → IH → Reached n i left at e s (Ok w ∷ rs)
      by_end ok true x g ih =
          let b = read_back_lem s w rs r in
          record { size = w.size; end = cc; span = ends left s w rs b.0 b.1 ok x }
      by_end ok false x g ih =
          let b = read_back_lem s w rs r in
          let p = ih b.1 g in
          record { size = w.size + p.size; end = let q = p.end in omega arith; span = goes left s w rs b.0 b.1 ok x p.span }

      by_placing : (x : Bool) → eqb (placing n i left w.command) 0 ≡ x
          → Ok e ≡ cond x (cond (is_end w.command) (Ok (at + w.size)) (extent_of n i (left_after left w.command) (at + w.size) rs)) (Err (refusal_at (placing n i left w.command))) → IH
          → Reached n i left at e s (Ok w ∷ rs)
      by_placing true x g ih = by_end (eqb-true _ _ x) (is_end w.command) refl g ih
      by_placing false x g ih = apart (cc)

  -- A body that is turned down gives the table its number.
  pub turned : (rs : List Reading) (left at : ℕ) (e : Refusal) → Err e ≡ extent_of n i left at rs → verdict n i left rs ≡ refusal_number e
  unfolding extent_of verdict body_after
  turned [] left at e h = let same : Cut ≡ e = cc in rw (here, ← same)
  turned (Err x ∷ rs) left at e h = let same : x ≡ e = cc in rw (here, same)
  turned (Ok w ∷ rs) left at e h = by_placing (eqb (placing n i left w.command) 0) refl h (turned rs (left_after left w.command) (at + w.size) e)
    where
      IH : Type 0
      IH = Err e ≡ extent_of n i (left_after left w.command) (at + w.size) rs → verdict n i (left_after left w.command) rs ≡ refusal_number e

      by_end : placing n i left w.command ≡ 0 → (x : Bool) → is_end w.command ≡ x
          → Err e ≡ cond x (Ok (at + w.size)) (extent_of n i (left_after left w.command) (at + w.size) rs) → IH → verdict n i left (Ok w ∷ rs) ≡ refusal_number e
      by_end ok true x g ih = apart (cc)
      by_end ok false x g ih = rw (here, eq-eqb _ _ ok, x) (ih g)

      by_placing : (x : Bool) → eqb (placing n i left w.command) 0 ≡ x
          → Err e ≡ cond x (cond (is_end w.command) (Ok (at + w.size)) (extent_of n i (left_after left w.command) (at + w.size) rs)) (Err (refusal_at (placing n i left w.command))) → IH
          → verdict n i left (Ok w ∷ rs) ≡ refusal_number e
      by_placing true x g ih = by_end (eqb-true _ _ x) (is_end w.command) refl g ih
      by_placing false x g ih =
          let same : refusal_at (placing n i left w.command) ≡ e = cc in
          rw (here, x) (sym (refusal_at_placing n i left w.command (eqb-false _ _ x)) ∙ ap refusal_number same)
