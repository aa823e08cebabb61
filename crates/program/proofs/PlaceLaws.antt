-- The marks of the commands, one after the other: those set so far with those to come are all, and zeros fill the room.
use Prim.Native.Nat.{ℕ, suc, ◌+◌, ◌-◌, ◌≤◌}
use mathlib.Core.Path.{◌≡◌, refl, sym, ap, ap₂, ◌∙◌}
use mathlib.Core.List.{List, [], ◌∷◌, ◌++◌, append_assoc, append-nil}
use mathlib.Core.Bool.{true, false}
use native.Mathlib.Omega.{arith}
use lib.ListN.{length, drop, set, replicate, length-append, length-replicate, replicate-append-replicate, drop_of_length-le}
use lib.Seq.{drop-drop, set_at}
use borrow.Author.Tests.{ne_eqb}
use Rattle.program.specs.Command.{width, is_end}
use Rattle.std.specs.Prelude.{Ok}
use Rattle.program.specs.Reading.{read, readings, readings_after, wholes, commands_of}
use Rattle.program.specs.Scan.{placing, left_after, body_after, scan}
use Rattle.program.specs.Places.{marks, table_marks, places_of}
use Rattle.program.specs.Inner.Scanned.{mark_of, Marking}
use Rattle.program.specs.declared.command.Command.{Command}
use Rattle.program.specs.declared.reading.Whole.{Whole}
use Rattle.program.proofs.ShapeReading.{known}
use Rattle.program.proofs.ShapeListed.{fit, none_left}
use Rattle.program.proofs.ReadLaws.{readings_whole}

-- Where the scan turns a table down there is no place.
pub places_none : (t : List ℕ) → (scan t ≡ 0 → ⊥) → replicate 2048 0 ≡ places_of t
unfolding places_of
places_none t bad = rw (ne_eqb _ _ bad)

-- Byte 0 has no mark.
pub marking_start : (t : List ℕ) → Marking (0 ∷ marks 0 0 (commands_of t)) (drop 1 t) 0 1 0 0 (replicate 2048 0)
unfolding commands_of
marking_start t = record { front = 0 ∷ []; long = refl; split = refl; done = refl }

-- Zeros in two parts.
zeros_split : (a b n : ℕ) → a + b ≡ n → ◌≡◌ {A = List ℕ} (replicate n 0) (replicate a 0 ++ replicate b 0)
zeros_split a b n e = ap (λ (j : ℕ). replicate j 0) (sym e) ∙ sym (replicate-append-replicate a b 0)

-- A command more.
pub marking_on : {all s : List ℕ} {i first at left : ℕ} {m : List ℕ} → Marking all s i first at left m → {w : Whole} → Ok w ≡ read (drop at s)
    → first + (at + w.size) ≤ 2048 → Marking all s (body_after i w.command) first (at + w.size) (left_after left w.command) (set m (first + at) (mark_of i left))
unfolding marks wholes
marking_on {all} {s} {i} {first} {at} {left} {m} p {w} whole fits =
    let c = w.command in
    let size = w.size in
    let k = known (drop at s) (sym whole) in
    let some = k.some in
    let v = mark_of i left in
    let d : drop size (drop at s) ≡ drop (at + size) s = drop-drop size at s in
    let next = readings_whole (drop at s) w whole ∙ ap (λ (x : List ℕ). Ok w ∷ readings x) d in
    let wide : width c ≡ size = sym k.wide in
    let l = p.long in
    let one : 2048 - (first + at) ≡ suc (2047 - (first + at)) = omega arith in
    let two : size - 1 + (2048 - (first + (at + size))) ≡ 2047 - (first + at) = omega arith in
    let zeros : ◌≡◌ {A = List ℕ} (replicate (2047 - (first + at)) 0) (replicate (size - 1) 0 ++ replicate (2048 - (first + (at + size))) 0) =
    zeros_split (size - 1) (2048 - (first + (at + size))) (2047 - (first + at)) two in
    let back : marks i left (wholes (readings (drop at s))) ≡ v ∷ (replicate (size - 1) 0 ++ marks (body_after i c) (left_after left c) (wholes (readings (drop (at + size) s)))) =
    rw (next, wide) in
    record {
      front = p.front ++ (v ∷ replicate (size - 1) 0);
      long = simp (length-append, length-replicate) (omega arith);
      split =
          ap (λ (x : List ℕ). set x (first + at) v) (p.split ∙ ap (λ (j : ℕ). p.front ++ replicate j 0) one)
          ∙ set_at p.front 0 (replicate (2047 - (first + at)) 0) v (first + at) p.long
          ∙ ap (λ (x : List ℕ). p.front ++ (v ∷ x)) zeros
          ∙ sym (append_assoc p.front (v ∷ replicate (size - 1) 0) (replicate (2048 - (first + (at + size))) 0));
      done =
          append_assoc p.front (v ∷ replicate (size - 1) 0) (marks (body_after i c) (left_after left c) (wholes (readings (drop (at + size) s))))
          ∙ ap (λ (x : List ℕ). p.front ++ x) (sym back)
          ∙ p.done;
    }

-- After END the next body begins; any other command leaves the body open.
module _ {all s : List ℕ} (n i : ℕ) {first at : ℕ} (left : ℕ) {m : List ℕ} (c : Command) (p : Marking all s (body_after i c) first at (left_after left c) m) where
  pub marking_end : placing n i left c ≡ 0 → is_end c ≡ true → Marking all s (i + 1) first at 0 m
  unfolding body_after
  marking_end ok stop = rw (stop, none_left n i left c (fit n i left c ok) stop) at p

  pub marking_open : is_end c ≡ false → Marking all s i first at (left_after left c) m
  unfolding body_after
  marking_open go = rw go at p

-- The next body begins where a body ends.
pub marking_next : {all : List ℕ} (t : List ℕ) (i at e : ℕ) {m : List ℕ} → Marking all (drop at t) i at e 0 m → Marking all (drop (at + e) t) i (at + e) 0 0 m
marking_next t i at e p =
    let z : at + e ≡ at + e + 0 = omega arith in
    record {
      front = p.front;
      long = p.long ∙ z;
      split = p.split ∙ ap (λ (k : ℕ). p.front ++ replicate (2048 - k) 0) z;
      done = ap (λ (s : List ℕ). p.front ++ marks i 0 (wholes (readings s))) (sym (drop-drop e at t)) ∙ p.done;
    }

-- The bytes are at their end.
pub marking_all : (t : List ℕ) {i at : ℕ} {m : List ℕ} → Marking (0 ∷ marks 0 0 (commands_of t)) (drop at t) i at 0 0 m → scan t ≡ 0 → length t ≤ at → m ≡ places_of t
unfolding readings readings_after marks wholes places_of table_marks
marking_all t {i} {at} {m} p z end =
    let none : drop at t ≡ [] = drop_of_length-le t end in
    let f : p.front ≡ 0 ∷ marks 0 0 (commands_of t) = sym (append-nil p.front) ∙ (rw none at p.done) in
    let l : at + 0 ≡ suc (length (marks 0 0 (commands_of t))) = sym p.long ∙ ap length f in
    let r : 2048 - (at + 0) ≡ 2047 - length (marks 0 0 (commands_of t)) = omega arith in
    rw z (p.split ∙ ap₂ (λ (x : List ℕ) (j : ℕ). x ++ replicate j 0) f r)
