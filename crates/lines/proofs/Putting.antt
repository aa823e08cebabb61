-- Texts put one after the other, the digits of a number, and the number behind answer 16.
use Prim.Native.Nat.{ℕ, zero, suc, ◌+◌, ◌/◌, ◌<◌, ◌≤◌}
use mathlib.Core.Bool.{Bool, true, false, cond}
use mathlib.Core.Path.{◌≡◌, refl, sym, ap, ◌∙◌, subst}
use mathlib.Core.List.{List, [], ◌∷◌, ◌++◌}
use native.Mathlib.Nat.{add-zero}
use native.Mathlib.Numerals.{add-one}
use native.Mathlib.Omega.{arith}
use borrow.Author.Tests.{leb-true, leb-false, ltb-false, lt-ltb, le-ltb, eq-eqb, ne_eqb}
use lib.Dec.{leb, ltb}
use lib.ListN.{length, take, get_or, set, length-set, length-append}
use lib.Seq.{sets, length-sets, set_out, take-suc}
use Rattle.lines.specs.declared.put.Text.{Text}
use Rattle.lines.specs.Put.{Put, place_after}
use Rattle.lines.specs.Text.{last_digit, digits_of, decimal_of, awaited_of}

-- Nothing is written past the end.
sets_out : (l : List ℕ) (i : ℕ) (vs : List ℕ) → length l ≤ i → sets l i vs ≡ l
sets_out l i [] h = refl
sets_out l i (a ∷ vs) h =
    let k : length (set l i a) ≤ suc i = omega (arith, length-set l i a) in
    sets_out (set l i a) (suc i) vs k ∙ set_out l i a h

-- Two texts, the second where the first would end.
sets_both : (l : List ℕ) (i : ℕ) (xs ys : List ℕ) → sets l i (xs ++ ys) ≡ sets (sets l i xs) (i + length xs) ys
sets_both l i [] ys = ap (λ (k : ℕ). sets l k ys) (sym (add-zero i))
sets_both l i (x ∷ xs) ys =
    let e : suc i + length xs ≡ i + suc (length xs) = omega arith in
    sets_both (set l i x) (suc i) xs ys ∙ ap (λ (k : ℕ). sets (sets (set l i x) (suc i) xs) k ys) e

-- The same where the buffer ends within the first: nothing of the second is written.
sets_after : (l : List ℕ) (i : ℕ) (xs ys : List ℕ) → sets l i (xs ++ ys) ≡ sets (sets l i xs) (place_after (length l) i (length xs)) ys
sets_after l i xs ys = go (leb (i + length xs) (length l)) refl
  where
    go : (b : Bool) → leb (i + length xs) (length l) ≡ b → sets l i (xs ++ ys) ≡ sets (sets l i xs) (place_after (length l) i (length xs)) ys
    go true h =
        let k : i + length xs ≤ length l = leb-true (i + length xs) (length l) h in
        let e : i + length xs ≡ place_after (length l) i (length xs) = omega arith in
        sets_both l i xs ys ∙ ap (λ (k : ℕ). sets (sets l i xs) k ys) e
    go false h =
        let k : length l < i + length xs = leb-false (i + length xs) (length l) h in
        let far : length (sets l i xs) ≤ i + length xs = omega (arith, length-sets l i xs) in
        let out : length (sets l i xs) ≤ place_after (length l) i (length xs) = omega (arith, length-sets l i xs) in
        sets_both l i xs ys ∙ sets_out (sets l i xs) (i + length xs) ys far ∙ sym (sets_out (sets l i xs) (place_after (length l) i (length xs)) ys out)

-- The buffer's length stays.
pub kept : {a b : Text} {xs : List ℕ} → Put a xs b → length b.out.now ≡ length a.out.now
kept {a} {b} {xs} p = ap length p.holds ∙ length-sets a.out.now a.end xs

-- What ends within its buffer goes on to.
pub within : {a b : Text} {xs : List ℕ} → Put a xs b → a.end ≤ length a.out.now → b.end ≤ length b.out.now
within p h = omega (arith, p.place, kept p)

-- A text after another is the two joined.
pub both : {a b c : Text} {xs ys : List ℕ} → Put a xs b → Put b ys c → Put a (xs ++ ys) c
both {a} {b} {c} {xs} {ys} p q = record {
  same_buffer = q.same_buffer ∙ p.same_buffer;
  holds =
      q.holds
      ∙ ap (λ (l : List ℕ). sets l b.end ys) p.holds
      ∙ ap (λ (n : ℕ). sets (sets a.out.now a.end xs) n ys) p.place
      ∙ sym (sets_after a.out.now a.end xs ys);
  place = omega (arith, kept p, length-append xs ys, p.place, q.place);
}

-- Nothing put.
pub none : {a : Text} → Put a [] a
none {a} = record { same_buffer = refl; holds = refl; place = omega arith }

-- A byte more.
pub more : (text : List ℕ) (i : ℕ) {a b c : Text} → i < length text → Put a (take i text) b → Put b (get_or text i 0 ∷ []) c → Put a (take (i + 1) text) c
more text i {a} {b} {c} h p q = subst (λ (t : List ℕ). Put a t c) (sym (take-suc text i 0 h) ∙ ap (λ (k : ℕ). take k text) (sym (add-one i))) (both p q)

-- More fuel than the number changes nothing.
fuel : (k j n : ℕ) → n < k → n < j → digits_of k n ≡ digits_of j n
unfolding digits_of
fuel zero j n h g = absurd (omega arith)
fuel (suc k) zero n h g = absurd (omega arith)
fuel (suc k) (suc j) n h g = go (ltb n 10) refl (fuel k j (n / 10))
  where
    go : (b : Bool) → ltb n 10 ≡ b → (n / 10 < k → n / 10 < j → digits_of k (n / 10) ≡ digits_of j (n / 10)) → cond b (last_digit n ∷ []) (digits_of k (n / 10) ++ (last_digit n ∷ [])) ≡ cond b (last_digit n ∷ []) (digits_of j (n / 10) ++ (last_digit n ∷ []))
    go true e ih = refl
    go false e ih =
        let big : 10 ≤ n = ltb-false n 10 e in
        let a : n / 10 < k = omega arith in
        let b : n / 10 < j = omega arith in
        ap (λ (d : List ℕ). d ++ (last_digit n ∷ [])) (ih a b)

small : (n : ℕ) → n < 10 → decimal_of n ≡ last_digit n ∷ []
unfolding decimal_of digits_of
small n h = rw (lt-ltb n 10 h) refl

large : (n : ℕ) → 10 ≤ n → decimal_of n ≡ decimal_of (n / 10) ++ (last_digit n ∷ [])
unfolding decimal_of digits_of
large n h =
    let a : n / 10 < n = omega arith in
    let b : n / 10 < suc (n / 10) = omega arith in
    rw (le-ltb n 10 h) (ap (λ (d : List ℕ). d ++ (last_digit n ∷ [])) (fuel n (suc (n / 10)) (n / 10) a b))

-- A number of one digit, and one of more.
pub one_digit : {n : ℕ} {a b : Text} → n < 10 → Put a (last_digit n ∷ []) b → Put a (decimal_of n) b
one_digit {n} {a} {b} h p = subst (λ (t : List ℕ). Put a t b) (sym (small n h)) p

pub digit_more : {n : ℕ} {a b c : Text} → 10 ≤ n → Put a (decimal_of (n / 10)) b → Put b (last_digit n ∷ []) c → Put a (decimal_of n) c
digit_more {n} {a} {b} {c} h p q = subst (λ (t : List ℕ). Put a t c) (sym (large n h)) (both p q)

-- A blank and a number behind answer 16, and nothing behind another.
pub awaited_put : (n : ℕ) {answer : ℕ} {a b c : Text} → answer ≡ 16 → Put a (32 ∷ []) b → Put b (decimal_of n) c → Put a (awaited_of answer n) c
unfolding awaited_of
awaited_put n {answer} e p q = rw (eq-eqb answer 16 e) (both p q)

pub awaited_none : (n : ℕ) {answer : ℕ} {a : Text} → (answer ≡ 16 → ⊥) → Put a (awaited_of answer n) a
unfolding awaited_of
awaited_none n {answer} e = rw (ne_eqb answer 16 e) none
