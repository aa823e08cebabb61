-- The bodies one after the other: what the scan of a table keeps from body to body, and what it says at the end.
use Prim.Native.Nat.{ℕ, suc, ◌+◌, ◌-◌, ◌<◌, ◌≤◌}
use mathlib.Core.Path.{◌≡◌, refl, sym, ap, ap₂, subst, ◌∙◌}
use mathlib.Core.List.{List, [], ◌∷◌, ◌++◌, append_assoc, append-nil}
use mathlib.Core.Bool.{Bool, true, false, cond}
use native.Mathlib.Omega.{arith}
use native.Mathlib.Numerals.{add-one}
use lib.ListN.{length, get_or, take, drop, set, replicate, length-set, length-drop, take-append-drop, drop_of_length-le}
use lib.Seq.{drop-drop, take-suc-set, drop-set-lt}
use lib.Dec.{leb}
use borrow.Author.Tests.{eq-eqb, leb-true}
use Rattle.std.specs.Prelude.{Ok, Err}
use Rattle.program.specs.Refusal.{refusal_number, answered}
use Rattle.program.proofs.Refusals.{refusal_some, answered_refusal}
use Rattle.program.specs.Reading.{Reading, read, and_on, readings_after, readings, wholes, commands_of}
use Rattle.program.specs.Bodies.{after_end}
use Rattle.program.specs.Scan.{verdict, fits_length, fits_bodies, scan, starts_from, layout_of}
use Rattle.program.specs.Inner.Scanned.{opening, extent_of}
use Rattle.program.specs.declared.refusal.Refusal.{Refusal}
use Rattle.program.specs.declared.refusal.Refusal.TheVariants.{Size, Bodies}
use Rattle.program.proofs.Basic.{apart, and_true}
use Rattle.program.proofs.ScanLaws.{Span, reached, turned}

-- NUMBERS 1 AND 2

pub record Opened (t : List ℕ) : Type 0 where
  pub least : 2 ≤ length t
  pub most : length t ≤ 2048
  pub some : 1 ≤ get_or t 0 0
  pub few : get_or t 0 0 ≤ 16
  pub verdict_is : scan t ≡ verdict (get_or t 0 0) 0 0 (readings (drop 1 t))

-- One zero less.
zeros_less : (k : ℕ) (l : List ℕ) (n m : ℕ) → drop k l ≡ replicate n 0 → n ≡ suc m → drop (k + 1) l ≡ replicate m 0
zeros_less k l n m e h = sym (drop-drop 1 k l) ∙ ap (drop 1) (e ∙ ap (λ (j : ℕ). replicate j 0) h)

module _ (t : List ℕ) where
  lengths : fits_length t ≡ true → (2 ≤ length t) × (length t ≤ 2048)
  unfolding fits_length
  lengths h = let q = and_true (leb 2 (length t)) (leb (length t) 2048) h in (leb-true _ _ q.0, leb-true _ _ q.1)

  numbers : fits_bodies t ≡ true → (1 ≤ get_or t 0 0) × (get_or t 0 0 ≤ 16)
  unfolding fits_bodies
  numbers h = let q = and_true (leb 1 (get_or t 0 0)) (leb (get_or t 0 0) 16) h in (leb-true _ _ q.0, leb-true _ _ q.1)

  pub opened : opening t ≡ 0 → Opened t
  unfolding opening scan
  opened h = by (fits_length t) (fits_bodies t) refl refl h
    where
      by : (a b : Bool) → fits_length t ≡ a → fits_bodies t ≡ b → ◌≡◌ {A = ℕ} (cond a (cond b 0 2) 1) 0 → Opened t
      by true true p q g = record { least = (lengths p).0; most = (lengths p).1; some = (numbers q).0; few = (numbers q).1; verdict_is = rw (p, q) }
      by true false p q g = absurd (let y : ⊥ = omega arith in y)
      by false b p q g = absurd (let y : ⊥ = omega arith in y)

  pub shut : (opening t ≡ 0 → ⊥) → scan t ≡ opening t
  unfolding opening scan
  shut h = by (fits_length t) (fits_bodies t) refl refl h
    where
      by : (a b : Bool) → fits_length t ≡ a → fits_bodies t ≡ b → (◌≡◌ {A = ℕ} (cond a (cond b 0 2) 1) 0 → ⊥)
          → cond a (cond b (verdict (get_or t 0 0) 0 0 (readings (drop 1 t))) 2) 1 ≡ cond a (cond b 0 2) 1
      by true true p q g = absurd (g refl)
      by true false p q g = refl
      by false b p q g = refl

  -- THE ANSWER

  -- Numbers 1 and 2 are the table's.
  pub scan_shut : {e : Refusal} → answered (opening t) (tt {0}) ≡ Err e → scan t ≡ refusal_number e
  unfolding opening
  scan_shut h = by (fits_length t) (fits_bodies t) (shut) h
    where
      by : (a b : Bool) → ((◌≡◌ {A = ℕ} (cond a (cond b 0 2) 1) 0 → ⊥) → scan t ≡ cond a (cond b 0 2) 1) → {e : Refusal} → answered (cond a (cond b 0 2) 1) (tt {0}) ≡ Err e → scan t ≡ refusal_number e
      by true true is g = absurd (cc)
      by true false is {e} g = let same : Bodies ≡ e = cc in is (λ z. omega arith) ∙ ap refusal_number same
      by false b is {e} g = let same : Size ≡ e = cc in is (λ z. omega arith) ∙ ap refusal_number same

  -- The answer by the number of a refusal.
  pub scan_refused : {e : Refusal} → scan t ≡ refusal_number e → (Err e ≡ answered (scan t) (layout_of t)) × (scan t ≡ 0 → ⊥)
  scan_refused {e} h = (rw h (sym (answered_refusal e (layout_of t))), λ z. let s = refusal_some e in omega arith)

-- BODY BY BODY

-- At the first byte of a body: the scan from there is the table's, and the starts so far with those to come are the table's.
pub record Laying (t : List ℕ) (n body at : ℕ) (starts : List ℕ) : Type 0 where
  pub reach : body ≤ n
  pub inside : at ≤ length t
  pub rest : verdict n body 0 (readings (drop at t)) ≡ scan t
  pub long : length starts ≡ 16
  pub done : take body starts ++ starts_from (n - body) at (wholes (readings (drop at t))) ≡ starts_from n 1 (commands_of t)
  pub zeros : drop body starts ≡ replicate (16 - body) 0

pub laying_start : (t : List ℕ) → opening t ≡ 0 → Laying t (get_or t 0 0) 0 1 (replicate 16 0)
unfolding commands_of
laying_start t h =
    let o = opened t h in
    let l = o.least in
    record { reach = omega arith; inside = omega arith; rest = sym o.verdict_is; long = refl; done = ap (λ (k : ℕ). starts_from k 1 (wholes (readings (drop 1 t)))) (let z : get_or t 0 0 - 0 ≡ get_or t 0 0 = omega arith in z); zeros = refl }

module _ {t : List ℕ} {n body at : ℕ} {starts : List ℕ} (p : Laying t n body at starts) where
  module _ (lt : body < n) (few : n ≤ 16) where
    pub laying_refused : {e : Refusal} → Err e ≡ extent_of n body 0 0 (readings (drop at t)) → scan t ≡ refusal_number e
    laying_refused {e} h = sym p.rest ∙ turned n body lt (readings (drop at t)) 0 0 e h

    pub laying_on : {size : ℕ} → Ok size ≡ extent_of n body 0 0 (readings (drop at t)) → Laying t n (body + 1) (at + size) (set starts body at)
    unfolding starts_from
    laying_on {size} h =
        let r = reached n body lt (readings (drop at t)) (drop at t) 0 0 size refl h in
        let e = r.end in
        let same : r.size ≡ size = omega arith in
        by size (subst (λ (x : ℕ). Span n body 0 (drop at t) (readings (drop at t)) x) same r.span)
      where
        by : (size : ℕ) → Span n body 0 (drop at t) (readings (drop at t)) size → Laying t n (body + 1) (at + size) (set starts body at)
        by size span =
            let room = simp length-drop at span.inside in
            let here = p.inside in
            let l = p.long in
            let d : drop size (drop at t) ≡ drop (at + size) t = drop-drop size at t in
            let one : n - body ≡ suc (n - (body + 1)) = omega arith in
            let left : 16 - body ≡ suc (16 - (body + 1)) = omega arith in
            let taken : take (body + 1) (set starts body at) ≡ take body starts ++ (at ∷ []) = rw add-one (take-suc-set starts body at (omega arith)) in
            let after : wholes (readings (drop (at + size) t)) ≡ after_end (wholes (readings (drop at t))) = ap (λ (x : List ℕ). wholes (readings x)) (sym d) ∙ sym span.after in
            let more : at ∷ starts_from (n - (body + 1)) (at + size) (wholes (readings (drop (at + size) t))) ≡ starts_from (n - body) at (wholes (readings (drop at t))) =
            rw (one, after) (ap (λ (k : ℕ). at ∷ starts_from (n - (body + 1)) (at + k) (after_end (wholes (readings (drop at t))))) (sym span.long)) in
            record {
              reach = omega arith;
              inside = omega arith;
              rest = ap (λ (x : List ℕ). verdict n (body + 1) 0 (readings x)) (sym d) ∙ sym span.next ∙ p.rest;
              long = simp length-set p.long;
              done =
                  ap (λ (x : List ℕ). x ++ starts_from (n - (body + 1)) (at + size) (wholes (readings (drop (at + size) t)))) taken
                  ∙ append_assoc (take body starts) (at ∷ []) (starts_from (n - (body + 1)) (at + size) (wholes (readings (drop (at + size) t))))
                  ∙ ap (λ (x : List ℕ). take body starts ++ x) more
                  ∙ p.done;
              zeros = drop-set-lt (body + 1) starts body at (omega arith) ∙ zeros_less body starts (16 - body) (16 - (body + 1)) p.zeros left;
            }

  module _ (last : n ≤ body) where
    same : body ≡ n
    same = let r = p.reach in omega arith

    -- Bytes follow the last body, or none.
    pub laying_more : at < length t → scan t ≡ 8
    unfolding verdict readings readings_after
    laying_more h = sym p.rest ∙ by (drop at t) (simp length-drop (omega arith))
      where
        full : (rs : List Reading) → (rs ≡ [] → ⊥) → verdict n body 0 rs ≡ 8
        full [] some = absurd (some refl)
        full (Ok w ∷ rs) some = rw (eq-eqb _ _ same)
        full (Err e ∷ rs) some = rw (eq-eqb _ _ same)

        read_some : (r : Reading) (rest : ℕ → List Reading) → and_on r rest ≡ [] → ⊥
        read_some (Ok w) rest e = apart (cc)
        read_some (Err x) rest e = apart (cc)

        by : (s : List ℕ) → 0 < length s → verdict n body 0 (readings s) ≡ 8
        by [] g = absurd (let y : ⊥ = omega arith in y)
        by (b ∷ s) g = full (readings (b ∷ s)) (read_some (read (b ∷ s)) (readings_after s))

    pub laying_all : n ≡ get_or t 0 0 → length t ≤ at → (scan t ≡ 0) × (starts ≡ (layout_of t).starts)
    unfolding verdict readings readings_after starts_from layout_of
    laying_all is h =
        let none : n - body ≡ 0 = omega (arith, same) in
        let e : take body starts ≡ starts_from n 1 (commands_of t) = sym (append-nil (take body starts)) ∙ (rw none at p.done) in
        let f : drop body starts ≡ replicate (16 - n) 0 = p.zeros ∙ ap (λ (k : ℕ). replicate (16 - k) 0) same in (
          sym p.rest ∙ rw (drop_of_length-le t h, eq-eqb _ _ same),
          sym (take-append-drop body starts) ∙ ap₂ (λ (x y : List ℕ). x ++ y) e f ∙ rw is,
        )
