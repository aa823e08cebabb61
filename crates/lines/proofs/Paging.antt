-- The lines of a walk, page by page.
use Prim.Native.Nat.{ℕ, zero, suc, ◌+◌, ◌^◌, ◌/◌, ◌<◌, ◌≤◌}
use mathlib.Core.Bool.{Bool, true, false, cond}
use mathlib.Core.Path.{◌≡◌, refl, sym, ap, ◌∙◌, subst}
use mathlib.Core.List.{List, [], ◌∷◌, ◌++◌, append_assoc, append-nil}
use native.Mathlib.Numerals.{add-one}
use native.Mathlib.Omega.{arith}
use borrow.Author.Tests.{ltb-true, ltb-false, lt-ltb, le-ltb, ne_eqb, eq-eqb}
use Rattle.std.specs.Prelude.{max, min}
use lib.Dec.{ltb, eqb}
use lib.ListN.{length, take, drop, get_or, length-append, take-append-drop}
use lib.Seq.{slice, slice_empty, slice-cons, length-slice, take-suc, take-take, length-take-le, drop-append-le}
use Rattle.lines.specs.Text.{last_digit, digits_of, decimal_of, awaited_of, line_of, total_of, refused_of}
use Rattle.lines.specs.Walk.{steps_of, steps_in, lines_from}
use Rattle.lines.specs.declared.put.Text.{Text}
use Rattle.lines.specs.Put.{Put}
use Rattle.lines.specs.Paged.{lines_between, Paged}
use Rattle.lines.proofs.Putting.{both, none, kept}

-- STEPS

pub steps_zero : {a : ℕ} → a ≡ 0 → steps_of a ≡ 1
unfolding steps_of
steps_zero {a} e = rw (eq-eqb a 0 e)

pub steps_refused : {a : ℕ} → (a ≡ 0 → ⊥) → a < 100 → steps_of a ≡ 0
unfolding steps_of
steps_refused {a} n h = rw (ne_eqb a 0 n, lt-ltb a 100 h)

pub steps_fault : {a : ℕ} → (a ≡ 0 → ⊥) → 100 ≤ a → steps_of a ≡ 1
unfolding steps_of
steps_fault {a} n h = rw (ne_eqb a 0 n, le-ltb a 100 h)

pub steps_le : (a : ℕ) → steps_of a ≤ 1
unfolding steps_of
steps_le a = go (eqb a 0) (ltb a 100)
  where
    go : (x y : Bool) → cond x 1 (cond y 0 1) ≤ 1
    go true y = omega arith
    go false true = omega arith
    go false false = omega arith

steps_append : (xs ys : List ℕ) → steps_in (xs ++ ys) ≡ steps_in xs + steps_in ys
unfolding steps_in
steps_append [] ys = omega arith
steps_append (x ∷ xs) ys = let q = steps_append xs ys in omega arith

steps_one : (x : ℕ) → steps_in (x ∷ []) ≡ steps_of x
unfolding steps_in
steps_one x = omega arith

pub steps_none : steps_in [] ≡ 0
unfolding steps_in
steps_none = refl

-- An answer more.
pub steps_more : (answers : List ℕ) (i : ℕ) → i < length answers → steps_in (take (i + 1) answers) ≡ steps_in (take i answers) + steps_of (get_or answers i 0)
steps_more answers i h =
    ap (λ (k : ℕ). steps_in (take k answers)) (add-one i)
    ∙ ap steps_in (take-suc answers i 0 h)
    ∙ steps_append (take i answers) (get_or answers i 0 ∷ [])
    ∙ ap (λ (k : ℕ). steps_in (take i answers) + k) (steps_one (get_or answers i 0))

pub steps_below : (n : ℕ) (l : List ℕ) → steps_in (take n l) ≤ n
unfolding steps_in
steps_below zero l = omega arith
steps_below (suc n) [] = omega arith
steps_below (suc n) (x ∷ l) = let q = steps_below n l in omega (arith, steps_le x)

-- LINES

-- Lines after lines.
lines_append : (n t : ℕ) (xs ys zs xs' ys' zs' : List ℕ) → length xs ≡ length ys → length ys ≡ length zs
    → lines_from n t (xs ++ xs') (ys ++ ys') (zs ++ zs') ≡ lines_from n t xs ys zs ++ lines_from (n + length xs) (t + steps_in ys) xs' ys' zs'
unfolding lines_from steps_in
lines_append n t [] [] [] xs' ys' zs' e d =
    let a : n ≡ n + 0 = omega arith in
    let b : t ≡ t + 0 = omega arith in
    ap (λ (k : ℕ). lines_from k t xs' ys' zs') a ∙ ap (λ (k : ℕ). lines_from (n + 0) k xs' ys' zs') b
lines_append n t [] [] (z ∷ zs) xs' ys' zs' e d = absurd (omega arith)
lines_append n t [] (y ∷ ys) zs xs' ys' zs' e d = absurd (omega arith)
lines_append n t (x ∷ xs) [] zs xs' ys' zs' e d = absurd (omega arith)
lines_append n t (x ∷ xs) (y ∷ ys) [] xs' ys' zs' e d = absurd (omega arith)
lines_append n t (x ∷ xs) (y ∷ ys) (z ∷ zs) xs' ys' zs' e d =
    let a : n + 1 + length xs ≡ n + suc (length xs) = omega arith in
    let b : t + steps_of y + steps_in ys ≡ t + (steps_of y + steps_in ys) = omega arith in
    let first = line_of (n + 1) x y (t + steps_of y) z in
    let others = lines_from (n + 1) (t + steps_of y) xs ys zs in
    ap (λ (l : List ℕ). first ++ l) (lines_append (n + 1) (t + steps_of y) xs ys zs xs' ys' zs' (omega arith) (omega arith))
    ∙ sym (append_assoc first others _)
    ∙ ap (λ (k : ℕ). first ++ others ++ lines_from k (t + steps_of y + steps_in ys) xs' ys' zs') a
    ∙ ap (λ (k : ℕ). first ++ others ++ lines_from (n + suc (length xs)) k xs' ys' zs') b

-- A part of a list is the two parts that a place between makes of it.
slice_join : (l : List ℕ) (a b c : ℕ) → a ≤ b → b ≤ c → b ≤ length l → slice a c l ≡ slice a b l ++ slice b c l
slice_join l a b c h g o =
    let first = take-take b c l g in
    let fits : a ≤ length (take b (take c l)) = omega (arith, ap length first, length-take-le b l o) in
    ap (drop a) (sym (take-append-drop b (take c l)))
    ∙ drop-append-le a (take b (take c l)) (drop b (take c l)) fits
    ∙ ap (λ (r : List ℕ). drop a r ++ slice b c l) first

steps_join : (l : List ℕ) (a b : ℕ) → a ≤ b → steps_in (take b l) ≡ steps_in (take a l) + steps_in (slice a b l)
steps_join l a b h =
    ap steps_in (sym (take-append-drop a (take b l)))
    ∙ steps_append (take a (take b l)) (slice a b l)
    ∙ ap (λ (r : List ℕ). steps_in r + steps_in (slice a b l)) (take-take a b l h)

-- Lines between two numbers are those up to a number between them, and those from there on.
pub between_join : (order answers awaited : List ℕ) (a b c : ℕ) → a ≤ b → b ≤ c → b ≤ length order → b ≤ length answers → b ≤ length awaited
    → lines_between order answers awaited a c ≡ lines_between order answers awaited a b ++ lines_between order answers awaited b c
unfolding lines_between
between_join order answers awaited a b c h g o p q =
    let x = length-slice a b order o in
    let y = length-slice a b answers p in
    let z = length-slice a b awaited q in
    let at : a + length (slice a b order) ≡ b = omega arith in
    let before = steps_in (take a answers) in
    let first = lines_from a before (slice a b order) (slice a b answers) (slice a b awaited) in
    ap (λ (l : List ℕ). lines_from a before l (slice a c answers) (slice a c awaited)) (slice_join order a b c h g o)
    ∙ ap (λ (l : List ℕ). lines_from a before (slice a b order ++ slice b c order) l (slice a c awaited)) (slice_join answers a b c h g p)
    ∙ ap (lines_from a before (slice a b order ++ slice b c order) (slice a b answers ++ slice b c answers)) (slice_join awaited a b c h g q)
    ∙ lines_append a before (slice a b order) (slice a b answers) (slice a b awaited) (slice b c order) (slice b c answers) (slice b c awaited)
    (x ∙ sym y) (y ∙ sym z)
    ∙ ap (λ (n : ℕ). first ++ lines_from n (before + steps_in (slice a b answers)) (slice b c order) (slice b c answers) (slice b c awaited)) at
    ∙ ap (λ (n : ℕ). first ++ lines_from b n (slice b c order) (slice b c answers) (slice b c awaited)) (sym (steps_join answers a b h))

-- No line, and one.
pub between_none : (order answers awaited : List ℕ) (a : ℕ) → lines_between order answers awaited a a ≡ []
unfolding lines_between lines_from
between_none order answers awaited a = rw (slice_empty a order)

-- The line after so many, with the steps taken by then.
abbrev line_at : List ℕ → List ℕ → List ℕ → ℕ → ℕ → List ℕ
line_at order answers awaited a taken = line_of (a + 1) (get_or order a 0) (get_or answers a 0) taken (get_or awaited a 0)

between_one : (order answers awaited : List ℕ) (a : ℕ) → a < length order → a < length answers → a < length awaited
    → lines_between order answers awaited a (a + 1) ≡ line_at order answers awaited a (steps_in (take (a + 1) answers))
unfolding lines_between lines_from
between_one order answers awaited a h g k =
    let before = steps_in (take a answers) in
    ap (λ (l : List ℕ). lines_from a before l (slice a (a + 1) answers) (slice a (a + 1) awaited)) (slice_one order a h)
    ∙ ap (λ (l : List ℕ). lines_from a before (get_or order a 0 ∷ []) l (slice a (a + 1) awaited)) (slice_one answers a g)
    ∙ ap (lines_from a before (get_or order a 0 ∷ []) (get_or answers a 0 ∷ [])) (slice_one awaited a k)
    ∙ append-nil (line_at order answers awaited a (before + steps_of (get_or answers a 0)))
    ∙ ap (line_at order answers awaited a) (sym (steps_more answers a g))
  where
    slice_one : (l : List ℕ) (a : ℕ) → a < length l → slice a (a + 1) l ≡ get_or l a 0 ∷ []
    slice_one l a h =
        let e : a + 1 ≡ suc a = add-one a in
        let t : a < suc a = omega arith in
        let u : suc a ≤ length l = omega arith in
        ap (λ (n : ℕ). slice a n l) e ∙ slice-cons a (suc a) l 0 t u ∙ ap (λ (r : List ℕ). get_or l a 0 ∷ r) (slice_empty (suc a) l)

-- A line more.
pub between_more : (order answers awaited : List ℕ) (a b : ℕ) → a ≤ b → b < length order → b < length answers → b < length awaited
    → lines_between order answers awaited a (b + 1) ≡ lines_between order answers awaited a b ++ line_at order answers awaited b (steps_in (take (b + 1) answers))
between_more order answers awaited a b h o p q =
    between_join order answers awaited a b (b + 1) h (omega arith) (omega arith) (omega arith) (omega arith)
    ∙ ap (λ (l : List ℕ). lines_between order answers awaited a b ++ l) (between_one order answers awaited b o p q)

-- LENGTHS

-- A number below a power of ten has at most so many digits.
digits_length : (k f n : ℕ) → n < 10 ^ suc k → length (digits_of f n) ≤ suc k
unfolding digits_of
digits_length k zero n h = omega arith
digits_length zero (suc f) n h = let small : n < 10 = omega arith in rw (lt-ltb n 10 small) (omega arith)
digits_length (suc k) (suc f) n h = go (ltb n 10) (digits_length k f (n / 10))
  where
    go : (b : Bool) → (n / 10 < 10 ^ suc k → length (digits_of f (n / 10)) ≤ suc k) → length (cond b (last_digit n ∷ []) (digits_of f (n / 10) ++ (last_digit n ∷ []))) ≤ suc (suc k)
    go true ih = omega arith
    go false ih =
        let less : n / 10 < 10 ^ suc k = omega arith in
        let q = ih less in
        omega (arith, length-append (digits_of f (n / 10)) (last_digit n ∷ []))

decimal_length : (n : ℕ) → n < 18446744073709551616 → length (decimal_of n) ≤ 20
unfolding decimal_of
decimal_length n h = digits_length 19 (suc n) n (omega arith)

awaited_length : (answer n : ℕ) → n < 18446744073709551616 → length (awaited_of answer n) ≤ 21
unfolding awaited_of
awaited_length answer n h = go (eqb answer 16)
  where
    go : (b : Bool) → length (cond b (32 ∷ decimal_of n) []) ≤ 21
    go true = omega (arith, decimal_length n h)
    go false = omega arith

-- A line has at most 105 bytes.
pub line_length : (line act answer taken awaited : ℕ) → line < 18446744073709551616 → act < 18446744073709551616 → answer < 18446744073709551616
    → taken < 18446744073709551616 → awaited < 18446744073709551616 → length (line_of line act answer taken awaited) ≤ 105
unfolding line_of
line_length line act answer taken awaited a b c d e =
    let v = decimal_length line a in
    let w = decimal_length act b in
    let x = decimal_length answer c in
    let y = decimal_length taken d in
    let z = awaited_length answer awaited e in
    simp length-append (omega arith)

-- A total has at most 118 bytes, and the line of a table turned down at most 27.
pub total_length : (work taken ended spawned : ℕ) → work < 18446744073709551616 → taken < 18446744073709551616 → ended < 18446744073709551616
    → spawned < 18446744073709551616 → length (total_of work taken ended spawned) ≤ 118
unfolding total_of
total_length work taken ended spawned a b c d =
    let w = decimal_length work a in
    let x = decimal_length taken b in
    let y = decimal_length ended c in
    let z = decimal_length spawned d in
    simp length-append (omega arith)

pub refused_length : (number : ℕ) → number < 18446744073709551616 → length (refused_of number) ≤ 27
unfolding refused_of
refused_length number a =
    let w = decimal_length number a in
    simp length-append (omega arith)

-- A PAGE UNDER WAY

-- The lines before the next stand at the text's end, whole.
pub record Under (before : Text) (order answers awaited : List ℕ) (line : ℕ) (text : Text) (taken next : ℕ) : Type 0 where
  pub put : Put before (lines_between order answers awaited line next) text
  pub whole : text.end ≡ before.end + length (lines_between order answers awaited line next)
  pub onward : line ≤ next
  pub within : next ≤ max line (min (length order) (min (length answers) (length awaited)))
  pub counted : taken ≡ steps_in (take next answers)
  pub fewer : taken ≤ next

module _ (before : Text) (order answers awaited : List ℕ) (line : ℕ) where
  pub under_start : {taken : ℕ} → taken ≡ steps_in (take line answers) → Under before order answers awaited line before taken line
  under_start {taken} e =
      let nothing = between_none order answers awaited line in
      let below = steps_below line answers in
      record {
        put = subst (λ (t : List ℕ). Put before t before) (sym nothing) none;
        whole = omega (arith, ap length nothing);
        onward = omega arith;
        within = omega arith;
        counted = e;
        fewer = omega arith;
      }

  module _ {text : Text} {taken next : ℕ} (u : Under before order answers awaited line text taken next) where
    -- A line more.
    pub under_more : {after : Text} {steps : ℕ} → next < length order → next < length answers → next < length awaited → text.end + 128 ≤ length text.out.now
        → steps ≡ steps_of (get_or answers next 0) → Put text (line_at order answers awaited next (taken + steps)) after
        → next + 1 < 18446744073709551616 → get_or order next 0 < 256 → get_or answers next 0 < 256 → get_or awaited next 0 < 256
        → Under before order answers awaited line after (taken + steps) (next + 1)
    under_more {after} {steps} o a w room e p wide act answer number =
        let sum : taken + steps ≡ steps_in (take (next + 1) answers) = omega (arith, steps_more answers next a, u.counted) in
        let below = steps_below (next + 1) answers in
        let text = between_more order answers awaited line next u.onward o a w in
        let here = lines_between order answers awaited line next in
        let text' : lines_between order answers awaited line (next + 1) ≡ here ++ line_at order answers awaited next (taken + steps)
        = text ∙ ap (λ (n : ℕ). here ++ line_at order answers awaited next n) (sym sum) in
        let small =
        line_length (next + 1) (get_or order next 0) (get_or answers next 0) (taken + steps) (get_or awaited next 0) wide (omega arith) (omega arith) (omega arith) (omega arith) in
        let long = ap length text' ∙ length-append here (line_at order answers awaited next (taken + steps)) in
        record {
          put = subst (λ (t : List ℕ). Put before t after) (sym text') (both u.put p);
          whole = omega (arith, u.whole, p.place);
          onward = omega (arith, u.onward);
          within = omega arith;
          counted = sum;
          fewer = omega arith;
        }

    -- Where it stops.
    pub under_end : (next < length order → next < length answers → next < length awaited → length text.out.now < text.end + 128)
        → Paged before order answers awaited line text next
    under_end stop =
        record {
          put = u.put;
          whole = u.whole;
          onward = u.onward;
          within = λ h. omega (arith, u.within);
          full = λ o a w. omega (arith, stop o a w, kept u.put);
          goes = λ o a w room. go o a w room (ltb line next) refl;
        }
      where
        go : line < length order → line < length answers → line < length awaited → before.end + 128 ≤ length before.out.now → (b : Bool) → ltb line next ≡ b → line < next
        go o a w room true e = ltb-true line next e
        go o a w room false e =
            let same : next ≡ line = omega (arith, ltb-false line next e, u.onward) in
            let empty = ap (λ (n : ℕ). length (lines_between order answers awaited line n)) same ∙ ap length (between_none order answers awaited line) in
            absurd (omega (arith, u.whole, stop (omega arith) (omega arith) (omega arith), kept u.put))
