-- Pages joined are the whole text of the lines.
use Prim.Native.Nat.{ℕ, ◌+◌, ◌≤◌}
use mathlib.Core.Path.{◌≡◌, refl, sym, ap, ◌∙◌}
use mathlib.Core.List.{List, [], ◌∷◌, ◌++◌}
use native.Mathlib.Omega.{arith}
use lib.ListN.{length, take, drop}
use lib.Seq.{sets, sets-eq, take_at, take_all}
use Rattle.lines.specs.declared.put.Text.{Text}
use Rattle.lines.specs.Put.{Put}
use Rattle.lines.specs.Text.{header_of, line_of, total_of}
use Rattle.lines.specs.Walk.{steps_of, steps_in, lines_from, walk_text}
use Rattle.lines.specs.Paged.{lines_between, Pages, over, page, joined}
use Rattle.lines.proofs.Paging.{between_none, between_join}

-- What is put whole at a buffer's start is what stands before the text's end.
pub handed : {a b : Text} {xs : List ℕ} → Put a xs b → a.end ≡ 0 → b.end ≡ a.end + length xs → take b.end b.out.now ≡ xs
handed {a} {b} {xs} p z e =
    let fits : 0 + length xs ≤ length a.out.now = omega (arith, p.place) in
    let size : length xs ≡ b.end = omega arith in
    ap (take b.end) (p.holds ∙ ap (λ (n : ℕ). sets a.out.now n xs) z ∙ sets-eq xs a.out.now 0 fits) ∙ take_at xs (drop (0 + length xs) a.out.now) b.end size

-- Pages from a line on, joined, are the lines from it on.
pages_join : (order answers awaited : List ℕ) → length order ≤ length answers → length order ≤ length awaited
    → {line : ℕ} {pieces : List (List ℕ)} → line ≤ length order → Pages order answers awaited line pieces → joined pieces ≡ lines_between order answers awaited line (length order)
unfolding joined
pages_join order answers awaited room size {line} h (over g) =
    let last : length order ≡ line = omega arith in
    sym (between_none order answers awaited line) ∙ ap (lines_between order answers awaited line) (sym last)
pages_join order answers awaited room size {line} h (page {next = next} {more = rest} z p more) =
    let within = p.within h in
    ap (λ (l : List ℕ). l ++ joined rest) (handed p.put z p.whole)
    ∙ ap (λ (l : List ℕ). lines_between order answers awaited line next ++ l) (pages_join order answers awaited room size within more)
    ∙ sym (between_join order answers awaited line next (length order) p.onward within within (omega arith) (omega arith))

-- Answers and numbers past the order make no line.
lines_take : (n t : ℕ) (order answers awaited : List ℕ)
    → lines_from n t order (take (length order) answers) (take (length order) awaited) ≡ lines_from n t order answers awaited
unfolding lines_from
lines_take n t [] answers awaited = refl
lines_take n t (x ∷ order) [] awaited = refl
lines_take n t (x ∷ order) (y ∷ answers) [] = refl
lines_take n t (x ∷ order) (y ∷ answers) (z ∷ awaited) =
    ap (λ (l : List ℕ). line_of (n + 1) x y (t + steps_of y) z ++ l) (lines_take (n + 1) (t + steps_of y) order answers awaited)

-- All lines.
pub between_all : (order answers awaited : List ℕ) → lines_between order answers awaited 0 (length order) ≡ lines_from 0 0 order answers awaited
unfolding lines_between steps_in
between_all order answers awaited =
    ap (λ (l : List ℕ). lines_from 0 0 l (take (length order) answers) (take (length order) awaited)) (take_all (length order) order (omega arith))
    ∙ lines_take 0 0 order answers awaited

-- The header, the pages and the total are the whole text.
pub text_whole : (order answers awaited : List ℕ) (work taken ended spawned : ℕ) → length order ≤ length answers → length order ≤ length awaited
    → {pieces : List (List ℕ)} → Pages order answers awaited 0 pieces
    → header_of ++ joined pieces ++ total_of work taken ended spawned ≡ walk_text order answers awaited work taken ended spawned
unfolding walk_text
text_whole order answers awaited work taken ended spawned room size pages =
    ap (λ (l : List ℕ). header_of ++ l ++ total_of work taken ended spawned)
    (pages_join order answers awaited room size (omega arith) pages ∙ between_all order answers awaited)

-- Answers and numbers past the order change nothing of it.
pub text_past : (order answers awaited : List ℕ) (work taken ended spawned : ℕ)
    → walk_text order (take (length order) answers) (take (length order) awaited) work taken ended spawned
    ≡ walk_text order answers awaited work taken ended spawned
unfolding walk_text
text_past order answers awaited work taken ended spawned =
    ap (λ (l : List ℕ). header_of ++ l ++ total_of work taken ended spawned) (lines_take 0 0 order answers awaited)
