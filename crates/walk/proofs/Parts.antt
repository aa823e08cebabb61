-- A buffer whose bytes from a place on were lent and have come back.
use Prim.Native.Nat.{ℕ, ◌+◌, ◌≤◌}
use Rattle.std.proofs.Common.{le_refl}
use mathlib.Core.Path.{◌≡◌, ap, ◌∙◌}
use mathlib.Core.List.{List, ◌++◌}
use borrow.Rule.Slice.PartMut.{put_mid, post_of}
use lib.ListN.{length, take, drop}
use lib.Seq.{length-take-le, take-add, take-append-le, drop_at}
use Rattle.std.proofs.lemmas.Slice.{take-put_mid_below}

-- What came stands behind what stood before the place.
pub took : (a k n : ℕ) (xs ys : List ℕ) → a ≤ length xs → n ≤ length ys → take (a + n) (put_mid a k xs ys) ≡ take a xs ++ take n ys
took a k n xs ys h g =
    let whole = put_mid a k xs ys in
    let after = post_of a k xs in
    let front : take a whole ≡ take a xs = take-put_mid_below a k xs ys a (le_refl a) h in
    let back : take n (drop a whole) ≡ take n ys = ap (take n) (drop_at (take a xs) (ys ++ after) a (length-take-le a xs h)) ∙ take-append-le n ys after g in
    take-add a n whole ∙ ap (λ (l : List ℕ). l ++ take n (drop a whole)) front ∙ ap (λ (l : List ℕ). take a xs ++ l) back
