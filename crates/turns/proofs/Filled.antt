-- A buffer filled from its start, element by element and as far as it reaches; what is past them stays.
use Prim.Native.Nat.{ℕ, ◌+◌, ◌≤◌, ◌<◌}
use native.Mathlib.Omega.{arith}
use native.Mathlib.Numerals.{add-one}
use mathlib.Core.Path.{◌≡◌, refl, sym, ap, ◌∙◌}
use mathlib.Core.List.{List, [], ◌∷◌, ◌++◌}
use lib.ListN.{length, take, drop, set, length-set, length-append, take-append-drop}
use lib.Seq.{drop-drop, drop-set-lt, take-suc-set, take_all, take-append-le}

-- The k elements of l, as far as the buffer reaches, and what was in it past them.
pub record Filled (before buffer l : List ℕ) (k : ℕ) : Type 0 where
  pub sized : length buffer ≡ length before
  pub count : length l ≡ k
  pub filled : take k buffer ≡ take (length before) l
  pub kept : drop k buffer ≡ drop k before

pub filled_none : (before : List ℕ) → Filled before before [] 0
filled_none before = record { sized = refl; count = refl; filled = sym (take_all (length before) [] (omega arith)); kept = refl }

module _ {before buffer l : List ℕ} {k : ℕ} (f : Filled before buffer l k) where
  longer : (v : ℕ) → length (l ++ (v ∷ [])) ≡ k + 1
  longer v = length-append l (v ∷ []) ∙ ap (λ (n : ℕ). n + 1) f.count

  past : drop (k + 1) buffer ≡ drop (k + 1) before
  past = sym (drop-drop 1 k buffer) ∙ ap (λ (x : List ℕ). drop 1 x) f.kept ∙ drop-drop 1 k before

  -- One more is stored.
  pub filled_store : (v : ℕ) → k < length buffer → Filled before (set buffer k v) (l ++ (v ∷ [])) (k + 1)
  filled_store v h =
      let m = f.sized in
      let n = f.count in
      let grown : take (k + 1) (set buffer k v) ≡ take k buffer ++ (v ∷ []) = rw (add-one k) (take-suc-set buffer k v h) in
      let whole : take (length before) l ≡ l = take_all (length before) l (omega arith) in
      record {
        sized = length-set buffer k v ∙ f.sized;
        count = longer v;
        filled = grown ∙ rw (f.filled, whole) (sym (take_all (length before) (l ++ (v ∷ [])) (rw (longer v) (omega arith))));
        kept = drop-set-lt (k + 1) buffer k v (omega arith) ∙ past;
      }

  -- Or the buffer has ended.
  pub filled_past : (v : ℕ) → length buffer ≤ k → Filled before buffer (l ++ (v ∷ [])) (k + 1)
  filled_past v h =
      let m = f.sized in
      let n = f.count in
      record {
        sized = f.sized;
        count = longer v;
        filled = take_all (k + 1) buffer (omega arith) ∙ sym (take_all k buffer h) ∙ f.filled ∙ sym (take-append-le (length before) l (v ∷ []) (omega arith));
        kept = past;
      }

  -- The end.
  pub filled_all : buffer ≡ take (length before) l ++ drop k before
  filled_all = sym (take-append-drop k buffer) ∙ rw (f.filled, f.kept)

  -- With room for all of them.
  pub filled_room : k ≤ length before → buffer ≡ l ++ drop k before
  filled_room h = let n = f.count in filled_all ∙ rw (take_all (length before) l (omega arith))
