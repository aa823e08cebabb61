-- One list over another, element by element.
use Prim.Native.Nat.{ℕ, suc, ◌+◌, ◌≤◌, ◌<◌}
use native.Mathlib.Omega.{arith}
use native.Mathlib.Numerals.{add-one}
use mathlib.Core.List.{List, ◌∷◌, ◌++◌, append-nil}
use mathlib.Core.Path.{◌≡◌, ap, ◌∙◌}
use lib.ListN.{length, get_or, take, drop, set, drop_of_length-le}
use lib.Seq.{length-take-le, take_all, take-suc, drop-cons, append_snoc, set_at}

module _ {A : Type 0} (a b : List A) where
  -- The first i of a, and b behind them.
  abbrev pub copied : ℕ → List A
  copied i = take i a ++ drop i b

  -- One more.
  pub copied_more : (i : ℕ) (d : A) → i < length a → i < length b → set (copied i) i (get_or a i d) ≡ copied (i + 1)
  copied_more i d h k =
      let put : set (copied i) i (get_or a i d) ≡ take i a ++ get_or a i d ∷ drop (suc i) b
      = ap (λ (l : List A). set (take i a ++ l) i (get_or a i d)) (drop-cons b i d k)
      ∙ set_at (take i a) (get_or b i d) (drop (suc i) b) (get_or a i d) i (length-take-le i a (omega arith)) in
      rw (add-one, take-suc a i d h, append_snoc) put

  -- All of a over all of b.
  pub copied_all : (i : ℕ) → length a ≤ i → i ≤ length a → length b ≤ i → copied i ≡ a
  copied_all i h k l =
      let e : i ≡ length a = omega arith in
      rw (e, take_all (length a) a (omega arith), drop_of_length-le b {i = length a} (omega arith)) (append-nil a)
