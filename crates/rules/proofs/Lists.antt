-- Reading a list after a store: what was stored, or what stood there.
use Prim.Native.Nat.{ℕ, zero, suc}
use mathlib.Core.List.{List, [], ◌∷◌}
use mathlib.Core.Path.{◌≡◌, refl, ap}
use lib.ListN.{get_or, set}

-- what stands at a place after a store is what was stored or what stood there
pub data Stored {A : Type 0} (l : List A) (i : ℕ) (a : A) (j : ℕ) (d : A) : Type 0 where
  new : j ≡ i → get_or (set l i a) j d ≡ a → Stored l i a j d
  old : get_or (set l i a) j d ≡ get_or l j d → Stored l i a j d

pub stored : {A : Type 0} (l : List A) (i : ℕ) (a : A) (j : ℕ) (d : A) → Stored l i a j d
stored [] i a j d = old refl
stored (x ∷ l) zero a zero d = new refl refl
stored (x ∷ l) zero a (suc j) d = old refl
stored (x ∷ l) (suc i) a zero d = old refl
stored (x ∷ l) (suc i) a (suc j) d = go (stored l i a j d)
  where
    go : Stored l i a j d → Stored (x ∷ l) (suc i) a (suc j) d
    go (new e p) = new (ap suc e) p
    go (old p) = old p
