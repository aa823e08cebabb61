-- A run computed: who was spawned before a FINISH body began is not inside it, who was spawned by its owner during it is, and so is whom that one spawned.
use Prim.Native.Nat.{ℕ}
use mathlib.Core.Path.{◌≡◌, refl}
use mathlib.Core.List.{List, [], ◌∷◌}
use mathlib.Core.Bool.{true, false, ◌&&◌, not}
use Rattle.rules.specs.Steps.{base}
use Rattle.rules.specs.History.{insides}
use Rattle.rules.proofs.Opened.{rules_opened}

-- Body 0: ASYNC 3 0, FINISH 1, END; body 1: ASYNC 2 0, END; body 2: ASYNC 3 0, END; body 3: END.
unfoldable table : List ℕ
table = 0x04 ∷ 0x05 ∷ 0x03 ∷ 0x00 ∷ 0x06 ∷ 0x01 ∷ 0x00 ∷ 0x05 ∷ 0x02 ∷ 0x00 ∷ 0x00 ∷ 0x05 ∷ 0x03 ∷ 0x00 ∷ 0x00 ∷ 0x00 ∷ []

-- main spawns 1, begins the FINISH body and spawns 2 in it; 2 spawns 3
unfoldable order : List ℕ
order = 0 ∷ 0 ∷ 0 ∷ 2 ∷ []

told : not (insides base table order 0 1 1) && (insides base table order 0 1 2 && insides base table order 0 1 3) ≡ true
unfolding rules_opened table order
told = refl

-- 3 is not inside before it is spawned
untold : insides base table (0 ∷ 0 ∷ 0 ∷ []) 0 1 3 ≡ false
unfolding rules_opened table
untold = refl
