-- A command and its operand bytes: it looks at no others, and it has those that it was read from.
use Prim.Native.Nat.{ℕ, ◌+◌, ◌*◌, ◌/◌, ◌%◌, ◌<◌}
use native.Mathlib.Omega.{arith}
use mathlib.Core.List.{List, [], ◌∷◌, ◌++◌}
use mathlib.Core.Path.{◌≡◌, refl, ap, ◌∙◌}
use lib.ListN.{length, get_or, take}
use Rattle.program.specs.Command.{rows, row_at, operands_of, padded, command_of}
use Rattle.program.specs.Inner.Coding.{commands}
use Rattle.program.proofs.Basic.{Bytes}
use Rattle.program.proofs.ShapeReading.{firsts, each_op}

-- A command looks only at the operands that its row has.
pub looks : (x y z w : ℕ) (rest : List ℕ) (op : ℕ) → op < commands
    → command_of op (take (length (row_at op).operands) (x ∷ y ∷ z ∷ w ∷ []) ++ rest) ≡ command_of op (x ∷ y ∷ z ∷ w ∷ [])
unfolding rows row_at command_of
looks x y z w rest op =
    each_op (λ (k : ℕ). command_of k (take (length (row_at k).operands) (x ∷ y ∷ z ∷ w ∷ []) ++ rest) ≡ command_of k (x ∷ y ∷ z ∷ w ∷ []))
    refl refl refl refl refl refl refl refl refl refl refl refl refl refl refl refl refl refl op

-- The four bytes of a value come back.
low : (x u : ℕ) → x < 256 → (x + 256 * u) % 256 ≡ x
low x u h = omega arith

high : (x u : ℕ) → x < 256 → (x + 256 * u) / 256 ≡ u
high x u h = omega arith

higher : (x u : ℕ) → x < 65536 → (x + 65536 * u) / 65536 ≡ u
higher x u h = omega arith

highest : (x u : ℕ) → x < 16777216 → (x + 16777216 * u) / 16777216 ≡ u
highest x u h = omega arith

word_bytes : (x y z w : ℕ) → x < 256 → y < 256 → z < 256 → w < 256
    → let v = x + 256 * y + 65536 * z + 16777216 * w in (v % 256 ∷ v / 256 % 256 ∷ v / 65536 % 256 ∷ v / 16777216 % 256 ∷ []) ≡ x ∷ y ∷ z ∷ w ∷ []
word_bytes x y z w hx hy hz hw =
    let v = x + 256 * y + 65536 * z + 16777216 * w in
    let e : v ≡ x + 256 * (y + 256 * (z + 256 * w)) = omega arith in
    let f : v ≡ x + 256 * y + 65536 * (z + 256 * w) = omega arith in
    let a : v % 256 ≡ x = rw e (low x (y + 256 * (z + 256 * w)) hx) in
    let b : v / 256 % 256 ≡ y = ap (λ (u : ℕ). u / 256 % 256) e ∙ rw (high x (y + 256 * (z + 256 * w)) hx) (low y (z + 256 * w) hy) in
    let c : v / 65536 % 256 ≡ z = ap (λ (u : ℕ). u / 65536 % 256) f ∙ rw (higher (x + 256 * y) (z + 256 * w) (omega arith)) (low z w hz) in
    let d : v / 16777216 % 256 ≡ w = rw (highest (x + 256 * y + 65536 * z) w (omega arith)) (omega arith) in
    rw (a, b, c, d)

-- A command has the operands that it was read from.
abbrev Back : List ℕ → ℕ → Type 0
Back s op = take (length (row_at op).operands) (padded (operands_of (command_of op s))) ≡ firsts (row_at op).operands s 0

pub back : (s : List ℕ) → Bytes s → (op : ℕ) → op < commands → Back s op
unfolding rows row_at command_of
back s h op =
    each_op (Back s) refl refl refl refl refl refl refl refl refl refl refl refl
    (word_bytes (get_or s 0 0) (get_or s 1 0) (get_or s 2 0) (get_or s 3 0) (h 0) (h 1) (h 2) (h 3))
    refl refl refl refl refl op
