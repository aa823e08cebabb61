-- Laws of entries and of the bytes that they make.
use Prim.Native.Nat.{ℕ, ◌+◌, ◌<◌}
use native.Mathlib.Omega.{arith}
use native.Mathlib.Numerals.{add-one}
use mathlib.Core.List.{List, [], ◌∷◌, ◌++◌}
use mathlib.Core.Bool.{cond}
use mathlib.Core.Path.{◌≡◌}
use lib.ListN.{length, get_or, take, drop, length-append}
use lib.Seq.{length-take-le, drop-cons}
use lib.Dec.{eqb}
use Rattle.program.specs.Command.{row_at, width_at}
use Rattle.program.proofs.RowLaws.{width_few}
use Rattle.builder.specs.Build.{bytes_in, ends_in, bytes_of}

-- Each entry is five bytes.
abbrev pub Five : List (List ℕ) → Type 0
Five entries = (i : ℕ) → i < length entries → length (get_or entries i []) ≡ 5

-- Five bytes, one by one.
pub data Entry : List ℕ → Type 0 where
  bytes : (op x y z w : ℕ) → Entry (op ∷ x ∷ y ∷ z ∷ w ∷ [])

pub five_bytes : (l : List ℕ) → length l ≡ 5 → Entry l
five_bytes [] h = absurd (let v : ⊥ = omega arith in v)
five_bytes (op ∷ []) h = absurd (let v : ⊥ = omega arith in v)
five_bytes (op ∷ x ∷ []) h = absurd (let v : ⊥ = omega arith in v)
five_bytes (op ∷ x ∷ y ∷ []) h = absurd (let v : ⊥ = omega arith in v)
five_bytes (op ∷ x ∷ y ∷ z ∷ []) h = absurd (let v : ⊥ = omega arith in v)
five_bytes (op ∷ x ∷ y ∷ z ∷ w ∷ []) h = bytes op x y z w
five_bytes (op ∷ x ∷ y ∷ z ∷ w ∷ v ∷ l) h = absurd (let v : ⊥ = omega arith in v)

-- The bytes of an entry are its command byte and the operands that the row has.
pub bytes_split : (op : ℕ) (l : List ℕ) → bytes_in (op ∷ l) ≡ op ∷ take (length (row_at op).operands) l
unfolding bytes_in width_at
bytes_split op l = rw add-one

-- An entry makes as many bytes as its command byte says.
pub bytes_long : (entry : List ℕ) → length entry ≡ 5 → length (bytes_in entry) ≡ width_at (get_or entry 0 0)
unfolding bytes_in
bytes_long entry h = length-take-le (width_at (get_or entry 0 0)) entry (let w = width_few (get_or entry 0 0) in omega arith)

-- The entries from i on: the i-th, and those after it.
pub bytes_next : (entries : List (List ℕ)) (i : ℕ) → i < length entries → bytes_of (drop i entries) ≡ bytes_in (get_or entries i []) ++ bytes_of (drop (i + 1) entries)
unfolding bytes_of
bytes_next entries i h = rw (drop-cons entries i [] h, add-one)

pub ends_next : (entries : List (List ℕ)) (i : ℕ) → i < length entries → ends_in (drop i entries) ≡ cond (eqb (get_or (get_or entries i []) 0 0) 0x00) 1 0 + ends_in (drop (i + 1) entries)
unfolding ends_in
ends_next entries i h = rw (drop-cons entries i [] h, add-one)

-- A list with an END makes some byte.
pub ends_some : (entries : List (List ℕ)) → Five entries → 0 < ends_in entries → 0 < length (bytes_of entries)
unfolding ends_in bytes_of width_at
ends_some [] five h = absurd (let y : ⊥ = omega arith in y)
ends_some (l ∷ entries) five h = let w = bytes_long l (five 0 (omega arith)) in rw length-append (omega arith)
