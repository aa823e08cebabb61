-- Numbers and lists of parts as bytes.
use Rattle.std.specs.Prelude.{ℕ, zero, suc, ◌+◌, ◌*◌, ◌/◌, ◌%◌, List, [], ◌∷◌, ◌++◌, Bool, true, ◌&&◌, get_or, take, drop, eqb}

-- "Numbers of more than one byte stand lowest byte first": the k lowest bytes of a number
unfoldable pub bytes_of : ℕ → ℕ → List ℕ
bytes_of zero x = []
bytes_of (suc k) x = x % 256 ∷ bytes_of k (x / 256)

-- the number that bytes stand for
unfoldable pub number_of : List ℕ → ℕ
number_of [] = 0
number_of (x ∷ b) = x + 256 * number_of b

-- the k bytes from a place on
abbrev pub part : List ℕ → ℕ → ℕ → List ℕ
part b at k = take k (drop at b)

-- the byte at a place
abbrev pub byte_at : List ℕ → ℕ → ℕ
byte_at b at = get_or b at 0

-- "Bytes marked reserved are 0"
unfoldable pub all_zero : List ℕ → Bool
all_zero [] = true
all_zero (x ∷ b) = eqb x 0 && all_zero b

-- any bytes pass
abbrev pub untested : List ℕ → Bool
untested b = true

-- LISTS OF PARTS

-- each entry's bytes, one after the other
unfoldable pub encode_each : {A : Type 0} → (A → List ℕ) → List A → List ℕ
encode_each f [] = []
encode_each f (x ∷ l) = f x ++ encode_each f l

-- the entries of n parts of k bytes each
unfoldable pub parts_at : {A : Type 0} → ℕ → ℕ → (List ℕ → A) → List ℕ → List A
parts_at k zero f b = []
parts_at k (suc n) f b = f (take k b) ∷ parts_at k n f (drop k b)

-- each of n parts of k bytes passes a test
unfoldable pub parts_pass : ℕ → ℕ → (List ℕ → Bool) → List ℕ → Bool
parts_pass k zero p b = true
parts_pass k (suc n) p b = p (take k b) && parts_pass k n p (drop k b)
