-- What a count of bytes at a buffer's start promises.
use Rattle.std.specs.Prelude.{ℕ, List, ◌≤◌, ◌<◌, ◌≡◌, length, take}
use Rattle.std.specs.declared.option.Option.{Option}
use Rattle.std.specs.Io.KnownBytes.{Consumes, IsAtEnd}

-- The buffer has so many bytes at its start.
abbrev pub IsPrefixLen : ℕ → List ℕ → Type 0
IsPrefixLen n xs = (n ≤ length xs) × (n ≡ length (take n xs))

-- A file's next bytes, so many, stand at the buffer's start, where it is known which those are; and none is left where there was room for more.
abbrev pub Consumed : Option (List ℕ) → Option (List ℕ) → ℕ → List ℕ → Type 0 → Type 0
Consumed old new n buf more = Consumes old new (take n buf) × (more → 0 < length buf → IsAtEnd new)
