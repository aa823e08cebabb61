-- Where the entries within an activity's 208 bytes stand.
use Rattle.std.specs.Prelude.{ℕ, ◌*◌, List}
use Rattle.encoding.specs.Bytes.{part}

-- the bytes of body d of the stack
abbrev pub frame_bytes : List ℕ → ℕ → List ℕ
frame_bytes b d = part (part b 80 128) (8 * d) 8

-- the bytes of clock name k
abbrev pub hold_bytes : List ℕ → ℕ → List ℕ
hold_bytes b k = part (part b 16 64) (8 * k) 8
