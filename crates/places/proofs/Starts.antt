-- The body of a frame that stands on a command has a start, and it lies inside the table.
use Prim.Native.Nat.{ℕ, ◌≤◌, ◌<◌}
use mathlib.Core.Path.{◌≡◌}
use mathlib.Core.List.{List}
use mathlib.Core.Bool.{true}
use lib.ListN.{length, get_or}
use Rattle.program.specs.Bodies.{program_of}
use Rattle.program.proofs.LocatedBytes.{length_starts}
use Rattle.rules.specs.declared.state.Frame.{Frame}
use Rattle.rules.specs.WellFormed.{is_placed}
use Rattle.places.specs.Known.{Known}
use Rattle.places.proofs.Places.{body_small, code_inside}

module _ {t starts : List ℕ} (f : Frame) (k : Known t starts) (on : is_placed (program_of t) f ≡ true) where
  pub body_there : f.body < length starts
  body_there = let b = body_small t k.scanned f on in rw (k.laid, length_starts t k.scanned) b

  pub code_there : get_or starts f.body 0 ≤ length t
  code_there = rw k.laid (code_inside t k.scanned f on)
