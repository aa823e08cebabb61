-- The place clause of number 13: where a frame passes its test, it stands on a command of an accepted program, and where it stands on one, it passes.
use Prim.Native.Nat.{◌<◌}
use mathlib.Core.List.{[]}
use mathlib.Core.Bool.{true, false}
use mathlib.Core.Path.{◌≡◌}
use lib.ListN.{length, get_or}
use lib.Dec.{ltb}
use borrow.Author.Tests.{ltb-true, lt-ltb}
use Rattle.program.specs.Command.{is_end}
use Rattle.program.specs.Bodies.{Program, head_of, tail_of}
use Rattle.program.proofs.Shape.{Sound, Accepted}
use Rattle.program.proofs.Located.{place_from, from_place}
use Rattle.rules.specs.declared.state.Frame.{Frame}
use Rattle.rules.specs.Tree.{rest, here}
use Rattle.rules.specs.WellFormed.{is_placed}
use Rattle.rules.proofs.Tests.{and_true, and_intro}
use Rattle.rules.proofs.Bodies as bodies
use Rattle.rules.proofs.Bodies.{Placed, moved, stands, onward, placed_on}

-- what the test says
unfoldable placed : (p : Program) (f : Frame) → is_placed p f ≡ true → Placed p f
unfolding is_placed rest
placed p f h =
    let q = and_true (ltb f.body (length p)) _ h in
    record { listed = ltb-true f.body (length p) q.0; item = head_of (rest p f); more = tail_of (rest p f); found = place_from (get_or p f.body []) f.offset q.1 }

-- and back
placed_back : (p : Program) (f : Frame) → Placed p f → is_placed p f ≡ true
unfolding is_placed rest
placed_back p f q = and_intro (ltb f.body (length p)) _ (lt-ltb f.body (length p) q.listed) (from_place (get_or p f.body []) f.offset q.found)

-- a frame that stands on a command is of a body of the table
pub placed_body : (p : Program) (f : Frame) → is_placed p f ≡ true → f.body < length p
placed_body p f h = (placed p f h).listed

module _ {p : Program} (ok : Accepted p) where
  -- the command that it stands on is sound
  pub placed_sound : (f : Frame) → is_placed p f ≡ true → Sound (length p) f.body (here p f)
  unfolding here placed
  placed_sound f h = (stands p ok f (placed p f h)).sound

  -- past a command that is not END it stands on the next
  pub placed_next : (f : Frame) → is_placed p f ≡ true → is_end (here p f).command ≡ false → is_placed p (moved p f) ≡ true
  placed_next f h g = let q = placed p f h in placed_back p (moved p f) (placed_on p ok f q (onward p ok f q g))

  -- a body begins at a command
  pub placed_begun : (f : Frame) → f.body < length p → f.offset ≡ 0 → is_placed p f ≡ true
  placed_begun f l e = placed_back p f (bodies.placed_begun p ok f l e)
