-- A frame that stands on a command of an accepted table: what is read there, and where the next command stands.
use Prim.Native.Nat.{ℕ, ◌+◌, ◌*◌, ◌≤◌, ◌<◌}
use native.Mathlib.Omega.{arith}
use mathlib.Core.Path.{◌≡◌, ap, ◌∙◌}
use mathlib.Core.List.{List, [], ◌∷◌}
use mathlib.Core.Bool.{true, false}
use lib.ListN.{length, get_or, drop}
use lib.Dec.{ltb}
use borrow.Author.Tests.{ltb-true}
use Rattle.program.specs.Command.{width, held, is_end}
use Rattle.program.specs.Reading.{read, whole}
use Rattle.program.specs.Bodies.{Body, program_of, from, head_of, tail_of}
use Rattle.program.specs.Scan.{scan, layout_of}
use Rattle.program.specs.declared.command.Command.TheVariants.{End}
use Rattle.program.proofs.Basic.{and_true}
use Rattle.program.proofs.Shape.{Sound, stride}
use Rattle.program.proofs.ShapeListed.{passes}
use Rattle.program.proofs.ShapeLaws.{length_program, accepted, stride_is}
use Rattle.program.proofs.Located.{Stands, place_from, found, found_onward, onward_goes, next_offset_lem}
use Rattle.program.proofs.LocatedBytes.{read_code, read_code_inner, start_inside, place_small}
use Rattle.rules.specs.declared.state.Frame.{Frame}
use Rattle.rules.specs.Tree.{rest, here, next_offset}
use Rattle.rules.specs.WellFormed.{is_placed}

module _ (t : List ℕ) (ok : scan t ≡ 0) (f : Frame) (on : is_placed (program_of t) f ≡ true) where
  -- Its body is one of the program's.
  pub body_in : f.body < length (program_of t)
  unfolding is_placed
  body_in = ltb-true _ _ (and_true (ltb f.body (length (program_of t))) _ on).0

  body_counted : f.body < get_or t 0 0
  body_counted = rw length_program at body_in

  pub body_small : f.body < 16
  body_small = let h = body_counted in let k = (passes t ok).few in omega arith

  -- What is left of its body begins with its command.
  pub left_here : from (get_or (program_of t) f.body []) f.offset ≡ here (program_of t) f ∷ tail_of (rest (program_of t) f)
  unfolding here rest is_placed
  left_here = place_from (get_or (program_of t) f.body []) f.offset (and_true (ltb f.body (length (program_of t))) _ on).1

  stands_here : Stands (length (program_of t)) f.body (get_or (program_of t) f.body []) f.offset (here (program_of t) f) (tail_of (rest (program_of t) f))
  stands_here = found (accepted t ok) f.body body_in f.offset left_here

  pub sound_here : Sound (length (program_of t)) f.body (here (program_of t) f)
  sound_here = stands_here.sound

  -- The slice from the body's first command begins inside the table.
  pub code_inside : get_or (layout_of t).starts f.body 0 ≤ length t
  code_inside = let h = start_inside t ok f.body body_counted in omega arith

  -- What is read there, and after it the commands that belong to it.
  pub read_here : read (drop f.offset (drop (get_or (layout_of t).starts f.body 0) t)) ≡ whole (here (program_of t) f).command (width (here (program_of t) f).command)
  read_here = read_code t ok f.body body_counted f.offset left_here

  pub read_inner : (j : ℕ) → j < length (here (program_of t) f).inner
      → read (drop (f.offset + width (here (program_of t) f).command + 2 * j) (drop (get_or (layout_of t).starts f.body 0) t)) ≡ whole (get_or (here (program_of t) f).inner j End) 2
  read_inner = read_code_inner t ok f.body body_counted f.offset left_here

  -- An offset is small.
  pub offset_small : f.offset < 2048
  offset_small = place_small t ok f.body body_counted f.offset left_here

  module _ (goes : is_end (here (program_of t) f).command ≡ false) where
    left_after_lem : tail_of (rest (program_of t) f) ≡ head_of (tail_of (rest (program_of t) f)) ∷ tail_of (tail_of (rest (program_of t) f))
    left_after_lem = onward_goes (found_onward (accepted t ok) f.body body_in f.offset left_here) goes

    next_stride : next_offset (program_of t) f ≡ f.offset + stride (here (program_of t) f)
    unfolding next_offset
    next_stride = next_offset_lem (accepted t ok) f.body body_in f.offset (left_here ∙ ap (λ (r : Body). here (program_of t) f ∷ r) left_after_lem)

    -- The next command stands past the command's bytes and two for each that belongs to it.
    pub next_is : next_offset (program_of t) f ≡ f.offset + width (here (program_of t) f).command + 2 * held (here (program_of t) f).command
    next_is = let e = next_stride in let k = stride_is sound_here in omega arith

    pub next_small : next_offset (program_of t) f < 2048
    next_small = rw next_stride (place_small t ok f.body body_counted (f.offset + stride (here (program_of t) f)) (stands_here.next ∙ left_after_lem))
