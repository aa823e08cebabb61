-- The commands of an accepted table's program in the bytes of the table: each is read where its body's first byte and its offset say.
use Prim.Native.Nat.{ℕ, zero, suc, ◌+◌, ◌*◌, ◌-◌, ◌≤◌, ◌<◌}
use native.Mathlib.Omega.{arith}
use mathlib.Core.Path.{◌≡◌, refl, ap, ◌∙◌}
use mathlib.Core.List.{List, [], ◌∷◌}
use lib.ListN.{length, get_or, drop, length-append, length-replicate, length-drop}
use lib.Seq.{drop-drop}
use Rattle.program.specs.Command.{width}
use Rattle.program.specs.Reading.{whole, read, commands_of}
use Rattle.program.specs.Bodies.{Located, Body, first_body, after_end, program_of, from}
use Rattle.program.specs.Scan.{scan, bytes, starts_from, layout_of}
use Rattle.program.specs.declared.command.Command.{Command}
use Rattle.program.specs.declared.command.Command.TheVariants.{End}
use Rattle.program.proofs.Basic.{get_or_padded}
use Rattle.program.proofs.ShapeRows.{width_pos}
use Rattle.program.proofs.ShapeReading.{known}
use Rattle.program.proofs.ShapeListed.{before, passes}
use Rattle.program.proofs.ShapeLaws.{Legible, length_program, body_legible, accepted}
use Rattle.program.proofs.Located.{place_from, each_at, start_place, found}

-- THE LAYOUT

-- There is a start for each body, and it lies after the bytes of the bodies before.
pub length_from : (n at : ℕ) (cs : List Command) → length (starts_from n at cs) ≡ n
unfolding starts_from
length_from zero at cs = refl
length_from (suc n) at cs = ap suc (length_from n (at + bytes (first_body cs)) (after_end cs))

start_from : (n at b : ℕ) (cs : List Command) → b < n → get_or (starts_from n at cs) b 0 ≡ at + before b cs
unfolding starts_from before
start_from zero at b cs h = absurd (let y : ⊥ = omega arith in y)
start_from (suc n) at zero cs h = omega arith
start_from (suc n) at (suc b) cs h = let e = start_from n (at + bytes (first_body cs)) b (after_end cs) (omega arith) in omega arith

-- The layout has an entry for each of sixteen bodies.
pub length_starts : (t : List ℕ) → scan t ≡ 0 → length (layout_of t).starts ≡ 16
unfolding layout_of
length_starts t ok =
    let few = (passes t ok).few in
    simp (length-append, length_from, length-replicate) (omega arith)

-- A body begins after byte 0 and the bytes of the bodies before it.
pub start_is : (t : List ℕ) (b : ℕ) → b < get_or t 0 0 → get_or (layout_of t).starts b 0 ≡ 1 + before b (commands_of t)
unfolding layout_of
start_is t b h = get_or_padded (starts_from (get_or t 0 0) 1 (commands_of t)) (16 - get_or t 0 0) b 0 ∙ start_from (get_or t 0 0) 1 b (commands_of t) h

-- THE COMMANDS

module _ (t : List ℕ) (ok : scan t ≡ 0) (b : ℕ) (h : b < get_or t 0 0) where
  -- The same bound, of the program.
  in_program : b < length (program_of t)
  in_program = rw (length_program t) h

  module _ (o : ℕ) {x : Located} {r : Body} (at : from (get_or (program_of t) b []) o ≡ x ∷ r) where
    -- The command is read in the slice from the body's first byte.
    legible_at : Legible (drop (get_or (layout_of t).starts b 0) t) x
    legible_at = rw (start_is t b h) (each_at (Legible (drop (1 + before b (commands_of t)) t)) (get_or (program_of t) b []) o (body_legible t ok b h) at)

    -- It stands at its offset.
    pub offset_is : x.offset ≡ o
    offset_is = (found (accepted t ok) b in_program o at).offset

    -- In the slice from the body's first byte: the command, and the j-th that belongs to it.
    pub read_code : read (drop o (drop (get_or (layout_of t).starts b 0) t)) ≡ whole x.command (width x.command)
    read_code = rw offset_is at legible_at.own

    pub read_code_inner : (j : ℕ) → j < length x.inner
        → read (drop (o + width x.command + 2 * j) (drop (get_or (layout_of t).starts b 0) t)) ≡ whole (get_or x.inner j End) 2
    read_code_inner j l = rw offset_is at (legible_at.inner j l)

    -- In the table.
    pub read_table : read (drop (get_or (layout_of t).starts b 0 + o) t) ≡ whole x.command (width x.command)
    read_table = rw drop-drop at read_code

    -- The command's bytes lie inside the table.
    pub command_inside : get_or (layout_of t).starts b 0 + o + width x.command ≤ length t
    command_inside =
        let k = rw length-drop at (known _ read_table).inside in
        let w = width_pos x.command in
        omega arith

    -- So does its first byte, and its offset is small.
    pub place_inside : get_or (layout_of t).starts b 0 + o < length t
    place_inside = let k = command_inside in let w = width_pos x.command in omega arith

    pub place_small : o < 2048
    place_small = let k = place_inside in let s = (passes t ok).short in omega arith

  -- A body begins inside the table.
  pub start_inside : get_or (layout_of t).starts b 0 < length t
  start_inside =
      let k = place_inside 0 (place_from (get_or (program_of t) b []) 0 (start_place (accepted t ok) b in_program)) in
      omega arith
