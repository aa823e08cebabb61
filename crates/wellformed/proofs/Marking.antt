-- Laws of places: a frame's body and offset, and the mark at its place.
use Prim.Native.Nat.{ℕ, ◌+◌, ◌≤◌, ◌<◌}
use native.Mathlib.Omega.{arith}
use mathlib.Core.Path.{◌≡◌, refl, sym, ap, ◌∙◌}
use mathlib.Core.List.{List, []}
use mathlib.Core.Bool.{Bool, true, false}
use lib.ListN.{length, get_or}
use lib.Dec.{eqb}
use borrow.Author.Tests.{lt-ltb, le-ltb}
use Rattle.program.specs.Bodies.{program_of, is_place}
use Rattle.program.specs.Scan.{layout_of}
use Rattle.program.specs.Places.{places_of}
use Rattle.program.proofs.ShapeListed.{passes}
use Rattle.program.proofs.ShapeLaws.{length_program}
use Rattle.program.proofs.Located.{place_from}
use Rattle.program.proofs.LocatedBytes.{length_starts, place_inside, start_inside}
use Rattle.program.proofs.Marks.{marked}
use Rattle.rules.specs.declared.state.Frame.{Frame}
use Rattle.rules.specs.WellFormed.{is_placed}
use Rattle.places.specs.Known.{Known}

module _ {t starts : List ℕ} (h : Known t starts) where
  -- A table has a first byte, the number of its bodies, and is short.
  pub table_some : 0 < length t
  table_some = let k = (passes t h.scanned).long in omega arith

  pub table_short : length t ≤ 2048
  table_short = (passes t h.scanned).short

  starts_are : (b : ℕ) → get_or starts b 0 ≡ get_or (layout_of t).starts b 0
  starts_are b = ap (λ (l : List ℕ). get_or l b 0) h.laid

  module _ (f : Frame) where
    -- A body that the table lacks has no place.
    pub no_body : get_or t 0 0 ≤ f.body → false ≡ is_placed (program_of t) f
    unfolding is_placed
    no_body l = let e = length_program t in rw (le-ltb f.body (length (program_of t)) (omega arith))

    module _ (l : f.body < get_or t 0 0) where
      -- A body of the table has a start, inside the table.
      pub start_there : f.body < length starts
      start_there = let k = (passes t h.scanned).few in let s = ap length h.laid ∙ length_starts t h.scanned in omega arith

      pub start_small : get_or starts f.body 0 < 2048
      start_small = let k = start_inside t h.scanned f.body l in let s = starts_are f.body in let m = table_short in omega arith

      -- A frame of it is at a place where its offset is one.
      by_offset : is_place (get_or (program_of t) f.body []) f.offset ≡ is_placed (program_of t) f
      unfolding is_placed
      by_offset = let e = length_program t in rw (lt-ltb f.body (length (program_of t)) (omega arith))

      -- No place lies past the table's end.
      pub past_end : length t ≤ get_or starts f.body 0 + f.offset → false ≡ is_placed (program_of t) f
      past_end q = by (is_place (get_or (program_of t) f.body []) f.offset) refl
        where
          by : (p : Bool) → is_place (get_or (program_of t) f.body []) f.offset ≡ p → false ≡ is_placed (program_of t) f
          by true e =
              let k = place_inside t h.scanned f.body l f.offset (place_from (get_or (program_of t) f.body []) f.offset e) in
              let s = starts_are f.body in
              absurd (let y : ⊥ = omega arith in y)
          by false e = sym (sym by_offset ∙ e)

      -- The marks say where the places are.
      pub by_mark : {marks : List ℕ} → marks ≡ places_of t → eqb (get_or marks (get_or starts f.body 0 + f.offset) 0) (f.body + 1) ≡ is_placed (program_of t) f
      by_mark e = rw (e, starts_are f.body) (marked t h.scanned f.body l f.offset ∙ by_offset)
