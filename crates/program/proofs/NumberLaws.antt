-- The number of a table is 0 or 1 to 12.
use Prim.Native.Nat.{ℕ, zero, suc, ◌-◌, ◌≤◌}
use mathlib.Core.Path.{◌≡◌, refl}
use native.Mathlib.Omega.{arith}
use mathlib.Core.List.{List, [], ◌∷◌}
use mathlib.Core.Bool.{Bool, true, false, cond}
use lib.ListN.{get_or, drop}
use lib.Dec.{ltb, eqb}
use Rattle.program.specs.declared.command.Command.{Command}
use Rattle.std.specs.Prelude.{Ok, Err}
use Rattle.program.specs.Reading.{Reading, read, and_on, readings_after, readings}
use Rattle.program.specs.Bodies.{Program, program_of}
use Rattle.program.specs.Count.{work_of, activities_of, clocks_of, accumulators_of}
use Rattle.program.specs.Scan.{name_fits, atom_fits, placing, left_after, body_after, verdict, fits_length, fits_bodies, scan}
use Rattle.program.specs.Table.{over_count, number_of}
use Rattle.program.proofs.ShapeReading.{read_refused}

-- Of two numbers the one or the other.
either : (m : ℕ) (q : Bool) (x y : ℕ) → x ≤ m → y ≤ m → cond q x y ≤ m
either m true x y h k = h
either m false x y h k = k

placing_small : (n i left : ℕ) (c : Command) → placing n i left c ≤ 12
unfolding placing
placing_small n i left c = either 12 (name_fits n i c) _ 6 (either 12 (atom_fits left c) 0 7 (omega arith) (omega arith)) (omega arith)

verdict_small : (s : List ℕ) (skip n i left : ℕ) → verdict n i left (readings_after s skip) ≤ 12
unfolding verdict readings_after
verdict_small [] zero n i left = either 12 (eqb i n) 0 4 (omega arith) (omega arith)
verdict_small [] (suc skip) n i left = either 12 (eqb i n) 0 4 (omega arith) (omega arith)
verdict_small (x ∷ s) (suc skip) n i left = verdict_small s skip n i left
verdict_small (x ∷ s) zero n i left = by (read (x ∷ s)) refl (verdict_small s)
  where
    by : (r : Reading) → read (x ∷ s) ≡ r → ((skip n i left : ℕ) → verdict n i left (readings_after s skip) ≤ 12) → verdict n i left (and_on r (readings_after s)) ≤ 12
    by (Err e) h later = let k = read_refused (x ∷ s) h in either 12 (eqb i n) 8 _ (omega arith) (omega arith)
    by (Ok w) h later =
        either 12 (eqb i n) 8 _ (omega arith)
        (either 12 (eqb (placing n i left w.command) 0) _ _ (later (w.size - 1) n (body_after i w.command) (left_after left w.command)) (placing_small n i left w.command))

scan_small : (t : List ℕ) → scan t ≤ 12
unfolding scan readings
scan_small t =
    either 12 (fits_length t) _ 1 (either 12 (fits_bodies t) _ 2 (verdict_small (drop 1 t) 0 (get_or t 0 0) 0 0) (omega arith)) (omega arith)

over_small : (limit : ℕ) (p : Program) → over_count limit p ≤ 12
unfolding over_count
over_small limit p =
    either 12 (ltb 64 (activities_of p)) 9 _ (omega arith)
    (either 12 (ltb 16 (clocks_of p)) 10 _ (omega arith)
    (either 12 (ltb 16 (accumulators_of p)) 11 _ (omega arith) (either 12 (ltb limit (work_of p)) 12 0 (omega arith) (omega arith))))

pub number_small : (limit : ℕ) (t : List ℕ) → number_of limit t ≤ 12
unfolding number_of
number_small limit t = either 12 (eqb (scan t) 0) _ _ (over_small limit (program_of t)) (scan_small t)
