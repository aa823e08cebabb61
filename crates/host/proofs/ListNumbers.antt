-- What a call on lists answers, as a number and as what is left where the call is turned down.
use Prim.Native.Nat.{ℕ, zero, suc, ◌≤◌}
use native.Mathlib.Omega.{arith}
use mathlib.Core.Path.{◌≡◌, refl}
use mathlib.Core.List.{List}
use mathlib.Core.Bool.{Bool, true, false, cond}
use lib.ListN.{length}
use lib.Dec.{eqb, ltb}
use borrow.Author.Tests.{ne_eqb}
use Rattle.std.specs.Result.{result_unwrap_or}
use Rattle.program.specs.Table.{work_limit, number_of}
use Rattle.program.specs.Reading.{commands_of}
use Rattle.program.specs.Refusal.{told, answered}
use Rattle.program.proofs.Refusals.{told_answered}
use Rattle.program.proofs.NumberLaws.{number_small}
use Rattle.builder.specs.Build.{list_bytes, built_number, built_length, listed_number, listed_count}
use Rattle.host.specs.Lists.{size_after, found_after}

-- What was there stays where the number is not 0.
left : (n x before : ℕ) → result_unwrap_or (answered n x) before ≡ cond (eqb n 0) x before
left zero x before = refl
left (suc n) x before = rw (ne_eqb (suc n) 0 (λ e. absurd (omega arith)))

-- The numbers are at most 18.
small : (n : ℕ) (x y : Bool) → n ≤ 12 → cond x (cond y 18 0) n ≤ 18
small n true true h = omega arith
small n true false h = omega arith
small n false y h = omega arith

module _ (entries : List (List ℕ)) (room : ℕ) where
  pub built_told : told (answered (built_number entries room) (built_length entries room)) ≡ built_number entries room
  unfolding built_number
  built_told =
      let n = number_of work_limit (list_bytes entries) in
      told_answered _ (built_length entries room) (small n (eqb n 0) (ltb room (length (list_bytes entries))) (number_small work_limit (list_bytes entries)))

  pub built_left : (before : ℕ) → result_unwrap_or (answered (built_number entries room) (built_length entries room)) before ≡ size_after entries room before
  unfolding size_after
  built_left before = left (built_number entries room) (built_length entries room) before

module _ (t : List ℕ) (room : ℕ) where
  pub listed_told : told (answered (listed_number t room) (listed_count t room)) ≡ listed_number t room
  unfolding listed_number
  listed_told =
      let n = number_of work_limit t in
      told_answered _ (listed_count t room) (small n (eqb n 0) (ltb room (length (commands_of t))) (number_small work_limit t))

  pub listed_left : (before : ℕ) → result_unwrap_or (answered (listed_number t room) (listed_count t room)) before ≡ found_after t room before
  unfolding found_after
  listed_left before = left (listed_number t room) (listed_count t room) before
