-- Reading 2,049 bytes of a JOB is enough: a longer one is turned down with number 1 all the same.
use Prim.Native.Nat.{ℕ, ◌<◌}
use mathlib.Core.Bool.{Bool, true, false}
use mathlib.Core.List.{List}
use mathlib.Core.Path.{◌≡◌, refl, ap}
use native.Mathlib.Omega.{arith}
use borrow.Author.Tests.{leb-true, leb-false}
use lib.Dec.{leb}
use lib.ListN.{length, take}
use lib.Seq.{take_all, length-take-le}
use Rattle.program.specs.Table.{work_limit, number_of}
use Rattle.program.proofs.TableLaws.{too_long}
use Rattle.walk.specs.Walked.{walked}

-- Two tables of number 1 print the same.
same_refusal : (t u order : List ℕ) → number_of work_limit t ≡ 1 → number_of work_limit u ≡ 1 → walked t order ≡ walked u order
unfolding walked
same_refusal t u order a b = rw (a, b)

pub enough : (t order : List ℕ) → walked (take 2049 t) order ≡ walked t order
enough t order = go (leb (length t) 2049) refl
  where
    go : (b : Bool) → leb (length t) 2049 ≡ b → walked (take 2049 t) order ≡ walked t order
    go true e = ap (λ (l : List ℕ). walked l order) (take_all 2049 t (leb-true (length t) 2049 e))
    go false e =
        let long : 2049 < length t = leb-false (length t) 2049 e in
        let kept : length (take 2049 t) ≡ 2049 = length-take-le 2049 t (omega arith) in
        same_refusal (take 2049 t) t order (too_long work_limit (take 2049 t) (omega arith)) (too_long work_limit t (omega arith))
