-- A search below a bound by `any`.
use Rattle.std.proofs.Common.{◌≡◌, ℕ, ◌<◌, Bool, true, false, length, sym, arith}
use Rattle.std.proofs.Math.Nat.{zero-add}
use Rattle.std.specs.Bool.{MatchBool}
use Rattle.std.specs.List.{range_with_len, AllWithin, HoldsAt}
use Rattle.std.proofs.lemmas.List.FromFn.{length-range_with_len, get_or-range_with_len}
use Rattle.rules.specs.Search.{some_below}
use Rattle.rules.proofs.Search.{some_below_intro, some_below_all}
use Rattle.rules.proofs.Tests.{true_false}

pub some_any : (n : ℕ) (f : ℕ → Bool) (r : Bool)
    → MatchBool r ((k : ℕ) × (k < length (range_with_len 0 n)) × HoldsAt (λ x. x < n → true ≡ f x) (range_with_len 0 n) k) (AllWithin (λ x. x < n → false ≡ f x) (range_with_len 0 n) 0 (length (range_with_len 0 n)))
    → r ≡ some_below n f
some_any n f true (k, h, e) =
    let m : k < n = omega (arith, length-range_with_len 0 n) in
    sym (some_below_intro n f k m (sym ((rw (get_or-range_with_len 0 n k 0 m, zero-add) at (e 0)) m)))
some_any n f false e =
    sym (some_below_all n f (λ k m t. true_false (f k) t (sym ((rw (get_or-range_with_len 0 n k 0 m, zero-add) at (e k 0 (omega arith) (omega (arith, length-range_with_len 0 n)))) m))))
