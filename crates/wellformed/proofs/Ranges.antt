-- A test of every number below n, by the method `all` of the range 0..n.
use Prim.Native.Nat.{ℕ, ◌<◌}
use native.Mathlib.Omega.{arith}
use mathlib.Core.Bool.{Bool, true, false}
use mathlib.Core.List.{List}
use mathlib.Core.Path.{◌≡◌, sym}
use lib.ListN.{length}
use denote.Param.Members.{Mut}
use Rattle.std.specs.declared.ops.Range.{Range}
use Rattle.std.specs.declared.option.Option.{Option}
use Rattle.std.proofs.Common.{zero-add}
use Rattle.std.proofs.iter.Yields.{nat_range_steps}
use Rattle.std.proofs.lemmas.Iterator.{cases_from_all, YieldsList-from_range}
use Rattle.std.proofs.lemmas.List.FromFn.{length-range_with_len, get_or-range_with_len}
use Rattle.std.specs.Bool.{MatchBool}
use Rattle.std.specs.Fn.{Called}
use Rattle.std.specs.Iterator.{YieldsThen}
use Rattle.std.specs.List.{range_with_len, FoldsTo, AllWithin, HoldsAt}
use Rattle.std.specs.Option.{MatchOption}
use Rattle.rules.specs.Search.{all_below}
use Rattle.rules.proofs.Search.{all_below_intro}
use Rattle.wellformed.proofs.Loops.{one_fails}

-- What the answer says of the numbers themselves.
by_index : (n : ℕ) (test : ℕ → Bool) (r : Bool)
    → MatchBool r (AllWithin (λ i. i < n → test i ≡ true) (range_with_len 0 n) 0 (length (range_with_len 0 n)))
    ((k : ℕ) × (k < length (range_with_len 0 n)) × HoldsAt (λ i. i < n → test i ≡ false) (range_with_len 0 n) k)
    → r ≡ all_below n test
by_index n test true h =
    sym (all_below_intro n test (λ i j. (rw (get_or-range_with_len 0 n i 0 j, zero-add i) at (h i 0 (omega arith) (rw (length-range_with_len 0 n) j))) j))
by_index n test false h =
    let below : h.0 < n = rw (length-range_with_len 0 n) at h.1 in
    one_fails n test h.0 below ((rw (get_or-range_with_len 0 n h.0 0 below, zero-add h.0) at (h.2 0)) below)

-- The closure computes the test of every number that it may be asked for.
pub all_tested : {F : Type 0} {g : Mut F (ℕ × Unit {0}) Bool} {s : Range ℕ} (n : ℕ) (test : ℕ → Bool) (u : Range ℕ) (f : F) (r : Bool)
    → s ≡ record { start = 0; end = n }
    → (xs : List ℕ) × (o : Option ℕ) × (j : F) × YieldsThen nat_range_steps s xs o u × FoldsTo (λ p x q. Called g p (x, tt) true q) f xs j × MatchOption o (r ≡ true) (λ x. (r ≡ false) × ((h : F) × Called g j (x, tt) false h))
    → ((x : ℕ) (b : Bool) (q : F) → Called g f (x, tt) b q → (q ≡ f) × (x < n → b ≡ test x))
    → r ≡ all_below n test
all_tested n test u f r e ran told =
    by_index n test r
    (cases_from_all u f r (λ x. x < n → test x ≡ true) (λ x. x < n → test x ≡ false) ran (YieldsList-from_range 0 n n e (omega arith))
    (λ x q k. let t = told x true q k in (t.0, λ l. sym (t.1 l)))
    (λ x q k. λ l. sym ((told x false q k).1 l)))
