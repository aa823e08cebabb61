-- Entries of a state's bytes: those in use are tested in turn, the bytes behind them are 0.
use Prim.Native.Nat.{ℕ, ◌-◌, ◌*◌, ◌≤◌}
use mathlib.Core.Path.{◌≡◌, sym, ap, ◌∙◌}
use mathlib.Core.List.{List}
use mathlib.Core.Bool.{Bool, true, false, ◌&&◌}
use lib.ListN.{length, take, drop}
use lib.Dec.{ltb}
use Rattle.program.specs.Bodies.{Program}
use Rattle.program.proofs.RangeLaws.{tail_part}
use Rattle.rules.specs.declared.state.Accumulator.{Accumulator}
use Rattle.rules.specs.State.{absent, no_accumulator}
use Rattle.rules.specs.Search.{all_below}
use Rattle.encoding.specs.Bytes.{part, all_zero}
use Rattle.entries.proofs.ZeroLaws.{activity_unused, accumulator_unused}
use Rattle.entries.proofs.JoinLaws.{joined_at}
use Rattle.wellformed.specs.declared.made.Made.{Made}
use Rattle.wellformed.specs.Entries.{activity_is_fit, accumulator_entry, accumulator_entries}
use Rattle.wellformed.specs.Passing.{accumulator_passes, accumulators_pass, activity_passes, activities_pass}

-- A pass over the m entries in use, of k bytes each, and all bytes behind them are 0: one test.
pub record Joined (k m : ℕ) (b : List ℕ) (f : ℕ → List ℕ → Bool) (w : Bool) : Type 0 where
  pub is : all_below m (λ j. f j (part b (k * j) k)) && all_zero (drop (k * m) b) ≡ w

module _ {k m : ℕ} {b : List ℕ} {f : ℕ → List ℕ → Bool} {w r : Bool} (j : Joined k m b f w) (e : r ≡ all_below m (λ i. f i (part b (k * i) k))) where
  -- an entry fails
  pub front_fails : r ≡ false → r ≡ w
  front_fails h = h ∙ rw (sym e ∙ h) at j.is

  -- the bytes behind them decide
  pub front_ends : {q : Bool} → r ≡ true → q ≡ all_zero (take (length b - k * m) (drop (k * m) b)) → q ≡ w
  front_ends h z = z ∙ ap all_zero (tail_part b (k * m)) ∙ rw (sym e ∙ h) at j.is

-- ACTIVITIES AND ACCUMULATORS

-- "An accumulator: 24 bytes"
pub accumulators_joined : (made : Made) (b : List ℕ) → made.accumulators ≤ 16 → length b ≡ 384 → Joined 24 made.accumulators b (λ i. accumulator_passes made) (accumulators_pass made b)
unfolding accumulators_pass accumulator_passes accumulator_entries accumulator_entry
accumulators_joined made b few l =
    record { is = joined_at accumulator_unused 16 made.accumulators no_accumulator b (λ i (x : Accumulator). ltb x.owner made.activities) few l }

-- "An activity: 208 bytes"
pub activities_joined : (p : Program) (made : Made) (b : List ℕ) → made.activities ≤ 64 → length b ≡ 13312 → Joined 208 made.activities b (activity_passes p made) (activities_pass p made b)
unfolding activities_pass activity_passes
activities_joined p made b few l = record { is = joined_at activity_unused 64 made.activities absent b (activity_is_fit p made) few l }
