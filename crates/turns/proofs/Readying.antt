-- The ready set, a bit at a time.
use Prim.Native.Nat.{ℕ, zero, suc, ◌+◌, ◌-◌, ◌*◌, ◌%◌, ◌^◌, ◌≤◌, ◌<◌}
use native.Mathlib.Omega.{arith}
use native.Mathlib.Numerals.{add-one}
use mathlib.Core.Path.{◌≡◌, refl, sym, ◌∙◌}
use mathlib.Core.Bool.{Bool, true, false}
use mathlib.Core.List.{List}
use lib.Dec.{ltb, lit<}
use lib.Pow.{shl_exact}
use lib.Bits.{bit_or, or_shifted_r}
use borrow.Author.Tests.{le-ltb}
use Rattle.program.specs.Bodies.{Program, program_of}
use Rattle.rules.specs.declared.state.State.{State}
use Rattle.rules.specs.Search.{bits_below}
use Rattle.rules.specs.WellFormed.{well_formed}
use Rattle.rules.specs.Steps.{refusal, can_step}
use Rattle.rules.proofs.Bits.{bits_below_lem}
use Rattle.rules.proofs.WellFormedFacts.{facts}
use Rattle.fields.specs.Lent.{Lent, Reads}
use Rattle.turns.specs.Turns.{CanStep, Readies}

-- `1 << i` at 64 bits, put on a number below it.
or_bit : (b i : ℕ) → i < 64 → b < 2 ^ i → bit_or b (1 * 2 ^ i % 2 ^ 64) ≡ b + 2 ^ i
or_bit b i h l = let e : 1 * 2 ^ i % 2 ^ 64 ≡ 1 * 2 ^ i = shl_exact 1 i 64 (lit< tt) (omega arith) in rw (e, or_shifted_r 1 i b l) (omega arith)

-- Nobody who was not spawned has a bit.
none_after : (p : Program) (s : State) (n : ℕ) → bits_below (s.activities + n) (can_step p s) ≡ bits_below s.activities (can_step p s)
unfolding bits_below can_step refusal
none_after p s zero = let e : s.activities + 0 ≡ s.activities = omega arith in rw e
none_after p s (suc n) =
    let e : s.activities + suc n ≡ suc (s.activities + n) = omega arith in
    let q : ltb (s.activities + n) s.activities ≡ false = le-ltb (s.activities + n) s.activities (omega arith) in
    rw (e, q, none_after p s n) (omega arith)

-- The set of the activities below i.
pub record Below (t b : List ℕ) (set i : ℕ) : Type 0 where
  pub here : (s : State) → Lent b s → well_formed 65535 (program_of t) s ≡ true → set ≡ bits_below i (can_step (program_of t) s)

module _ {t b : List ℕ} where
  pub ready_none : Below t b 0 0
  unfolding bits_below
  ready_none = record { here = λ s l w. refl }

  module _ {set i : ℕ} (x : Below t b set i) where
    module _ (h : i < 64) {r : Bool} (g : CanStep t b i r) {now : ℕ} where
      -- Who can step gets a bit.
      pub ready_set_lem : now ≡ bit_or set (1 * 2 ^ i % 2 ^ 64) → r ≡ true → Below t b now (i + 1)
      unfolding bits_below
      ready_set_lem e z =
          record {
            here =
                λ s l w.
                let p = program_of t in
                let q : can_step p s i ≡ true = sym (g.tells s l w) ∙ z in
                let m = bits_below_lem i (can_step p s) in
                e ∙ rw (x.here s l w, or_bit (bits_below i (can_step p s)) i h m, add-one i, q);
          }

      -- Another does not.
      pub ready_left : now ≡ set → r ≡ false → Below t b now (i + 1)
      unfolding bits_below
      ready_left e n =
          record {
            here =
                λ s l w.
                let p = program_of t in
                let q : can_step p s i ≡ false = sym (g.tells s l w) ∙ n in
                e ∙ rw (x.here s l w, add-one i, q) (omega arith);
          }

    -- All that were spawned were asked.
    pub ready_all : {made : ℕ} → Reads (λ (y : State). y.activities) b made → made ≤ 64 → i ≡ made → Readies t b set
    ready_all {made} f few e =
        record {
          tells =
              λ s l w.
              let n : i ≡ s.activities = e ∙ f.reads s l in
              let m : s.activities + (64 - s.activities) ≡ 64 = omega arith in
              x.here s l w ∙ rw n (sym (rw m at (none_after (program_of t) s (64 - s.activities))));
        }

-- A well-formed state has no more than 64.
pub ready_many : {t b : List ℕ} {made r : ℕ} → Reads (λ (y : State). y.activities) b made → 64 < made → Readies t b r
ready_many {t} {made = made} f h =
    record { tells = λ s l w. let e : made ≡ s.activities = f.reads s l in let m = (facts 65535 (program_of t) s w).acts64 in absurd (let z : ⊥ = omega arith in z) }
