-- The fields before the cells of a state's bytes, and those of an accumulator: tested one after the other, the reserved bytes at last.
use Prim.Native.Nat.{ℕ, ◌≤◌, ◌<◌}
use mathlib.Core.Path.{◌≡◌, refl, ◌∙◌}
use mathlib.Core.List.{List}
use mathlib.Core.Bool.{Bool, true, false, ◌&&◌}
use lib.Dec.{leb, eqb}
use borrow.Author.Tests.{leb-true, eqb-true, le-leb, eq-eqb, lt-ltb, le-ltb, lt-leb}
use Rattle.program.specs.Bodies.{Program}
use Rattle.program.specs.Count.{work_of}
use Rattle.rules.specs.WellFormed.{counts_fit}
use Rattle.rules.proofs.Tests.{and_true}
use Rattle.encoding.specs.Bytes.{number_of, part, byte_at, all_zero}
use Rattle.encoding.specs.Decode.{state_of, accumulator_encodes, accumulator_at}
use Rattle.wellformed.specs.Passing.{head_passes, accumulator_passes}
use Rattle.wellformed.specs.declared.made.Made.{Made}

-- All others pass: one test is left.
also : (q : Bool) → q ≡ q && true
also true = refl
also false = refl

-- BEFORE THE CELLS

-- What is so where they pass, beside the reserved bytes.
pub record HeadFacts (p : Program) (b : List ℕ) : Type 0 where
  pub version : byte_at b 0 ≡ 1
  pub activities : byte_at b 1 ≤ 64
  pub clocks : byte_at b 2 ≤ 16
  pub accumulators : byte_at b 3 ≤ 16
  pub steps : number_of (part b 4 4) ≤ 65535
  pub work : number_of (part b 4 4) ≤ work_of p

-- By the order of the definition.
pub head_facts : (p : Program) (b : List ℕ) → head_passes p b ≡ true → HeadFacts p b
unfolding head_passes counts_fit state_of
head_facts p b e =
    let o = and_true (eqb (byte_at b 0) 1 && (leb (number_of (part b 4 4)) 65535 && all_zero (part b 8 8))) _ e in
    let x = and_true (eqb (byte_at b 0) 1) _ o.0 in
    let y = and_true (leb (number_of (part b 4 4)) 65535) _ x.1 in
    let u = and_true (leb (byte_at b 1) 64) _ o.1 in
    let v = and_true (leb (byte_at b 2) 16) _ u.1 in
    let w = and_true (leb (byte_at b 3) 16) _ v.1 in
    record {
      version = eqb-true _ _ x.0;
      activities = leb-true _ _ u.0;
      clocks = leb-true _ _ v.0;
      accumulators = leb-true _ _ w.0;
      steps = leb-true _ _ y.0;
      work = leb-true _ _ w.1;
    }

-- One of them is not so.
pub head_fails : {p : Program} {b : List ℕ} → (HeadFacts p b → ⊥) → false ≡ head_passes p b
head_fails {p} {b} h = go (head_passes p b) refl
  where
    go : (q : Bool) → head_passes p b ≡ q → false ≡ q
    go true e = absurd (h (head_facts p b e))
    go false e = refl

-- The reserved bytes decide.
pub head_left : {p : Program} {b : List ℕ} {r : Bool} → HeadFacts p b → r ≡ all_zero (part b 8 8) → r ≡ head_passes p b
unfolding head_passes counts_fit state_of
head_left {p} {b} h e =
    e
    ∙ rw (
      eq-eqb (byte_at b 0) 1 h.version,
      le-leb (byte_at b 1) 64 h.activities,
      le-leb (byte_at b 2) 16 h.clocks,
      le-leb (byte_at b 3) 16 h.accumulators,
      le-leb (number_of (part b 4 4)) 65535 h.steps,
      le-leb (number_of (part b 4 4)) (work_of p) h.work,
    )
    (also (all_zero (part b 8 8)))

-- AN ACCUMULATOR THAT WAS MADE

module _ (made : Made) (b : List ℕ) where
  -- An operator above 2.
  pub operator_fails : 2 < byte_at b 5 → false ≡ accumulator_passes made b
  unfolding accumulator_passes accumulator_encodes
  operator_fails h = rw (lt-leb (byte_at b 5) 2 h)

  -- An owner that was not spawned.
  pub owner_fails : made.activities ≤ byte_at b 4 → false ≡ accumulator_passes made b
  unfolding accumulator_passes accumulator_at
  owner_fails h = rw (le-ltb (byte_at b 4) made.activities h) (by (accumulator_encodes b))
    where
      by : (q : Bool) → false ≡ q && false
      by true = refl
      by false = refl

  -- The reserved bytes decide.
  pub accumulator_left : {r : Bool} → byte_at b 5 ≤ 2 → byte_at b 4 < made.activities → r ≡ all_zero (part b 6 18) → r ≡ accumulator_passes made b
  unfolding accumulator_passes accumulator_encodes accumulator_at
  accumulator_left h l e = e ∙ rw (le-leb (byte_at b 5) 2 h, lt-ltb (byte_at b 4) made.activities l) (also (all_zero (part b 6 18)))
