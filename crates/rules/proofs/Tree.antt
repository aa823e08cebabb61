-- The tree of spawned activities: descendants and those inside a finish have greater numbers, and both go on to whoever they spawn. Spawners fall.
use Prim.Native.Nat.{ℕ, zero, suc, ◌-◌, ◌≤◌, ◌<◌}
use native.Mathlib.Omega.{arith}
use mathlib.Core.List.{List}
use mathlib.Core.Bool.{true, false}
use mathlib.Core.Path.{◌≡◌, ap}
use mathlib.Core.Logic.{◌⊎◌, inl, inr}
use lib.ListN.{get_or}
use lib.Dec.{ltb, leb}
use borrow.Author.Tests.{ltb-true, leb-true}
use Rattle.rules.specs.declared.state.Frame.{Frame}
use Rattle.rules.specs.declared.state.Activity.{Activity}
use Rattle.rules.specs.declared.state.State.{State}
use Rattle.program.specs.Bodies.{Program}
use Rattle.rules.specs.Search.{chain}
use Rattle.rules.specs.State.{no_frame, top, frame, act}
use Rattle.rules.specs.Tree.{here, is_finish, in_finish_body, finishes, in_own_finish, descends, spawner_of, inside}
use Rattle.rules.proofs.Tests.{and_true, true_false}
use Rattle.rules.proofs.Search.{some_below_none, chain_above, chain_closed, chain_cases}

-- j is how many activities there were when an open FINISH body of the stack began.
pub record Open (p : Program) (n : ℕ) (fs : List Frame) (j : ℕ) : Type 0 where
  pub level : ℕ
  pub deeper : suc level < n
  pub finish : is_finish (here p (get_or fs level no_frame)).command ≡ true
  pub first : (get_or fs (suc level) no_frame).first ≡ j

-- The body at the top, where a FINISH runs it.
pub open_top : (p : Program) (a : Activity) → in_finish_body p a ≡ true → Open p a.depth a.frames (top a).first
unfolding in_finish_body finishes
open_top p a e =
    let q = and_true (ltb 1 a.depth) _ e in
    let deep = ltb-true 1 a.depth q.0 in
    record { level = a.depth - 2; deeper = omega arith; finish = q.1; first = ap (λ d. (frame a d).first) (omega arith) }

-- Who is in no own FINISH body has none open.
pub open_none : (p : Program) (a : Activity) → in_own_finish p a ≡ false → (j : ℕ) → Open p a.depth a.frames j → ⊥
unfolding in_own_finish finishes
open_none p a e j o =
    true_false (is_finish (here p (frame a o.level)).command) o.finish (some_below_none (a.depth - 1) (finishes p a) e o.level (omega (arith, o.deeper)))

module _ (s : State) where
  -- A descendant has a greater number.
  pub descends_above : (w x : ℕ) → descends s w x ≡ true → w < x
  unfolding descends
  descends_above w x h = chain_above (spawner_of s) (λ y. true) w 64 x h

  -- So has one inside a finish.
  pub inside_above : (w j x : ℕ) → inside s w j x ≡ true → w < x
  unfolding inside
  inside_above w j x h = chain_above (spawner_of s) (leb j) w 64 x h

  module _ (count : s.activities ≤ 64) (falls : (y : ℕ) → 0 < y → y < s.activities → (act s y).spawner < y) where
    -- A descendant of one inside is inside.
    pub inside_closed : (w j x y : ℕ) → y < s.activities → inside s w j x ≡ true → descends s x y ≡ true → inside s w j y ≡ true
    unfolding inside descends
    inside_closed w j x y l a b = chain_closed (spawner_of s) s.activities falls (leb j) w 64 x 64 y l (omega arith) a b

    -- Nobody is inside a finish that begins later.
    pub inside_first : (w j x : ℕ) → x < s.activities → inside s w j x ≡ true → j ≤ x
    unfolding inside
    inside_first w j x l h = go 64 x (omega arith) l h
      where
        go : (m x : ℕ) → x < m → x < s.activities → chain (spawner_of s) (leb j) w 64 x ≡ true → j ≤ x
        go zero x a l h = absurd (omega arith)
        go (suc m) x a l h = pick (go m (act s x).spawner) (chain_cases (spawner_of s) s.activities falls (leb j) w 64 x l (omega arith) h)
          where
            less : (act s x).spawner < x
            less = falls x (omega (arith, chain_above (spawner_of s) (leb j) w 64 x h)) l

            pick : ((act s x).spawner < m → (act s x).spawner < s.activities → chain (spawner_of s) (leb j) w 64 (act s x).spawner ≡ true → j ≤ (act s x).spawner)
                → (((act s x).spawner ≡ w) × (leb j x ≡ true)) ⊎ (chain (spawner_of s) (leb j) w 64 (act s x).spawner ≡ true)
                → j ≤ x
            pick ih (inl r) = leb-true j x r.1
            pick ih (inr r) = omega (arith, less, ih (omega (arith, less)) (omega (arith, less)) r)
