-- No standstill: where every unended activity waits, none is unended. If some wait at the END of a FINISH body, take the one with the greatest number,
-- and of it those inside; otherwise take all. Neither a shared clock nor a descent leaves that group, so its last member is at a barrier. Of those at
-- a barrier one with the least virtual time waits for a holder who is behind, in the group, at a barrier too and earlier: there is none.
-- The argument sees a state only through a view; instead of a greatest or a least it inducts on a distance.
use Prim.Native.Nat.{ℕ, zero, suc, ◌+◌, ◌<◌}
use native.Mathlib.Omega.{arith}
use native.Mathlib.Nat.{not-suc-le-zero}
use mathlib.Core.Bool.{Bool, true, false}
use mathlib.Core.Path.{◌≡◌}
use mathlib.Core.Logic.{◌⊎◌, inl, inr}

-- What the argument looks at: n activities, a hold for each activity and name, the tree, and the count when each open FINISH body began.
pub record View : Type 1 where
  pub n : ℕ
  pub unended : ℕ → Bool
  pub barrier : ℕ → Bool
  pub opened : ℕ → ℕ → Type 0
  pub held : ℕ → ℕ → Bool
  pub live : ℕ → ℕ → Bool
  pub clock : ℕ → ℕ → ℕ
  pub phase : ℕ → ℕ → ℕ
  pub descends : ℕ → ℕ → Bool
  pub inside : ℕ → ℕ → ℕ → Bool

module _ (s : View) where
  -- At a barrier, for a holder of an own clock who is in an earlier phase, or live in this one.
  pub record AtMeeting (i : ℕ) : Type 0 where
    pub standing : s.barrier i ≡ true
    pub own : ℕ
    pub owned : s.held i own ≡ true
    pub other : ℕ
    pub there : other < s.n
    pub name : ℕ
    pub holds : s.held other name ≡ true
    pub same : s.clock other name ≡ s.clock i own
    pub behind : (s.phase other name < s.phase i own) ⊎ ((s.phase other name ≡ s.phase i own) × (s.live other name ≡ true))

  -- At the END of a FINISH body, for an unended one inside.
  pub record AtFinish (i : ℕ) : Type 0 where
    pub first : ℕ
    pub level : s.opened i first
    pub other : ℕ
    pub there : other < s.n
    pub runs : s.unended other ≡ true
    pub within : s.inside i first other ≡ true

  -- At a READ or RESET, for an unended descendant; a reader holds no clock.
  pub record AtRead (i : ℕ) : Type 0 where
    pub other : ℕ
    pub there : other < s.n
    pub runs : s.unended other ≡ true
    pub below : s.descends i other ≡ true
    pub none : (k : ℕ) → s.held i k ≡ false

  -- The three ways to wait.
  pub data Waits (i : ℕ) : Type 0 where
    meets : AtMeeting i → Waits i
    closes : AtFinish i → Waits i
    reads : AtRead i → Waits i

  -- The invariants, with a virtual time of activities and a base of clocks.
  pub record Sound (vt base : ℕ → ℕ) : Type 0 where
    pub down : (w x : ℕ) → s.descends w x ≡ true → w < x
    pub in_down : (w j x : ℕ) → s.inside w j x ≡ true → w < x
    pub in_closed : (w j x y : ℕ) → y < s.n → s.inside w j x ≡ true → s.descends x y ≡ true → s.inside w j y ≡ true
    pub ended_free : (i k : ℕ) → i < s.n → s.held i k ≡ true → s.unended i ≡ true
    pub quiesced : (i k : ℕ) → i < s.n → s.barrier i ≡ true → s.held i k ≡ true → s.live i k ≡ false
    pub time : (i k : ℕ) → i < s.n → s.held i k ≡ true → s.phase i k + base (s.clock i k) ≡ vt i
    pub contained : (w j : ℕ) → w < s.n → s.unended w ≡ true → s.opened w j → (x k y l : ℕ) → x < s.n → y < s.n
        → s.held x k ≡ true → s.held y l ≡ true → s.clock y l ≡ s.clock x k → s.inside w j x ≡ true → s.inside w j y ≡ true

  -- A group of unended activities that neither a shared clock nor a descent leaves, none of them at the END of a FINISH body.
  record Group (U : ℕ → Type 0) : Type 0 where
    runs : (x : ℕ) → U x → (x < s.n) × (s.unended x ≡ true)
    shares : (x k y l : ℕ) → U x → y < s.n → s.held x k ≡ true → s.held y l ≡ true → s.clock y l ≡ s.clock x k → U y
    descendants : (x y : ℕ) → U x → y < s.n → s.unended y ≡ true → s.descends x y ≡ true → U y
    no_closing : (x : ℕ) → U x → AtFinish x → ⊥

  module _ (vt base : ℕ → ℕ) (ok : Sound vt base) (all : (i : ℕ) → i < s.n → s.unended i ≡ true → Waits i) (U : ℕ → Type 0) (g : Group U) where
    -- Who waits at a barrier for another at a barrier is later than it.
    earlier : (y : ℕ) → U y → (m : AtMeeting y) → s.barrier m.other ≡ true → vt m.other < vt y
    earlier y u m b = go m.behind
      where
        now_y : s.phase y m.own + base (s.clock y m.own) ≡ vt y
        now_y = ok.time y m.own (g.runs y u).0 m.owned

        now_z : s.phase m.other m.name + base (s.clock y m.own) ≡ vt m.other
        now_z = rw m.same at (ok.time m.other m.name m.there m.holds)

        go : (s.phase m.other m.name < s.phase y m.own) ⊎ ((s.phase m.other m.name ≡ s.phase y m.own) × (s.live m.other m.name ≡ true))
            → vt m.other < vt y
        go (inl l) = omega (arith, now_y, now_z)
        go (inr e) = let z : ◌≡◌ {A = ℕ} 0 1 = cc (ok.quiesced m.other m.name m.there b m.holds, e.1) in omega arith

    -- So none waits at a barrier, by induction on the time.
    no_meeting : (v y : ℕ) → vt y < v → U y → AtMeeting y → ⊥
    no_meeting zero y l u m = absurd (not-suc-le-zero l)
    no_meeting (suc v) y l u m = go (no_meeting v) (all m.other m.there (ok.ended_free m.other m.name m.there m.holds))
      where
        uz : U m.other
        uz = g.shares y m.own m.other m.name u m.there m.owned m.holds m.same

        go : ((z : ℕ) → vt z < v → U z → AtMeeting z → ⊥) → Waits m.other → ⊥
        go ih (meets m') = ih m.other (omega (arith, earlier y u m m'.standing)) uz m'
        go ih (closes f) = g.no_closing m.other uz f
        go ih (reads r) = let z : ◌≡◌ {A = ℕ} 0 1 = cc (r.none m.name, m.holds) in omega arith

    -- And there is none, by induction on the distance to the last activity.
    no_member : (d x : ℕ) → s.n < x + d → U x → ⊥
    no_member zero x l u = let h : x < s.n = (g.runs x u).0 in omega arith
    no_member (suc d) x l u = go (no_member d) (all x (g.runs x u).0 (g.runs x u).1)
      where
        go : ((y : ℕ) → s.n < y + d → U y → ⊥) → Waits x → ⊥
        go ih (meets m) = no_meeting (suc (vt x)) x (omega arith) u m
        go ih (closes f) = g.no_closing x u f
        go ih (reads r) =
            ih r.other (omega (arith, ok.down x r.other r.below))
            (g.descendants x r.other u r.there r.runs r.below)

  module _ (vt base : ℕ → ℕ) (ok : Sound vt base) (all : (i : ℕ) → i < s.n → s.unended i ≡ true → Waits i) where
    -- The unended activities inside a finish of w.
    Inner : ℕ → ℕ → ℕ → Type 0
    Inner w j x = (x < s.n) × (s.unended x ≡ true) × (s.inside w j x ≡ true)

    -- None waits at the END of a FINISH body, by induction on the distance to the last activity.
    no_finish : (d w : ℕ) → s.n < w + d → w < s.n → s.unended w ≡ true → AtFinish w → ⊥
    unfolding Inner
    no_finish zero w l h u f = omega arith
    no_finish (suc d) w l h u f =
        no_member vt base ok all (Inner w f.first) (group (no_finish d)) (suc s.n) f.other (omega arith) (f.there, f.runs, f.within)
      where
        group : ((y : ℕ) → s.n < y + d → y < s.n → s.unended y ≡ true → AtFinish y → ⊥) → Group (Inner w f.first)
        group ih = record {
          runs = λ x i. (i.0, i.1);
          shares = λ x k y l i b hx hy e. (b, ok.ended_free y l b hy, ok.contained w f.first h u f.level x k y l i.0 b hx hy e i.2);
          descendants = λ x y i b v e. (b, v, ok.in_closed w f.first x y b i.2 e);
          no_closing = λ x i c. ih x (omega (arith, ok.in_down w f.first x i.2)) i.0 i.1 c;
        }

    -- All unended activities.
    Unended : ℕ → Type 0
    Unended x = (x < s.n) × (s.unended x ≡ true)

    -- No activity is unended.
    pub standstill : (x : ℕ) → x < s.n → s.unended x ≡ true → ⊥
    unfolding Unended
    standstill x h u = no_member vt base ok all Unended group (suc s.n) x (omega arith) (h, u)
      where
        group : Group Unended
        group = record {
          runs = λ x i. i;
          shares = λ x k y l i b hx hy e. (b, ok.ended_free y l b hy);
          descendants = λ x y i b v e. (b, v);
          no_closing = λ x i c. no_finish (suc s.n) x (omega arith) i.0 i.1 c;
        }
