-- Clocks: who holds one, and when a phase is quiescent.
use Rattle.std.specs.Prelude.{ℕ, ◌+◌, Bool, true, false, cond, ◌||◌, ◌&&◌, not, ltb, eqb}
use Rattle.rules.specs.declared.state.Registration.{Registration}
use Rattle.rules.specs.declared.state.Registration.TheVariants.{Free, Live, Quiesced}
use Rattle.rules.specs.declared.state.Hold.{Hold}
use Rattle.rules.specs.declared.state.Activity.{Activity}
use Rattle.rules.specs.declared.state.State.{State}
use Rattle.rules.specs.Search.{some_below}
use Rattle.rules.specs.State.{act, hold}

abbrev pub is_held : Registration → Bool
is_held Free = false
is_held Live = true
is_held Quiesced = true

abbrev pub is_live : Registration → Bool
is_live Free = false
is_live Live = true
is_live Quiesced = false

-- The activity holds a clock under name k.
abbrev pub holds : Activity → ℕ → Bool
holds a k = is_held (hold a k).registration

unfoldable pub holds_some : Activity → Bool
holds_some a = some_below 8 (holds a)

-- A hold of clock c that keeps phase p from being quiescent: in an earlier phase, or live in p.
unfoldable pub is_behind : ℕ → ℕ → Hold → Bool
is_behind c p h = is_held h.registration && (eqb h.clock c && (ltb h.phase p || (eqb h.phase p && is_live h.registration)))

-- Activity x has such a hold.
unfoldable pub behind : State → ℕ → ℕ → ℕ → Bool
behind s c p x = some_below 8 (λ k. is_behind c p (hold (act s x) k))

-- "Phase p of a clock is quiescent when no holder is in an earlier phase, or live in p."
unfoldable pub quiescent : State → ℕ → ℕ → Bool
quiescent s c p = not (some_below s.activities (behind s c p))

-- RESUME and arrival: "quiesce on c; again changes nothing"
abbrev pub quiesced : Registration → Registration
quiesced Free = Free
quiesced Live = Quiesced
quiesced Quiesced = Quiesced

abbrev pub quiesce : Hold → Hold
quiesce h = record { phase = h.phase; clock = h.clock; registration = quiesced h.registration }

-- "Passing raises each own phase by one and makes each live."
abbrev pub revived : Registration → Registration
revived Free = Free
revived Live = Live
revived Quiesced = Live

abbrev pub pass : Hold → Hold
pass h = record { phase = h.phase + cond (is_held h.registration) 1 0; clock = h.clock; registration = revived h.registration }
