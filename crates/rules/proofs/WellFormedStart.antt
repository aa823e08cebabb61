-- The start state is well-formed and sized.
use Prim.Native.Nat.{ℕ, zero, suc, ◌<◌}
use native.Mathlib.Omega.{arith}
use native.Mathlib.Nat.{not-suc-le-zero}
use mathlib.Core.Bool.{true, false}
use mathlib.Core.Path.{◌≡◌, refl, ◌∙◌}
use lib.ListN.{length-set, length-replicate, get_or-replicate}
use lib.Seq.{get_or-set_same, get_or-set_other}
use Rattle.program.specs.Bodies.{Program}
use Rattle.program.proofs.Shape.{Accepted}
use Rattle.rules.specs.declared.state.Activity.{Activity}
use Rattle.rules.specs.Search.{all_below}
use Rattle.rules.specs.State.{no_frame, no_hold, no_frames, no_activity, no_accumulator, zero_state, absent, act}
use Rattle.rules.specs.Effects.{with_frames}
use Rattle.rules.specs.WellFormed.{is_no_activity, is_bottom, well_formed}
use Rattle.rules.specs.Steps.{start_state}
use Rattle.rules.proofs.Tests.{true_false}
use Rattle.rules.proofs.Sized.{SizedActivity, Sized}
use Rattle.rules.proofs.WellFormedPlaces.{placed_begun}
use Rattle.rules.proofs.WellFormedStack.{Stack, stack_put}
use Rattle.rules.proofs.WellFormedHolds.{held_none}
use Rattle.rules.proofs.WellFormedFacts.{ActivityFacts, Facts, formed}
use Rattle.rules.proofs.WellFormedStep.{stack_none}

-- main, at the start
abbrev pub main : Activity
main = with_frames no_activity 1 no_frames

-- activity 0 is main
pub start_main : act start_state 0 ≡ main
start_main = get_or-set_same zero_state.acts 0 main absent (omega (arith, length-replicate 64 no_activity))

-- the others are not spawned
start_other : (i : ℕ) → 0 < i → i < 64 → act start_state i ≡ no_activity
start_other i l m = get_or-set_other zero_state.acts 0 i main absent (λ q. omega arith) ∙ get_or-replicate 64 i no_activity absent m

-- main stands at the first command of body 0
main_stack : {p : Program} → Accepted p → Stack p 1 1 no_frames
unfolding is_bottom
main_stack {p} ok =
    stack_put 0 1 no_frames no_frame (stack_none p 1) refl (omega arith) (omega arith) (λ d h. absurd (not-suc-le-zero h)) (get_or-replicate 16 0 no_frame no_frame (omega arith))
    (λ d h m. rw (get_or-replicate 16 d no_frame no_frame m)) (placed_begun ok no_frame ok.some refl) (record { lowest = λ q. refl; higher = λ j q. absurd (omega arith) })

-- what holds of main
main_facts : (limit : ℕ) {p : Program} → Accepted p → ActivityFacts limit p 1 0 0 0 main
main_facts limit ok =
    record {
      stack = main_stack ok;
      gone = λ e. absurd (true_false false e refl);
      bodied = λ e. omega arith;
      barrier = λ e. absurd (true_false false e refl);
      held = held_none;
      bounds = λ n l. rw (get_or-replicate {A = ℕ} 8 n 0 0 l) (omega arith);
      main = λ e. refl;
      lower = λ e. absurd (not-suc-le-zero e);
    }

-- an unused entry is all 0
empty : is_no_activity no_activity ≡ true
unfolding is_no_activity all_below
empty = refl

-- what holds of the start state
pub start_facts : (limit : ℕ) {p : Program} → Accepted p → Facts limit p start_state
start_facts limit {p} ok =
    record {
      acts64 = omega arith;
      clocks16 = omega arith;
      accs16 = omega arith;
      steps = omega arith;
      spawned = λ i l. let z : i ≡ 0 = omega arith in rw (z, start_main) (main_facts limit ok);
      unspawned = λ i l m. rw (start_other i l m) empty;
      owned = λ n l. absurd (not-suc-le-zero l);
      unowned = λ n l m. rw (get_or-replicate 16 n no_accumulator no_accumulator m);
    }

-- the start state is well-formed
pub start_well_formed : (limit : ℕ) {p : Program} → Accepted p → well_formed limit p start_state ≡ true
start_well_formed limit {p} ok = formed limit p start_state (start_facts limit ok)

-- and sized
pub start_sized : Sized start_state
start_sized =
    record {
      acts64 = length-set zero_state.acts 0 main ∙ length-replicate 64 no_activity;
      accs16 = length-replicate 16 no_accumulator;
      cells16 = length-replicate {A = ℕ} 16 0;
      each = λ i l. go i l;
    }
  where
    none : SizedActivity no_activity
    none = record { frames16 = length-replicate 16 no_frame; holds8 = length-replicate 8 no_hold; names8 = length-replicate {A = ℕ} 8 0 }

    go : (i : ℕ) → i < 64 → SizedActivity (act start_state i)
    go zero l = rw start_main (record { frames16 = none.frames16; holds8 = none.holds8; names8 = none.names8 })
    go (suc i) l = rw (start_other (suc i) (omega arith) l) none
