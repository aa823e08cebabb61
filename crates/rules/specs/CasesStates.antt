-- Cases of our own: states made by hand for number 13, clause by clause, each broken alone where it can be.
use Rattle.std.specs.Prelude.{ℕ, List, [], ◌∷◌, ◌++◌, map, Bool, true, ◌&&◌, set, replicate, eqb}
use Rattle.rules.specs.declared.state.Fault.TheVariants.{F1, F7}
use Rattle.rules.specs.declared.state.Status.TheVariants.{Running, AtBarrier, Ended, Faulted}
use Rattle.rules.specs.declared.state.Registration.TheVariants.{Free, Live, Quiesced}
use Rattle.rules.specs.declared.state.Operator.TheVariants.{Sum, Maximum}
use Rattle.rules.specs.declared.state.State.{State}
use Rattle.rules.specs.Search.{list_from}
use Rattle.rules.specs.State.{answer_number, no_frame, no_frames, no_hold, no_holds}
use Rattle.rules.specs.Effects.{with_frames, with_holds, with_register, with_names, stopped}
use Rattle.rules.specs.Steps.{base, start_state, step, registrations_number}
use Rattle.rules.specs.Written.{frame_at, bottom, hold_on, holding, with_frame, on_body, with_hold, with_status, with_spawner, with_counts, change, change_acc, nest, nested, pair, paired, crowd, crowded, deep, deepest, atom, standing}

-- A fit state, and states that each break a clause.
pub record Broken : Type 0 where
  pub table : List ℕ
  pub fit : State
  pub unfit : List State

unfoldable pub all_unfit : List ℕ → List State → Bool
all_unfit t [] = true
all_unfit t (s ∷ ss) = let r = all_unfit t ss in eqb (answer_number (step base t s 0).answer) 13 && r

-- The first is not turned down, the others are, with 13.
unfoldable pub breaks : Broken → Bool
breaks c = eqb (registrations_number base c.table c.fit) 0 && all_unfit c.table c.unfit

unfoldable pub all_break : List Broken → Bool
all_break [] = true
all_break (c ∷ cs) = let r = all_break cs in breaks c && r

-- One state, and changes that each break a clause.
abbrev changed : List ℕ → State → List (State → State) → Broken
changed table s changes = record { table = table; fit = s; unfit = map (λ (f : State → State). f s) changes }

-- Two states, the first fit, the second not.
abbrev apart : List ℕ → State → State → Broken
apart table fit unfit = record { table = table; fit = fit; unfit = unfit ∷ [] }

-- CLAUSE BY CLAUSE

unfoldable pub broken : List Broken
broken =
    -- "a count .. is over its limit": activities, clocks, accumulators, the bodies of a stack
    apart crowd crowded (with_counts 0 65 0 0 crowded)
    ∷ apart nest (with_counts 2 1 16 0 nested) (with_counts 2 1 17 0 nested)
    ∷ apart nest (with_counts 2 1 0 16 nested) (with_counts 2 1 0 17 nested)
    ∷ apart deep (deepest 16) (deepest 17)
    -- "a .. phase is over its limit (phases 65,535)"
    ∷ apart pair (change 1 (with_hold 0 (hold_on 65535 0 Live)) paired) (change 1 (with_hold 0 (hold_on 65536 0 Live)) paired)
    -- "steps taken exceed the work"
    ∷ apart nest (with_counts 6 1 0 0 nested) (with_counts 7 1 0 0 nested)
    -- "a place is no command of its body (the k commands belong to their ATOM)"
    ∷ apart atom (standing 4) (standing 2)
    ∷ changed atom (standing 0) ((λ s. standing 1) ∷ change 0 (with_frame 0 (bottom 0 1)) ∷ [])
    -- "an unended activity has no body"
    ∷ apart pair (change 1 (λ a. stopped a Ended) paired) (change 1 (λ a. stopped a Running) paired)
    -- "an ended one has a body or a clock"; a faulted one too
    ∷ apart pair (change 1 (λ a. stopped a (Faulted F1)) paired) (change 1 (λ a. with_holds a (Faulted F1) no_holds) paired)
    ∷ apart pair (change 1 (λ a. stopped a Ended) paired) (change 1 (λ a. with_status Ended (with_frames a 0 no_frames)) paired)
    -- "an unmade thing is named": more activities at the beginning of a finish than were made (fewer are no breach); an activity as an accumulator's owner
    ∷ apart nest (change 0 (with_frame 1 (frame_at 0 1 0 0)) nested) (change 0 (with_frame 1 (frame_at 0 1 0 2)) nested)
    ∷ apart pair (with_counts 3 2 1 1 (change_acc 0 (holding 0 Sum 1) paired)) (with_counts 3 2 1 1 (change_acc 0 (holding 0 Sum 2) paired))
    ∷ apart pair (with_counts 3 2 1 16 (change_acc 15 (holding 7 Maximum 1) paired)) (with_counts 3 2 1 16 (change_acc 15 (holding 7 Maximum 2) paired))
    ∷ []

-- Main in a REPEAT body of a FINISH body.
unfoldable pub stacked : Broken
stacked =
    changed nest nested
    -- "a repeat has 0 runs left or more than its n"
    (change 0 (with_frame 2 (frame_at 0 2 0 0))
    ∷ change 0 (with_frame 2 (frame_at 0 2 3 0))
    -- "an unended activity has no body", "an ended one has a body"
    ∷ change 0 (λ a. with_frames a 0 no_frames)
    ∷ change 0 (with_status Ended)
    -- "a stacked body is not the one run by the FINISH or REPEAT of the body below it"; below stands neither
    ∷ change 0 (λ a. with_frames a 2 (frame_at 0 0 0 0 ∷ frame_at 0 2 0 1 ∷ replicate 14 no_frame))
    ∷ change 0 (λ a. with_frames a 2 (frame_at 2 0 0 0 ∷ frame_at 0 1 0 1 ∷ replicate 14 no_frame))
    -- "stacked bodies do not rise": in an accepted table a command runs only greater bodies, so this breaks with the clause above
    ∷ change 0 (λ a. with_frames a 2 (frame_at 0 0 0 0 ∷ frame_at 0 0 0 1 ∷ replicate 14 no_frame))
    -- "a standing at a meeting is not on NEXT"
    ∷ change 0 (with_status AtBarrier)
    -- "an unmade thing is named": an accumulator
    ∷ change 0 (λ a. with_names a (1 ∷ replicate 7 0))
    -- "an unused entry is not 0": the runs and `first` of a frame that has none, main's spawner
    ∷ change 0 (with_frame 0 (frame_at 0 0 1 0))
    ∷ change 0 (with_frame 0 (frame_at 0 0 0 1))
    ∷ change 0 (with_frame 1 (frame_at 0 1 1 1))
    ∷ change 0 (with_frame 2 (frame_at 0 2 2 1))
    ∷ change 0 (with_spawner 1)
    ∷ [])

-- Body 0: NEXT, CLOCK 1, RESUME 1, DROP 1, ASYNC 1 0, ACC 1 0, OFFER 1, READ 1, RESET 1, PUT 0, FETCH 1, STORE 1, ADD 1, ATOM 1 of FETCH 1, FINISH 1, REPEAT 2 1, CHOOSE 1, END.
-- Body 1 is a bare END. It may stand above FINISH, and above no other as a FINISH body does.
unfoldable pub every : List ℕ
every =
    0x02 ∷ 0x01 ∷ 0x02 ∷ 0x01 ∷ 0x03 ∷ 0x01 ∷ 0x04 ∷ 0x01 ∷ 0x05 ∷ 0x01 ∷ 0x00 ∷ 0x08 ∷ 0x01 ∷ 0x00 ∷ 0x09 ∷ 0x01 ∷ 0x0A ∷ 0x01 ∷ 0x0B ∷ 0x01
    ∷ 0x0C ∷ 0x00 ∷ 0x00 ∷ 0x00 ∷ 0x00 ∷ 0x0D ∷ 0x01 ∷ 0x0E ∷ 0x01 ∷ 0x0F ∷ 0x01 ∷ 0x10 ∷ 0x01 ∷ 0x0D ∷ 0x01 ∷ 0x06 ∷ 0x01 ∷ 0x07 ∷ 0x02 ∷ 0x01
    ∷ 0x11 ∷ 0x01 ∷ 0x00 ∷ 0x00 ∷ []

-- Activity 63 on body 1, above the command at a place of body 0.
abbrev above : ℕ → State
above offset = change 63 (λ a. with_status Running (with_frames a 2 (bottom offset 0 ∷ frame_at 0 1 0 1 ∷ replicate 14 no_frame))) crowded

unfoldable pub unrun : Broken
unrun =
    record {
      table = every;
      fit = above 34;
      unfit = map above (0 ∷ 1 ∷ 3 ∷ 5 ∷ 7 ∷ 10 ∷ 13 ∷ 15 ∷ 17 ∷ 19 ∷ 24 ∷ 26 ∷ 28 ∷ 30 ∷ 36 ∷ 39 ∷ 41 ∷ []);
    }

-- Sixteen bodies on a stack: what may be wrong with the last, and below it.
unfoldable pub highest : Broken
highest =
    changed deep (deepest 16)
    (change 0 (with_frame 15 (frame_at 1 15 1 0))
    ∷ change 0 (with_frame 15 (frame_at 0 15 0 0))
    ∷ change 0 (with_frame 15 (frame_at 0 15 2 0))
    ∷ change 0 (with_frame 15 (frame_at 0 15 1 1))
    ∷ change 0 (with_frame 15 (frame_at 0 14 1 0))
    ∷ change 0 (λ a. with_frame 14 (frame_at 0 15 1 0) (with_frame 15 no_frame (with_frames a 15 a.frames)))
    ∷ change 0 (with_frame 2 (frame_at 0 2 2 0))
    ∷ change 0 (λ a. with_frames a 15 (frame_at 0 0 0 0 ∷ frame_at 0 1 1 0 ∷ list_from 13 3 (λ b. frame_at 0 b 1 0) ++ (no_frame ∷ [])))
    ∷ [])

-- EVERY UNUSED ENTRY

-- "an unused entry is not 0": each field of an unspawned activity, the last one, and some of the first; each of an unmade accumulator.
unfoldable pub unmade : Broken
unmade =
    changed nest nested
    (change 63 (λ a. with_register a 1)
    ∷ change 63 (with_frame 0 (frame_at 1 0 0 0))
    ∷ change 63 (with_frame 1 (frame_at 0 1 0 0))
    ∷ change 63 (with_frame 15 (frame_at 0 1 0 0))
    ∷ change 63 (with_frame 15 (frame_at 0 0 1 0))
    ∷ change 63 (with_frame 2 (frame_at 0 0 0 1))
    ∷ change 63 (with_hold 0 (hold_on 1 0 Free))
    ∷ change 63 (with_hold 7 (hold_on 1 0 Free))
    ∷ change 63 (with_hold 3 (hold_on 0 1 Free))
    ∷ change 63 (with_hold 4 (hold_on 0 0 Live))
    ∷ change 63 (with_hold 7 (hold_on 0 0 Quiesced))
    ∷ change 63 (λ a. with_names a (1 ∷ replicate 7 0))
    ∷ change 63 (λ a. with_names a (set (replicate 8 0) 7 1))
    ∷ change 63 (with_status AtBarrier)
    ∷ change 63 (with_status Ended)
    ∷ change 63 (with_status (Faulted F7))
    ∷ change 63 (with_spawner 1)
    ∷ change 63 (λ a. with_frames a 1 no_frames)
    ∷ change 1 (λ a. with_register a 1)
    ∷ change 1 (with_frame 15 (frame_at 0 1 0 0))
    ∷ change 1 (with_status Ended)
    ∷ change_acc 0 (holding 1 Sum 0)
    ∷ change_acc 15 (holding 1 Sum 0)
    ∷ change_acc 0 (holding 0 Sum 1)
    ∷ change_acc 15 (holding 0 Maximum 0)
    ∷ [])

-- A SPAWNED ACTIVITY'S NAMES AND STACK

-- Main, on a bare END, holds clock 0.
unfoldable pub mainly : Broken
mainly =
    changed (0x02 ∷ 0x00 ∷ 0x01 ∷ 0x00 ∷ []) (with_counts 0 1 1 0 (change 0 (with_hold 0 (hold_on 0 0 Live)) start_state))
    (change 0 (with_hold 1 (hold_on 0 0 Live))
    ∷ change 0 (with_hold 1 (hold_on 0 1 Live))
    ∷ change 0 (with_hold 0 (hold_on 65536 0 Live))
    ∷ change 0 (with_hold 1 (hold_on 0 1 Free))
    ∷ change 0 (with_frame 1 (bottom 0 1))
    -- the place of a later body's command
    ∷ change 0 (on_body (bottom 1 0))
    ∷ [])

-- The first two of three activities that main spawned have ended, one with a fault.
unfoldable pub over : Broken
over =
    changed crowd (with_counts 0 4 1 0 (change 3 (on_body (bottom 0 1)) (change 2 (λ a. stopped a (Faulted F1)) (change 1 (λ a. stopped a Ended) start_state))))
    (change 1 (with_spawner 1)
    ∷ change 1 (with_spawner 2)
    ∷ change 1 (λ a. with_names a (1 ∷ replicate 7 0))
    ∷ change 1 (with_frame 0 (bottom 0 1))
    ∷ change 1 (with_hold 0 (hold_on 1 0 Free))
    ∷ change 1 (with_hold 7 (hold_on 0 0 Live))
    ∷ change 2 (with_hold 0 (hold_on 0 0 Quiesced))
    ∷ [])

-- The child of `paired` has its clock under name 4. Three clocks and two accumulators are made.
unfoldable pub spawned : Broken
spawned =
    changed pair (with_counts 3 2 3 2 (change 1 (λ a. with_hold 4 (hold_on 0 0 Live) (with_hold 0 no_hold a)) paired))
    (change 1 (with_hold 0 (hold_on 0 0 Live))
    ∷ change 1 (with_hold 5 (hold_on 1 0 Quiesced))
    ∷ change 1 (with_hold 0 (hold_on 0 3 Live))
    ∷ change 1 (with_hold 1 (hold_on 1 0 Free))
    ∷ change 1 (with_frame 1 (bottom 0 1))
    ∷ change 1 (with_spawner 1)
    ∷ [])

-- Activity 63 is on the END of body 1, holds clock 1 under name 2 and has accumulator 1 under name 7.
unfoldable pub last : Broken
last =
    changed crowd
    (with_counts 0 64 3 2 (change 63 (λ a. with_names (with_hold 2 (hold_on 3 1 Live) (with_status Running (on_body (bottom 0 1) a))) (set (replicate 8 0) 7 2)) crowded))
    -- two names for one clock: whatever the names, the phases and the registrations are
    (change 63 (with_hold 5 (hold_on 3 1 Live))
    ∷ change 63 (with_hold 7 (hold_on 4 1 Quiesced))
    ∷ change 63 (with_hold 1 (hold_on 3 1 Live))
    ∷ change 63 (λ a. with_hold 6 (hold_on 0 2 Live) (with_hold 7 (hold_on 0 2 Live) a))
    -- a clock's and an accumulator's number out of range, a phase over its limit
    ∷ change 63 (with_hold 7 (hold_on 0 3 Live))
    ∷ change 63 (with_hold 7 (hold_on 65536 2 Quiesced))
    ∷ change 63 (with_hold 3 (hold_on 65536 2 Live))
    ∷ change 63 (λ a. with_names a (set (replicate 8 0) 7 3))
    ∷ change 63 (λ a. with_names a (set (replicate 8 0) 4 3))
    -- a free name's phase and clock number
    ∷ change 63 (with_hold 7 (hold_on 1 0 Free))
    ∷ change 63 (with_hold 3 (hold_on 0 2 Free))
    -- an unused frame
    ∷ change 63 (with_frame 1 (frame_at 1 0 0 0))
    ∷ change 63 (with_frame 15 (frame_at 1 0 0 0))
    ∷ change 63 (with_frame 15 (frame_at 0 1 0 0))
    ∷ change 63 (with_frame 4 (frame_at 0 0 1 0))
    ∷ change 63 (with_frame 4 (frame_at 0 0 0 1))
    ∷ change 63 (with_frame 9 (frame_at 0 1 0 0))
    -- the stack, the status and the spawner
    ∷ change 63 (on_body (bottom 3 1))
    ∷ change 63 (on_body (frame_at 0 1 1 0))
    ∷ change 63 (on_body (frame_at 0 1 0 1))
    ∷ change 63 (with_status AtBarrier)
    ∷ change 63 (with_status Ended)
    ∷ change 63 (with_status (Faulted F7))
    ∷ change 63 (λ a. stopped a Running)
    ∷ change 63 (with_spawner 63)
    ∷ [])
