-- Whom an activity waits for, as a set, and how many they are.
use Rattle.std.specs.Prelude.{ℕ, Bool, false, ◌&&◌, not}
use Rattle.program.specs.declared.command.Command.{Command}
use Rattle.program.specs.declared.command.Command.TheVariants.{End, Next, Clock, Resume, Drop, Async, Finish, Repeat, Acc, Offer, Read, Reset, Put, Fetch, Store, Add, Atom, Choose}
use Rattle.program.specs.Bodies.{Program}
use Rattle.rules.specs.declared.state.Activity.{Activity}
use Rattle.rules.specs.declared.state.State.{State}
use Rattle.rules.specs.Search.{some_below, count_below}
use Rattle.rules.specs.State.{top, hold, ended, is_at_barrier}
use Rattle.rules.specs.Clocks.{holds, behind}
use Rattle.rules.specs.Tree.{in_finish_body, descends, inside}

-- "Passing waits until each own clock is quiescent in the activity's phase on it. With no clocks it never waits."
unfoldable pub behind_of : State → Activity → ℕ → Bool
behind_of s a x = some_below 8 (λ k. holds a k && behind s (hold a k).clock (hold a k).phase x)

-- "READ and RESET wait until every descendant has ended."
unfoldable pub unended_below : State → ℕ → ℕ → Bool
unended_below s i x = descends s i x && not (ended s x)

-- "END of a FINISH body waits until every activity inside has ended"
unfoldable pub unended_inside : State → ℕ → ℕ → ℕ → Bool
unended_inside s i first x = inside s i first x && not (ended s x)

-- Activity i, which is a, at a command, waits for activity x.
unfoldable pub waits_for : Program → State → ℕ → Activity → Command → ℕ → Bool
waits_for p s i a End x = in_finish_body p a && unended_inside s i (top a).first x
waits_for p s i a Next x = is_at_barrier a.status && behind_of s a x
waits_for p s i a (Clock c) x = false
waits_for p s i a (Resume c) x = false
waits_for p s i a (Drop c) x = false
waits_for p s i a (Async b m) x = false
waits_for p s i a (Finish b) x = false
waits_for p s i a (Repeat n b) x = false
waits_for p s i a (Acc n o) x = false
waits_for p s i a (Offer n) x = false
waits_for p s i a (Read n) x = unended_below s i x
waits_for p s i a (Reset n) x = unended_below s i x
waits_for p s i a (Put v) x = false
waits_for p s i a (Fetch d) x = false
waits_for p s i a (Store d) x = false
waits_for p s i a (Add d) x = false
waits_for p s i a (Atom k) x = false
waits_for p s i a (Choose b) x = false

-- "The waiting test shall give a number in place of a yes or no: the different activities behind at a meeting, those inside a finish not ended, or the descendants
-- not ended."
unfoldable pub awaited_at : Program → State → ℕ → Activity → Command → ℕ
awaited_at p s i a c = count_below s.activities (waits_for p s i a c)
