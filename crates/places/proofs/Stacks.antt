-- The stack of a well-formed activity that has not ended.
use Prim.Native.Nat.{ℕ, zero, suc, ◌-◌, ◌≤◌, ◌<◌}
use native.Mathlib.Omega.{arith}
use mathlib.Core.Path.{◌≡◌, refl, sym}
use mathlib.Core.Bool.{true, false}
use lib.Dec.{leb}
use borrow.Author.Tests.{ltb-true, leb-true, lt-ltb}
use Rattle.program.specs.Command.{is_end}
use Rattle.program.specs.Bodies.{Program}
use Rattle.program.specs.declared.command.Command.{Command}
use Rattle.program.specs.declared.command.Command.TheVariants.{End, Next, Clock, Resume, Drop, Async, Finish, Repeat, Acc, Offer, Read, Reset, Put, Fetch, Store, Add, Atom, Choose}
use Rattle.rules.specs.declared.state.Frame.{Frame}
use Rattle.rules.specs.declared.state.Activity.{Activity}
use Rattle.rules.specs.State.{frame}
use Rattle.rules.specs.Tree.{here}
use Rattle.rules.specs.WellFormed.{run_by, is_placed, is_stacked, frame_fits, stack_fits}
use Rattle.rules.proofs.Tests.{and_true}
use Rattle.rules.proofs.Search.{all_below_at}
use Rattle.places.specs.Stack.{Stacked}

-- END runs no body.
run_goes : (made : ℕ) (c : Command) (f : Frame) → run_by made c f ≡ true → is_end c ≡ false
unfolding run_by is_end
run_goes made End f e = sym e
run_goes made Next f e = refl
run_goes made (Clock c) f e = refl
run_goes made (Resume c) f e = refl
run_goes made (Drop c) f e = refl
run_goes made (Async b m) f e = refl
run_goes made (Finish b) f e = refl
run_goes made (Repeat n b) f e = refl
run_goes made (Acc n o) f e = refl
run_goes made (Offer n) f e = refl
run_goes made (Read n) f e = refl
run_goes made (Reset n) f e = refl
run_goes made (Put v) f e = refl
run_goes made (Fetch d) f e = refl
run_goes made (Store d) f e = refl
run_goes made (Add d) f e = refl
run_goes made (Atom k) f e = refl
run_goes made (Choose b) f e = refl

module _ (p : Program) (made : ℕ) (a : Activity) where
  placed_at : (d : ℕ) → frame_fits p made a d ≡ true → is_placed p (frame a d) ≡ true
  unfolding frame_fits
  placed_at zero e = (and_true (is_placed p (frame a zero)) _ e).0
  placed_at (suc d) e = (and_true (is_placed p (frame a (suc d))) _ e).0

  stacked_at : (d : ℕ) → frame_fits p made a (suc d) ≡ true → (is_end (here p (frame a d)).command ≡ false) × ((frame a d).body < (frame a (suc d)).body)
  unfolding frame_fits is_stacked
  stacked_at d e =
      let q = and_true (run_by made (here p (frame a d)).command (frame a (suc d))) _ (and_true (is_placed p (frame a (suc d))) _ e).1 in
      (run_goes made (here p (frame a d)).command (frame a (suc d)) q.0, ltb-true _ _ q.1)

  module _ (fits : stack_fits p made a ≡ true) where
    few_frames : a.depth ≤ 16
    unfolding stack_fits
    few_frames = leb-true _ _ (and_true (leb a.depth 16) _ fits).0

    fits_at : (d : ℕ) → d < a.depth → frame_fits p made a d ≡ true
    unfolding stack_fits
    fits_at d h =
        let few = few_frames in
        let e = all_below_at 16 _ (and_true (leb a.depth 16) _ fits).1 d (omega arith) in
        rw (lt-ltb d a.depth h) at e

    rises : (d : ℕ) → d < a.depth → d ≤ (frame a d).body
    rises zero h = omega arith
    rises (suc d) h = let r = rises d (omega arith) in let q = (stacked_at d (fits_at (suc d) h)).1 in omega arith

    -- A stack that fits, of an activity that has not ended.
    pub stacked : 0 < a.depth → Stacked p a
    stacked some = record {
      some = some;
      few = few_frames;
      placed = λ d h. placed_at d (fits_at d h);
      goes = λ d h. (stacked_at d (fits_at (suc d) (omega arith))).0;
      high = let r = rises (a.depth - 1) (omega arith) in omega arith;
    }
