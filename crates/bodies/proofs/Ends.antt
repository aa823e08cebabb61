-- END.
use Rattle.std.proofs.Common.{Option, Result, Ok, Err, IsErr, IsErrAnd}
use Rattle.std.specs.Bool.{⊤}
use Prim.Native.Nat.{ℕ, suc, ◌+◌, ◌-◌, ◌*◌, ◌^◌, ◌≤◌, ◌<◌}
use native.Mathlib.Omega.{arith}
use native.Mathlib.Nat.{add_assoc}
use mathlib.Core.Path.{◌≡◌, refl, sym, ap, ◌∙◌, subst}
use mathlib.Core.List.{List}
use mathlib.Core.Bool.{Bool, true, false, cond}
use lib.Seq.{get_or-set_other}
use lib.Dec.{leb, eqb}
use borrow.Author.Tests.{le-leb, lt-leb, lt-ltb, le-ltb, ne_eqb}
use Rattle.program.specs.Command.{is_end, width, held}
use Rattle.program.specs.Bodies.{program_of}
use Rattle.program.specs.Scan.{scan}
use Rattle.program.specs.declared.refusal.Refusal.{Refusal}
use Rattle.program.specs.declared.command.Command.{Command}
use Rattle.program.specs.declared.command.Command.TheVariants.{End, Finish, Repeat, Choose}
use Rattle.program.proofs.ShapeRows.{span_is}
use Rattle.rules.specs.declared.state.Fault.{Fault}
use Rattle.rules.specs.declared.state.Fault.TheVariants.{F8}
use Rattle.rules.specs.declared.state.Status.TheVariants.{Ended}
use Rattle.rules.specs.declared.state.Frame.{Frame}
use Rattle.rules.specs.declared.state.Activity.{Activity}
use Rattle.rules.specs.declared.state.State.{State}
use Rattle.rules.specs.State.{no_frame, act, frame, top, taken_number}
use Rattle.rules.specs.Tree.{here, next_offset}
use Rattle.rules.specs.WellFormed.{is_placed}
use Rattle.rules.specs.Faults.{fault_for, spoilt}
use Rattle.rules.specs.Steps.{fault}
use Rattle.rules.specs.Effects.{alone, stopped, with_top, past, again, popped, end_of, effect_of}
use Rattle.rules.proofs.WellFormedStack.{Ran, by_finish, by_repeat, by_choose, ran_going, Stack}
use Rattle.rules.proofs.WellFormedFacts.{facts}
use Rattle.moves.specs.Exceeding.{overfull}
use Rattle.places.proofs.Places.{next_is, next_small}
use Rattle.fields.specs.Lent.{Lent, Reads, ReadsAct, WritesAct, with_act, with_steps, with_frame, with_depth, onward}
use Rattle.moves.specs.Moves.{Standing, Turned, Counts, GoesOn, Fails, unspent}
use Rattle.bodies.specs.Pops.{lower, Pops, rerun, Reruns, Ends}
use Rattle.moves.proofs.Withs.{act_with, with_with, steps_with, then}
use Rattle.moves.proofs.Standings.{left, turns_down, spawned, few, fault_at, plain, calm, steps_room, shallow, done_alone}

pub pop_done : {b b₁ b₂ b₃ : List ℕ} {i d size r : ℕ} {f : Frame} → f ≡ no_frame → (d - 1 < 16 → WritesAct (λ (a : Activity). with_frame a (d - 1) f) b b₁ i)
    → WritesAct (λ (a : Activity). with_depth a (d - 1)) b₁ b₂ i → GoesOn b₂ b₃ i size r → Pops b b₃ i d size r
pop_done {i = i} {d = d} q f g k =
    record {
      number = k.number;
      pops =
          λ s l j room e some few fits.
          let x = lower (act s i) in
          let n : act (with_act s i x) i ≡ x = act_with x l j in
          let m : Lent _ (with_act s i x) = rw (q, e) at ((then (f (omega arith)) g).writes s l j) in
          let o = k.goes _ m j (rw (steps_with s i x) room) (rw n (omega arith)) (rw n (omega arith)) (rw n fits) in
          rw (n, with_with, steps_with s i x) at o;
    }

pub again_done : {b b₁ b₂ : List ℕ} {i at r : ℕ} {f : Frame} → (at < 16 → WritesAct (λ (a : Activity). with_frame a at (rerun f)) b b₁ i) → Counts b₁ b₂ r → Reruns f b b₂ i at r
unfolding with_act
again_done put g = record { number = g.number; reruns = λ s l j h room. g.counts _ ((put h).writes s l j) room }

-- the bytes of what runs a body
size_of : {made : ℕ} {o : Command} {f : Frame} → Ran made o f → width o + 2 * held o ≡ cond (eqb f.runs 0) 2 3
size_of (by_finish b e p q r) = rw (e, q) (span_is (Finish b))
size_of {f = f} (by_repeat n b e p q r u) = rw (e, ne_eqb f.runs 0 (λ z. omega arith)) (span_is (Repeat n b))
size_of (by_choose b e p q r) = rw (e, q) (span_is (Choose b))

-- A fault is passed on.
pub passed_on : {faulted : Bool} {b b₁ : List ℕ} {work i r : ℕ} → Fails F8 b b₁ work i r → faulted ≡ true → Ends faulted b b₁ work i r
passed_on g e = record { turns = λ t k s l w q. g.fails _ s _ l w (fault_at w ∙ rw (sym q ∙ e)) }

-- No step is left.
pub none_left : {faulted : Bool} {b : List ℕ} {work i : ℕ} {a : Result ⊤ Refusal} {e : Refusal} → Reads (unspent work) b a → a ≡ Err e → (x : Result (Option Fault) Refusal)
    → IsErr x × IsErrAnd x (λ y. y ≡ e) → Ends faulted b b work i (taken_number x)
none_left asked e x g = record { turns = λ t k s l w q. (turns_down asked e x g).turns _ s l w }

module _ (t : List ℕ) {b : List ℕ} {s : State} {i work d : ℕ} (k : scan t ≡ 0) (l : Lent b s) (w : Standing (program_of t) s i work End) (room : false ≡ leb work s.steps)
    (deep : ReadsAct (λ (a : Activity). a.depth) b i d) (none : spoilt (program_of t) s i (act s i) End ≡ false) where
  depth : d ≡ (act s i).depth
  depth = deep.reads s l (few w)

  stack : Stack (program_of t) s.activities (act s i).depth (act s i).frames
  stack = ((facts 65535 (program_of t) s w.formed).spawned i (spawned w)).stack

  -- no fault is met
  clear : fault (program_of t) s i ≡ 0
  unfolding fault_for
  clear = fault_at w ∙ rw none

  -- the activity after it
  after : {b₁ : List ℕ} {r : ℕ} (x : Activity) → end_of (program_of t) (act s i) ≡ x → Lent b₁ (with_steps (with_act s i x) (s.steps + 1)) → r ≡ 0 → x.status ≡ (act s i).status
      → Turned (program_of t) s i b₁ r
  unfolding effect_of overfull
  after x e m n q = done_alone w clear (plain w room refl (λ o. omega arith)) x (ap alone e) m (n ∙ sym (rw q (calm w)))

  pub ended : {b₁ b₂ : List ℕ} {r : ℕ} → d ≤ 1 → WritesAct (λ (a : Activity). stopped a Ended) b b₁ i → Counts b₁ b₂ r → Turned (program_of t) s i b₂ r
  unfolding effect_of overfull end_of with_act
  ended h f g =
      let x = stopped (act s i) Ended in
      let e = depth in
      let q : end_of (program_of t) (act s i) ≡ x = rw (le-leb (act s i).depth 1 (omega arith)) in
      done_alone w clear (plain w room refl (λ o. omega arith)) x (ap alone q) (g.counts _ (f.writes s l (few w)) (steps_room w room)) g.number

  module _ (h : 1 < d) {f : Frame} (read : d - 1 < 16 → ReadsAct (λ (a : Activity). frame a (d - 1)) b i f) where
    low : d - 1 < 16
    low = let m = shallow w in let e = depth in omega arith

    upper : f ≡ top (act s i)
    upper = (read low).reads s l (few w) ∙ rw depth

    pub reran : {b₁ : List ℕ} {r : ℕ} → 1 < f.runs → Reruns f b b₁ i (d - 1) r → Turned (program_of t) s i b₁ r
    unfolding end_of again
    reran m g =
        let e = depth in
        let q : end_of (program_of t) (act s i) ≡ again (act s i) = rw (lt-leb (act s i).depth 1 (omega arith), lt-ltb 1 (top (act s i)).runs (rw (← upper) m)) in
        after (again (act s i)) q (rw (depth, upper) at (g.reruns s l (few w) low (steps_room w room))) g.number refl

    -- what stands below
    abbrev under : Frame
    under = frame (act s i) ((act s i).depth - 1 - 1)

    top_is : top (lower (act s i)) ≡ under
    top_is = get_or-set_other (act s i).frames ((act s i).depth - 1) ((act s i).depth - 1 - 1) no_frame no_frame (λ q. let e = depth in omega arith)

    placed : is_placed (program_of t) under ≡ true
    placed = stack.placed ((act s i).depth - 1 - 1) (let e = depth in omega arith)

    runs_it : Ran s.activities (here (program_of t) under).command f
    runs_it =
        let e = depth in
        let z : suc ((act s i).depth - 1 - 1) ≡ (act s i).depth - 1 = omega arith in
        rw upper
        (subst (λ (n : ℕ). Ran s.activities (here (program_of t) under).command (frame (act s i) n)) z (stack.stacked ((act s i).depth - 1 - 1) (omega arith)).by)

    pub popped_out : {b₁ : List ℕ} {size r : ℕ} → f.runs ≤ 1 → cond (eqb f.runs 0) 2 3 ≡ size → Pops b b₁ i d size r → Turned (program_of t) s i b₁ r
    unfolding end_of popped past with_act
    popped_out {b₁} {size} {r} once z o =
        let goes : is_end (here (program_of t) under).command ≡ false = ran_going runs_it in
        let n : next_offset (program_of t) under ≡ under.offset + size =
        next_is t k under placed goes
        ∙ add_assoc under.offset (width (here (program_of t) under).command) (2 * held (here (program_of t) under).command)
        ∙ rw (size_of runs_it, z) in
        let small = next_small t k under placed goes in
        let fits : (top (lower (act s i))).offset + size < 2 ^ 16 = rw top_is (omega arith) in
        let q : end_of (program_of t) (act s i) ≡ popped (program_of t) (act s i) =
        let e = depth in
        rw (lt-leb (act s i).depth 1 (omega arith), le-ltb 1 (top (act s i)).runs (rw (← upper) once)) in
        let v : (top (lower (act s i))).offset + size ≡ next_offset (program_of t) (top (lower (act s i))) = rw top_is (sym n) in
        let m = o.pops s l (few w) (steps_room w room) depth h (rw depth (shallow w)) fits in
        after (popped (program_of t) (act s i)) q
        (subst (λ (j : ℕ). Lent b₁ (with_steps (with_act s i (with_top (lower (act s i)) (onward (top (lower (act s i))) j))) (s.steps + 1))) v m) o.number refl

-- One is, and no fault is passed on.
module _ {faulted : Bool} {b b₁ : List ℕ} {i work d : ℕ} {a : Result ⊤ Refusal} {u : ⊤} (asked : Reads (unspent work) b a) (one : a ≡ Ok u) (deep : ReadsAct (λ (a : Activity). a.depth) b i d)
    (none : faulted ≡ false) where
  pub ends_all : {b₂ : List ℕ} {r : ℕ} → d ≤ 1 → WritesAct (λ (a : Activity). stopped a Ended) b b₁ i → Counts b₁ b₂ r → Ends faulted b b₂ work i r
  ends_all h f g = record { turns = λ t k s l w q. ended t k l w (left work l asked one) deep (sym q ∙ none) h f g }

  module _ (h : 1 < d) {f : Frame} (read : d - 1 < 16 → ReadsAct (λ (a : Activity). frame a (d - 1)) b i f) where
    pub ends_run : {r : ℕ} → 1 < f.runs → Reruns f b b₁ i (d - 1) r → Ends faulted b b₁ work i r
    ends_run m g = record { turns = λ t k s l w q. reran t k l w (left work l asked one) deep (sym q ∙ none) h read m g }

    pub ends_body : {r : ℕ} → f.runs ≡ 0 → Pops b b₁ i d 2 r → Ends faulted b b₁ work i r
    ends_body m g = record { turns = λ t k s l w q. popped_out t k l w (left work l asked one) deep (sym q ∙ none) h read (omega arith) (rw m) g }

    pub ends_last : {r : ℕ} → f.runs ≡ 1 → Pops b b₁ i d 3 r → Ends faulted b b₁ work i r
    ends_last m g = record { turns = λ t k s l w q. popped_out t k l w (left work l asked one) deep (sym q ∙ none) h read (omega arith) (rw m) g }
