-- How many are waited for, by the command: END of a FINISH body, and whether F8 is due there; who is at a meeting; READ and RESET.
use Rattle.std.proofs.Common.{Option, None}
use Prim.Native.Nat.{ℕ, ◌-◌, ◌≤◌, ◌<◌}
use native.Mathlib.Omega.{arith}
use mathlib.Core.Path.{◌≡◌, refl, sym, ap, ◌∙◌, subst}
use mathlib.Core.List.{List}
use mathlib.Core.Logic.{◌⊎◌, inl, inr}
use mathlib.Core.Bool.{Bool, true, false, cond}
use lib.Dec.{eqb}
use borrow.Author.Tests.{lt-ltb, le-ltb, eq-eqb}
use Rattle.program.specs.Command.{is_end}
use Rattle.program.specs.Bodies.{Program, program_of}
use Rattle.program.specs.declared.command.Command.{Command}
use Rattle.program.specs.declared.command.Command.TheVariants.{End, Next, Clock, Resume, Drop, Async, Finish, Repeat, Acc, Offer, Read, Reset, Put, Fetch, Store, Add, Atom, Choose}
use Rattle.program.proofs.Shape.{Ranged}
use Rattle.program.proofs.ShapeRanges.{within}
use Rattle.rules.specs.declared.state.Fault.{Fault}
use Rattle.rules.specs.declared.state.Status.{Status}
use Rattle.rules.specs.declared.state.Status.TheVariants.{Running, AtBarrier, Ended, Faulted}
use Rattle.rules.specs.declared.state.Frame.{Frame}
use Rattle.rules.specs.declared.state.Activity.{Activity}
use Rattle.rules.specs.declared.state.State.{State}
use Rattle.rules.specs.Search.{some_below, count_below}
use Rattle.rules.specs.State.{act, frame, top, bound, is_at_barrier, ended, fault_in}
use Rattle.rules.specs.Tree.{here, is_finish, finishes, in_finish_body}
use Rattle.rules.specs.WellFormed.{is_placed, well_formed}
use Rattle.rules.specs.Faults.{read_fault, fault_for, faulted_inside, spoilt}
use Rattle.rules.specs.Effects.{env_of}
use Rattle.rules.specs.Waiting.{behind_of, unended_below, unended_inside, waits_for, awaited_at}
use Rattle.rules.specs.Steps.{breach}
use Rattle.rules.proofs.Counting.{count_none, guard_shut, guard_open}
use Rattle.rules.proofs.Awaited.{awaited_live}
use Rattle.rules.proofs.WellFormedFacts.{Facts, facts}
use Rattle.places.specs.Known.{Known}
use Rattle.places.specs.Rooted.{Placed}
use Rattle.places.specs.Known.{Fit}
use Rattle.places.proofs.Chains.{unended_below_lem}
use Rattle.places.proofs.Roots.{placed, rooted}
use Rattle.fields.specs.Lent.{Lent, ReadsAct}
use Rattle.moves.proofs.Ranges.{ranged_at}
use Rattle.moves.specs.Moves.{ReadFault}
use Rattle.waits.specs.declared.inside.Inside.{Inside}
use Rattle.waits.specs.Waits.{Clocked, Gone, Sees, Behind, EndSees, NextAwaits, OwnAwaits, Awaits}

-- END

-- Where the body at the top is not one that a FINISH runs, nobody is waited for and no fault passed on.
end_shut : {t b : List ℕ} {i : ℕ} {r : Inside} {q : Bool} → (r.unended ≡ 0) × (r.faulted ≡ false)
    → ((s : State) → Lent b s → i < 64 → Placed t s (act s i) → q ≡ in_finish_body (program_of t) (act s i)) → q ≡ false → EndSees t b i r
unfolding awaited_at waits_for spoilt is_end
end_shut {t} {i = i} n h e = record {
  tells =
      λ s l j k.
      let a = act s i in
      n.0 ∙ guard_shut s.activities (waits_for (program_of t) s i a End) (unended_inside s i (top a).first) (λ n. refl) (h s l j k) e;
  spoils = λ s l j k. n.1 ∙ rw (sym (h s l j k) ∙ e);
}

module _ {t b : List ℕ} {i d : ℕ} (depth : ReadsAct (λ (a : Activity). a.depth) b i d) where
  -- a stack of one body has none below it
  pub end_alone : {r : Inside} → (r.unended ≡ 0) × (r.faulted ≡ false) → d ≤ 1 → EndSees t b i r
  unfolding in_finish_body
  end_alone n h =
      end_shut n (λ s l j k. let e : d ≡ (act s i).depth = depth.reads s l j in sym (rw (le-ltb 1 (act s i).depth (omega arith)))) refl

  module _ {y : Frame} {q : Bool} (deep : 1 < d) (below : d - 2 < 16 → ReadsAct (λ (a : Activity). frame a (d - 2)) b i y)
      (runs : is_placed (program_of t) y ≡ true → q ≡ is_finish (here (program_of t) y).command) where
    -- the body at the top is one that a FINISH runs
    in_finish_lem : (s : State) → Lent b s → i < 64 → Placed t s (act s i) → q ≡ in_finish_body (program_of t) (act s i)
    unfolding in_finish_body finishes
    in_finish_lem s l j k =
        let a = act s i in
        let e : d ≡ a.depth = depth.reads s l j in
        let few = k.stack.few in
        let f : y ≡ frame a (a.depth - 2) = (below (omega arith)).reads s l j ∙ ap (λ (n : ℕ). frame a (n - 2)) e in
        let on : is_placed (program_of t) y ≡ true = rw f (k.stack.placed (a.depth - 2) (omega arith)) in
        rw (lt-ltb 1 a.depth (omega arith)) (runs on ∙ ap (λ (z : Frame). is_finish (here (program_of t) z).command) f)

    pub end_elsewhere : {r : Inside} → (r.unended ≡ 0) × (r.faulted ≡ false) → q ≡ false → EndSees t b i r
    end_elsewhere n e = end_shut n in_finish_lem e

    module _ {z : Frame} (own : d - 1 < 16 → ReadsAct (λ (a : Activity). frame a (d - 1)) b i z) where
      -- it began at its first number
      begun : (s : State) → Lent b s → i < 64 → Placed t s (act s i) → z.first ≡ (top (act s i)).first
      begun s l j k =
          let a = act s i in
          let e : d ≡ a.depth = depth.reads s l j in
          let few = k.stack.few in
          ap (λ (u : Frame). u.first) ((own (omega arith)).reads s l j ∙ ap (λ (m : ℕ). frame a (m - 1)) e)

      pub end_inside : {r : Inside} → q ≡ true → Sees b i z.first r → EndSees t b i r
      unfolding awaited_at waits_for spoilt is_end
      end_inside {r} n g = record {
        tells =
            λ s l j k.
            let a = act s i in
            guard_open s.activities (waits_for (program_of t) s i a End) (unended_inside s i (top a).first) (λ n. refl) (in_finish_lem s l j k) n
            (subst (λ (m : ℕ). r.unended ≡ count_below s.activities (unended_inside s i m)) (begun s l j k) (g.counts s l k.rooted));
        spoils =
            λ s l j k.
            subst (λ (m : ℕ). r.faulted ≡ some_below s.activities (faulted_inside s i m)) (begun s l j k) (g.finds s l k.rooted)
            ∙ rw (sym (in_finish_lem s l j k) ∙ n);
      }

-- NEXT

module _ {b : List ℕ} {i : ℕ} {x : Status} (status : ReadsAct (λ (a : Activity). a.status) b i x) where
  pub next_elsewhere : (x ≡ AtBarrier → ⊥) → NextAwaits b i 0
  unfolding awaited_at waits_for
  next_elsewhere n = record {
    tells =
        λ p s l j k o.
        guard_shut s.activities (waits_for p s i (act s i) Next) (behind_of s (act s i)) (λ n. refl) (ap is_at_barrier (status.reads s l j)) (elsewhere x n);
  }
    where
      elsewhere : (x : Status) → (x ≡ AtBarrier → ⊥) → is_at_barrier x ≡ false
      elsewhere Running n = refl
      elsewhere AtBarrier n = absurd (n refl)
      elsewhere Ended n = refl
      elsewhere (Faulted f) n = refl

  pub next_behind : {r : ℕ} → x ≡ AtBarrier → Behind b i r → NextAwaits b i r
  unfolding awaited_at waits_for
  next_behind n g = record {
    tells =
        λ p s l j k o.
        guard_open s.activities (waits_for p s i (act s i) Next) (behind_of s (act s i)) (λ n. refl) (ap is_at_barrier (status.reads s l j)) (ap is_at_barrier n) (g.sees s l j k o);
  }

-- READ AND RESET

module _ {b : List ℕ} {i n : ℕ} {f : Option Fault} (meets : ReadFault b i n (fault_in f)) where
  pub own_inside : {r : Inside} → f ≡ None → Sees b i 0 r → OwnAwaits n b i r.unended
  own_inside e g = record {
    tells = λ s l j m k. rw (eq-eqb (read_fault (env_of s) i (act s i) n) 0 (sym (meets.reads s l j m) ∙ ap fault_in e)) (g.counts s l k ∙ sym (unended_below_lem s i));
  }

-- THE COMMAND

-- A command that waits for nobody.
pub record Other (c : Command) : Type 0 where
  pub not_end : c ≡ End → ⊥
  pub not_next : c ≡ Next → ⊥
  pub not_read : (n : ℕ) → c ≡ Read n → ⊥
  pub not_reset : (n : ℕ) → c ≡ Reset n → ⊥

other_waits : (p : Program) (s : State) (i : ℕ) (a : Activity) (c : Command) → Other c → (x : ℕ) → waits_for p s i a c x ≡ false
unfolding waits_for
other_waits p s i a End h x = absurd (h.not_end refl)
other_waits p s i a Next h x = absurd (h.not_next refl)
other_waits p s i a (Clock c) h x = refl
other_waits p s i a (Resume c) h x = refl
other_waits p s i a (Drop c) h x = refl
other_waits p s i a (Async b m) h x = refl
other_waits p s i a (Finish b) h x = refl
other_waits p s i a (Repeat n b) h x = refl
other_waits p s i a (Acc n o) h x = refl
other_waits p s i a (Offer n) h x = refl
other_waits p s i a (Read n) h x = absurd (h.not_read n refl)
other_waits p s i a (Reset n) h x = absurd (h.not_reset n refl)
other_waits p s i a (Put v) h x = refl
other_waits p s i a (Fetch d) h x = refl
other_waits p s i a (Store d) h x = refl
other_waits p s i a (Add d) h x = refl
other_waits p s i a (Atom k) h x = refl
other_waits p s i a (Choose b) h x = refl

-- what a well-formed state gives
fit_of : {t starts : List ℕ} {s : State} → Known t starts → well_formed 65535 (program_of t) s ≡ true → Fit t starts s
fit_of k w = record { known = k; formed = w }

module _ {t starts : List ℕ} {s : State} (f : Fit t starts s) {i : ℕ} (m : i < s.activities) where
  fact : Facts 65535 (program_of t) s
  fact = facts 65535 (program_of t) s f.formed

  few_of : i < 64
  few_of = let h = fact.acts64 in omega arith

  bound_of : {n : ℕ} → n < 8 → bound (act s i) n ≤ 16
  bound_of {n} h = let x = (fact.spawned i m).bounds n h in let y = fact.accs16 in omega arith

  -- the clocks that it holds
  clocked_of : Clocked (act s i)
  clocked_of = record {
    numbers = λ k h e. let q = ((fact.spawned i m).held.fits k h).known e in let n = fact.clocks16 in omega arith;
    distinct = (fact.spawned i m).held.distinct;
  }

own_tells : {t starts b : List ℕ} {s : State} {i n r : ℕ} → (n < 8 → OwnAwaits n b i r) → Lent b s → Fit t starts s → i < s.activities → n < 8
    → r ≡ cond (eqb (read_fault (env_of s) i (act s i) n) 0) (count_below s.activities (unended_below s i)) 0
own_tells {s = s} g l f m h = (g h).tells s l (few_of f m) (bound_of f m h) (rooted f)

gone_of : {t starts : List ℕ} {s : State} → Fit t starts s → Gone s
gone_of {t} {s = s} f =
    let x = facts 65535 (program_of t) s f.formed in
    record { few = x.acts64; free = λ y k h e l. ((x.spawned y h).gone e).1 k l }

-- Whether F8 is due.
pub spoilt_end : {t starts b : List ℕ} {i : ℕ} {r : Inside} → EndSees t b i r → Known t starts → (s : State) → Lent b s → well_formed 65535 (program_of t) s ≡ true → i < s.activities → ended s i ≡ false
    → r.faulted ≡ spoilt (program_of t) s i (act s i) End
spoilt_end g k s l w m u = let f = fit_of k w in g.spoils s l (few_of f m) (placed f m u)

module _ {t starts b : List ℕ} (k : Known t starts) {i : ℕ} {c : Command} where
  pub awaits_end : {r : Inside} → c ≡ End → EndSees t b i r → Awaits t c b i r.unended
  unfolding breach fault_for
  awaits_end e g = record {
    tells = λ s l w m u a. let f = fit_of k w in rw (awaited_live (program_of t) s i m u, a ∙ e) (g.tells s l (few_of f m) (placed f m u));
  }

  pub awaits_next : {r : ℕ} → c ≡ Next → NextAwaits b i r → Awaits t c b i r
  unfolding breach fault_for
  awaits_next e g = record {
    tells = λ s l w m u a. let f = fit_of k w in rw (awaited_live (program_of t) s i m u, a ∙ e) (g.tells (program_of t) s l (few_of f m) (clocked_of f m) (gone_of f));
  }

  module _ {n r : ℕ} (g : n < 8 → OwnAwaits n b i r) where
    pub awaits_read : c ≡ Read n → Awaits t c b i r
    unfolding breach fault_for awaited_at waits_for
    awaits_read e = record {
      tells =
          λ s l w m u a.
          let f = fit_of k w in
          rw (awaited_live (program_of t) s i m u, a ∙ e) (own_tells g l f m (within (Read n) (subst Ranged (a ∙ e) (ranged_at s f.known f.formed m u))));
    }

    pub awaits_reset : c ≡ Reset n → Awaits t c b i r
    unfolding breach fault_for awaited_at waits_for
    awaits_reset e = record {
      tells =
          λ s l w m u a.
          let f = fit_of k w in
          rw (awaited_live (program_of t) s i m u, a ∙ e) (own_tells g l f m (within (Reset n) (subst Ranged (a ∙ e) (ranged_at s f.known f.formed m u))));
    }

    pub awaits_own : (c ≡ Read n) ⊎ (c ≡ Reset n) → Awaits t c b i r
    awaits_own (inl e) = awaits_read e
    awaits_own (inr e) = awaits_reset e

cond_same : (b : Bool) → ◌≡◌ {A = ℕ} 0 (cond b 0 0)
cond_same true = refl
cond_same false = refl

pub awaits_other : {t b : List ℕ} {i : ℕ} {c : Command} → Other c → Awaits t c b i 0
unfolding awaited_at
awaits_other {t} {i = i} {c} h = record {
  tells =
      λ s l w m u a.
      let p = program_of t in
      let q : count_below s.activities (waits_for p s i (act s i) c) ≡ 0 = count_none s.activities (waits_for p s i (act s i) c) (λ x g. other_waits p s i (act s i) c h x) in
      rw (awaited_live p s i m u, a, q) (cond_same (eqb (breach p s i) 0));
}
