-- An order followed in the lent bytes: the loop's invariant.
use Prim.Native.Nat.{ℕ, ◌+◌, ◌≤◌, ◌<◌}
use native.Mathlib.Omega.{arith}
use mathlib.Core.Path.{◌≡◌, refl, ◌∙◌, subst}
use mathlib.Core.List.{List}
use lib.ListN.{length, take, get_or, set, length-set}
use Rattle.program.specs.Bodies.{program_of}
use Rattle.rules.specs.declared.state.State.{State}
use Rattle.rules.specs.Steps.{base, advance}
use Rattle.rules.specs.Runs.{run_from}
use Rattle.fields.specs.Lent.{Lent}
use Rattle.rules.specs.State.{taken_number}
use Rattle.turns.specs.declared.Reply.{Reply}
use Rattle.turns.specs.Turns.{TurnsAny, Followable, Follows}
use Rattle.turns.proofs.Runs.{Under, under_start, under_stored, under_past, under_end}

-- After k turns: the bytes are those of the state that they led to, and what they told stands in the buffers.
pub record Going (t order before lent b buffer told c : List ℕ) (k : ℕ) : Type 0 where
  pub within : k ≤ length order
  pub sized : length buffer ≡ length before
  pub counts : length told ≡ length lent
  pub same : length c ≡ length b
  pub here : (s : State) → Lent b s → Followable t s order (length before)
      → Lent c (run_from base t s (take k order)) × Under t order before lent s (run_from base t s (take k order)) buffer told k

module _ {t order before lent b : List ℕ} where
  pub going_start : Going t order before lent b before lent b 0
  unfolding run_from
  going_start = record { within = omega arith; sized = refl; counts = refl; same = refl; here = λ s l f. (l, under_start t order before lent s) }

  module _ {buffer told c : List ℕ} {k : ℕ} (g : Going t order before lent b buffer told c k) where
    module _ {e : List ℕ} {i v : ℕ} {r : Reply} (more : k < length order) (read : i ≡ get_or order k 0) (m : TurnsAny t c e i r) (long : length e ≡ length c) (told_as : v ≡ taken_number r.answer) where
      -- What the turn adds, whatever becomes of the second buffer.
      going_on : {now : List ℕ} → length now ≡ length lent
          → ((s : State) → Lent b s → (f : Followable t s order (length before)) → let x = run_from base t s (take k order) in
          Under t order before lent s (advance base (program_of t) x i).state (set buffer k v) now (k + 1))
          → Going t order before lent b (set buffer k v) now e (k + 1)
      going_on {now} size step =
          record {
            within = omega arith;
            sized = length-set buffer k v ∙ g.sized;
            counts = size;
            same = long ∙ g.same;
            here =
                λ s l f.
                let was = g.here s l f in
                let x = run_from base t s (take k order) in
                let d = m.turns x was.0 (f.formed k more) in
                let u = step s l f in
                let q = u.here in (
                  subst (Lent e) q d.state,
                  subst (λ (y : State). Under t order before lent s y (set buffer k v) now (k + 1)) q u,
                );
          }

      pub going_stored : k < length told → Going t order before lent b (set buffer k v) (set told k r.awaited) e (k + 1)
      going_stored h =
          going_on (length-set told k r.awaited ∙ g.counts)
          (λ s l f.
          let was = g.here s l f in
          let x = run_from base t s (take k order) in
          let w = f.formed k more in
          under_stored f was.1 more read refl (told_as ∙ (m.turns x was.0 w).number) (m.waits x was.0 w) h)

      pub going_past : length told ≤ k → Going t order before lent b (set buffer k v) told e (k + 1)
      going_past h =
          going_on g.counts
          (λ s l f.
          let was = g.here s l f in
          let x = run_from base t s (take k order) in
          let w = f.formed k more in
          under_past f was.1 more read refl (told_as ∙ (m.turns x was.0 w).number) (m.waits x was.0 w) h)

    pub going_end : length order ≤ k → Follows t order before buffer lent told b c
    going_end h =
        record {
          follows =
              λ s l f.
              let was = g.here s l f in
              let q = under_end was.1 h f.fits in
              (subst (Lent c) q.0 was.0, q.1, q.2);
        }
