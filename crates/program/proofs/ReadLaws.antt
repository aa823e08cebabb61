-- The readings that go on from a command: all that a walk over bytes needs of `readings`.
use Prim.Native.Nat.{ℕ, zero, suc, ◌-◌}
use mathlib.Core.Path.{◌≡◌, refl, sym, ap, ◌∙◌}
use mathlib.Core.List.{List, [], ◌∷◌}
use lib.ListN.{drop}
use Rattle.std.specs.Prelude.{Ok, Err}
use Rattle.program.specs.Reading.{Reading, read, and_on, readings_after, readings}
use Rattle.program.specs.declared.reading.Whole.{Whole}
use Rattle.program.specs.declared.refusal.Refusal.{Refusal}
use Rattle.program.specs.declared.refusal.Refusal.TheVariants.{Cut}
use Rattle.program.proofs.Basic.{apart, drop_pos}
use Rattle.program.proofs.ShapeReading.{known}

after_drop : (s : List ℕ) (k : ℕ) → readings_after s k ≡ readings (drop k s)
unfolding readings_after readings
after_drop [] zero = refl
after_drop [] (suc k) = refl
after_drop (b ∷ s) zero = refl
after_drop (b ∷ s) (suc k) = after_drop s k

pub readings_whole : (s : List ℕ) (w : Whole) → Ok w ≡ read s → readings s ≡ Ok w ∷ readings (drop w.size s)
unfolding readings readings_after read
readings_whole [] w h = apart (cc)
readings_whole (b ∷ s) w h =
    ap (λ (r : Reading). and_on r (readings_after s)) (sym h)
    ∙ ap (λ (l : List Reading). Ok w ∷ l) (after_drop s (w.size - 1) ∙ ap readings (drop_pos b s (known (b ∷ s) (sym h)).some))

-- Where no whole command is read, nothing follows; of no bytes there is no reading.
pub data Stopped (e : Refusal) : List ℕ → List Reading → Type 0 where
  ran_out : Cut ≡ e → Stopped e [] []
  stopped : {b : ℕ} {s : List ℕ} → Stopped e (b ∷ s) (Err e ∷ [])

pub readings_stop : (s : List ℕ) (e : Refusal) → Err e ≡ read s → Stopped e s (readings s)
unfolding readings readings_after read
readings_stop [] e h = ran_out (cc)
readings_stop (b ∷ s) e h = rw (← h) stopped

-- And back: the readings tell what was read.
pub read_back_lem : (s : List ℕ) (w : Whole) (rs : List Reading) → Ok w ∷ rs ≡ readings s → (Ok w ≡ read s) × (rs ≡ readings (drop w.size s))
unfolding readings readings_after
read_back_lem [] w rs h = apart (cc)
read_back_lem (b ∷ s) w rs h = by (read (b ∷ s)) refl h
  where
    by : (r : Reading) → r ≡ read (b ∷ s) → Ok w ∷ rs ≡ and_on r (readings_after s) → (Ok w ≡ read (b ∷ s)) × (rs ≡ readings (drop w.size (b ∷ s)))
    by (Ok v) e g =
        let same : v ≡ w = cc in
        let own : Ok w ≡ read (b ∷ s) = rw same at e in
        (own, let q : rs ≡ readings_after s (v.size - 1) = cc in q ∙ rw same (after_drop s (w.size - 1) ∙ ap readings (drop_pos b s (known (b ∷ s) (sym own)).some)))
    by (Err x) e g = apart (cc)
