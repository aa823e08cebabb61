-- Walking through the commands of an accepted table.
use Prim.Native.Nat.{ℕ, zero, suc, ◌+◌, ◌≤◌, ◌<◌}
use native.Mathlib.Omega.{arith}
use native.Mathlib.Decide.{dec_le}
use native.Mathlib.Numerals.{add-one}
use mathlib.Core.List.{List, [], ◌∷◌}
use mathlib.Core.Path.{◌≡◌, refl, sym, ◌∙◌}
use lib.ListN.{length, get_or, drop, length-drop}
use lib.Seq.{drop-drop}
use Rattle.program.specs.Command.{width_at, width}
use Rattle.program.specs.Reading.{whole, read, bare, commands_of}
use Rattle.program.specs.Scan.{scan}
use Rattle.program.specs.declared.command.Command.{Command}
use Rattle.program.specs.declared.command.Command.TheVariants.{End}
use Rattle.program.proofs.Basic.{apart}
use Rattle.program.proofs.RangeLaws.{whole_bare}
use Rattle.program.proofs.ShapeReading.{read_first, known}
use Rattle.program.proofs.ShapeListed.{Listed, over, next, passes}

-- The commands from the i-th on stand in the bytes from `at` on.
pub record Walking (t : List ℕ) (at i : ℕ) : Type 0 where
  body : ℕ
  left : ℕ
  listed : Listed (get_or t 0 0) body left (drop at t) (drop i (commands_of t))
  pub inside : at ≤ length t
  pub some : i < at
  pub within : i ≤ length (commands_of t)

-- Byte 0 is passed.
pub walking_none : (t : List ℕ) → scan t ≡ 0 → Walking t 1 0
walking_none t ok =
    let p = passes t ok in
    record {
      body = 0;
      left = 0;
      listed = p.listed;
      inside = omega (arith, p.long);
      some = omega arith;
      within = omega arith;
    }

-- Of what is left the first, and the rest.
record First {A : Type 0} (l : List A) (i : ℕ) (d x : A) (rest : List A) : Type 0 where
  lower : i < length l
  here : get_or l i d ≡ x
  later : drop (suc i) l ≡ rest

first : {A : Type 0} (l : List A) (i : ℕ) (d x : A) (rest : List A) → drop i l ≡ x ∷ rest → First l i d x rest
first [] zero d x rest e = apart (cc)
first [] (suc i) d x rest e = apart (cc)
first (y ∷ l) zero d x rest e = record { lower = omega arith; here = cc; later = cc }
first (y ∷ l) (suc i) d x rest e =
    let f = first l i d x rest e in
    record { lower = omega (arith, f.lower); here = f.here; later = f.later }

-- In no bytes there is no command,
none_listed : {n i left : ℕ} {s : List ℕ} {cs : List Command} → Listed n i left s cs → length s ≡ 0 → length cs ≡ 0
none_listed (over e) h = refl
none_listed {s = s} (next inside own fits r) h = absurd (let k = known s own in let y : ⊥ = omega (arith, k.some, k.inside) in y)

-- and in some there is a first.
record Ahead (n : ℕ) (s : List ℕ) (cs : List Command) : Type 0 where
  command : Command
  rest : List Command
  body : ℕ
  left : ℕ
  same : cs ≡ command ∷ rest
  own : read s ≡ whole command (width command)
  later : Listed n body left (drop (width command) s) rest

first_listed : {n i left : ℕ} {s : List ℕ} {cs : List Command} → Listed n i left s cs → 0 < length s → Ahead n s cs
first_listed (over e) h = absurd (let y : ⊥ = omega arith in y)
first_listed (next {c = c} {cs = cs} inside own fits r) h = record { command = c; rest = cs; body = _; left = _; same = refl; own = own; later = r }

module _ {t : List ℕ} {at i : ℕ} (w : Walking t at i) where
  -- No command follows.
  pub walking_done : length t ≤ at → length (commands_of t) ≤ i
  walking_done h =
      let e = rw length-drop at (none_listed w.listed (rw length-drop (omega arith))) in
      omega arith

  -- Before the last command some bytes follow,
  pub walking_ahead : i < length (commands_of t) → at < length t
  walking_ahead h = by (dec_le (length t) at)
    where
      by : Dec (length t ≤ at) → at < length t
      by (yes e) = absurd (let d = walking_done e in let y : ⊥ = omega arith in y)
      by (no e) = omega arith

  -- and where some do, a command.
  module _ (h : at < length t) where
    ahead : Ahead (get_or t 0 0) (drop at t) (drop i (commands_of t))
    ahead = first_listed w.listed (rw length-drop (omega arith))

    its : First (commands_of t) i End ahead.command ahead.rest
    its = first (commands_of t) i End ahead.command ahead.rest ahead.same

    pub walking_here : bare (drop at t) ≡ get_or (commands_of t) i End
    walking_here = whole_bare (drop at t) ahead.own ∙ sym its.here

    module _ {size : ℕ} (e : size ≡ width_at (get_or t at 0)) where
      wide : size ≡ width ahead.command
      wide = e ∙ read_first t at ahead.own

      pub walking_fits : (0 < size) × (at + size ≤ length t)
      walking_fits =
          let k = known (drop at t) ahead.own in
          let l = rw length-drop at k.inside in
          (omega (arith, wide, k.some), omega (arith, wide, w.inside))

      pub walking_on : Walking t (at + size) (i + 1)
      walking_on = record {
        body = ahead.body;
        left = ahead.left;
        listed = rw (wide, add-one, its.later, ← drop-drop (width ahead.command) at t) ahead.later;
        inside = walking_fits.1;
        some = omega (arith, w.some, walking_fits.0);
        within = omega (arith, its.lower);
      }
