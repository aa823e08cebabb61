-- Filling a buffer with the bytes of entries.
use Prim.Native.Nat.{ℕ, zero, suc, ◌+◌, ◌-◌, ◌≤◌, ◌<◌}
use native.Mathlib.Omega.{arith}
use native.Mathlib.Nat.{add-sub_cancel_left}
use native.Mathlib.Decide.{dec_le}
use mathlib.Core.List.{List, [], ◌∷◌, ◌++◌, append-nil, append_assoc}
use mathlib.Core.Path.{◌≡◌, refl, sym, ap, ◌∙◌}
use lib.ListN.{length, get_or, take, drop, set, length-append, length-drop, drop_of_length-le}
use lib.Seq.{length-take-le, drop-append-le, take-append-add, take_at}
use borrow.Rule.Slice.PartMut.{put_mid}
use Rattle.program.specs.Command.{width_at}
use Rattle.builder.specs.Build.{bytes_in, ends_in, bytes_of, list_bytes}
use Rattle.std.specs.Prelude.{Some, None}
use Rattle.program.proofs.Basic.{apart}
use Rattle.builder.specs.Filled.{capped, Counted, Written, Filled}
use Rattle.builder.proofs.Entries.{bytes_long, bytes_next, ends_next}

-- The bytes of the first i entries are written, `at` with byte 0, and so many ENDs are counted.
pub record Filling (entries : List (List ℕ)) (out : List ℕ) (at ends i : ℕ) : Type 0 where
  pub within : i ≤ length entries
  pub full : length out ≡ 2048
  pub some : 1 ≤ at
  pub room : at ≤ 2048
  pub few : ends ≤ 17
  pub counted : capped (ends + ends_in (drop i entries)) ≡ capped (ends_in entries)
  pub written : drop 1 (take at out) ++ bytes_of (drop i entries) ≡ bytes_of entries
  pub five : (j : ℕ) → j < i → length (get_or entries j []) ≡ 5

-- None is written.
pub filling_none : (entries : List (List ℕ)) (out : List ℕ) → length out ≡ 2048 → Filling entries out 1 0 0
filling_none entries [] h = absurd (let y : ⊥ = omega arith in y)
filling_none entries (x ∷ out) h = record {
  within = omega arith;
  full = h;
  some = omega arith;
  room = omega arith;
  few = omega arith;
  counted = omega arith;
  written = refl;
  five = λ j l. absurd (let y : ⊥ = omega arith in y);
}

-- Byte 0 is stored.
first : (out : List ℕ) (at x : ℕ) → 0 < length out → 1 ≤ at → take at (set out 0 x) ≡ x ∷ drop 1 (take at out)
first [] at x h k = absurd (let y : ⊥ = omega arith in y)
first (y ∷ out) zero x h k = absurd (let z : ⊥ = omega arith in z)
first (y ∷ out) (suc at) x h k = refl

module _ {entries : List (List ℕ)} {out : List ℕ} {at ends i : ℕ} (f : Filling entries out at ends i) where
  -- The bytes that are written and those that are left.
  filled_long : at + length (bytes_of (drop i entries)) ≡ 1 + length (bytes_of entries)
  filled_long =
      let e = rw (length-append, length-drop, length-take-le at out (omega (arith, f.full, f.room))) at (ap length f.written) in
      omega (arith, f.some)

  module _ (h : i < length entries) (whole : length (get_or entries i []) ≡ 5) {size : ℕ} (w : size ≡ width_at (get_or (get_or entries i []) 0 0)) where
    next_long : length (bytes_in (get_or entries i [])) ≡ size
    next_long = bytes_long (get_or entries i []) whole ∙ sym w

    -- The next entry has no room.
    pub filling_over : 2048 < at + size → Filled entries out None
    unfolding list_bytes
    filling_over over =
        let e = filled_long in
        let b = ap length (bytes_next entries i h) ∙ length-append (bytes_in (get_or entries i [])) (bytes_of (drop (i + 1) entries)) in
        let l = next_long in
        record { over = λ _. omega arith; fits = λ n q. apart (cc) }

    -- The next entry is written.
    pub filling_more : {e : List ℕ} {now : ℕ} → at + size ≤ 2048 → e ≡ take size (get_or entries i []) → Counted ends (get_or (get_or entries i []) 0 0) now
        → Filling entries (put_mid at (at + size - at) out e) (at + size) now (i + 1)
    unfolding Counted bytes_in
    filling_more {e} {now} room v n = record {
      within = omega arith;
      full = simp (length-append, length-drop, before, long, add-sub_cancel_left) (omega (arith, f.full));
      some = omega (arith, f.some);
      room = room;
      few = let k = n f.few in omega arith;
      counted = let k = n f.few in let c = f.counted in let d = ends_next entries i h in omega arith;
      written = rw (putting, drop-append-le 1 (take at out) e (rw before f.some), append_assoc, here, ← bytes_next entries i h) f.written;
      five = each;
    }
      where
        here : e ≡ bytes_in (get_or entries i [])
        here = v ∙ ap (λ (k : ℕ). take k (get_or entries i [])) w

        long : length e ≡ size
        long = ap length here ∙ next_long

        before : length (take at out) ≡ at
        before = length-take-le at out (omega (arith, f.full, f.room))

        putting : take (at + size) (put_mid at (at + size - at) out e) ≡ take at out ++ e
        putting =
            ap (λ (k : ℕ). take (k + size) (put_mid at (at + size - at) out e)) (sym before)
            ∙ take-append-add (take at out) (e ++ drop (at + size - at) (drop at out)) size
            ∙ rw (take_at e (drop (at + size - at) (drop at out)) size long)

        each : (j : ℕ) → j < i + 1 → length (get_or entries j []) ≡ 5
        each j l = by (dec_le (suc j) i)
          where
            by : Dec (suc j ≤ i) → length (get_or entries j []) ≡ 5
            by (yes m) = f.five j m
            by (no m) = let q : j ≡ i = omega arith in rw q whole

  -- All entries are written.
  pub filling_done : length entries ≤ i → Filled entries (set out 0 ends) (Some at)
  unfolding list_bytes bytes_of ends_in
  filling_done h = record {
    over = λ q. apart (cc);
    fits = λ n q. let same : at ≡ n = cc in rw (← same) all;
  }
    where
      none : drop i entries ≡ []
      none = drop_of_length-le entries h

      none_long : length (bytes_of (drop i entries)) ≡ 0
      none_long = rw none

      bytes_are : drop 1 (take at out) ≡ bytes_of entries
      bytes_are = sym (append-nil (drop 1 (take at out))) ∙ rw none at f.written

      ends_are : ends ≡ capped (ends_in entries)
      ends_are = let e = rw none at f.counted in omega (arith, f.few)

      all : Written entries (set out 0 ends) at
      all = record {
        long = omega (arith, filled_long, none_long);
        bytes = first out at ends (omega (arith, f.full)) f.some ∙ rw (ends_are, ← bytes_are);
        five = λ j l. f.five j (omega arith);
      }
