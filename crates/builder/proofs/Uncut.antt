-- The bytes of a list are never cut: its commands are whole, and each END is the end of a body or stands in an ATOM. So number 4 does not come.
use Prim.Native.Nat.{ℕ, zero, suc, ◌+◌, ◌≤◌}
use native.Mathlib.Omega.{arith}
use mathlib.Core.List.{List, [], ◌∷◌, ◌++◌}
use mathlib.Core.Bool.{Bool, true, false, cond}
use mathlib.Core.Path.{◌≡◌, refl, sym, ap, ◌∙◌}
use lib.ListN.{length, get_or, take, length-append}
use lib.Seq.{length-take-le, drop_at}
use lib.Dec.{ltb, eqb}
use borrow.Author.Tests.{eq-eqb, ne_eqb}
use Rattle.program.specs.Command.{row_at, width_at, is_end, opcode}
use Rattle.program.specs.Bodies.{program_of}
use Rattle.std.specs.Prelude.{Ok, Err}
use Rattle.program.specs.Refusal.{refusal_number, refusal_at}
use Rattle.program.specs.Reading.{Reading, read, readings_after, readings}
use Rattle.program.specs.Scan.{name_fits, atom_fits, placing, left_after, body_after, verdict, fits_length, fits_bodies, scan}
use Rattle.program.specs.Count.{work_of, activities_of, clocks_of, accumulators_of}
use Rattle.program.specs.Table.{over_count, number_of}
use Rattle.program.specs.declared.command.Command.{Command}
use Rattle.program.specs.declared.reading.Whole.{Whole}
use Rattle.program.specs.declared.refusal.Refusal.{Refusal}
use Rattle.program.specs.declared.refusal.Refusal.TheVariants.{Cut}
use Rattle.program.proofs.Refusals.{answered_at, answered_refusal}
use Rattle.program.proofs.RowLaws.{width_few}
use Rattle.program.proofs.ShapeReading.{not_cut}
use Rattle.program.proofs.ReadLaws.{Stopped, ran_out, stopped, readings_whole, readings_stop}
use Rattle.builder.specs.Build.{bytes_in, ends_in, bytes_of, list_bytes}
use Rattle.builder.proofs.Entries.{Five, Entry, bytes, five_bytes, bytes_split}
use Rattle.builder.proofs.ReadsBack.{entry_read}

-- An entry's bytes are all there.
entry_uncut : {l : List ℕ} → Entry l → (rest : List ℕ) → read (bytes_in l ++ rest) ≡ Err Cut → ⊥
unfolding width_at
entry_uncut (bytes op x y z w) rest h =
    let kinds = (row_at op).operands in
    let s = take (length kinds) (x ∷ y ∷ z ∷ w ∷ []) ++ rest in
    let few : length kinds + 1 ≤ 5 = width_few op in
    let long : length kinds ≤ length s = rw (length-append, length-take-le (length kinds) (x ∷ y ∷ z ∷ w ∷ []) (omega arith)) (omega arith) in
    not_cut op s long (rw bytes_split at h)

-- Where no whole command is read, and the bytes are not cut.
refused_four : (e : Refusal) → refusal_number e ≡ 4 → e ≡ Cut
refused_four e h =
    sym (answered_at (refusal_number e) (tt {0}) (answered_refusal e (tt {0}))).1 ∙ ap refusal_at h

stop_four : (n i left : ℕ) (e : Refusal) {s : List ℕ} {rs : List Reading} → (e ≡ Cut → ⊥) → Stopped e s rs → verdict n i left rs ≡ 4 → ⊥
unfolding verdict
stop_four n i left e uncut (ran_out c) v = uncut (sym c)
stop_four n i left e uncut stopped v = by (eqb i n) v
  where
    by : (b : Bool) → cond b 8 (refusal_number e) ≡ 4 → ⊥
    by true h = omega arith
    by false h = uncut (refused_four e h)

-- A command that is read gives 6, 7 or 8, or what comes later decides.
placed_four : (q a b : Bool) (later : ℕ) → cond q 8 (cond (eqb (cond a (cond b 0 7) 6) 0) later (cond a (cond b 0 7) 6)) ≡ 4 → later ≡ 4
placed_four true a b later e = absurd (let y : ⊥ = omega arith in y)
placed_four false true true later e = e
placed_four false true false later e = absurd (let y : ⊥ = omega arith in y)
placed_four false false b later e = absurd (let y : ⊥ = omega arith in y)

whole_four : (n i left : ℕ) (w : Whole) (rs : List Reading) → verdict n i left (Ok w ∷ rs) ≡ 4 → verdict n (body_after i w.command) (left_after left w.command) rs ≡ 4
unfolding verdict placing
whole_four n i left w rs v =
    let c = w.command in placed_four (eqb i n) (name_fits n i c) (atom_fits left c) (verdict n (body_after i c) (left_after left c) rs) v

-- Each END that is read ends a body.
ends_on : (n i op : ℕ) (c : Command) (later : ℕ) → opcode c ≡ op → i + (cond (eqb op 0x00) 1 0 + later) ≡ n → body_after i c + later ≡ n
unfolding body_after is_end
ends_on n i op c later o e = rw o (by (eqb op 0x00) e)
  where
    by : (b : Bool) → i + (cond b 1 0 + later) ≡ n → cond b (i + 1) i + later ≡ n
    by true e = omega arith
    by false e = omega arith

module _ (n : ℕ) where
  -- Where the bytes run out, all bodies have ended.
  none_four : (i left : ℕ) → i ≡ n → verdict n i left (readings []) ≡ 4 → ⊥
  unfolding readings readings_after verdict
  none_four i left e v = let z : ◌≡◌ {A = ℕ} 0 4 = rw (eq-eqb i n e) at v in omega arith

  uncut : (entries : List (List ℕ)) (i left : ℕ) → Five entries → i + ends_in entries ≡ n → verdict n i left (readings (bytes_of entries)) ≡ 4 → ⊥
  unfolding bytes_of ends_in
  uncut [] i left five e v = none_four i left (omega arith) v
  uncut (l ∷ entries) i left five e v = by (read (bytes_in l ++ bytes_of entries)) refl (uncut entries)
    where
      view : Entry l
      view = five_bytes l (five 0 (omega arith))

      by : (r : Reading) → r ≡ read (bytes_in l ++ bytes_of entries) → ((i left : ℕ) → Five entries → i + ends_in entries ≡ n → verdict n i left (readings (bytes_of entries)) ≡ 4 → ⊥) → ⊥
      by (Ok w) h ih =
          let c = w.command in
          let a = entry_read view (bytes_of entries) (sym h) in
          let k = readings_whole (bytes_in l ++ bytes_of entries) w h in
          let d = drop_at (bytes_in l) (bytes_of entries) w.size a.long in
          let f = whole_four n i left w (readings (bytes_of entries)) (rw (k, d) at v) in
          ih (body_after i c) (left_after left c) (λ j k. five (suc j) (omega arith)) (ends_on n i (get_or l 0 0) c (ends_in entries) a.byte e) f
      by (Err x) h ih = stop_four n i left x (λ z. entry_uncut view (bytes_of entries) (sym h ∙ ap Err z)) (readings_stop _ x h) v

-- Number 4 is the scan's, and there the readings'.
later_four : (x m : ℕ) → (m ≡ 4 → ⊥) → cond (eqb x 0) m x ≡ 4 → x ≡ 4
later_four zero m other e = absurd (other e)
later_four (suc x) m other e = rw (ne_eqb (suc x) 0 (λ z. omega arith)) at e

counts_four : (a b c d : Bool) → ◌≡◌ {A = ℕ} (cond a 9 (cond b 10 (cond c 11 (cond d 12 0)))) 4 → ⊥
counts_four true b c d e = omega arith
counts_four false true c d e = omega arith
counts_four false false true d e = omega arith
counts_four false false false true e = omega arith
counts_four false false false false e = omega arith

opening_four : (a b : Bool) (v : ℕ) → cond a (cond b v 2) 1 ≡ 4 → v ≡ 4
opening_four true true v e = e
opening_four true false v e = absurd (let y : ⊥ = omega arith in y)
opening_four false b v e = absurd (let y : ⊥ = omega arith in y)

pub never_cut : (limit : ℕ) (entries : List (List ℕ)) → Five entries → number_of limit (list_bytes entries) ≡ 4 → ⊥
unfolding number_of over_count scan list_bytes
never_cut limit entries five e =
    let p = program_of (list_bytes entries) in
    let over = counts_four (ltb 64 (activities_of p)) (ltb 16 (clocks_of p)) (ltb 16 (accumulators_of p)) (ltb limit (work_of p)) in
    let s = later_four (scan (list_bytes entries)) (over_count limit p) over e in
    let v = opening_four (fits_length (list_bytes entries)) (fits_bodies (list_bytes entries)) _ s in
    uncut (ends_in entries) entries 0 0 five (omega arith) v
