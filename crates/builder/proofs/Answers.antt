-- What the two calls answer, case by case.
use Prim.Native.Nat.{ℕ, ◌≤◌, ◌<◌}
use native.Mathlib.Omega.{arith}
use native.Mathlib.Decide.{dec_le}
use mathlib.Core.Bool.{Bool, true, false, cond}
use mathlib.Core.List.{List, ◌∷◌, ◌++◌, map}
use mathlib.Core.Path.{◌≡◌, sym, ap, ◌∙◌}
use lib.ListN.{length, take, drop, length-take, length-map}
use lib.Seq.{take-append_seam, take_at}
use lib.Dec.{leb, ltb, eqb}
use borrow.Author.Tests.{le-leb, ne_eqb, lt-ltb, le-ltb}
use Rattle.program.specs.Reading.{commands_of}
use Rattle.program.specs.Scan.{fits_length}
use Rattle.std.specs.Prelude.{Result, Ok, Err, IfOk}
use Rattle.program.specs.Refusal.{refusal_number, answered}
use Rattle.program.specs.Table.{work_limit, number_of}
use Rattle.program.specs.declared.refusal.Refusal.{Refusal}
use Rattle.program.specs.declared.refusal.Refusal.TheVariants.{Size, Room}
use Rattle.program.proofs.Basic.{Bytes}
use Rattle.program.proofs.Refusals.{refusal_some, answered_refusal}
use Rattle.program.proofs.NumberLaws.{number_small}
use Rattle.program.proofs.TableLaws.{too_long, many_bodies}
use Rattle.program.proofs.ShapeListed.{passes}
use Rattle.program.proofs.ShapeLaws.{numbered}
use Rattle.builder.specs.Build.{command_in, entry_of, ends_in, bytes_of, list_bytes, built_number, built_length, built_bytes, listed_number, listed_count, listed_entries}
use Rattle.builder.specs.Filled.{capped, Written}
use Rattle.builder.proofs.Entries.{Five, ends_some}
use Rattle.builder.proofs.ReadsBack.{reads_back}
use Rattle.builder.proofs.BuildsBack.{builds_back}

-- THE BYTES THAT WERE MADE

-- Byte 0 is answered alike where it is counted up to 17.
capped-number : (n : ℕ) (s : List ℕ) → number_of work_limit (capped n ∷ s) ≡ number_of work_limit (n ∷ s)
capped-number n s = by (dec_le n 16)
  where
    by : Dec (n ≤ 16) → number_of work_limit (capped n ∷ s) ≡ number_of work_limit (n ∷ s)
    by (yes h) = ap (λ (x : ℕ). number_of work_limit (x ∷ s)) (let e : capped n ≡ n = omega arith in e)
    by (no h) = many_bodies work_limit (capped n) s (omega arith) ∙ sym (many_bodies work_limit n s (omega arith))

module _ {entries : List (List ℕ)} {out : List ℕ} {n : ℕ} (w : Written entries out n) where
  pub written-long : length (take n out) ≡ n
  unfolding list_bytes
  written-long = ap length w.bytes ∙ sym w.long

  pub written-inside : n ≤ length out
  written-inside = let e = sym (length-take n out) ∙ written-long in omega arith

  -- The reader answers of them what it would of the list's bytes,
  pub written-number : number_of work_limit (take n out) ≡ number_of work_limit (list_bytes entries)
  unfolding list_bytes
  written-number = rw w.bytes (capped-number (ends_in entries) (bytes_of entries))

  -- and where it accepts they are these.
  pub written-bytes : number_of work_limit (list_bytes entries) ≡ 0 → take n out ≡ list_bytes entries
  unfolding list_bytes
  written-bytes e =
      let few : ends_in entries ≤ 16 = (passes (list_bytes entries) (numbered work_limit (list_bytes entries) e)).few in
      let c : capped (ends_in entries) ≡ ends_in entries = omega arith in
      w.bytes ∙ ap (λ (x : ℕ). x ∷ bytes_of entries) c

-- 1 to 12, then 18.
numbers_small : (n : ℕ) (short : Bool) → n ≤ 12 → cond (eqb n 0) (cond short 18 0) n ≤ 18
numbers_small n short h = by (eqb n 0) short
  where
    by : (a b : Bool) → cond a (cond b 18 0) n ≤ 18
    by true true = omega arith
    by true false = omega arith
    by false b = omega arith

-- BUILD

-- What is promised of an answer and of the buffer after it.
pub record Builds (entries : List (List ℕ)) (buffer : List ℕ) (r : Result ℕ Refusal) (after : List ℕ) : Type 0 where
  pub value : r ≡ answered (built_number entries (length buffer)) (built_length entries (length buffer))
  pub table_after : after ≡ built_bytes entries buffer
  pub reads_back : IfOk r (λ size. commands_of (take size after) ≡ map command_in entries)

-- "more than 16 gives 2", where there are at most 2,048 bytes.
pub ends-many : (entries : List (List ℕ)) (room : ℕ) → Five entries → 16 < ends_in entries → length (list_bytes entries) ≤ 2048 → built_number entries room ≡ 2
unfolding built_number list_bytes fits_length
ends-many entries room five many h =
    let some = ends_some entries five (omega arith) in
    let two : leb 2 (length (list_bytes entries)) ≡ true = le-leb 2 (length (list_bytes entries)) (omega arith) in
    let e : number_of work_limit (list_bytes entries) ≡ 2 = many_bodies work_limit (ends_in entries) (bytes_of entries) many ∙ rw (two, le-leb (length (list_bytes entries)) 2048 h) in
    rw e

module _ (entries : List (List ℕ)) (buffer : List ℕ) where
  -- The bytes are turned down.
  pub build-refused : (e : Refusal) → refusal_number e ≡ number_of work_limit (list_bytes entries) → Builds entries buffer (Err e) buffer
  unfolding built_number built_bytes
  build-refused e is =
      let some = refusal_some e in
      let k = ne_eqb (refusal_number e) 0 (λ z. omega arith) in
      record {
        value = rw (← is, k) (sym (answered_refusal e (built_length entries (length buffer))));
        table_after = rw (← is, k, k);
        reads_back = tt;
      }

  -- More than 2,048 bytes would be made.
  pub build-long : 2048 < length (list_bytes entries) → Builds entries buffer (Err Size) buffer
  build-long h = build-refused Size (sym (too_long work_limit (list_bytes entries) h))

  module _ (e : number_of work_limit (list_bytes entries) ≡ 0) where
    -- The buffer is too short.
    pub build-short : length buffer < length (list_bytes entries) → Builds entries buffer (Err Room) buffer
    unfolding built_number built_length built_bytes
    build-short h = let k = lt-ltb _ _ h in record { value = rw (e, k); table_after = rw (e, k); reads_back = tt }

    -- The list is accepted.
    pub build-done : {n : ℕ} {made after : List ℕ} → Five entries → n ≡ length (list_bytes entries) → made ≡ list_bytes entries → n ≤ length buffer
        → after ≡ made ++ drop (length made) buffer → Builds entries buffer (Ok n) after
    unfolding built_number built_length built_bytes
    build-done five l m h w =
        let k = le-ltb (length buffer) (length (list_bytes entries)) (omega arith) in
        let r = reads_back entries five (numbered work_limit (list_bytes entries) e) in
        record {
          value = rw (e, k, l);
          table_after = rw (e, k, w, m);
          reads_back = rw (w, m, l, take-append_seam (list_bytes entries) (drop (length (list_bytes entries)) buffer)) r;
        }

-- LIST

pub record Lists (t : List ℕ) (entries : List (List ℕ)) (r : Result ℕ Refusal) (after : List (List ℕ)) : Type 0 where
  pub value : r ≡ answered (listed_number t (length entries)) (listed_count t (length entries))
  pub entries_after : after ≡ listed_entries t entries
  pub builds_back : IfOk r (λ count. list_bytes (take count after) ≡ t)

module _ (t : List ℕ) (entries : List (List ℕ)) where
  -- The table is turned down.
  pub list-refused : (e : Refusal) → refusal_number e ≡ number_of work_limit t → Lists t entries (Err e) entries
  unfolding listed_number listed_entries
  list-refused e is =
      let some = refusal_some e in
      let k = ne_eqb (refusal_number e) 0 (λ z. omega arith) in
      record {
        value = rw (← is, k) (sym (answered_refusal e (listed_count t (length entries))));
        entries_after = rw (← is, k, k);
        builds_back = tt;
      }

  module _ (e : number_of work_limit t ≡ 0) where
    -- There are too few entries.
    pub list-short : length entries < length (commands_of t) → Lists t entries (Err Room) entries
    unfolding listed_number listed_count listed_entries
    list-short h = let k = lt-ltb _ _ h in record { value = rw (e, k); entries_after = rw (e, k); builds_back = tt }

    -- The commands are listed.
    pub list_done : {n : ℕ} {after : List (List ℕ)} → Bytes t → n ≡ length (commands_of t) → n ≤ length entries
        → after ≡ map entry_of (commands_of t) ++ drop (length (commands_of t)) entries → Lists t entries (Ok n) after
    unfolding listed_number listed_count listed_entries
    list_done b l h w =
        let k = le-ltb (length entries) (length (commands_of t)) (omega arith) in
        let s = take_at (map entry_of (commands_of t)) (drop (length (commands_of t)) entries) (length (commands_of t)) (length-map (commands_of t) entry_of) in
        record {
          value = rw (e, k, l);
          entries_after = rw (e, k) w;
          builds_back = rw (w, l, s) (builds_back t b (numbered work_limit t e));
        }

-- The numbers are those of their refusals.
pub built_small : (entries : List (List ℕ)) (room : ℕ) → built_number entries room ≤ 18
unfolding built_number
built_small entries room = numbers_small (number_of work_limit (list_bytes entries)) (ltb room (length (list_bytes entries))) (number_small work_limit (list_bytes entries))

pub listed_small : (t : List ℕ) (room : ℕ) → listed_number t room ≤ 18
unfolding listed_number
listed_small t room = numbers_small (number_of work_limit t) (ltb room (length (commands_of t))) (number_small work_limit t)
