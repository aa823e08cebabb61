-- Building from a table that was read yields that table.
use Prim.Native.Nat.{ℕ, suc, ◌+◌}
use native.Mathlib.Omega.{arith}
use native.Mathlib.Numerals.{add-one}
use mathlib.Core.List.{List, [], ◌∷◌, map}
use mathlib.Core.Bool.{Bool, true, false, cond}
use mathlib.Core.Path.{◌≡◌, refl, sym, ap, ◌∙◌}
use lib.ListN.{length, take, take-append-drop}
use lib.Dec.{eqb}
use Rattle.program.specs.Command.{row_at, width_at, width, opcode, operands_of, padded, is_end}
use Rattle.program.specs.Reading.{whole, read, commands_of}
use Rattle.program.specs.Scan.{scan, body_after}
use Rattle.program.specs.declared.command.Command.{Command}
use Rattle.program.proofs.Basic.{apart, Bytes, bytes_drop}
use Rattle.program.proofs.ShapeReading.{firsts_take, read_as, known}
use Rattle.program.proofs.ShapeOperands.{back}
use Rattle.program.proofs.ShapeListed.{Listed, over, next, passes}
use Rattle.builder.specs.Build.{bytes_in, entry_of, ends_in, bytes_of, list_bytes}
use Rattle.builder.proofs.Entries.{bytes_split}

-- The bytes that a command's entry makes are those that it was read from.
entry_bytes : (s : List ℕ) {c : Command} → Bytes s → read s ≡ whole c (width c) → bytes_in (entry_of c) ≡ take (width c) s
unfolding read entry_of width_at
entry_bytes [] h r = apart (cc)
entry_bytes (op ∷ s) {c} h r =
    let a = read_as op s r in
    let b = back s (λ i. h (suc i)) op a.listed in
    let kinds = (row_at op).operands in
    let wide : width c ≡ suc (length kinds) = sym a.wide ∙ add-one (length kinds) in
    let l : take (length kinds) (padded (operands_of c)) ≡ take (length kinds) s
    = ap (λ (x : Command). take (length kinds) (padded (operands_of x))) (sym a.same) ∙ b ∙ firsts_take kinds s 0 (let i = (known (op ∷ s) r).inside in omega arith) in
    rw (a.byte, bytes_split op (padded (operands_of c)), l, wide)

-- Along the commands of a table: the entries make its bytes, and their ENDs are the bodies that follow.
record Rebuilt (n i : ℕ) (s : List ℕ) (entries : List (List ℕ)) : Type 0 where
  bytes : bytes_of entries ≡ s
  ends : i + ends_in entries ≡ n

rebuilt : {n i left : ℕ} {s : List ℕ} {cs : List Command} → Bytes s → Listed n i left s cs → Rebuilt n i s (map entry_of cs)
unfolding bytes_of ends_in body_after is_end entry_of
rebuilt h (over e) = record { bytes = refl; ends = omega arith }
rebuilt {n = n} {i = i} {s = s} h (next {c = c} {cs = cs} inside own fits r) =
    let later = rebuilt (bytes_drop (width c) s h) r in
    record {
      bytes = rw (entry_bytes s h own, later.bytes) (take-append-drop (width c) s);
      ends = by (eqb (opcode c) 0) later.ends;
    }
  where
    by : (b : Bool) → cond b (i + 1) i + ends_in (map entry_of cs) ≡ n → i + (cond b 1 0 + ends_in (map entry_of cs)) ≡ n
    by true e = omega arith
    by false e = omega arith

-- "building from a read table yields that table"
pub builds_back : (t : List ℕ) → Bytes t → scan t ≡ 0 → list_bytes (map entry_of (commands_of t)) ≡ t
unfolding list_bytes
builds_back [] h e = absurd (let l = (passes [] e).long in omega arith)
builds_back (n ∷ s) h e =
    let r = rebuilt (λ i. h (suc i)) (passes (n ∷ s) e).listed in
    let k : ends_in (map entry_of (commands_of (n ∷ s))) ≡ n = let x = r.ends in omega arith in
    rw (k, r.bytes)
