-- Reading the bytes of a list yields the list.
use Prim.Native.Nat.{ℕ, suc}
use native.Mathlib.Omega.{arith}
use mathlib.Core.List.{List, [], ◌∷◌, ◌++◌, map}
use mathlib.Core.Path.{◌≡◌, refl, sym, ◌∙◌}
use lib.ListN.{length, get_or, take, drop}
use lib.Seq.{drop_at}
use Rattle.std.specs.Prelude.{Ok}
use Rattle.program.specs.Command.{row_at, opcode, width}
use Rattle.program.specs.Reading.{read, commands_of}
use Rattle.program.specs.Scan.{scan, body_after}
use Rattle.program.specs.declared.command.Command.{Command}
use Rattle.program.specs.declared.reading.Whole.{Whole}
use Rattle.program.proofs.Basic.{apart}
use Rattle.program.proofs.ShapeReading.{read_as}
use Rattle.program.proofs.ShapeOperands.{looks}
use Rattle.program.proofs.ShapeListed.{Listed, over, next, passes}
use Rattle.builder.specs.Build.{command_in, bytes_in, bytes_of, list_bytes}
use Rattle.builder.proofs.Entries.{Five, Entry, bytes, five_bytes, bytes_split, bytes_long}

-- The command that is read from an entry's bytes is the entry's, and as wide as these bytes.
pub record EntryRead (l : List ℕ) (c : Command) (size : ℕ) : Type 0 where
  pub same : c ≡ command_in l
  pub long : length (bytes_in l) ≡ size
  pub byte : opcode c ≡ get_or l 0 0

pub entry_read : {l : List ℕ} {w : Whole} → Entry l → (rest : List ℕ) → read (bytes_in l ++ rest) ≡ Ok w → EntryRead l w.command w.size
unfolding command_in
entry_read (bytes op x y z w) rest r =
    let a = read_as op (take (length (row_at op).operands) (x ∷ y ∷ z ∷ w ∷ []) ++ rest) (rw bytes_split at r) in
    record { same = sym a.same ∙ looks x y z w rest op a.listed; long = bytes_long (op ∷ x ∷ y ∷ z ∷ w ∷ []) refl ∙ a.wide; byte = a.byte }

-- Nothing is read where there are no bytes, and an entry makes some.
none_read : {s : List ℕ} {w : Whole} {A : Type 0} → s ≡ [] → read s ≡ Ok w → A
unfolding read
none_read e r = apart (let z = rw e at r in cc)

some_bytes : {l : List ℕ} {A : Type 0} (rest : List ℕ) → Entry l → [] ≡ bytes_in l ++ rest → A
some_bytes rest (bytes op x y z w) e = apart (let z = rw bytes_split at e in cc)

-- The commands that are listed in the bytes of entries are those of the entries.
listed_entries_lem : {n i left : ℕ} (entries : List (List ℕ)) {s : List ℕ} {cs : List Command} → Five entries → s ≡ bytes_of entries → Listed n i left s cs → cs ≡ map command_in entries
unfolding bytes_of
listed_entries_lem [] five e (over h) = refl
listed_entries_lem [] five e (next inside own fits r) = none_read e own
listed_entries_lem (l ∷ entries) five e (over h) = some_bytes (bytes_of entries) (five_bytes l (five 0 (omega arith))) e
listed_entries_lem {n = n} {i = i} {left = left} (l ∷ entries) {s = s} five e (next {c = c} {cs = cs} inside own fits r) =
    let a = entry_read (five_bytes l (five 0 (omega arith))) (bytes_of entries) (rw e at own) in
    let rest : drop (width c) s ≡ bytes_of entries = rw e (drop_at (bytes_in l) (bytes_of entries) (width c) a.long) in
    let later : cs ≡ map command_in entries = listed_entries_lem {i = body_after i c} entries (λ i h. five (suc i) (omega arith)) rest r in
    rw (a.same, later)

-- "reading its bytes yields the list"
pub reads_back : (entries : List (List ℕ)) → Five entries → scan (list_bytes entries) ≡ 0 → commands_of (list_bytes entries) ≡ map command_in entries
unfolding list_bytes
reads_back entries five e = listed_entries_lem entries five refl (passes (list_bytes entries) e).listed
