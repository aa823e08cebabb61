-- What a whole command that was read tells.
use Prim.Native.Nat.{ℕ, suc, ◌+◌, ◌≤◌, ◌<◌}
use native.Mathlib.Omega.{arith}
use mathlib.Core.Path.{◌≡◌, refl, sym, ap, ◌∙◌}
use mathlib.Core.List.{List, [], ◌∷◌}
use mathlib.Core.Bool.{Bool, true, false, cond}
use lib.ListN.{length, get_or, take, drop}
use lib.Seq.{drop-cons, get_or-drop}
use lib.Dec.{leb, ltb}
use borrow.Author.Tests.{leb-false, le-ltb, ltb-false}
use Rattle.program.specs.Command.{Operand, rows, row_at, width_at, opcode, operands_of, command_of, row_of, width}
use Rattle.program.specs.Inner.Coding.{commands}
use Rattle.program.specs.Refusal.{refusal_number}
use Rattle.program.specs.declared.refusal.Refusal.{Refusal}
use Rattle.program.specs.Reading.{Reading, whole, all_inside, read}
use Rattle.std.specs.Prelude.{Ok, Err}
use Rattle.program.specs.declared.command.Command.{Command}
use Rattle.program.specs.declared.reading.Whole.{Whole}
use Rattle.program.specs.declared.refusal.Refusal.TheVariants.{Unknown, Cut, Operand as Outside}
use Rattle.program.proofs.Basic.{apart, each_from}
use Rattle.program.proofs.Shape.{Ranged}

-- What is known of s where it starts with the command c of so many bytes.
pub record Known (s : List ℕ) (c : Command) (size : ℕ) : Type 0 where
  pub some : 0 < size
  pub wide : size ≡ width c
  pub inside : size ≤ length s
  pub ranged : Ranged c

-- The operands as they stand in the bytes from the i-th on, one for each kind.
abbrev pub firsts : List Operand → List ℕ → ℕ → List ℕ
firsts [] s i = []
firsts (kind ∷ kinds) s i = get_or s i 0 ∷ firsts kinds s (suc i)

-- They are inside their ranges where the bytes are.
pub firsts_inside : (kinds : List Operand) (s : List ℕ) (i : ℕ) → i + length kinds ≤ length s → all_inside kinds (drop i s) ≡ all_inside kinds (firsts kinds s i)
firsts_inside [] s i h = refl
firsts_inside (kind ∷ kinds) s i h = rw (drop-cons s i 0 (omega arith), firsts_inside kinds s (suc i) (omega arith))

-- They are the first bytes.
pub firsts_take : (kinds : List Operand) (s : List ℕ) (i : ℕ) → i + length kinds ≤ length s → firsts kinds s i ≡ take (length kinds) (drop i s)
firsts_take [] s i h = refl
firsts_take (kind ∷ kinds) s i h = rw (drop-cons s i 0 (omega arith), firsts_take kinds s (suc i) (omega arith))

-- A fact of each command byte.
pub each_op : (P : ℕ → Type 0) → P 0 → P 1 → P 2 → P 3 → P 4 → P 5 → P 6 → P 7 → P 8 → P 9 → P 10 → P 11 → P 12 → P 13 → P 14 → P 15 → P 16 → P 17
    → (op : ℕ) → op < commands → P op
each_op P p0 p1 p2 p3 p4 p5 p6 p7 p8 p9 p10 p11 p12 p13 p14 p15 p16 p17 op =
    let Q : ℕ → Type 0 = λ x. x < commands → P x in
    each_from Q 0 (λ h. p0) (each_from Q 1 (λ h. p1) (each_from Q 2 (λ h. p2) (each_from Q 3 (λ h. p3) (each_from Q 4 (λ h. p4) (each_from Q 5 (λ h. p5)
    (each_from Q 6 (λ h. p6) (each_from Q 7 (λ h. p7) (each_from Q 8 (λ h. p8) (each_from Q 9 (λ h. p9) (each_from Q 10 (λ h. p10) (each_from Q 11 (λ h. p11)
    (each_from Q 12 (λ h. p12) (each_from Q 13 (λ h. p13) (each_from Q 14 (λ h. p14) (each_from Q 15 (λ h. p15) (each_from Q 16 (λ h. p16)
    (each_from Q 17 (λ h. p17) (λ n far h. absurd (let y : ⊥ = omega arith in y)))))))))))))))))))
    op (omega arith)

-- The command of a byte has this byte, and the operands that were read.
pub kept : (s : List ℕ) (op : ℕ) → op < commands
    → (opcode (command_of op s) ≡ op) × (all_inside (row_at op).operands (firsts (row_at op).operands s 0) ≡ all_inside (row_at op).operands (operands_of (command_of op s)))
unfolding rows row_at command_of
kept s =
    each_op (λ (x : ℕ). (opcode (command_of x s) ≡ x) × (all_inside (row_at x).operands (firsts (row_at x).operands s 0) ≡ all_inside (row_at x).operands (operands_of (command_of x s))))
    (refl, refl) (refl, refl) (refl, refl) (refl, refl) (refl, refl) (refl, refl) (refl, refl) (refl, refl) (refl, refl)
    (refl, refl) (refl, refl) (refl, refl) (refl, refl) (refl, refl) (refl, refl) (refl, refl) (refl, refl) (refl, refl)

-- The tests of a reading that gave a command.
record Tests (a b e : Bool) (c₀ c : Command) (w₀ size : ℕ) : Type 0 where
  known : a ≡ false
  whole : b ≡ false
  good : e ≡ true
  same : c₀ ≡ c
  long : w₀ ≡ size

tests : (a b e : Bool) (c₀ : Command) (w₀ : ℕ) {w : Whole} → ◌≡◌ {A = Reading} (cond a (Err Unknown) (cond b (Err Cut) (cond e (whole c₀ w₀) (Err Outside)))) (Ok w) → Tests a b e c₀ w.command w₀ w.size
tests true b e c₀ w₀ h = apart (cc)
tests false true e c₀ w₀ h = apart (cc)
tests false false false c₀ w₀ h = apart (cc)
tests false false true c₀ w₀ {w} h =
    let same : record { command = c₀; size = w₀ } ≡ w = cc in
    record { known = refl; whole = refl; good = refl; same = ap (λ (x : Whole). x.command) same; long = ap (λ (x : Whole). x.size) same }

-- A command byte with all its operands is not cut.
uncut_by : (a e : Bool) (c : Command) (n : ℕ) → ◌≡◌ {A = Reading} (cond a (Err Unknown) (cond e (whole c n) (Err Outside))) (Err Cut) → ⊥
uncut_by true e c n h = apart (cc)
uncut_by false true c n h = apart (cc)
uncut_by false false c n h = apart (cc)

pub not_cut : (op : ℕ) (s : List ℕ) → length (row_at op).operands ≤ length s → read (op ∷ s) ≡ Err Cut → ⊥
unfolding read
not_cut op s h e =
    let kinds = (row_at op).operands in
    uncut_by (leb (length rows) op) (all_inside kinds s) (command_of op s) (length kinds + 1) (rw (le-ltb (length s) (length kinds) h) at e)

-- A whole command that was read is that of its byte and of what follows, and as wide as its row says.
pub record ReadAs (op : ℕ) (s : List ℕ) (c : Command) (size : ℕ) : Type 0 where
  pub listed : op < commands
  pub same : command_of op s ≡ c
  pub wide : width_at op ≡ size
  pub byte : opcode c ≡ op

pub read_as : (op : ℕ) (s : List ℕ) {w : Whole} → read (op ∷ s) ≡ Ok w → ReadAs op s w.command w.size
unfolding rows read width_at
read_as op s h =
    let kinds = (row_at op).operands in
    let f = tests (leb (length rows) op) (ltb (length s) (length kinds)) (all_inside kinds s) (command_of op s) (length kinds + 1) h in
    let fits = ltb-false (length s) (length kinds) f.whole in
    let k = kept s op (leb-false commands op f.known) in
    record { listed = leb-false commands op f.known; same = f.same; wide = f.long; byte = ap opcode (sym f.same) ∙ k.0 }

-- A whole command that was read: its bytes are there and its operands are inside their ranges.
pub known : (s : List ℕ) {w : Whole} → read s ≡ Ok w → Known s w.command w.size
unfolding rows read Ranged row_of width
known [] h = apart (cc)
known (op ∷ s) {w} h =
    let kinds = (row_at op).operands in
    let f = tests (leb (length rows) op) (ltb (length s) (length kinds)) (all_inside kinds s) (command_of op s) (length kinds + 1) h in
    let fits = ltb-false (length s) (length kinds) f.whole in
    let k = kept s op (leb-false commands op f.known) in
    let e : opcode w.command ≡ op = ap opcode (sym f.same) ∙ k.0 in
    record {
      some = let l = f.long in omega arith;
      wide = rw e (sym f.long);
      inside = let l = f.long in omega arith;
      ranged = rw e (rw f.same at (sym (firsts_inside kinds s 0 (omega arith) ∙ k.1) ∙ f.good));
    }

-- Its first byte is the command's.
pub read_first : (s : List ℕ) (at : ℕ) {w : Whole} → read (drop at s) ≡ Ok w → width_at (get_or s at 0) ≡ w.size
unfolding read
read_first s at {w} h = by (drop at s) (get_or-drop at s 0 0 ∙ ap (λ (k : ℕ). get_or s k 0) (let z : at + 0 ≡ at = omega arith in z)) h
  where
    by : (l : List ℕ) → get_or l 0 0 ≡ get_or s at 0 → read l ≡ Ok w → width_at (get_or s at 0) ≡ w.size
    by [] e g = apart (cc)
    by (op ∷ l) e g = ap width_at (sym e) ∙ (read_as op l g).wide

-- Where no whole command is read, the number is 3, 4 or 5.
pub read_refused : (s : List ℕ) {x : Refusal} → read s ≡ Err x → refusal_number x ≤ 5
unfolding read
read_refused [] {x} h = let same : Cut ≡ x = cc in rw (← same) (omega arith)
read_refused (op ∷ s) {x} h = by (leb (length rows) op) (ltb (length s) (length (row_at op).operands)) (all_inside (row_at op).operands s) _ _ h
  where
    by : (a b e : Bool) (c : Command) (n : ℕ) → ◌≡◌ {A = Reading} (cond a (Err Unknown) (cond b (Err Cut) (cond e (whole c n) (Err Outside)))) (Err x) → refusal_number x ≤ 5
    by true b e c n g = let same : Unknown ≡ x = cc in rw (← same) (omega arith)
    by false true e c n g = let same : Cut ≡ x = cc in rw (← same) (omega arith)
    by false false true c n g = apart (cc)
    by false false false c n g = let same : Outside ≡ x = cc in rw (← same) (omega arith)
