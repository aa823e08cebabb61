-- What stands before the activities: the counts, the cells and the accumulators.
use Prim.Native.Nat.{ℕ, ◌+◌, ◌-◌, ◌*◌, ◌%◌, ◌^◌, ◌≤◌, ◌<◌}
use native.Mathlib.Omega.{arith}
use mathlib.Core.List.{List, [], ◌∷◌, ◌++◌}
use mathlib.Core.Path.{◌≡◌, refl, sym, ap, ◌∙◌}
use lib.ListN.{length, get_or, set, replicate, length-append, length-set}
use borrow.Rule.Slice.PartMut.{put_mid}
use Rattle.rules.specs.declared.state.Accumulator.{Accumulator}
use Rattle.rules.specs.declared.state.State.{State}
use Rattle.rules.specs.State.{no_accumulator, accumulator}
use Rattle.rules.specs.Effects.{with_value}
use Rattle.rules.proofs.Lists.{Stored, new, old, stored}
use Rattle.encoding.specs.Bytes.{bytes_of, number_of, part, encode_each}
use Rattle.encoding.specs.Decode.{accumulator_at}
use Rattle.encoding.specs.Encode.{version, encode_accumulator, encode_activity, encode_state}
use Rattle.fields.specs.Lent.{Fine, Lent, Gets, Written, with_steps, with_acc, with_activities, with_clocks, with_accumulators, with_cell}
use Rattle.encoding.proofs.NumberLaws.{bytes_of_length, number_of_bytes}
use Rattle.encoding.proofs.EnumLaws.{operator_there}
use Rattle.fields.proofs.Within.{put_first, put_second, put_inside, part_first, part_second, part_inside, lent_back}
use Rattle.fields.proofs.Stands.{accumulator_length, entries, state_head, state_head_length, fine_steps, lent_length, single}

-- THE STEPS

pub steps_there : {b : List ℕ} {s : State} {r : ℕ} → Lent b s → Gets 2 b 4 r → r ≡ s.steps
unfolding encode_state bytes_of
steps_there {b} {s} l g = g.gets (lent_length l) (omega arith) ∙ rw l.bytes (number_of_bytes 2 s.steps l.fine.steps)

pub steps_put : {b c : List ℕ} {s : State} {n : ℕ} → Lent b s → Written 4 b c 4 (bytes_of 4 n) → n < 2 ^ 16 → Lent c (with_steps s n)
unfolding encode_state with_steps bytes_of
steps_put {s = s} l p h = record { bytes = p.puts (lent_length l) (omega arith) ∙ rw l.bytes; fine = fine_steps l.fine h }

-- COUNTS

-- The counts are single bytes: they fit by their type.
fine_counts : {s : State} (a c n : ℕ) → Fine s
    → Fine (record { cells = s.cells; acts = s.acts; accs = s.accs; steps = s.steps; activities = a; clocks = c; accumulators = n })
fine_counts a c n w = record { acts64 = w.acts64; accs16 = w.accs16; cells16 = w.cells16; steps = w.steps; cells = w.cells; values = w.values; each = w.each }

pub activities_there : {b : List ℕ} {s : State} {r : ℕ} → Lent b s → Gets 1 b 1 r → r ≡ s.activities
unfolding encode_state bytes_of
activities_there {b} {s} l g = g.gets (lent_length l) (omega arith) ∙ rw l.bytes (single s.activities)

pub activities_put : {b c : List ℕ} {s : State} {n : ℕ} → Lent b s → Written 1 b c 1 (bytes_of 1 n) → n < 256 → Lent c (with_activities s n)
unfolding encode_state with_activities bytes_of
activities_put {s = s} {n = n} l p h =
    let q : n % 256 ≡ n = omega arith in
    record {
      bytes = p.puts (lent_length l) (omega arith) ∙ rw (l.bytes, q);
      fine = fine_counts n s.clocks s.accumulators l.fine;
    }

pub clocks_there : {b : List ℕ} {s : State} {r : ℕ} → Lent b s → Gets 1 b 2 r → r ≡ s.clocks
unfolding encode_state bytes_of
clocks_there {b} {s} l g = g.gets (lent_length l) (omega arith) ∙ rw l.bytes (single s.clocks)

pub clocks_put : {b c : List ℕ} {s : State} {n : ℕ} → Lent b s → Written 1 b c 2 (bytes_of 1 n) → n < 256 → Lent c (with_clocks s n)
unfolding encode_state with_clocks bytes_of
clocks_put {s = s} {n = n} l p h =
    let q : n % 256 ≡ n = omega arith in
    record {
      bytes = p.puts (lent_length l) (omega arith) ∙ rw (l.bytes, q);
      fine = fine_counts s.activities n s.accumulators l.fine;
    }

pub accumulators_there : {b : List ℕ} {s : State} {r : ℕ} → Lent b s → Gets 1 b 3 r → r ≡ s.accumulators
unfolding encode_state bytes_of
accumulators_there {b} {s} l g = g.gets (lent_length l) (omega arith) ∙ rw l.bytes (single s.accumulators)

pub accumulators_put : {b c : List ℕ} {s : State} {n : ℕ} → Lent b s → Written 1 b c 3 (bytes_of 1 n) → n < 256 → Lent c (with_accumulators s n)
unfolding encode_state with_accumulators bytes_of
accumulators_put {s = s} {n = n} l p h =
    let q : n % 256 ≡ n = omega arith in
    record {
      bytes = p.puts (lent_length l) (omega arith) ∙ rw (l.bytes, q);
      fine = fine_counts s.activities s.clocks n l.fine;
    }

-- CELLS

-- before them
abbrev cell_head : State → List ℕ
cell_head s = (version ∷ s.activities ∷ s.clocks ∷ s.accumulators ∷ []) ++ bytes_of 4 s.steps ++ replicate 8 0

-- from them on
abbrev cell_tail : State → List ℕ
cell_tail s = encode_each encode_accumulator s.accs

module _ (s : State) (w : Fine s) where
  cell_head_length : length (cell_head s) ≡ 16
  unfolding bytes_of
  cell_head_length = refl

  cells_length : length (encode_each (bytes_of 4) s.cells) ≡ 64
  cells_length = entries (bytes_of 4) 4 16 64 0 s.cells (λ n g. bytes_of_length 4 (get_or s.cells n 0)) w.cells16 refl

  cells_front : length (cell_head s ++ encode_each (bytes_of 4) s.cells) ≡ 80
  cells_front = length-append (cell_head s) (encode_each (bytes_of 4) s.cells) ∙ rw (cell_head_length, cells_length)

  cell_inside : (d : ℕ) → d < 16 → 16 + (4 * d + 0) + 4 ≤ length (state_head s)
  cell_inside d j = rw (state_head_length s w) (omega arith)

  cell_before : (d : ℕ) → d < 16 → 16 + (4 * d + 0) + 4 ≤ length (cell_head s ++ encode_each (bytes_of 4) s.cells)
  cell_before d j = rw cells_front (omega arith)

  pub part_cell : (d : ℕ) → d < 16 → part (encode_state s) (16 + (4 * d + 0)) 4 ≡ part (bytes_of 4 (get_or s.cells d 0)) 0 4
  unfolding encode_state
  part_cell d j =
      part_first (state_head s) (encode_each encode_activity s.acts) (16 + (4 * d + 0)) 4 (cell_inside d j)
      ∙ part_first (cell_head s ++ encode_each (bytes_of 4) s.cells) (cell_tail s) (16 + (4 * d + 0)) 4 (cell_before d j)
      ∙ ap (λ k. part (cell_head s ++ encode_each (bytes_of 4) s.cells) (k + (4 * d + 0)) 4) (sym cell_head_length)
      ∙ part_second (cell_head s) (encode_each (bytes_of 4) s.cells) (4 * d + 0) 4
      ∙ part_inside (bytes_of 4) 4 0 s.cells (λ k g. bytes_of_length 4 (get_or s.cells k 0)) d 0 4 (rw w.cells16 j) (omega arith)

  pub put_cell : (d v : ℕ) → d < 16 → put_mid (16 + (4 * d + 0)) 4 (encode_state s) (bytes_of 4 v) ≡ encode_state (with_cell s d v)
  unfolding encode_state with_cell bytes_of
  put_cell d v j =
      put_first (state_head s) (encode_each encode_activity s.acts) (bytes_of 4 v) (16 + (4 * d + 0)) 4 (cell_inside d j)
      ∙ ap (λ r. r ++ encode_each encode_activity s.acts)
      (put_first (cell_head s ++ encode_each (bytes_of 4) s.cells) (cell_tail s) (bytes_of 4 v) (16 + (4 * d + 0)) 4 (cell_before d j)
      ∙ ap (λ r. r ++ cell_tail s)
      (ap (λ k. put_mid (k + (4 * d + 0)) 4 (cell_head s ++ encode_each (bytes_of 4) s.cells) (bytes_of 4 v)) (sym cell_head_length)
      ∙ put_second (cell_head s) (encode_each (bytes_of 4) s.cells) (bytes_of 4 v) (4 * d + 0) 4
      ∙ ap (λ r. cell_head s ++ r)
      (put_inside (bytes_of 4) 4 0 s.cells (λ k g. bytes_of_length 4 (get_or s.cells k 0)) d 0 4 (bytes_of 4 v) v (rw w.cells16 j) (omega arith) refl)))

pub fine_cell : {s : State} (d v : ℕ) → Fine s → v < 2 ^ 32 → Fine (with_cell s d v)
unfolding with_cell
fine_cell {s} d v w h =
    record {
      acts64 = w.acts64;
      accs16 = w.accs16;
      cells16 = length-set s.cells d v ∙ w.cells16;
      steps = w.steps;
      cells = λ k. go k (stored s.cells d v k 0);
      values = w.values;
      each = w.each;
    }
  where
    go : (k : ℕ) → Stored s.cells d v k 0 → get_or (set s.cells d v) k 0 < 2 ^ 32
    go k (new e p) = rw p h
    go k (old p) = rw p (w.cells k)

module _ {b : List ℕ} {s : State} (l : Lent b s) {d : ℕ} (j : d < 16) where
  pub cell_there : {at r : ℕ} → Gets 4 b at r → at ≡ 16 + 4 * d → r ≡ get_or s.cells d 0
  unfolding bytes_of
  cell_there {at} g e =
      let q : at ≡ 16 + (4 * d + 0) = omega arith in
      g.gets (lent_length l) (rw e (omega arith))
      ∙ ap number_of (rw (q, l.bytes) (part_cell s l.fine d j))
      ∙ number_of_bytes 4 (get_or s.cells d 0) (l.fine.cells d)

  pub cell_write : {c : List ℕ} {at v : ℕ} → Written 4 b c at (bytes_of 4 v) → at ≡ 16 + 4 * d → v < 2 ^ 32 → Lent c (with_cell s d v)
  cell_write {c} {at} {v} g e h =
      let q : at ≡ 16 + (4 * d + 0) = omega arith in
      record {
        bytes = g.puts (lent_length l) (rw e (omega arith)) ∙ rw (q, l.bytes) (put_cell s l.fine d v j);
        fine = fine_cell d v l.fine h;
      }

-- ACCUMULATORS

-- before them
abbrev acc_head : State → List ℕ
acc_head s = (version ∷ s.activities ∷ s.clocks ∷ s.accumulators ∷ []) ++ bytes_of 4 s.steps ++ replicate 8 0 ++ encode_each (bytes_of 4) s.cells

module _ (s : State) (w : Fine s) where
  acc_head_length : length (acc_head s) ≡ 80
  acc_head_length =
      let c : length (encode_each (bytes_of 4) s.cells) ≡ 64 = entries (bytes_of 4) 4 16 64 0 s.cells (λ n g. bytes_of_length 4 (get_or s.cells n 0)) w.cells16 refl in
      simp (length-append, bytes_of_length, c) refl

  acc_inside : (n x m : ℕ) → n < 16 → x + m ≤ 24 → 80 + (24 * n + x) + m ≤ length (state_head s)
  acc_inside n x m j b = rw (state_head_length s w) (omega arith)

  pub part_acc : (n x m : ℕ) → n < 16 → x + m ≤ 24 → part (encode_state s) (80 + (24 * n + x)) m ≡ part (encode_accumulator (accumulator s n)) x m
  unfolding encode_state
  part_acc n x m j b =
      part_first (state_head s) (encode_each encode_activity s.acts) (80 + (24 * n + x)) m (acc_inside n x m j b)
      ∙ ap (λ k. part (state_head s) (k + (24 * n + x)) m) (sym acc_head_length)
      ∙ part_second (acc_head s) (encode_each encode_accumulator s.accs) (24 * n + x) m
      ∙ part_inside encode_accumulator 24 no_accumulator s.accs (λ k g. accumulator_length (accumulator s k)) n x m (rw w.accs16 j) b

  pub put_acc : (n x m : ℕ) (e : List ℕ) (c : Accumulator) → n < 16 → x + m ≤ 24 → put_mid x m (encode_accumulator (accumulator s n)) e ≡ encode_accumulator c
      → put_mid (80 + (24 * n + x)) m (encode_state s) e ≡ encode_state (with_acc s n c)
  unfolding encode_state with_acc
  put_acc n x m e c j b q =
      put_first (state_head s) (encode_each encode_activity s.acts) e (80 + (24 * n + x)) m (acc_inside n x m j b)
      ∙ ap (λ r. r ++ encode_each encode_activity s.acts)
      (ap (λ k. put_mid (k + (24 * n + x)) m (state_head s) e) (sym acc_head_length)
      ∙ put_second (acc_head s) (encode_each encode_accumulator s.accs) e (24 * n + x) m
      ∙ ap (λ r. acc_head s ++ r) (put_inside encode_accumulator 24 no_accumulator s.accs (λ k g. accumulator_length (accumulator s k)) n x m e c (rw w.accs16 j) b q))

pub fine_acc : {s : State} (n : ℕ) (c : Accumulator) → Fine s → c.value < 2 ^ 32 → Fine (with_acc s n c)
unfolding with_acc
fine_acc {s} n c w h =
    record {
      acts64 = w.acts64;
      accs16 = length-set s.accs n c ∙ w.accs16;
      cells16 = w.cells16;
      steps = w.steps;
      cells = w.cells;
      values = λ k. go k (stored s.accs n c k no_accumulator);
      each = w.each;
    }
  where
    go : (k : ℕ) → Stored s.accs n c k no_accumulator → (get_or (set s.accs n c) k no_accumulator).value < 2 ^ 32
    go k (new e p) = rw p h
    go k (old p) = rw p (w.values k)

acc_back : (c : Accumulator) → c.value < 2 ^ 32 → accumulator_at (part (encode_accumulator c) 0 24) ≡ c
unfolding encode_accumulator accumulator_at bytes_of
acc_back c w = rw (number_of_bytes 4 c.value w, operator_there c.operator)

value_put : (c : Accumulator) (v : ℕ) → put_mid 0 4 (encode_accumulator c) (bytes_of 4 v) ≡ encode_accumulator (with_value c v)
unfolding encode_accumulator bytes_of
value_put c v = refl

module _ {b : List ℕ} {s : State} (l : Lent b s) {n : ℕ} (j : n < 16) where
  pub acc_there : {r : Accumulator} → (length b ≡ 13776 → 80 + 24 * n + 24 ≤ 13776 → r ≡ accumulator_at (part b (80 + 24 * n) 24)) → r ≡ accumulator s n
  acc_there g =
      let q : 80 + 24 * n ≡ 80 + (24 * n + 0) = omega arith in
      g (lent_length l) (omega arith) ∙ ap accumulator_at (rw (q, l.bytes) (part_acc s l.fine n 0 24 j (omega arith))) ∙ acc_back (accumulator s n) (l.fine.values n)

  pub value_write : {c : List ℕ} {at v : ℕ} → Written 4 b c at (bytes_of 4 v) → at ≡ 80 + 24 * n → v < 2 ^ 32 → Lent c (with_acc s n (with_value (accumulator s n) v))
  value_write {c} {at} {v} g e h =
      let q : at ≡ 80 + (24 * n + 0) = omega arith in
      record {
        bytes =
            g.puts (lent_length l) (rw e (omega arith))
            ∙ rw (q, l.bytes) (put_acc s l.fine n 0 4 (bytes_of 4 v) (with_value (accumulator s n) v) j (omega arith) (value_put (accumulator s n) v));
        fine = fine_acc n (with_value (accumulator s n) v) l.fine h;
      }

-- A WHOLE ACCUMULATOR

acc_whole : (g c : Accumulator) → put_mid 0 24 (encode_accumulator g) (encode_accumulator c) ≡ encode_accumulator c
unfolding encode_accumulator bytes_of
acc_whole g c = refl

-- twenty-four bytes lent from where it stands
pub acc_write : {b : List ℕ} {s : State} → Lent b s → {n : ℕ} → n < 16 → (c : Accumulator) (e : List ℕ) → e ≡ encode_accumulator c → c.value < 2 ^ 32
    → let at = 80 + 24 * n in Lent (put_mid at (at + 24 - at) b e) (with_acc s n c)
acc_write {b} {s} l {n} j c e p h =
    let at = 80 + 24 * n in
    let q : at ≡ 80 + (24 * n + 0) = omega arith in
    record {
      bytes =
          lent_back at 24 b e
          ∙ rw (q, l.bytes) (put_acc s l.fine n 0 24 e c j (omega arith) (rw p (acc_whole (accumulator s n) c)));
      fine = fine_acc n c l.fine h;
    }
