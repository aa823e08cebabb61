-- Where the parts of a state stand in its bytes, and what fits them.
use Prim.Native.Nat.{ℕ, zero, suc, ◌+◌, ◌*◌, ◌^◌, ◌≤◌, ◌<◌}
use native.Mathlib.Omega.{arith}
use mathlib.Core.List.{List, [], ◌∷◌, ◌++◌}
use mathlib.Core.Path.{◌≡◌, refl, sym, ap, ◌∙◌, subst}
use lib.ListN.{length, get_or, set, replicate, length-append, length-set}
use borrow.Rule.Slice.PartMut.{put_mid}
use Rattle.rules.specs.declared.state.Status.{Status}
use Rattle.rules.specs.declared.state.Frame.{Frame}
use Rattle.rules.specs.declared.state.Hold.{Hold}
use Rattle.rules.specs.declared.state.Activity.{Activity}
use Rattle.rules.specs.declared.state.Accumulator.{Accumulator}
use Rattle.rules.specs.declared.state.State.{State}
use Rattle.rules.specs.State.{absent, no_frame, no_hold, no_accumulator, act, frame, hold, accumulator}
use Rattle.rules.specs.Effects.{with_register}
use Rattle.rules.proofs.Lists.{Stored, new, old, stored}
use Rattle.encoding.specs.Bytes.{bytes_of, number_of, part, encode_each}
use Rattle.encoding.specs.Encode.{version, status_byte, fault_byte, encode_frame, encode_hold, encode_accumulator, encode_activity, encode_state}
use Rattle.fields.specs.Lent.{FineActivity, Fine, Lent, Gets, Written, with_act, with_steps, with_status, with_hold, with_frame, with_depth}
use Rattle.encoding.proofs.NumberLaws.{bytes_of_length}
use Rattle.fields.proofs.Within.{put_first, put_second, put_inside, each_length, part_first, part_second, part_inside}

-- LENGTHS

pub frame_length : (f : Frame) → length (encode_frame f) ≡ 8
unfolding encode_frame bytes_of
frame_length f = refl

pub hold_length : (h : Hold) → length (encode_hold h) ≡ 8
unfolding encode_hold bytes_of
hold_length h = refl

pub accumulator_length : (c : Accumulator) → length (encode_accumulator c) ≡ 24
unfolding encode_accumulator bytes_of
accumulator_length c = refl

-- all entries
pub entries : {A : Type 0} (f : A → List ℕ) (k n m : ℕ) (d : A) (l : List A) → ((i : ℕ) → i < length l → length (f (get_or l i d)) ≡ k) → length l ≡ n → k * n ≡ m → length (encode_each f l) ≡ m
entries f k n m d l h e q = each_length f k d l h ∙ rw e q

-- WITHIN AN ACTIVITY

-- before its holds
abbrev pub own_head : Activity → List ℕ
own_head a = bytes_of 4 a.register ++ (status_byte a.status ∷ fault_byte a.status ∷ a.spawner ∷ a.depth ∷ []) ++ a.accumulators

module _ (a : Activity) (w : FineActivity a) where
  pub head_length : length (own_head a) ≡ 16
  unfolding bytes_of
  head_length = rw w.names8

  pub holds_length : length (encode_each encode_hold a.holds) ≡ 64
  holds_length = entries encode_hold 8 8 64 no_hold a.holds (λ n g. hold_length (hold a n)) w.holds8 refl

  pub front_length : length (own_head a ++ encode_each encode_hold a.holds) ≡ 80
  front_length = length-append (own_head a) (encode_each encode_hold a.holds) ∙ rw (head_length, holds_length)

  pub activity_length : length (encode_activity a) ≡ 208
  unfolding encode_activity
  activity_length =
      length-append (own_head a ++ encode_each encode_hold a.holds) (encode_each encode_frame a.frames)
      ∙ rw (front_length, entries encode_frame 8 16 128 no_frame a.frames (λ n g. frame_length (frame a n)) w.frames16 refl)

  -- within one of its holds
  pub part_hold : (k x m : ℕ) → k < 8 → x + m ≤ 8 → part (encode_activity a) (16 + (8 * k + x)) m ≡ part (encode_hold (hold a k)) x m
  unfolding encode_activity
  part_hold k x m j b =
      part_first (own_head a ++ encode_each encode_hold a.holds) (encode_each encode_frame a.frames) (16 + (8 * k + x)) m (rw front_length (omega arith))
      ∙ ap (λ n. part (own_head a ++ encode_each encode_hold a.holds) (n + (8 * k + x)) m) (sym head_length)
      ∙ part_second (own_head a) (encode_each encode_hold a.holds) (8 * k + x) m
      ∙ part_inside encode_hold 8 no_hold a.holds (λ n g. hold_length (get_or a.holds n no_hold)) k x m (rw w.holds8 j) b

  pub put_hold : (k x m : ℕ) (e : List ℕ) (h : Hold) → k < 8 → x + m ≤ 8 → put_mid x m (encode_hold (hold a k)) e ≡ encode_hold h
      → put_mid (16 + (8 * k + x)) m (encode_activity a) e ≡ encode_activity (with_hold a k h)
  unfolding encode_activity
  put_hold k x m e h j b q =
      put_first (own_head a ++ encode_each encode_hold a.holds) (encode_each encode_frame a.frames) e (16 + (8 * k + x)) m (rw front_length (omega arith))
      ∙ ap (λ r. r ++ encode_each encode_frame a.frames)
      (ap (λ n. put_mid (n + (8 * k + x)) m (own_head a ++ encode_each encode_hold a.holds) e) (sym head_length)
      ∙ put_second (own_head a) (encode_each encode_hold a.holds) e (8 * k + x) m
      ∙ ap (λ r. own_head a ++ r)
      (put_inside encode_hold 8 no_hold a.holds (λ n g. hold_length (get_or a.holds n no_hold)) k x m e h (rw w.holds8 j) b q))

  -- within one of its frames
  pub part_frame : (d x m : ℕ) → d < 16 → x + m ≤ 8 → part (encode_activity a) (80 + (8 * d + x)) m ≡ part (encode_frame (frame a d)) x m
  unfolding encode_activity
  part_frame d x m j b =
      ap (λ n. part (encode_activity a) (n + (8 * d + x)) m) (sym front_length)
      ∙ part_second (own_head a ++ encode_each encode_hold a.holds) (encode_each encode_frame a.frames) (8 * d + x) m
      ∙ part_inside encode_frame 8 no_frame a.frames (λ n g. frame_length (get_or a.frames n no_frame)) d x m (rw w.frames16 j) b

  pub put_frame : (d x m : ℕ) (e : List ℕ) (f : Frame) → d < 16 → x + m ≤ 8 → put_mid x m (encode_frame (frame a d)) e ≡ encode_frame f
      → put_mid (80 + (8 * d + x)) m (encode_activity a) e ≡ encode_activity (with_frame a d f)
  unfolding encode_activity
  put_frame d x m e f j b q =
      ap (λ n. put_mid (n + (8 * d + x)) m (encode_activity a) e) (sym front_length)
      ∙ put_second (own_head a ++ encode_each encode_hold a.holds) (encode_each encode_frame a.frames) e (8 * d + x) m
      ∙ ap (λ r. own_head a ++ encode_each encode_hold a.holds ++ r)
      (put_inside encode_frame 8 no_frame a.frames (λ n g. frame_length (get_or a.frames n no_frame)) d x m e f (rw w.frames16 j) b q)

-- WITHIN A STATE

-- before the activities
abbrev pub state_head : State → List ℕ
state_head s =
    (version ∷ s.activities ∷ s.clocks ∷ s.accumulators ∷ []) ++ bytes_of 4 s.steps ++ replicate 8 0 ++ encode_each (bytes_of 4) s.cells ++ encode_each encode_accumulator s.accs

module _ (s : State) (w : Fine s) where
  pub state_head_length : length (state_head s) ≡ 464
  state_head_length =
      let c : length (encode_each (bytes_of 4) s.cells) ≡ 64 = entries (bytes_of 4) 4 16 64 0 s.cells (λ n g. bytes_of_length 4 (get_or s.cells n 0)) w.cells16 refl in
      let g : length (encode_each encode_accumulator s.accs) ≡ 384 = entries encode_accumulator 24 16 384 no_accumulator s.accs (λ n g. accumulator_length (accumulator s n)) w.accs16 refl in
      simp (length-append, bytes_of_length, c, g) refl

  act_lengths : (n : ℕ) → n < length s.acts → length (encode_activity (get_or s.acts n absent)) ≡ 208
  act_lengths n g = activity_length (act s n) (w.each n (rw w.acts64 at g))

  pub state_length : length (encode_state s) ≡ 13776
  unfolding encode_state
  state_length =
      length-append (state_head s) (encode_each encode_activity s.acts) ∙ rw (state_head_length, entries encode_activity 208 64 13312 absent s.acts act_lengths w.acts64 refl)

  -- within one activity
  pub part_act : (i a m : ℕ) → i < 64 → a + m ≤ 208 → part (encode_state s) (464 + (208 * i + a)) m ≡ part (encode_activity (act s i)) a m
  unfolding encode_state
  part_act i a m j b =
      ap (λ n. part (encode_state s) (n + (208 * i + a)) m) (sym state_head_length)
      ∙ part_second (state_head s) (encode_each encode_activity s.acts) (208 * i + a) m
      ∙ part_inside encode_activity 208 absent s.acts act_lengths i a m (rw w.acts64 j) b

  pub put_act : (i a m : ℕ) (e : List ℕ) (x : Activity) → i < 64 → a + m ≤ 208 → put_mid a m (encode_activity (act s i)) e ≡ encode_activity x
      → put_mid (464 + (208 * i + a)) m (encode_state s) e ≡ encode_state (with_act s i x)
  unfolding encode_state with_act
  put_act i a m e x j b q =
      ap (λ n. put_mid (n + (208 * i + a)) m (encode_state s) e) (sym state_head_length)
      ∙ put_second (state_head s) (encode_each encode_activity s.acts) e (208 * i + a) m
      ∙ ap (λ r. state_head s ++ r) (put_inside encode_activity 208 absent s.acts act_lengths i a m e x (rw w.acts64 j) b q)

-- WHAT FITS

pub fine_act : {s : State} (i : ℕ) {x : Activity} → Fine s → FineActivity x → Fine (with_act s i x)
unfolding with_act
fine_act {s} i {x} w y =
    record {
      acts64 = length-set s.acts i x ∙ w.acts64;
      accs16 = w.accs16;
      cells16 = w.cells16;
      steps = w.steps;
      cells = w.cells;
      values = w.values;
      each = λ n j. go n j (stored s.acts i x n absent);
    }
  where
    go : (n : ℕ) → n < 64 → Stored s.acts i x n absent → FineActivity (get_or (set s.acts i x) n absent)
    go n j (new e p) = rw p y
    go n j (old p) = rw p (w.each n j)

pub fine_steps : {s : State} {n : ℕ} → Fine s → n < 2 ^ 16 → Fine (with_steps s n)
unfolding with_steps
fine_steps w h = record { acts64 = w.acts64; accs16 = w.accs16; cells16 = w.cells16; steps = h; cells = w.cells; values = w.values; each = w.each }

module _ {a : Activity} (w : FineActivity a) where
  pub fine_register : {v : ℕ} → v < 2 ^ 32 → FineActivity (with_register a v)
  fine_register h = record { frames16 = w.frames16; holds8 = w.holds8; names8 = w.names8; register = h; offsets = w.offsets; phases = w.phases }

  pub fine_status : {x : Status} → FineActivity (with_status a x)
  fine_status = record { frames16 = w.frames16; holds8 = w.holds8; names8 = w.names8; register = w.register; offsets = w.offsets; phases = w.phases }

  pub fine_depth : {d : ℕ} → FineActivity (with_depth a d)
  fine_depth = record { frames16 = w.frames16; holds8 = w.holds8; names8 = w.names8; register = w.register; offsets = w.offsets; phases = w.phases }

  pub fine_hold : (k : ℕ) (h : Hold) → h.phase < 2 ^ 16 → FineActivity (with_hold a k h)
  fine_hold k h l =
      record {
        frames16 = w.frames16;
        holds8 = length-set a.holds k h ∙ w.holds8;
        names8 = w.names8;
        register = w.register;
        offsets = w.offsets;
        phases = λ n. go n (stored a.holds k h n no_hold);
      }
    where
      go : (n : ℕ) → Stored a.holds k h n no_hold → (get_or (set a.holds k h) n no_hold).phase < 2 ^ 16
      go n (new e p) = rw p l
      go n (old p) = rw p (w.phases n)

  pub fine_frame : (d : ℕ) (f : Frame) → f.offset < 2 ^ 16 → FineActivity (with_frame a d f)
  fine_frame d f l =
      record {
        frames16 = length-set a.frames d f ∙ w.frames16;
        holds8 = w.holds8;
        names8 = w.names8;
        register = w.register;
        offsets = λ n. go n (stored a.frames d f n no_frame);
        phases = w.phases;
      }
    where
      go : (n : ℕ) → Stored a.frames d f n no_frame → (get_or (set a.frames d f) n no_frame).offset < 2 ^ 16
      go n (new e p) = rw p l
      go n (old p) = rw p (w.offsets n)

-- an entry not in use
pub zero_offset : (d n : ℕ) → (get_or (replicate n no_frame) d no_frame).offset < 2 ^ 16
zero_offset d zero = omega arith
zero_offset zero (suc n) = omega arith
zero_offset (suc d) (suc n) = zero_offset d n

pub zero_phase : (k n : ℕ) → (get_or (replicate n no_hold) k no_hold).phase < 2 ^ 16
zero_phase k zero = omega arith
zero_phase zero (suc n) = omega arith
zero_phase (suc k) (suc n) = zero_phase k n

-- READING AND WRITING

pub lent_length : {b : List ℕ} {s : State} → Lent b s → length b ≡ 13776
lent_length {s = s} l = ap length l.bytes ∙ state_length s l.fine

module _ {b : List ℕ} {s : State} (l : Lent b s) {i : ℕ} (j : i < 64) where
  -- a number in an activity
  pub own_number : {at r : ℕ} (a k : ℕ) → Gets k b at r → at ≡ 464 + (208 * i + a) → a + k ≤ 208 → r ≡ number_of (part (encode_activity (act s i)) a k)
  own_number {at} a k g e h =
      g.gets (lent_length l) (rw e (omega arith)) ∙ ap number_of (rw (e, l.bytes) (part_act s l.fine i a k j h))

  -- a part of one
  pub own_part : {at : ℕ} (a k : ℕ) → at ≡ 464 + (208 * i + a) → a + k ≤ 208 → part b at k ≡ part (encode_activity (act s i)) a k
  own_part {at} a k e h = rw (e, l.bytes) (part_act s l.fine i a k j h)

  -- an activity with a part written
  pub own_write : {at : ℕ} (e : List ℕ) (a k : ℕ) (x : Activity) → at ≡ 464 + (208 * i + a) → a + k ≤ 208 → put_mid a k (encode_activity (act s i)) e ≡ encode_activity x → FineActivity x
      → Lent (put_mid at k b e) (with_act s i x)
  own_write {at} e a k x q h p y = record { bytes = rw (q, l.bytes) (put_act s l.fine i a k e x j h p); fine = fine_act i l.fine y }

  -- a part of one as it is read
  pub own_read : {A : Type 0} {r : A} (f : List ℕ → A) (a k : ℕ) → (length b ≡ 13776 → i < 64 → a < 208 → a + k ≤ 208 → r ≡ f (part b (464 + (208 * i + a)) k)) → a < 208 → a + k ≤ 208
      → r ≡ f (part (encode_activity (act s i)) a k)
  own_read f a k g q h = g (lent_length l) j q h ∙ ap f (own_part a k refl h)

  -- and as it is written
  pub own_put : {c e : List ℕ} (a k : ℕ) (x : Activity) → (i < 64 → a < 208 → Written k b c (464 + (208 * i + a)) e) → a < 208 → a + k ≤ 208
      → put_mid a k (encode_activity (act s i)) e ≡ encode_activity x → FineActivity x → Lent c (with_act s i x)
  own_put {e = e} a k x g q h p y =
      subst (λ (r : List ℕ). Lent r (with_act s i x)) (sym ((g j q).puts (lent_length l) (omega arith))) (own_write e a k x refl h p y)

  -- the activity fits
  pub mine : FineActivity (act s i)
  mine = l.fine.each i j

-- a number of one byte
pub single : (x : ℕ) → number_of (x ∷ []) ≡ x
unfolding number_of
single x = omega arith
