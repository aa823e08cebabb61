-- The fields of an activity: read, and written.
use Prim.Native.Nat.{ℕ, ◌+◌, ◌-◌, ◌*◌, ◌/◌, ◌%◌, ◌^◌, ◌≤◌, ◌<◌}
use native.Mathlib.Omega.{arith}
use mathlib.Core.List.{List, [], ◌∷◌, ◌++◌, append-nil, append_assoc}
use lib.Seq.{drop-length}
use mathlib.Core.Path.{◌≡◌, refl, sym, ap, ◌∙◌, subst}
use lib.ListN.{length, take, drop, replicate, length-append, length-set}
use borrow.Rule.Slice.PartMut.{put_mid}
use Rattle.rules.specs.declared.state.Status.{Status}
use Rattle.rules.specs.declared.state.Frame.{Frame}
use Rattle.rules.specs.declared.state.Hold.{Hold}
use Rattle.rules.specs.declared.state.Activity.{Activity}
use Rattle.rules.specs.declared.state.State.{State}
use Rattle.rules.specs.State.{registration_number, bound, no_frame, no_frames, no_holds, act, frame, hold}
use Rattle.rules.specs.Effects.{with_register}
use Rattle.encoding.specs.Bytes.{bytes_of, number_of, part, encode_each}
use Rattle.encoding.specs.Decode.{frame_at, status_of}
use Rattle.encoding.specs.Encode.{status_byte, fault_byte, encode_frame, encode_hold, encode_activity}
use Rattle.fields.specs.Lent.{FineActivity, Lent, Written, with_act, with_spawner, with_name, cleared, with_status, with_hold, with_frame, with_depth, onward}
use Rattle.encoding.proofs.NumberLaws.{number_of_bytes}
use Rattle.encoding.proofs.FieldLaws.{sized}
use Rattle.encoding.proofs.EnumLaws.{status_there}
use Rattle.fields.proofs.Within.{put_one, get_one, put_first, put_second, part_first, part_second, lent_back}
use Rattle.fields.proofs.Stands.{frame_length, entries, own_head, head_length, holds_length, front_length, part_hold, put_hold, part_frame, put_frame, fine_hold, fine_frame, zero_offset, zero_phase, lent_length, own_read, own_write, own_put, mine, single}

-- FIELDS OF AN ACTIVITY

pub register_there : (a : Activity) → FineActivity a → number_of (part (encode_activity a) 0 4) ≡ a.register
unfolding encode_activity bytes_of
register_there a w = number_of_bytes 4 a.register w.register

pub register_put : (a : Activity) (v : ℕ) → put_mid 0 4 (encode_activity a) (bytes_of 4 v) ≡ encode_activity (with_register a v)
unfolding encode_activity bytes_of
register_put a v = refl

pub status_byte_lem : (a : Activity) → number_of (part (encode_activity a) 4 1) ≡ status_byte a.status
unfolding encode_activity bytes_of
status_byte_lem a = single (status_byte a.status)

pub fault_byte_lem : (a : Activity) → number_of (part (encode_activity a) 5 1) ≡ fault_byte a.status
unfolding encode_activity bytes_of
fault_byte_lem a = single (fault_byte a.status)

pub depth_there : (a : Activity) → number_of (part (encode_activity a) 7 1) ≡ a.depth
unfolding encode_activity bytes_of
depth_there a = single a.depth

pub depth_put : (a : Activity) (d : ℕ) → d < 256 → put_mid 7 1 (encode_activity a) (bytes_of 1 d) ≡ encode_activity (with_depth a d)
unfolding encode_activity bytes_of
depth_put a d h = let q : d % 256 ≡ d = omega arith in rw q

pub status_put : (a : Activity) (st : Status) {n x y : ℕ} → n ≡ x + y * 256 → x ≡ status_byte st → y ≡ fault_byte st → x < 256 → y < 256
    → put_mid 4 2 (encode_activity a) (bytes_of 2 n) ≡ encode_activity (with_status a st)
unfolding encode_activity bytes_of
status_put a st {n} {x} {y} g e f h k =
    let q : n % 256 ≡ x = omega arith in
    let d : n / 256 % 256 ≡ y = omega arith in
    rw (q, d, e, f)

pub status_of_bytes : {x y : ℕ} (st : Status) → x ≡ status_byte st → y ≡ fault_byte st → status_of x y ≡ st
status_of_bytes {x} {y} st e f = ap (λ (n : ℕ). status_of n y) e ∙ ap (λ (n : ℕ). status_of (status_byte st) n) f ∙ status_there st

pub spawner_there : (a : Activity) → number_of (part (encode_activity a) 6 1) ≡ a.spawner
unfolding encode_activity bytes_of
spawner_there a = single a.spawner

-- OF A HOLD

pub phase_there : (h : Hold) → h.phase < 2 ^ 16 → number_of (part (encode_hold h) 0 2) ≡ h.phase
unfolding encode_hold bytes_of
phase_there h w = number_of_bytes 2 h.phase w

pub clock_there : (h : Hold) → number_of (part (encode_hold h) 4 1) ≡ h.clock
unfolding encode_hold bytes_of
clock_there h = single h.clock

pub registration_byte : (h : Hold) → number_of (part (encode_hold h) 5 1) ≡ registration_number h.registration
unfolding encode_hold bytes_of
registration_byte h = single (registration_number h.registration)

pub hold_whole : (g h : Hold) → put_mid 0 8 (encode_hold g) (encode_hold h) ≡ encode_hold h
unfolding encode_hold bytes_of
hold_whole g h = refl

-- OF A FRAME

pub frame_there : (f : Frame) → f.offset < 2 ^ 16 → frame_at (part (encode_frame f) 0 8) ≡ f
unfolding encode_frame frame_at bytes_of
frame_there f w = rw (number_of_bytes 2 f.offset w)

pub frame_whole : (g f : Frame) → put_mid 0 8 (encode_frame g) (encode_frame f) ≡ encode_frame f
unfolding encode_frame bytes_of
frame_whole g f = refl

pub offset_there : (f : Frame) → f.offset < 2 ^ 16 → number_of (part (encode_frame f) 0 2) ≡ f.offset
unfolding encode_frame bytes_of
offset_there f w = number_of_bytes 2 f.offset w

pub offset_put : (f : Frame) (v : ℕ) → put_mid 0 2 (encode_frame f) (bytes_of 2 v) ≡ encode_frame (onward f v)
unfolding encode_frame bytes_of
offset_put f v = refl

-- A HOLD AND A FRAME IN THE STATE

module _ {b : List ℕ} {s : State} (l : Lent b s) {i : ℕ} (j : i < 64) where
  module _ {k : ℕ} (h : k < 8) where
    pub hold_read : {A : Type 0} {r : A} (f : List ℕ → A) (a x m : ℕ) → (length b ≡ 13776 → i < 64 → a < 208 → a + m ≤ 208 → r ≡ f (part b (464 + (208 * i + a)) m)) → a ≡ 16 + (8 * k + x) → x + m ≤ 8 → 0 < m
        → r ≡ f (part (encode_hold (hold (act s i) k)) x m)
    hold_read f a x m g e q z = own_read l j f a m g (omega arith) (omega arith) ∙ ap f (rw e (part_hold (act s i) (mine l j) k x m h q))

    -- eight bytes lent from where it stands
    pub hold_write : (g : Hold) (e : List ℕ) → e ≡ encode_hold g → g.phase < 2 ^ 16
        → let at = 480 + 208 * i + 8 * k in Lent (put_mid at (at + 8 - at) b e) (with_act s i (with_hold (act s i) k g))
    hold_write g e p y =
        let at = 480 + 208 * i + 8 * k in
        subst (λ (r : List ℕ). Lent r (with_act s i (with_hold (act s i) k g))) (sym (lent_back at 8 b e))
        (own_write l j {at = at} e (16 + (8 * k + 0)) 8 (with_hold (act s i) k g) (omega arith) (omega arith)
        (put_hold (act s i) (mine l j) k 0 8 e g h (omega arith) (rw p (hold_whole (hold (act s i) k) g))) (fine_hold (mine l j) k g y))

  module _ {d : ℕ} (h : d < 16) where
    pub frame_read : {A : Type 0} {r : A} (f : List ℕ → A) (m : ℕ) → (length b ≡ 13776 → i < 64 → 80 + 8 * d < 208 → 80 + 8 * d + m ≤ 208 → r ≡ f (part b (464 + (208 * i + (80 + 8 * d))) m)) → m ≤ 8
        → r ≡ f (part (encode_frame (frame (act s i) d)) 0 m)
    frame_read f m g q =
        let z : 8 * d ≡ 8 * d + 0 = omega arith in
        own_read l j f (80 + 8 * d) m g (omega arith) (omega arith) ∙ ap (λ n. f (part (encode_activity (act s i)) (80 + n) m)) z ∙ ap f (part_frame (act s i) (mine l j) d 0 m h (omega arith))

    pub frame_write : (f : Frame) (e : List ℕ) → e ≡ encode_frame f → f.offset < 2 ^ 16
        → let at = 544 + 208 * i + 8 * d in Lent (put_mid at (at + 8 - at) b e) (with_act s i (with_frame (act s i) d f))
    frame_write f e p y =
        let at = 544 + 208 * i + 8 * d in
        subst (λ (r : List ℕ). Lent r (with_act s i (with_frame (act s i) d f))) (sym (lent_back at 8 b e))
        (own_write l j {at = at} e (80 + (8 * d + 0)) 8 (with_frame (act s i) d f) (omega arith) (omega arith)
        (put_frame (act s i) (mine l j) d 0 8 e f h (omega arith) (rw p (frame_whole (frame (act s i) d) f))) (fine_frame (mine l j) d f y))

    pub offset_write : {c : List ℕ} {v : ℕ} → (i < 64 → 80 + 8 * d < 208 → Written 2 b c (464 + (208 * i + (80 + 8 * d))) (bytes_of 2 v)) → v < 2 ^ 16 → Lent c (with_act s i (with_frame (act s i) d (onward (frame (act s i) d) v)))
    offset_write {v = v} p y =
        let f = onward (frame (act s i) d) v in
        let z : 8 * d ≡ 8 * d + 0 = omega arith in
        own_put l j (80 + 8 * d) 2 (with_frame (act s i) d f) p (omega arith) (omega arith)
        (ap (λ n. put_mid (80 + n) 2 (encode_activity (act s i)) (bytes_of 2 v)) z ∙ put_frame (act s i) (mine l j) d 0 2 (bytes_of 2 v) f h (omega arith) (offset_put (frame (act s i) d) v))
        (fine_frame (mine l j) d f y)

-- NAMES AND WHAT IS CLEARED

-- no holds and no frames
no_bytes : replicate 192 0 ≡ encode_each encode_hold no_holds ++ encode_each encode_frame no_frames
unfolding encode_each encode_hold encode_frame bytes_of
no_bytes = refl

abbrev own_first : Activity → List ℕ
own_first a = bytes_of 4 a.register ++ (status_byte a.status ∷ fault_byte a.status ∷ a.spawner ∷ a.depth ∷ [])

module _ (a : Activity) (w : FineActivity a) where
  first_length : length (own_first a) ≡ 8
  unfolding bytes_of
  first_length = refl

  names_inside : (n : ℕ) → n < 8 → 8 + n + 1 ≤ length (own_head a)
  names_inside n h = rw (head_length a w) (omega arith)

  pub name_there : (n : ℕ) → n < 8 → number_of (part (encode_activity a) (8 + n) 1) ≡ bound a n
  unfolding encode_activity
  name_there n h =
      ap number_of
      (part_first (own_head a ++ encode_each encode_hold a.holds) (encode_each encode_frame a.frames) (8 + n) 1 (rw (front_length a w) (omega arith))
      ∙ part_first (own_head a) (encode_each encode_hold a.holds) (8 + n) 1 (names_inside n h)
      ∙ ap (λ m. part (own_head a) (m + n) 1) (sym first_length)
      ∙ part_second (own_first a) a.accumulators n 1)
      ∙ sym (get_one a.accumulators n (rw w.names8 h))

  pub name_put : (n v : ℕ) → n < 8 → v < 256 → put_mid (8 + n) 1 (encode_activity a) (bytes_of 1 v) ≡ encode_activity (with_name a n v)
  unfolding encode_activity
  name_put n v h k =
      put_first (own_head a ++ encode_each encode_hold a.holds) (encode_each encode_frame a.frames) (bytes_of 1 v) (8 + n) 1 (rw (front_length a w) (omega arith))
      ∙ ap (λ r. r ++ encode_each encode_frame a.frames)
      (put_first (own_head a) (encode_each encode_hold a.holds) (bytes_of 1 v) (8 + n) 1 (names_inside n h)
      ∙ ap (λ r. r ++ encode_each encode_hold a.holds)
      (ap (λ m. put_mid (m + n) 1 (own_head a) (bytes_of 1 v)) (sym first_length)
      ∙ put_second (own_first a) a.accumulators (bytes_of 1 v) n 1
      ∙ ap (λ r. own_first a ++ r) (sym (put_one a.accumulators n v (rw w.names8 h) k))))

  pub clear_put : put_mid 16 192 (encode_activity a) (replicate 192 0) ≡ encode_activity (cleared a)
  unfolding encode_activity
  clear_put =
      let h = own_head a in
      let r = encode_each encode_hold a.holds ++ encode_each encode_frame a.frames in
      let n : length r ≡ 192 =
      length-append (encode_each encode_hold a.holds) (encode_each encode_frame a.frames) ∙ rw (holds_length a w, entries encode_frame 8 16 128 no_frame a.frames (λ n g. frame_length (frame a n)) w.frames16 refl)
      in
      let z : drop 192 r ≡ [] = ap (λ k. drop k r) (sym n) ∙ drop-length r in
      ap (λ x. put_mid 16 192 x (replicate 192 0)) (append_assoc h (encode_each encode_hold a.holds) (encode_each encode_frame a.frames))
      ∙ ap (λ k. put_mid (k + 0) 192 (h ++ r) (replicate 192 0)) (sym (head_length a w))
      ∙ put_second h r (replicate 192 0) 0 192
      ∙ ap (λ x. h ++ (replicate 192 0 ++ x)) z
      ∙ ap (λ x. h ++ x) (append-nil (replicate 192 0) ∙ no_bytes)
      ∙ sym (append_assoc h (encode_each encode_hold no_holds) (encode_each encode_frame no_frames))

pub fine_name : {a : Activity} (n v : ℕ) → FineActivity a → FineActivity (with_name a n v)
fine_name {a} n v w =
    record { frames16 = w.frames16; holds8 = w.holds8; names8 = length-set a.accumulators n v ∙ w.names8; register = w.register; offsets = w.offsets; phases = w.phases }

pub fine_spawner : {a : Activity} {v : ℕ} → FineActivity a → FineActivity (with_spawner a v)
fine_spawner w = record { frames16 = w.frames16; holds8 = w.holds8; names8 = w.names8; register = w.register; offsets = w.offsets; phases = w.phases }

pub fine_cleared : {a : Activity} → FineActivity a → FineActivity (cleared a)
fine_cleared w =
    record {
      frames16 = refl;
      holds8 = refl;
      names8 = w.names8;
      register = w.register;
      offsets = λ d. zero_offset d 16;
      phases = λ k. zero_phase k 8;
    }

pub spawner_put : (a : Activity) (v : ℕ) → v < 256 → put_mid 6 1 (encode_activity a) (bytes_of 1 v) ≡ encode_activity (with_spawner a v)
unfolding encode_activity bytes_of
spawner_put a v h = let q : v % 256 ≡ v = omega arith in rw q

-- NAMES IN THE STATE, AND AN ACTIVITY CLEARED

module _ {b : List ℕ} {s : State} (l : Lent b s) {i : ℕ} (j : i < 64) where
  pub name_read : {n r : ℕ} → n < 8 → (length b ≡ 13776 → i < 64 → 8 + n < 208 → 8 + n + 1 ≤ 208 → r ≡ number_of (part b (464 + (208 * i + (8 + n))) 1)) → r ≡ bound (act s i) n
  name_read {n} h g = own_read l j number_of (8 + n) 1 g (omega arith) (omega arith) ∙ name_there (act s i) (mine l j) n h

  pub name_write : {c : List ℕ} {n v : ℕ} → n < 8 → (i < 64 → 8 + n < 208 → Written 1 b c (464 + (208 * i + (8 + n))) (bytes_of 1 v)) → v < 256 → Lent c (with_act s i (with_name (act s i) n v))
  name_write {n = n} {v = v} h g k = own_put l j (8 + n) 1 (with_name (act s i) n v) g (omega arith) (omega arith) (name_put (act s i) (mine l j) n v h k) (fine_name n v (mine l j))

  pub clear_write : (e : List ℕ) → let at = 480 + 208 * i in e ≡ replicate (length (take (at + 192 - at) (drop at b))) 0 → Lent (put_mid at (at + 192 - at) b e) (with_act s i (cleared (act s i)))
  clear_write e q =
      let at = 480 + 208 * i in
      let n : length b ≡ 13776 = lent_length l in
      let z : e ≡ replicate 192 0 = q ∙ ap (λ (k : ℕ). replicate k 0) (sized b at 192 (at + 192 - at) (omega arith) (omega arith)) in
      subst (λ (r : List ℕ). Lent r (with_act s i (cleared (act s i)))) (sym (lent_back at 192 b e))
      (own_write l j {at = at} e 16 192 (cleared (act s i)) (omega arith) (omega arith) (rw z (clear_put (act s i) (mine l j))) (fine_cleared (mine l j)))
