-- Laws of an activity in its 208 bytes.
use Prim.Native.Nat.{ℕ, zero, suc, max, ◌+◌, ◌-◌, ◌*◌, ◌≤◌, ◌<◌}
use native.Mathlib.Omega.{arith}
use mathlib.Core.Path.{◌≡◌, refl, sym, ap, ◌∙◌}
use mathlib.Core.List.{List, [], ◌∷◌}
use mathlib.Core.Bool.{Bool, true, false, ◌&&◌}
use lib.ListN.{length, get_or, drop, length-drop}
use lib.Seq.{take_all, drop-drop}
use lib.Dec.{ltb, leb, eqb}
use borrow.Author.Tests.{leb-true, le-leb, lt-leb}
use Rattle.std.specs.List.{fold}
use Rattle.program.specs.Bodies.{Program}
use Rattle.rules.specs.declared.state.Hold.{Hold}
use Rattle.rules.specs.declared.state.Registration.{Registration}
use Rattle.rules.specs.declared.state.Registration.TheVariants.{Free, Live, Quiesced}
use Rattle.rules.specs.Search.{all_below}
use Rattle.rules.specs.State.{registration_number, frame, hold, bound, no_frame, no_hold}
use Rattle.rules.specs.Clocks.{is_held}
use Rattle.rules.specs.WellFormed.{is_placed, is_no_hold, frame_fits, stack_fits, hold_fits, body_fits, barrier_fits, names_fit, spawner_fits}
use Rattle.rules.proofs.Tests.{and_true, true_false}
use Rattle.rules.proofs.Search.{both, all_below_at, all_below_intro}
use Rattle.encoding.specs.Bytes.{part, byte_at, all_zero, parts_pass}
use Rattle.encoding.specs.Decode.{hold_at, activity_at, status_passes, frame_encodes, hold_encodes, activity_encodes}
use Rattle.encoding.proofs.FieldLaws.{sized}
use Rattle.encoding.proofs.PartLaws.{parts_at_at}
use Rattle.entries.specs.Entries.{frame_bytes, hold_bytes}
use Rattle.entries.proofs.ZeroLaws.{frame_unused, hold_unused}
use Rattle.entries.proofs.JoinLaws.{joined, tested}
use Rattle.wellformed.specs.declared.made.Made.{Made}
use Rattle.wellformed.specs.Entries.{activity_is_fit}
use Rattle.wellformed.specs.Passing.{stack_passes, holds_pass, activity_passes}
use Rattle.wellformed.proofs.Loops.{Passed}
use Rattle.wellformed.proofs.Laws.{fits_placed}

-- THE STACK

module _ (p : Program) (made : ℕ) (b : List ℕ) where
  -- a frame in use
  abbrev pub frame_test : ℕ → Bool
  frame_test d = frame_encodes (frame_bytes b d) && frame_fits p made (activity_at b) d

  -- the bytes behind the frames in use
  frames_tail : (m : ℕ) → length b ≡ 208 → drop (8 * m) (part b 80 128) ≡ drop (80 + 8 * m) b
  frames_tail m l = ap (drop (8 * m)) (take_all 128 (drop 80 b) (rw (length-drop, l) (omega arith))) ∙ drop-drop (8 * m) 80 b

  -- the frames in use and the zeros behind them are a stack
  pub stack_joined : byte_at b 7 ≤ 16 → length b ≡ 208 → all_below (byte_at b 7) frame_test && all_zero (drop (80 + 8 * byte_at b 7) b) ≡ stack_passes p made b
  unfolding stack_passes stack_fits activity_at
  stack_joined few l =
      let m = byte_at b 7 in
      ap (λ c. all_below m frame_test && all_zero c) (sym (frames_tail m l))
      ∙ joined frame_unused 16 m no_frame (part b 80 128) (frame_fits p made (activity_at b)) few (sized b 80 128 128 refl (omega arith))
      ∙ rw (le-leb m 16 few)

  -- none is too deep
  pub stack_deep : 16 < byte_at b 7 → false ≡ stack_passes p made b
  unfolding stack_passes stack_fits activity_at
  stack_deep l = rw (lt-leb (byte_at b 7) 16 l) (by (parts_pass 8 16 frame_encodes (part b 80 128)))
    where
      by : (q : Bool) → false ≡ q && false
      by true = refl
      by false = refl

  -- the frame below one that is to be tested is at a place
  pub below_at : {n d : ℕ} → Passed n frame_test d → 0 < d → is_placed p (frame (activity_at b) (d - 1)) ≡ true
  below_at {d = d} h z = fits_placed p made (activity_at b) (d - 1) (and_true (frame_encodes (frame_bytes b (d - 1))) _ (all_below_at d frame_test h.all (d - 1) (omega arith))).1

-- THE CLOCK NAMES

-- a name that is all 0 is not held
unheld : (h : Hold) → is_no_hold h ≡ true → is_held h.registration ≡ false
unheld h e = go h.registration (and_true (eqb h.clock 0) _ (and_true (eqb h.phase 0) _ e).1).1
  where
    go : (r : Registration) → eqb (registration_number r) 0 ≡ true → is_held r ≡ false
    go Free e = refl
    go Live e = absurd (true_false false e refl)
    go Quiesced e = absurd (true_false false e refl)

-- bytes that are all 0 encode such a name
zero_hold : (b : List ℕ) (k : ℕ) → k < 8 → length b ≡ 208 → all_zero (hold_bytes b k) ≡ true → (hold_encodes (hold_bytes b k) ≡ true) × (is_no_hold (hold (activity_at b) k) ≡ true)
unfolding activity_at
zero_hold b k j l z =
    let all = sized b 16 64 64 refl (omega arith) in
    let h = and_true (hold_encodes (hold_bytes b k)) _ (sym (hold_unused.is (hold_bytes b k) (sized (part b 16 64) (8 * k) 8 8 refl (rw all (omega arith)))) ∙ z) in
    (h.0, ap is_no_hold (parts_at_at 8 8 k hold_at (part b 16 64) no_hold j) ∙ h.1)

module _ (made : ℕ) (b : List ℕ) where
  -- a clock name
  abbrev pub hold_test : ℕ → Bool
  hold_test k = hold_encodes (hold_bytes b k) && hold_fits 65535 made (activity_at b) k

  -- all of them
  pub holds_tested : all_below 8 hold_test ≡ holds_pass made b
  unfolding holds_pass
  holds_tested = tested 8 8 hold_encodes (hold_fits 65535 made (activity_at b)) (part b 16 64)

  -- one whose bytes are all 0 is free
  pub name_free : (k : ℕ) → k < 8 → length b ≡ 208 → all_zero (hold_bytes b k) ≡ true → true ≡ hold_test k
  unfolding hold_fits
  name_free k j l z = let h = zero_hold b k j l z in rw (h.0, unheld (hold (activity_at b) k) h.1, h.1)

  -- one whose bytes are not all 0 is not free
  pub name_not_free : (k : ℕ) → k < 8 → length b ≡ 208 → all_zero (hold_bytes b k) ≡ false → hold_encodes (hold_bytes b k) ≡ true → is_held (hold (activity_at b) k).registration ≡ false → false ≡ hold_test k
  unfolding hold_fits activity_at
  name_not_free k j l z e f =
      let all = sized b 16 64 64 refl (omega arith) in
      let none : is_no_hold (hold_at (hold_bytes b k)) ≡ false = rw e at (sym (hold_unused.is (hold_bytes b k) (sized (part b 16 64) (8 * k) 8 8 refl (rw all (omega arith)))) ∙ z) in
      rw (e, f, parts_at_at 8 8 k hold_at (part b 16 64) no_hold j, none)

  -- of one that is held its phase and its clock decide
  pub name_held : (k : ℕ) → hold_encodes (hold_bytes b k) ≡ true → is_held (hold (activity_at b) k).registration ≡ true
      → leb (hold (activity_at b) k).phase 65535 && ltb (hold (activity_at b) k).clock made ≡ hold_test k
  unfolding hold_fits
  name_held k e f = rw (e, f)

-- THE ACCUMULATOR NAMES

-- the greatest of some numbers is no greater than what none of them is above
most_below : (made m : ℕ) (xs : List ℕ) → m ≤ made → ((i : ℕ) → i < length xs → get_or xs i 0 ≤ made) → fold max m xs ≤ made
most_below made m [] h each = h
most_below made m (x ∷ xs) h each =
    let first : x ≤ made = each 0 (omega arith) in
    most_below made (max m x) xs (omega arith) (λ i l. each (suc i) (omega arith))

-- and none of them is above it
most_above : (m : ℕ) (xs : List ℕ) → (m ≤ fold max m xs) × ((i : ℕ) → i < length xs → get_or xs i 0 ≤ fold max m xs)
most_above m [] = (omega arith, λ i l. absurd (let y : ⊥ = omega arith in y))
most_above m (x ∷ xs) =
    let on : (max m x ≤ fold max (max m x) xs) × ((i : ℕ) → i < length xs → get_or xs i 0 ≤ fold max (max m x) xs) = most_above (max m x) xs in
    (omega (arith, on.0), each on)
  where
    each : (max m x ≤ fold max (max m x) xs) × ((i : ℕ) → i < length xs → get_or xs i 0 ≤ fold max (max m x) xs) → (i : ℕ) → i < suc (length xs) → get_or (x ∷ xs) i 0 ≤ fold max (max m x) xs
    each on zero l = omega (arith, on.0)
    each on (suc i) l = on.1 i (omega arith)

-- an activity's names: the greatest decides of all of them
pub names_fit_most : (made : ℕ) (b : List ℕ) → length b ≡ 208 → leb (fold max 0 (part b 8 8)) made ≡ all_below 8 (λ n. leb (bound (activity_at b) n) made)
unfolding activity_at
names_fit_most made b l =
    let long : length (part b 8 8) ≡ 8 = sized b 8 8 8 refl (omega arith) in
    both (leb (fold max 0 (part b 8 8)) made) (all_below 8 (λ n. leb (get_or (part b 8 8) n 0) made))
    (λ e. all_below_intro 8 (λ n. leb (get_or (part b 8 8) n 0) made) (λ n j. let most = leb-true _ _ e in le-leb _ _ (omega (arith, (most_above 0 (part b 8 8)).1 n (rw long j)))))
    (λ e. le-leb _ _ (most_below made 0 (part b 8 8) (omega arith) (λ n j. leb-true _ _ (all_below_at 8 (λ n. leb (get_or (part b 8 8) n 0) made) e n (rw long at j)))))

-- THE WHOLE

shuffle : (st he fe sf hf bf ba re : Bool) → st && ((fe && sf) && ((he && hf) && (bf && (ba && re)))) ≡ (st && (he && fe)) && (sf && (bf && (ba && (hf && re))))
shuffle false he fe sf hf bf ba re = refl
shuffle true true false sf hf bf ba re = refl
shuffle true false false sf hf bf ba re = refl
shuffle true true true false hf bf ba re = refl
shuffle true false true false hf bf ba re = refl
shuffle true false true true hf bf ba re = refl
shuffle true true true true true bf ba re = refl
shuffle true true true true false true true re = refl
shuffle true true true true false true false re = refl
shuffle true true true true false false ba re = refl

-- the tests in the order of the code
pub spawned : (p : Program) (made : Made) (i : ℕ) (b : List ℕ)
    → status_passes (byte_at b 4) (byte_at b 5)
    && (stack_passes p made.activities b
    && (holds_pass made.clocks b
    && (body_fits (activity_at b)
    && (barrier_fits p (activity_at b)
    && (names_fit (activity_at b) && (all_below 8 (λ n. leb (bound (activity_at b) n) made.accumulators) && spawner_fits i (activity_at b)))))))
    ≡ activity_passes p made i b
unfolding activity_passes activity_encodes activity_is_fit stack_passes holds_pass
spawned p made i b =
    shuffle (status_passes (byte_at b 4) (byte_at b 5)) (parts_pass 8 8 hold_encodes (part b 16 64)) (parts_pass 8 16 frame_encodes (part b 80 128)) (stack_fits p made.activities (activity_at b))
    (all_below 8 (hold_fits 65535 made.clocks (activity_at b))) (body_fits (activity_at b)) (barrier_fits p (activity_at b))
    (names_fit (activity_at b) && (all_below 8 (λ n. leb (bound (activity_at b) n) made.accumulators) && spawner_fits i (activity_at b)))

-- what is so where they pass, beside the spawner
pub record SpawnedFacts (p : Program) (made : Made) (b : List ℕ) : Type 0 where
  pub status : status_passes (byte_at b 4) (byte_at b 5) ≡ true
  pub stack : stack_passes p made.activities b ≡ true
  pub names : holds_pass made.clocks b ≡ true
  pub body : body_fits (activity_at b) ≡ true
  pub barrier : barrier_fits p (activity_at b) ≡ true
  pub apart : names_fit (activity_at b) ≡ true
  pub bound : all_below 8 (λ n. leb (bound (activity_at b) n) made.accumulators) ≡ true

module _ (p : Program) (made : Made) (i : ℕ) (b : List ℕ) where
  spawned_facts : activity_passes p made i b ≡ true → SpawnedFacts p made b
  spawned_facts e =
      let t = and_true (status_passes (byte_at b 4) (byte_at b 5)) _ (spawned p made i b ∙ e) in
      let u = and_true (stack_passes p made.activities b) _ t.1 in
      let v = and_true (holds_pass made.clocks b) _ u.1 in
      let w = and_true (body_fits (activity_at b)) _ v.1 in
      let x = and_true (barrier_fits p (activity_at b)) _ w.1 in
      let y = and_true (names_fit (activity_at b)) _ x.1 in
      let z = and_true (all_below 8 (λ n. leb (bound (activity_at b) n) made.accumulators)) _ y.1 in
      record { status = t.0; stack = u.0; names = v.0; body = w.0; barrier = x.0; apart = y.0; bound = z.0 }

  -- one of them is not so
  pub spawned_fails : (SpawnedFacts p made b → ⊥) → false ≡ activity_passes p made i b
  spawned_fails h = go (activity_passes p made i b) refl
    where
      go : (q : Bool) → activity_passes p made i b ≡ q → false ≡ q
      go true e = absurd (h (spawned_facts e))
      go false e = refl

  -- the spawner decides
  pub spawned_left : {r : Bool} → SpawnedFacts p made b → r ≡ spawner_fits i (activity_at b) → r ≡ activity_passes p made i b
  spawned_left h e = e ∙ rw (h.status, h.stack, h.names, h.body, h.barrier, h.apart, h.bound) at (spawned p made i b)

-- what a test that passed says of its parts
pub holds_whole : (made : ℕ) (b : List ℕ) → holds_pass made b ≡ true → parts_pass 8 8 hold_encodes (part b 16 64) ≡ true
unfolding holds_pass
holds_whole made b e = (and_true (parts_pass 8 8 hold_encodes (part b 16 64)) _ e).0

-- of the stack
pub stack_fit : (p : Program) (made : ℕ) (b : List ℕ) → stack_passes p made b ≡ true → stack_fits p made (activity_at b) ≡ true
unfolding stack_passes
stack_fit p made b e = (and_true (parts_pass 8 16 frame_encodes (part b 80 128)) _ e).1
