-- How many are behind at a meeting, counted in lent bytes: places on clocks in place of phases and registrations.
use Prim.Native.Nat.{ℕ, ◌+◌, ◌-◌, ◌*◌, ◌^◌, ◌≤◌, ◌<◌}
use native.Mathlib.Omega.{arith}
use native.Mathlib.Decide.{dec_lt, ℕ_discrete}
use mathlib.Core.Path.{◌≡◌, refl, sym, ap, ◌∙◌}
use mathlib.Core.List.{List}
use mathlib.Core.Bool.{Bool, true, false, ◌||◌, ◌&&◌, and-false, or-false}
use lib.ListN.{length, get_or, take, drop, set, replicate, length-set, get_or-replicate, get_or-eq_default}
use lib.Seq.{get_or-set_same, get_or-set_other}
use lib.Dec.{ltb, eqb}
use borrow.Author.Tests.{lt-ltb, le-ltb, eqb-true, eqb-false, eq-eqb, ne_eqb, not-false}
use Rattle.rules.specs.declared.state.Registration.{Registration}
use Rattle.rules.specs.declared.state.Registration.TheVariants.{Free, Live, Quiesced}
use Rattle.rules.specs.declared.state.Hold.{Hold}
use Rattle.rules.specs.declared.state.Activity.{Activity}
use Rattle.rules.specs.declared.state.State.{State}
use Rattle.rules.specs.Search.{some_below, count_below}
use Rattle.rules.specs.State.{registration_number, act, hold, ended}
use Rattle.rules.specs.Clocks.{is_held, is_live, is_behind, holds, behind}
use Rattle.rules.specs.Waiting.{behind_of}
use Rattle.rules.proofs.Tests.{and_true, true_false}
use Rattle.rules.proofs.Search.{some_below_all}
use Rattle.rules.proofs.Counting.{counted, uncounted}
use Rattle.places.proofs.Searches.{some_more, found, passed, none, some_alike, some_below_swap}
use Rattle.encoding.specs.Bytes.{bytes_of, part}
use Rattle.encoding.specs.Encode.{encode_hold}
use Rattle.fields.specs.Lent.{Lent, Reads, ReadsAct}
use Rattle.fields.proofs.Within.{lent_part}
use Rattle.fields.proofs.Stands.{part_hold, own_part, mine}
use Rattle.waits.specs.Waits.{place_of, quiesced_place, keeps, Clocked, Gone, OwnPlaces, is_late, Late, is_unended}

-- PLACES

-- A live hold is behind a phase in an earlier one or in the same; a quiesced one in an earlier.
order_live : (q p : ℕ) → ltb q p || (eqb q p && true) ≡ ltb (2 * q + 1) (quiesced_place p)
order_live q p = go (dec_lt q p) (ℕ_discrete q p)
  where
    go : Dec (q < p) → Dec (q ≡ p) → ltb q p || (eqb q p && true) ≡ ltb (2 * q + 1) (quiesced_place p)
    go (yes h) d = rw (lt-ltb q p h, lt-ltb (2 * q + 1) (quiesced_place p) (omega arith))
    go (no h) (yes e) = rw (le-ltb q p (omega arith), eq-eqb q p e, lt-ltb (2 * q + 1) (quiesced_place p) (omega arith))
    go (no h) (no e) = rw (le-ltb q p (omega arith), ne_eqb q p e, le-ltb (2 * q + 1) (quiesced_place p) (omega arith))

order_quiesced : (q p : ℕ) → ltb q p || (eqb q p && false) ≡ ltb (quiesced_place q) (quiesced_place p)
order_quiesced q p = go (dec_lt q p) (ℕ_discrete q p)
  where
    go : Dec (q < p) → Dec (q ≡ p) → ltb q p || (eqb q p && false) ≡ ltb (quiesced_place q) (quiesced_place p)
    go (yes h) d = rw (lt-ltb q p h, lt-ltb (quiesced_place q) (quiesced_place p) (omega arith))
    go (no h) (yes e) = rw (le-ltb q p (omega arith), eq-eqb q p e, le-ltb (quiesced_place q) (quiesced_place p) (omega arith))
    go (no h) (no e) = rw (le-ltb q p (omega arith), ne_eqb q p e, le-ltb (quiesced_place q) (quiesced_place p) (omega arith))

-- A hold is behind where it is of the clock and its place is below that of one quiesced in the phase.
place_behind : (c p : ℕ) (h : Hold) → is_behind c p h ≡ is_held h.registration && (eqb h.clock c && ltb (place_of h) (quiesced_place p))
unfolding is_behind
place_behind c p h = go h.registration
  where
    go : (r : Registration)
        → is_held r && (eqb h.clock c && (ltb h.phase p || (eqb h.phase p && is_live r)))
        ≡ is_held r && (eqb h.clock c && ltb (2 * h.phase + registration_number r) (quiesced_place p))
    go Free = refl
    go Live = ap (λ (b : Bool). eqb h.clock c && b) (order_live h.phase p)
    go Quiesced = ap (λ (b : Bool). eqb h.clock c && b) (order_quiesced h.phase p)

-- SEARCHES

-- A test that all share.
some_shared : (n : ℕ) (b : Bool) (f : ℕ → Bool) → some_below n (λ k. b && f k) ≡ b && some_below n f
some_shared n true f = refl
some_shared n false f = some_below_all n (λ k. false) (λ k l e. true_false false e refl)

swap_and : (a b c : Bool) → a && (b && c) ≡ b && (a && c)
swap_and true true c = refl
swap_and true false c = refl
swap_and false true c = refl
swap_and false false c = refl

-- Where the places of an activity are known, whoever is behind on a clock of its has a name that is late.
late_behind : (s : State) (a : Activity) (own : List ℕ) → ((c place : ℕ) → ltb place (get_or own c 0) ≡ keeps a c place) → (x : ℕ)
    → some_below 8 (λ k. is_late own (hold (act s x) k)) ≡ behind_of s a x
unfolding behind_of behind is_late keeps
late_behind s a own tells x =
    some_alike 8 _ _ (λ m l. sym (one (hold (act s x) m))) ∙ sym (some_below_swap 8 8 (holds a) (λ k m. is_behind (hold a k).clock (hold a k).phase (hold (act s x) m)))
  where
    one : (h : Hold) → some_below 8 (λ k. holds a k && is_behind (hold a k).clock (hold a k).phase h) ≡ is_held h.registration && ltb (place_of h) (get_or own h.clock 0)
    one h =
        let held = is_held h.registration in
        let test : ℕ → Bool = λ k. holds a k && (eqb h.clock (hold a k).clock && ltb (place_of h) (quiesced_place (hold a k).phase)) in
        some_alike 8 (λ k. holds a k && is_behind (hold a k).clock (hold a k).phase h) (λ k. held && test k)
        (λ k l. ap (λ (b : Bool). holds a k && b) (place_behind (hold a k).clock (hold a k).phase h) ∙ swap_and (holds a k) held _)
        ∙ some_shared 8 held test
        ∙ ap (λ (b : Bool). held && b) (sym (tells h.clock (place_of h)))

-- THE OWN PLACES

-- The own name k keeps someone at the place on clock c.
abbrev keeps_by : Activity → ℕ → ℕ → ℕ → Bool
keeps_by a c place k = holds a k && (eqb c (hold a k).clock && ltb place (quiesced_place (hold a k).phase))

-- The first n names are entered.
pub record OwnTo (b : List ℕ) (i : ℕ) (own : List ℕ) (n : ℕ) : Type 0 where
  pub sized : length own ≡ 16
  pub within8 : n ≤ 8
  pub tells : (s : State) → Lent b s → i < 64 → Clocked (act s i) → (c place : ℕ) → ltb place (get_or own c 0) ≡ some_below n (keeps_by (act s i) c place)

zeros : (c : ℕ) → ◌≡◌ {A = ℕ} (get_or (replicate 16 0) c 0) 0
zeros c = go (dec_lt c 16)
  where
    go : Dec (c < 16) → ◌≡◌ {A = ℕ} (get_or (replicate 16 0) c 0) 0
    go (yes h) = get_or-replicate 16 c 0 0 h
    go (no h) = get_or-eq_default (replicate 16 0) 0 {n = c} (omega arith)

module _ {b : List ℕ} {i : ℕ} where
  pub own_none : OwnTo b i (replicate 16 0) 0
  unfolding some_below
  own_none = record { sized = refl; within8 = omega arith; tells = λ s l j k c place. rw (zeros c) (le-ltb place 0 (omega arith)) }

  pub own_all : {own : List ℕ} {n : ℕ} → OwnTo b i own n → 8 ≤ n → OwnPlaces b i own
  unfolding keeps
  own_all {n = n} x h = let w = x.within8 in let e : n ≡ 8 = omega arith in record { tells = rw e at x.tells }

  module _ {own : List ℕ} {n : ℕ} (x : OwnTo b i own n) (low : n < 8) {h : Hold} (r : n < 8 → ReadsAct (λ (a : Activity). hold a n) b i h) where
    -- a free name
    pub own_free : is_held h.registration ≡ false → OwnTo b i own (n + 1)
    own_free e = record {
      sized = x.sized;
      within8 = omega arith;
      tells =
          λ s l j k c place.
          let f = keeps_by (act s i) c place in
          let z : f n ≡ false = rw (← (r low).reads s l j, e) in
          x.tells s l j k c place ∙ sym (some_more n f ∙ rw z);
    }

    module _ (held : is_held h.registration ≡ true) where
      -- of a clock that cannot be
      pub own_high : 16 ≤ h.clock → OwnTo b i own (n + 1)
      own_high g = record {
        sized = x.sized;
        within8 = omega arith;
        tells =
            λ s l j k c place.
            let q = (r low).reads s l j in
            let m = k.numbers n low (rw q at held) in
            let m' : h.clock < 16 = rw q m in
            absurd (let z : ⊥ = omega arith in z);
      }

      pub own_store : {v : ℕ} → h.clock < 16 → v ≡ quiesced_place h.phase → OwnTo b i (set own h.clock v) (n + 1)
      own_store {v} g e = record {
        sized = length-set own h.clock v ∙ x.sized;
        within8 = omega arith;
        tells = λ s l j k c place. go s l j k c place (eqb c h.clock) refl;
      }
        where
          go : (s : State) → Lent b s → i < 64 → Clocked (act s i) → (c place : ℕ) (t : Bool) → eqb c h.clock ≡ t
              → ltb place (get_or (set own h.clock v) c 0) ≡ some_below (n + 1) (keeps_by (act s i) c place)
          go s l j k c place true t =
              let a = act s i in
              let q : h ≡ hold a n = (r low).reads s l j in
              let u : c ≡ h.clock = eqb-true c h.clock t in
              let m = x.sized in
              let f = keeps_by a c place in
              let before : some_below n f ≡ false =
              some_below_all n f
              (λ y w p.
              let d = and_true (holds a y) _ p in
              let d' = and_true (eqb c (hold a y).clock) _ d.1 in
              k.distinct y n w low d.0 (rw q at held) (sym (eqb-true c (hold a y).clock d'.0) ∙ u ∙ ap (λ (o : Hold). o.clock) q))
              in
              let here : f n ≡ ltb place v = rw (← q, held, t, e) in
              let long : h.clock < length own = omega arith in
              rw u (ap (λ (z : ℕ). ltb place z) (get_or-set_same own h.clock v 0 long)) ∙ sym (some_more n f ∙ rw before (or-false (f n)) ∙ here)
          go s l j k c place false t =
              let a = act s i in
              let f = keeps_by a c place in
              let z : f n ≡ false = rw (← (r low).reads s l j, held, t) in
              ap (λ (y : ℕ). ltb place y) (get_or-set_other own h.clock c v 0 (λ y. eqb-false c h.clock t y))
              ∙ x.tells s l j k c place
              ∙ sym (some_more n f ∙ rw z)

-- A CLOCK NAME IN 8 BYTES

free_number : (r : Registration) → registration_number r ≡ 0 → is_held r ≡ false
free_number Free e = refl
free_number Live e = absurd (let z : ⊥ = omega arith in z)
free_number Quiesced e = absurd (let z : ⊥ = omega arith in z)

held_number : (r : Registration) → (registration_number r ≡ 0 → ⊥) → is_held r ≡ true
held_number Free n = absurd (n refl)
held_number Live n = refl
held_number Quiesced n = refl

module _ {b : List ℕ} (h : Hold) (q : b ≡ encode_hold h) where
  registration_in : get_or b 5 0 ≡ registration_number h.registration
  unfolding encode_hold bytes_of
  registration_in = ap (λ (l : List ℕ). get_or l 5 0) q

  clock_in : get_or b 4 0 ≡ h.clock
  unfolding encode_hold bytes_of
  clock_in = ap (λ (l : List ℕ). get_or l 4 0) q

  phase_in : h.phase < 2 ^ 16 → get_or b 0 0 + 256 * get_or b 1 0 ≡ h.phase
  unfolding encode_hold bytes_of
  phase_in w =
      let l = ap (λ (l : List ℕ). get_or l 0 0) q in
      let m = ap (λ (l : List ℕ). get_or l 1 0) q in
      omega arith

module _ {own b : List ℕ} {r : ℕ} (registration : r ≡ get_or b 5 0) where
  pub late_free : r ≡ 0 → Late own b false
  unfolding is_late
  late_free z = record { looks = λ h q w. rw (free_number h.registration (sym (registration_in h q) ∙ sym registration ∙ z)) }

  module _ {c : ℕ} (clock : c ≡ get_or b 4 0) (sixteen : length own ≡ 16) where
    -- of a clock that has no entry
    pub late_past : 16 ≤ c → Late own b false
    unfolding is_late
    late_past g = record {
      looks =
          λ h q w.
          let e = clock ∙ clock_in h q in
          let z : get_or own h.clock 0 ≡ 0 = get_or-eq_default own 0 {n = h.clock} (omega arith) in
          rw (z, le-ltb (place_of h) 0 (omega arith)) (sym (and-false (is_held h.registration)));
    }

    pub late_by : {x : ℕ} → (r ≡ 0 → ⊥) → x ≡ get_or b 0 0 + 256 * get_or b 1 0 → Late own b (ltb (2 * x + r) (get_or own c 0))
    unfolding is_late
    late_by {x} n e = record {
      looks =
          λ h q w.
          let held = held_number h.registration (λ z. n (registration ∙ registration_in h q ∙ z)) in
          let p : 2 * x + r ≡ place_of h = let u = phase_in h q w in let v = registration ∙ registration_in h q in omega arith in
          rw (held, ← clock ∙ clock_in h q, p);
    }

-- ONE ACTIVITY

whole_hold : (h : Hold) → part (encode_hold h) 0 8 ≡ encode_hold h
unfolding encode_hold bytes_of
whole_hold h = refl

-- The 8 bytes of its name k.
hold_in : {b : List ℕ} {s : State} → Lent b s → (x k at : ℕ) → x < 64 → k < 8 → at ≡ 480 + 208 * x + 8 * k → take (at + 8 - at) (drop at b) ≡ encode_hold (hold (act s x) k)
hold_in {b} {s} l x k at h g e =
    let w = mine l h in
    lent_part at 8 b
    ∙ own_part l h {at = at} (16 + (8 * k + 0)) 8 (omega arith) (omega arith)
    ∙ part_hold (act s x) w k 0 8 g (omega arith)
    ∙ whole_hold (hold (act s x) k)

-- None of its first k names is late.
pub record NoneLate (b own : List ℕ) (x k : ℕ) : Type 0 where
  pub within8 : k ≤ 8
  pub none : (s : State) → Lent b s → some_below k (λ n. is_late own (hold (act s x) n)) ≡ false

pub none_late : {b own : List ℕ} {x : ℕ} → NoneLate b own x 0
unfolding some_below
none_late = record { within8 = omega arith; none = λ s l. refl }

module _ {b own : List ℕ} {x k at : ℕ} (few : x < 64) (low : k < 8) (place : at ≡ 480 + 208 * x + 8 * k) {r : Bool} (one : Late own (take (at + 8 - at) (drop at b)) r) where
  looked : (s : State) → Lent b s → r ≡ is_late own (hold (act s x) k)
  looked s l = one.looks (hold (act s x) k) (hold_in l x k at few low place) ((mine l few).phases k)

  pub none_more : NoneLate b own x k → r ≡ false → NoneLate b own x (k + 1)
  none_more m e = record { within8 = omega arith; none = λ s l. passed (λ n. is_late own (hold (act s x) n)) k (m.none s l) (looked s l) e }

  late_some : r ≡ true → (s : State) → Lent b s → some_below 8 (λ n. is_late own (hold (act s x) n)) ≡ true
  late_some e s l = sym (found (λ n. is_late own (hold (act s x) n)) k 8 low (looked s l) e)

-- THE COUNT

-- So many of the activities below x are behind.
pub record BehindTo (b : List ℕ) (i count x : ℕ) : Type 0 where
  pub few : count ≤ x
  pub counts : (s : State) → Lent b s → i < 64 → Clocked (act s i) → Gone s → count ≡ count_below x (behind_of s (act s i))

pub behind_yet : {b : List ℕ} {i : ℕ} → BehindTo b i 0 0
unfolding count_below
behind_yet = record { few = omega arith; counts = λ s l j k g. refl }

module _ {b : List ℕ} {i made : ℕ} (made_of : Reads (λ (s : State). s.activities) b made) {count x : ℕ} (p : BehindTo b i count x) where
  module _ {own : List ℕ} (places : OwnPlaces b i own) (below : x < made) where
    -- by the names of x
    by_names : (s : State) → Lent b s → i < 64 → Clocked (act s i) → some_below 8 (λ n. is_late own (hold (act s x) n)) ≡ behind_of s (act s i) x
    by_names s l j k = late_behind s (act s i) own (places.tells s l j k) x

    -- one that has ended holds nothing
    pub behind_ended : {u : Bool} → ReadsAct is_unended b x u → u ≡ false → BehindTo b i count (x + 1)
    unfolding is_late
    behind_ended reads e = record {
      few = let f = p.few in omega arith;
      counts =
          λ s l j k g.
          let q = made_of.reads s l in
          let f = g.few in
          let over = not-false (ended s x) (sym (reads.reads s l (omega arith)) ∙ e) in
          let free : (n : ℕ) → n < 8 → holds (act s x) n ≡ false = λ n w. g.free x n (omega arith) over w in
          let z : some_below 8 (λ n. is_late own (hold (act s x) n)) ≡ false =
          some_below_all 8 (λ n. is_late own (hold (act s x) n)) (λ n w t. true_false (holds (act s x) n) (and_true (holds (act s x) n) _ t).0 (free n w))
          in
          uncounted (behind_of s (act s i)) x count false (p.counts s l j k g) (sym z ∙ by_names s l j k) refl;
    }

    -- none of its names is late
    pub behind_none : {y k next : ℕ} → y ≡ x → NoneLate b own y k → 8 ≤ k → next ≡ count → BehindTo b i next (x + 1)
    behind_none {y} {k = n} {next} e m h c = record {
      few = let f = p.few in omega arith;
      counts =
          λ s l j k g.
          let z : some_below n (λ n. is_late own (hold (act s x) n)) ≡ false = rw e at (m.none s l) in
          c
          ∙ uncounted (behind_of s (act s i)) x count false (p.counts s l j k g) (none (λ n. is_late own (hold (act s x) n)) n 8 m.within8 h z ∙ by_names s l j k) refl;
    }

    -- one is
    pub behind_late : {k at : ℕ} → x < 64 → k < 8 → at ≡ 480 + 208 * x + 8 * k → {r : Bool} → Late own (take (at + 8 - at) (drop at b)) r → r ≡ true → {next : ℕ} → next ≡ count
        → BehindTo b i (next + 1) (x + 1)
    behind_late f w a one e {next} c = record {
      few = let f = p.few in omega arith;
      counts =
          λ s l j k g.
          ap (λ (n : ℕ). n + 1) c
          ∙ counted (behind_of s (act s i)) x count true (p.counts s l j k g) (sym (late_some f w a one e s l) ∙ by_names s l j k) refl;
    }
