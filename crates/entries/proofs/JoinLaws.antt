-- Parts that encode entries and are as they should be: tested in one pass.
use Prim.Native.Nat.{ℕ, zero, suc, ◌+◌, ◌-◌, ◌*◌, ◌≤◌, ◌<◌, suc-le-suc}
use native.Mathlib.Omega.{arith}
use native.Mathlib.Nat.{mul-suc, mul-zero, mul-add, add_comm}
use mathlib.Core.List.{List}
use mathlib.Core.Bool.{Bool, true, false, cond, ◌&&◌}
use mathlib.Core.Path.{◌≡◌, refl, sym, ap, ◌∙◌}
use mathlib.Core.Logic.{◌⊎◌, inl, inr}
use lib.ListN.{length, get_or, take, drop, length-drop}
use lib.Seq.{drop-drop}
use lib.Dec.{ltb}
use borrow.Author.Tests.{ltb-true, ltb-false, lt-ltb, le-ltb}
use Rattle.rules.specs.Search.{all_below}
use Rattle.rules.proofs.Tests.{and_true, and_intro, decide}
use Rattle.rules.proofs.Search.{all_below_at, all_below_intro, both}
use Rattle.encoding.specs.Bytes.{part, all_zero, parts_at, parts_pass}
use Rattle.encoding.proofs.FieldLaws.{sized}
use Rattle.encoding.proofs.PartLaws.{parts_at_at, parts_pass_at, turn_fits}
use Rattle.entries.proofs.ZeroLaws.{Unused, zero_take, zero_drop, zero_parts}

-- what passes at each part passes whole
parts_pass_intro : (k n : ℕ) (p : List ℕ → Bool) (b : List ℕ) → ((i : ℕ) → i < n → p (part b (k * i) k) ≡ true) → parts_pass k n p b ≡ true
unfolding parts_pass
parts_pass_intro k zero p b h = refl
parts_pass_intro k (suc n) p b h =
    let first : p (take k b) ≡ true = rw mul-zero at (h 0 (omega arith)) in
    and_intro (p (take k b)) _ first (parts_pass_intro k n p (drop k b) (λ i j. rw (drop-drop, add_comm k (k * i), ← mul-suc) (h (suc i) (suc-le-suc j))))

-- the part m + i, from part m on
part_on : (k m i : ℕ) (b : List ℕ) → part (drop (k * m) b) (k * i) k ≡ part b (k * (m + i)) k
part_on k m i b = rw (drop-drop, ← mul-add)

-- EVERY ENTRY TESTED

-- with the test of its bytes
pub tested : (k n : ℕ) (p : List ℕ → Bool) (g : ℕ → Bool) (b : List ℕ) → all_below n (λ i. p (part b (k * i) k) && g i) ≡ parts_pass k n p b && all_below n g
tested k n p g b =
    both (all_below n (λ i. p (part b (k * i) k) && g i)) (parts_pass k n p b && all_below n g)
    (λ e.
    let at : (i : ℕ) → i < n → (p (part b (k * i) k) ≡ true) × (g i ≡ true) = λ i j. and_true (p (part b (k * i) k)) (g i) (all_below_at n (λ x. p (part b (k * x) k) && g x) e i j) in
    and_intro (parts_pass k n p b) _ (parts_pass_intro k n p b (λ i j. (at i j).0)) (all_below_intro n g (λ i j. (at i j).1)))
    (λ e.
    let h = and_true (parts_pass k n p b) (all_below n g) e in
    all_below_intro n (λ i. p (part b (k * i) k) && g i) (λ i j. and_intro (p (part b (k * i) k)) (g i) (parts_pass_at k n i p b h.0 j) (all_below_at n g h.1 i j)))

-- THE FIRST m IN USE, THE OTHERS ALL 0

module _ {A : Type 0} {k : ℕ} {p : List ℕ → Bool} {f : List ℕ → A} {isNo : A → Bool} (u : Unused k p f isNo) (n m : ℕ) (d : A) (b : List ℕ) (used : ℕ → Bool) (few : m ≤ n)
    (l : length b ≡ k * n) where
  -- an entry, in use or not
  abbrev entry : ℕ → Bool
  entry i = cond (ltb i m) (used i) (isNo (get_or (parts_at k n f b) i d))

  -- one in use, with the test of its bytes
  abbrev first : ℕ → Bool
  first i = p (part b (k * i) k) && used i

  -- each has all its bytes
  whole_part : (i : ℕ) → i < n → length (part b (k * i) k) ≡ k
  whole_part i j = sized b (k * i) k k refl (rw l (turn_fits k j))

  -- an entry below m
  in_use : (i : ℕ) → i < m → entry i ≡ used i
  in_use i j = rw (lt-ltb i m j)

  -- an entry from m on
  not_in_use : (i : ℕ) → m ≤ i → i < n → entry i ≡ isNo (f (part b (k * i) k))
  not_in_use i j h = rw (le-ltb i m j, parts_at_at k n i f b d h)

  -- where all entries are as they should be, the bytes from entry m on are 0
  there : parts_pass k n p b && all_below n entry ≡ true → all_below m first && all_zero (drop (k * m) b) ≡ true
  there e =
      let h = and_true (parts_pass k n p b) (all_below n entry) e in
      let pass : (i : ℕ) → i < n → p (part b (k * i) k) ≡ true = λ i j. parts_pass_at k n i p b h.0 j in
      let each : (i : ℕ) → i < n → entry i ≡ true = λ i j. all_below_at n entry h.1 i j in
      and_intro (all_below m first) _
      (all_below_intro m first (λ i j. and_intro (p (part b (k * i) k)) (used i) (pass i (omega arith)) (sym (in_use i j) ∙ each i (omega arith))))
      (zero_parts k (n - m) (drop (k * m) b) sizes
      (λ i j.
      let at : m + i < n = omega arith in
      rw (part_on k m i b) (u.is (part b (k * (m + i)) k) (whole_part (m + i) at) ∙ and_intro (p (part b (k * (m + i)) k)) _ (pass (m + i) at) (sym (not_in_use (m + i) (omega arith) at) ∙ each (m + i) at))))
    where
      sizes : length (drop (k * m) b) ≡ k * (n - m)
      sizes =
          let q : m + (n - m) ≡ n = omega arith in
          let s : k * n ≡ k * m + k * (n - m) = ap (λ x. k * x) (sym q) ∙ mul-add k m (n - m) in
          rw (length-drop, l, s) (omega arith)

  -- and where those bytes are 0, each entry from m on is one not in use
  back : all_below m first && all_zero (drop (k * m) b) ≡ true → parts_pass k n p b && all_below n entry ≡ true
  back e =
      let h = and_true (all_below m first) (all_zero (drop (k * m) b)) e in
      let all : (i : ℕ) → i < n → (p (part b (k * i) k) ≡ true) × (entry i ≡ true) = λ i j. go i j (decide (ltb i m)) h.0 h.1 in
      and_intro (parts_pass k n p b) _ (parts_pass_intro k n p b (λ i j. (all i j).0)) (all_below_intro n entry (λ i j. (all i j).1))
    where
      go : (i : ℕ) → i < n → (ltb i m ≡ true) ⊎ (ltb i m ≡ false) → all_below m first ≡ true → all_zero (drop (k * m) b) ≡ true → (p (part b (k * i) k) ≡ true) × (entry i ≡ true)
      go i j (inl t) x z =
          let q = and_true (p (part b (k * i) k)) (used i) (all_below_at m first x i (ltb-true i m t)) in
          (q.0, in_use i (ltb-true i m t) ∙ q.1)
      go i j (inr t) x z =
          let g = ltb-false i m t in
          let w : m + (i - m) ≡ i = omega arith in
          let o : part (drop (k * m) b) (k * (i - m)) k ≡ part b (k * i) k = part_on k m (i - m) b ∙ ap (λ y. part b (k * y) k) w in
          let c : all_zero (part b (k * i) k) ≡ true = rw o at (zero_take k (drop (k * (i - m)) (drop (k * m) b)) (zero_drop (k * (i - m)) (drop (k * m) b) z)) in
          let q = and_true (p (part b (k * i) k)) (isNo (f (part b (k * i) k))) (sym (u.is (part b (k * i) k) (whole_part i j)) ∙ c) in
          (q.0, not_in_use i g j ∙ q.1)

  -- one pass over the first m and the bytes behind them decides of all
  pub joined : all_below m first && all_zero (drop (k * m) b) ≡ parts_pass k n p b && all_below n entry
  joined = both (all_below m first && all_zero (drop (k * m) b)) (parts_pass k n p b && all_below n entry) back there

-- tests that agree below n
all_below_same : (n : ℕ) (f g : ℕ → Bool) → ((i : ℕ) → i < n → f i ≡ g i) → all_below n f ≡ all_below n g
unfolding all_below
all_below_same zero f g h = refl
all_below_same (suc n) f g h = rw (h n (omega arith), all_below_same n f g (λ i j. h i (omega arith)))

-- the same, where the entries in use are tested as they are read
pub joined_at : {A : Type 0} {k : ℕ} {p : List ℕ → Bool} {f : List ℕ → A} {isNo : A → Bool} → Unused k p f isNo → (n m : ℕ) (d : A) (b : List ℕ) (g : ℕ → A → Bool)
    → m ≤ n → length b ≡ k * n
    → all_below m (λ i. p (part b (k * i) k) && g i (f (part b (k * i) k))) && all_zero (drop (k * m) b)
    ≡ parts_pass k n p b && all_below n (λ i. cond (ltb i m) (g i (get_or (parts_at k n f b) i d)) (isNo (get_or (parts_at k n f b) i d)))
joined_at {k = k} {p = p} {f = f} u n m d b g few l =
    ap (λ q. q && all_zero (drop (k * m) b))
    (all_below_same m (λ i. p (part b (k * i) k) && g i (f (part b (k * i) k))) (λ i. p (part b (k * i) k) && g i (get_or (parts_at k n f b) i d))
    (λ i j. ap (λ (x : _). p (part b (k * i) k) && g i x) (sym (parts_at_at k n i f b d (omega arith)))))
    ∙ joined u n m d b (λ i. g i (get_or (parts_at k n f b) i d)) few l
