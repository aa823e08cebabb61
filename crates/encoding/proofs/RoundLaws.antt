-- Laws of n parts of k bytes each, there and back.
use Prim.Native.Nat.{ℕ, zero, suc, ◌+◌, ◌*◌, ◌<◌}
use native.Mathlib.Omega.{arith}
use native.Mathlib.Nat.{suc-mul, zero-mul, add_comm}
use mathlib.Core.List.{List, [], ◌∷◌, ◌++◌}
use mathlib.Core.Bool.{Bool, true}
use mathlib.Core.Path.{◌≡◌, refl, sym, ◌∙◌}
use lib.ListN.{length, get_or, take, drop, take-append-drop, length-append, length-drop}
use lib.Seq.{take_at, drop_at, length-take-le}
use Rattle.rules.proofs.Tests.{and_true}
use Rattle.encoding.specs.Bytes.{encode_each, parts_at, parts_pass}
use Rattle.program.proofs.Basic.{Bytes, bytes_take, bytes_drop}

-- a value comes back from its k bytes, which pass
pub record Round {A : Type 0} (e : A → List ℕ) (f : List ℕ → A) (p : List ℕ → Bool) (k : ℕ) (x : A) : Type 0 where
  pub size : length (e x) ≡ k
  pub back : f (e x) ≡ x
  pub passes : p (e x) ≡ true

-- k bytes that pass come back from their value
pub record Back {A : Type 0} (e : A → List ℕ) (f : List ℕ → A) (p : List ℕ → Bool) (k : ℕ) : Type 0 where
  pub same : (b : List ℕ) → length b ≡ k → Bytes b → p b ≡ true → e (f b) ≡ b

-- a list comes back from the bytes of its entries
pub each_round : {A : Type 0} {e : A → List ℕ} {f : List ℕ → A} {p : List ℕ → Bool} {k : ℕ} (d : A) (l : List A)
    → ((i : ℕ) → i < length l → Round e f p k (get_or l i d))
    → Round (encode_each e) (parts_at k (length l) f) (parts_pass k (length l) p) (length l * k) l
unfolding encode_each parts_at parts_pass
each_round {k = k} d [] h = record { size = sym (zero-mul k); back = refl; passes = refl }
each_round {e = e} {f = f} {p = p} {k = k} d (x ∷ l) h =
    let r = h 0 (omega arith) in
    let s = each_round {e = e} {f = f} {p = p} {k = k} d l (λ i j. h (suc i) (omega arith)) in
    let t : take k (e x ++ encode_each e l) ≡ e x = take_at (e x) (encode_each e l) k r.size in
    let u : drop k (e x ++ encode_each e l) ≡ encode_each e l = drop_at (e x) (encode_each e l) k r.size in
    record {
      size = rw (length-append, suc-mul, r.size, s.size, add_comm (length l * k) k);
      back = rw (t, u, r.back, s.back);
      passes = rw (t, u, r.passes, s.passes);
    }

-- bytes come back from the entries of their parts
pub each_back : {A : Type 0} {e : A → List ℕ} {f : List ℕ → A} {p : List ℕ → Bool} {k : ℕ} (n : ℕ) → Back e f p k
    → Back (encode_each e) (parts_at k n f) (parts_pass k n p) (n * k)
unfolding encode_each parts_at parts_pass
each_back {e = e} {f = f} {p = p} {k = k} zero h = record { same = λ b l y t. none b (l ∙ zero-mul k) }
  where
    none : (b : List ℕ) → length b ≡ 0 → [] ≡ b
    none [] l = refl
    none (x ∷ b) l = absurd (omega arith)
each_back {e = e} {f = f} {p = p} {k = k} (suc n) h =
    record {
      same =
          λ b l y t.
          let q = and_true (p (take k b)) _ t in
          let l' : length b ≡ n * k + k = l ∙ suc-mul n k in
          let one : e (f (take k b)) ≡ take k b = h.same (take k b) (length-take-le k b (omega arith)) (bytes_take k b y) q.0 in
          let rest : encode_each e (parts_at k n f (drop k b)) ≡ drop k b =
          (each_back {e = e} {f = f} {p = p} {k = k} n h).same (drop k b) (rw length-drop (omega arith)) (bytes_drop k b y) q.1
          in
          rw (one, rest) (take-append-drop k b);
    }
