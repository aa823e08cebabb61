-- Laws of bytes with one field after the other.
use Prim.Native.Nat.{ℕ, suc, ◌+◌, ◌≤◌, ◌<◌}
use native.Mathlib.Omega.{arith}
use mathlib.Core.List.{List, [], ◌∷◌, ◌++◌}
use mathlib.Core.Bool.{true}
use mathlib.Core.Path.{◌≡◌, refl, sym, ap, ◌∙◌}
use lib.ListN.{length, replicate, take, drop, set, length-append, length-drop, length-set}
use lib.Seq.{take_at, take-suc, take-suc-set, take_all, take-add, length-take-le, take-append-add}
use borrow.Rule.Slice.PartMut.{put_mid}
use Rattle.encoding.specs.Bytes.{bytes_of, number_of, part, byte_at, all_zero}
use Rattle.program.proofs.Basic.{Bytes, bytes_take, bytes_drop}
use Rattle.encoding.proofs.NumberLaws.{bytes_of_number, zeros}

-- a part within the bytes is as long as asked for
pub sized : (b : List ℕ) (at k m : ℕ) → m ≡ k → at + k ≤ length b → length (take m (drop at b)) ≡ k
sized b at k m e h = rw e (length-take-le k (drop at b) (rw length-drop (omega arith)))

-- WRITING

-- n bytes, of which the first so many are written
pub record Upto (l : List ℕ) (n at : ℕ) (p : List ℕ) : Type 0 where
  pub full : length l ≡ n
  pub done : take at l ≡ p

-- none is written
pub none_yet : (l : List ℕ) (n : ℕ) → length l ≡ n → Upto l n 0 []
none_yet l n h = record { full = h; done = refl }

-- a byte is stored behind them
pub store : {l p : List ℕ} {n at : ℕ} (v : ℕ) → Upto l n at p → at < n → Upto (set l at v) n (suc at) (p ++ (v ∷ []))
store {l} {p} {n} {at} v u h = record { full = length-set l at v ∙ u.full; done = rw (take-suc-set l at v (rw u.full h), u.done) }

-- the same, where the byte is known by an equation
pub store_as : {l p : List ℕ} {n at : ℕ} (v w : ℕ) → v ≡ w → Upto l n at p → at < n → Upto (set l at v) n (suc at) (p ++ (w ∷ []))
store_as {l} {p} {n} {at} v w e u h = let s = store v u h in record { full = s.full; done = s.done ∙ rw e }

-- a part is written behind them
pub put : {l p : List ℕ} {n at : ℕ} (k m : ℕ) (e x : List ℕ) → Upto l n at p → at + k ≤ n → m ≡ k → length e ≡ length (take m (drop at l)) → e ≡ x → Upto (put_mid at m l e) n (at + k) (p ++ x)
put {l} {p} {n} {at} k m e x u h j w v =
    let f : length l ≡ n = u.full in
    let o : length e ≡ k = w ∙ sized l at k m j (omega arith) in
    let q : length (take at l) ≡ at = length-take-le at l (omega arith) in
    record {
      full = simp (length-append, length-drop, q, o) (omega arith);
      done =
          ap (λ (i : ℕ). take (i + k) (put_mid at m l e)) (sym q)
          ∙ take-append-add (take at l) (e ++ drop m (drop at l)) k
          ∙ rw (take_at e (drop m (drop at l)) k o, u.done, v);
    }

-- the same, where the part is as long as it says
pub put_as : {l p : List ℕ} {n at : ℕ} (k : ℕ) (e x : List ℕ) → Upto l n at p → at + k ≤ n → length e ≡ length (part l at k) → e ≡ x → Upto (put_mid at k l e) n (at + k) (p ++ x)
put_as k e x u h w v = put k k e x u h refl w v

-- the same, where what is written goes by the part's length
pub put_of : {l p : List ℕ} {n at : ℕ} (k : ℕ) (g : ℕ → List ℕ) (e : List ℕ) → Upto l n at p → at + k ≤ n → length e ≡ length (part l at k) → e ≡ g (length (part l at k)) → Upto (put_mid at k l e) n (at + k) (p ++ g k)
put_of {l} {p} {n} {at} k g e u h w v =
    let f : length l ≡ n = u.full in
    put k k e (g k) u h refl w (v ∙ ap g (sized l at k k refl (omega arith)))

-- all are written
pub all : {l p : List ℕ} {n : ℕ} → Upto l n n p → l ≡ p
all {l} {p} {n} u = sym (take_all n l (rw u.full (omega arith))) ∙ u.done

-- READING

-- of the first so many bytes it is known what they are; and of the next one
pub byte : {b p : List ℕ} {n at : ℕ} (v : ℕ) → Upto b n at p → at < n → byte_at b at ≡ v → Upto b n (suc at) (p ++ (v ∷ []))
byte {b} {p} {n} {at} v u h e = record { full = u.full; done = rw (take-suc b at 0 (rw u.full h), u.done, e) }

-- and of the next part
pub field : {b p : List ℕ} {n at : ℕ} (k : ℕ) (x : List ℕ) → Upto b n at p → part b at k ≡ x → Upto b n (at + k) (p ++ x)
field {b} {p} {n} {at} k x u e = record { full = u.full; done = rw (take-add, u.done, e) }

-- a part of bytes is bytes
pub part_bytes : (b : List ℕ) (at k : ℕ) → Bytes b → Bytes (part b at k)
part_bytes b at k h = bytes_take k (drop at b) (bytes_drop at b h)

-- a part of bytes is the bytes of its number
pub number_part : (b : List ℕ) (at k : ℕ) → Bytes b → at + k ≤ length b → part b at k ≡ bytes_of k (number_of (part b at k))
number_part b at k y h =
    sym (bytes_of_number (part b at k) (part_bytes b at k y)) ∙ ap (λ (m : ℕ). bytes_of m (number_of (part b at k))) (sized b at k k refl h)

-- reserved bytes that pass are zeros
pub zero_part : (b : List ℕ) (at k : ℕ) → all_zero (part b at k) ≡ true → at + k ≤ length b → part b at k ≡ replicate k 0
zero_part b at k e h = sym (zeros (part b at k) e) ∙ ap (λ (m : ℕ). replicate m 0) (sized b at k k refl h)
