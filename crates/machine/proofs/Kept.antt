-- The state after a step, put together from the one before it and from what the bytes of the step tell: all other entries are kept.
use Prim.Native.Nat.{ℕ, min, ◌+◌, ◌-◌, ◌*◌, ◌≤◌, ◌<◌}
use native.Mathlib.Omega.{arith}
use mathlib.Core.Path.{◌≡◌, refl, sym, ◌∙◌}
use mathlib.Core.List.{List}
use mathlib.Core.Bool.{Bool, true, false}
use lib.Dec.{ltb}
use lib.ListN.{length, get_or, take, drop, set, length-drop, length-set}
use lib.Seq.{take_all, drop-drop, set_out, get_or-set_same, get_or-set_other, set-get_or, set-set}
use borrow.Author.Tests.{ltb-true, ltb-false}
use Rattle.rules.specs.declared.state.Activity.{Activity}
use Rattle.rules.specs.declared.state.Accumulator.{Accumulator}
use Rattle.rules.specs.declared.state.State.{State}
use Rattle.rules.specs.State.{absent, act}
use Rattle.rules.specs.Effects.{Spawned, nobody, one, Effect, with_spawned, applied}
use Rattle.encoding.specs.Bytes.{number_of, part, byte_at, parts_at}
use Rattle.encoding.specs.Decode.{activity_at, accumulator_at, activity_encodes, fields_encode, state_of}
use Rattle.encoding.proofs.FieldLaws.{sized}
use Rattle.encoding.proofs.PartLaws.{parts_at_at, parts_pass_at}
use Rattle.encoding.proofs.Passed.{state_passes}

-- THE STATE

-- The entry of a number; of a number past the last entry, the last.
abbrev pub entry : ℕ → ℕ
entry n = min n 63

-- The entry of the activity, that of one more than there were, and what is no activity are those of t; the other activities are those of s.
unfoldable pub after : State → State → ℕ → State
after s t i =
    record {
      cells = t.cells;
      acts = set (set s.acts (entry i) (act t (entry i))) (entry s.activities) (act t (entry s.activities));
      accs = t.accs;
      steps = t.steps;
      activities = t.activities;
      clocks = t.clocks;
      accumulators = t.accumulators;
    }

-- THE BYTES

-- Those of a state: the 208 of an entry.
module _ (b : List ℕ) (n : length b ≡ 13776) (e : fields_encode b ≡ true) (i : ℕ) (h : i < 64) where
  abbrev mine : List ℕ
  mine = take (464 + 208 * i + 208 - (464 + 208 * i)) (drop (464 + 208 * i) b)

  off : 464 + 208 * i + 208 - (464 + 208 * i) ≡ 208
  off = omega arith

  stand : mine ≡ part (part b 464 13312) (208 * i) 208
  stand =
      let all : take 13312 (drop 464 b) ≡ drop 464 b = take_all 13312 (drop 464 b) (rw length-drop (omega arith)) in
      rw (off, all, drop-drop)

  pub entry_long : length mine ≡ 208
  entry_long = sized b (464 + 208 * i) 208 (464 + 208 * i + 208 - (464 + 208 * i)) off (omega arith)

  pub entry_encodes : activity_encodes mine ≡ true
  entry_encodes = rw stand (parts_pass_at 208 64 i activity_encodes (part b 464 13312) (state_passes b e).acts h)

  pub entry_is : activity_at mine ≡ act (state_of b) i
  unfolding state_of
  entry_is = rw stand (sym (parts_at_at 208 64 i activity_at (part b 464 13312) absent h))

-- THE ENTRIES

within : (n : ℕ) → n < 64 → entry n ≡ n
within n h = omega arith

-- The activity's own entry is as the effect says.
own_entry : (l : List Activity) (i n : ℕ) (a : Activity) (x : Spawned) → i < length l → i < n → get_or (with_spawned n (set l i a) x) i absent ≡ a
own_entry l i n a nobody h k = get_or-set_same l i a absent h
own_entry l i n a (one c) h k = get_or-set_other (set l i a) n i c absent (λ q. omega arith) ∙ get_or-set_same l i a absent h

-- Stored again, the entry behind those there were is what it is.
again : (l : List Activity) (n : ℕ) (x : Spawned) → set l n (get_or (with_spawned n l x) n absent) ≡ with_spawned n l x
again l n nobody = set-get_or l n absent
again l n (one c) = sym (set-set l n c (get_or (set l n c) n absent)) ∙ set-get_or (set l n c) n absent

-- Where none is free, nobody is spawned.
full : (l : List Activity) (n : ℕ) (x : Spawned) → length l ≤ n → with_spawned n l x ≡ l
full l n nobody h = refl
full l n (one c) h = set_out l n c h

-- So is the next free one, or the last.
free_entry : (l : List Activity) (n : ℕ) (x : Spawned) → length l ≡ 64 → set l (entry n) (get_or (with_spawned n l x) (entry n) absent) ≡ with_spawned n l x
free_entry l n x h = go (ltb n 64) refl
  where
    go : (b : Bool) → ltb n 64 ≡ b → set l (entry n) (get_or (with_spawned n l x) (entry n) absent) ≡ with_spawned n l x
    go true e = rw (within n (ltb-true n 64 e)) (again l n x)
    go false e =
        let k : length l ≤ n = rw h (ltb-false n 64 e) in
        let last : entry n ≡ 63 = omega (arith, k) in
        rw (last, full l n x k) (set-get_or l 63 absent)

module _ (s : State) (i : ℕ) (e : Effect) (n : length s.acts ≡ 64) (h : i < s.activities) (m : s.activities ≤ 64) where
  pub own_after : act (applied s i e) i ≡ e.self
  unfolding applied
  own_after = own_entry s.acts i s.activities e.self e.spawned (omega arith) h

  -- The state after an effect, put together, is that state,
  pub together : after s (applied s i e) i ≡ applied s i e
  unfolding after applied
  together =
      let k : entry i ≡ i = within i (omega arith) in
      rw (k, own_entry s.acts i s.activities e.self e.spawned (omega arith) h, free_entry (set s.acts i e.self) s.activities e.spawned (length-set s.acts i e.self ∙ n))

-- and a state put together from itself is that state too.
pub same : (s : State) (i : ℕ) → after s s i ≡ s
unfolding after
same s i = rw (set-get_or s.acts (entry i) absent, set-get_or s.acts (entry s.activities) absent)

-- FIELD BY FIELD

pub made : (s : State) (b : List ℕ) (i : ℕ) {n k m : ℕ} {cells : List ℕ} {accs : List Accumulator} {a x : Activity}
    → k ≡ entry i → m ≡ entry s.activities → a ≡ act (state_of b) k → x ≡ act (state_of b) m
    → cells ≡ parts_at 4 16 number_of (part b 16 64) → accs ≡ parts_at 24 16 accumulator_at (part b 80 384) → n ≡ number_of (part b 4 4)
    → record { cells = cells; acts = set (set s.acts k a) m x; accs = accs; steps = n; activities = byte_at b 1; clocks = byte_at b 2; accumulators = byte_at b 3 } ≡ after s (state_of b) i
unfolding after state_of
made s b i p q o f g h e = rw (o, f, g, h, e, p, q)
