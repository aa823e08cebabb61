-- Arrays keep their sizes over a step.
use Prim.Native.Nat.{ℕ, suc, ◌<◌, ◌≤◌}
use native.Mathlib.Omega.{arith}
use mathlib.Core.List.{List, [], ◌∷◌}
use mathlib.Core.Bool.{Bool, true, false, cond}
use mathlib.Core.Path.{◌≡◌, refl, sym, ap, ◌∙◌, subst}
use lib.ListN.{length, get_or, set, length-set, length-map}
use lib.Dec.{ltb, leb}
use Rattle.program.specs.declared.command.Command.{Command}
use Rattle.program.specs.Bodies.{Program}
use Rattle.rules.specs.declared.state.Status.{Status}
use Rattle.rules.specs.declared.state.Status.TheVariants.{Ended}
use Rattle.rules.specs.declared.state.Hold.{Hold}
use Rattle.rules.specs.declared.state.Activity.{Activity}
use Rattle.rules.specs.declared.state.State.{State}
use Rattle.rules.specs.State.{act, absent, top, is_at_barrier}
use Rattle.rules.specs.Clocks.{pass, quiesce}
use Rattle.rules.specs.Faults.{Env}
use Rattle.rules.specs.Effects.{Spawned, nobody, one, spawned_count, with_spawned, Effect, applied, env_of, child, Write, with_written, keep, make, offer, reset, pushed, stopped, lent, past, end_of, again, popped, next_of}
use Rattle.rules.specs.Steps.{at, effect}
use Rattle.rules.proofs.Lists.{old, new, stored, Stored}
use Rattle.rules.proofs.Sized.{Sized, SizedActivity}
use Rattle.rules.proofs.Shapes.{OfChild, born, length_stores, Alike, Reheld, kept, replaced, Kind, ends, meets, forks, opens, enters, moves, kind}
use Rattle.rules.proofs.Applied.{Bounded, Fits}
use Rattle.rules.proofs.Turn.{by_fault}

-- A STATE

-- The arrays of all activities, spawned or not.
sized_after : (s : State) → Sized s → (i : ℕ) (e : Effect) → SizedActivity e.self → OfChild SizedActivity e.spawned → (x : ℕ) → x < 64
    → SizedActivity (act (applied s i e) x)
unfolding applied OfChild
sized_after s z i e q r x l = go e.spawned r
  where
    here : SizedActivity (get_or (set s.acts i e.self) x absent)
    here = pick (stored s.acts i e.self x absent)
      where
        pick : Stored s.acts i e.self x absent → SizedActivity (get_or (set s.acts i e.self) x absent)
        pick (new n v) = subst SizedActivity (sym v) q
        pick (old v) = subst SizedActivity (sym v) (z.each x l)

    go : (ch : Spawned) → OfChild SizedActivity ch → SizedActivity (get_or (with_spawned s.activities (set s.acts i e.self) ch) x absent)
    go nobody b = here
    go (one c) b = pick (stored (set s.acts i e.self) s.activities c x absent)
      where
        pick : Stored (set s.acts i e.self) s.activities c x absent → SizedActivity (get_or (set (set s.acts i e.self) s.activities c) x absent)
        pick (new n v) = subst SizedActivity (sym v) b
        pick (old v) = subst SizedActivity (sym v) here

-- Writes keep the number of accumulators.
length_written : (s : State) (w : Write) → length (with_written s w) ≡ length s.accs
length_written s keep = refl
length_written s (make c) = simp length-set
length_written s (offer x v) = simp length-set
length_written s (reset x v) = simp length-set

-- A step keeps the sizes.
pub sized_applied : (s : State) → Sized s → (i : ℕ) (e : Effect) → SizedActivity e.self → OfChild SizedActivity e.spawned → Sized (applied s i e)
unfolding applied
sized_applied s z i e q r =
    record {
      acts64 = acts e.spawned;
      accs16 = length_written s e.write ∙ z.accs16;
      cells16 = length_stores s.cells e.stores ∙ z.cells16;
      each = sized_after s z i e q r;
    }
  where
    acts : (ch : Spawned) → length (with_spawned s.activities (set s.acts i e.self) ch) ≡ 64
    acts nobody = length-set s.acts i e.self ∙ z.acts64
    acts (one c) = length-set (set s.acts i e.self) s.activities c ∙ length-set s.acts i e.self ∙ z.acts64

-- And the count stays within the room.
pub bounded_applied : (s : State) → Bounded s → (i : ℕ) (e : Effect) → Fits s e.spawned → SizedActivity e.self → OfChild SizedActivity e.spawned
    → Bounded (applied s i e)
unfolding applied Fits
bounded_applied s z i e f q r = record { sized = sized_applied s z.sized i e q r; count = few e.spawned f }
  where
    few : (ch : Spawned) → Fits s ch → spawned_count s.activities ch ≤ 64
    few nobody f = z.count
    few (one c) f = omega arith

-- THE SIZES OF AN ACTIVITY AFTER A COMMAND, AND OF THE ONE IT SPAWNS

-- A body begun changes a frame.
size_pushed : (a : Activity) (b n f : ℕ) → SizedActivity a → SizedActivity (pushed a b n f)
unfolding pushed
size_pushed a b n f z = record { frames16 = simp length-set z.frames16; holds8 = z.holds8; names8 = z.names8 }

-- What has ended has empty arrays of the same sizes.
pub size_stopped : (a : Activity) (status : Status) → SizedActivity a → SizedActivity (stopped a status)
size_stopped a status z = record { frames16 = refl; holds8 = refl; names8 = z.names8 }

-- A change of register, names and holds.
size_alike : {made : ℕ} {clocked : Bool} {a b : Activity} → Alike made clocked a b → SizedActivity a → SizedActivity b
size_alike {made} {clocked} {a} {b} k z = record { frames16 = rw k.frames z.frames16; holds8 = go k.holds; names8 = k.names ∙ z.names8 }
  where
    go : Reheld made clocked a.holds b.holds → length b.holds ≡ 8
    go (kept q) = rw q z.holds8
    go (replaced n h r q) = rw q (simp length-set z.holds8)

-- A child has as many names as its spawner.
pub length_lent : (m j : ℕ) (l : List Hold) → length (lent m j l) ≡ length l
unfolding lent
length_lent m j [] = refl
length_lent m j (x ∷ l) = ap suc (length_lent m (suc j) l)

-- The one spawned.
pub size_child : (i : ℕ) (a : Activity) (b m : ℕ) → SizedActivity a → SizedActivity (child i a b m)
unfolding child
size_child i a b m z = record { frames16 = refl; holds8 = length_lent m 0 a.holds ∙ z.holds8; names8 = z.names8 }

module _ (p : Program) where
  -- Going on after a command changes a frame.
  size_past : (a : Activity) → SizedActivity a → SizedActivity (past p a)
  unfolding past
  size_past a z = record { frames16 = simp length-set z.frames16; holds8 = z.holds8; names8 = z.names8 }

  -- Each outcome of END.
  size_end : (a : Activity) → SizedActivity a → SizedActivity (end_of p a)
  unfolding end_of again popped past
  size_end a z = go (leb a.depth 1) (ltb 1 (top a).runs)
    where
      go : (x y : Bool) → SizedActivity (cond x (stopped a Ended) (cond y (again a) (popped p a)))
      go true y = size_stopped a Ended z
      go false true = record { frames16 = simp length-set z.frames16; holds8 = z.holds8; names8 = z.names8 }
      go false false = record { frames16 = simp length-set z.frames16; holds8 = z.holds8; names8 = z.names8 }

  -- Both steps of NEXT.
  size_next : (a : Activity) (b : Bool) → SizedActivity a → SizedActivity (next_of p a b)
  unfolding next_of past
  size_next a true z = record { frames16 = simp length-set z.frames16; holds8 = length-map a.holds pass ∙ z.holds8; names8 = z.names8 }
  size_next a false z = record { frames16 = z.frames16; holds8 = length-map a.holds quiesce ∙ z.holds8; names8 = z.names8 }

  module _ {e : Env} {i : ℕ} {a : Activity} {c : Command} {x : Effect} (z : SizedActivity a) where
    -- By the kind of the command: the activity itself.
    pub size_self : Kind p e i a c x → SizedActivity x.self
    size_self (ends q s n) = rw s (size_end a z)
    size_self (meets q s n) = rw s (size_next a (is_at_barrier a.status) z)
    size_self (forks b m q s n) = rw s (size_past a z)
    size_self (opens b q s n) = rw s (size_pushed a b 0 e.first z)
    size_self (enters k b q s n) = rw s (size_pushed a b k 0 z)
    size_self (moves b g h t k s n) = rw s (size_past b (size_alike k z))

    -- And the one it spawns.
    pub size_born : Kind p e i a c x → OfChild SizedActivity x.spawned
    size_born k = born SizedActivity (λ b m q. size_child i a b m z) k

-- THE STEP

-- An accepted step, a faulting one too, keeps all sizes.
pub step_sized : (p : Program) (s : State) → Sized s → (i : ℕ) → i < 64 → Sized (applied s i (effect p s i))
unfolding OfChild
step_sized p s z i h =
    let own = z.each i h in
    let k = kind p (env_of s) i (act s i) (at p s i).command (at p s i).inner in
    by_fault p s i (λ x. Sized (applied s i x)) (λ f. sized_applied s z i _ (size_self p own k) (size_born p own k)) (λ f. sized_applied s z i _ (size_stopped (act s i) _ own) tt)
