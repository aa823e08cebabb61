-- The shape of each command's effect: eighteen commands, six kinds. The proofs go by the kind, so that only this file has an arm for each command.
use Prim.Native.Nat.{ℕ, zero, suc, ◌+◌, ◌-◌, ◌*◌}
use native.Mathlib.Omega.{arith}
use mathlib.Core.List.{List, [], ◌∷◌}
use mathlib.Core.Bool.{Bool, true, false, cond}
use mathlib.Core.Path.{◌≡◌, refl, sym, ◌∙◌}
use lib.ListN.{length, get_or, set, length-set}
use lib.Dec.{eqb}
use Rattle.program.specs.declared.command.Command.{Command}
use Rattle.program.specs.declared.command.Command.TheVariants.{End, Next, Clock, Resume, Drop, Async, Finish, Repeat, Acc, Offer, Read, Reset, Put, Fetch, Store, Add, Atom, Choose}
use Rattle.rules.specs.declared.state.Registration.TheVariants.{Live}
use Rattle.rules.specs.declared.state.Hold.{Hold}
use Rattle.rules.specs.declared.state.Activity.{Activity}
use Rattle.program.specs.Command.{opcode, is_end, times}
use Rattle.program.specs.Bodies.{Program}
use Rattle.program.specs.Count.{own_activities, own_clocks, own_accumulators, own_work}
use Rattle.program.proofs.ShapeRows.{saying, times_is, work_is, activities_is, clocks_is, accumulators_is}
use Rattle.rules.specs.State.{no_hold, is_at_barrier}
use Rattle.rules.specs.Clocks.{quiesce}
use Rattle.rules.specs.Tree.{is_finish}
use Rattle.rules.specs.Faults.{Env, fault_for}
use Rattle.rules.specs.Runs.{skips}
use Rattle.rules.proofs.Tests.{true_false}
use Rattle.rules.proofs.Sums.{times_pred}
use Rattle.rules.specs.Effects.{Effect, end_of, nobody, next_of, past, one, child, pushed, with_holds, with_register, with_names, effect_of, repeat_of, choose_of, alone, spawned_count, clocked_count, written_count, Spawned, Write, keep, make, offer, reset, Stored, with_stores}

-- The command is NEXT.
unfoldable pub is_next : Command → Bool
is_next c = eqb (opcode c) 0x01

-- KINDS

-- One hold gets another value: DROP, RESUME, CLOCK. Only a step that makes a clock (`clocked`) registers its activity on the new one.
pub data Replaced (made : ℕ) (clocked : Bool) (h h' : Hold) : Type 0 where
  dropped : h' ≡ no_hold → Replaced made clocked h h'
  resumed : h' ≡ quiesce h → Replaced made clocked h h'
  created : clocked ≡ true → h' ≡ record { phase = 0; clock = made; registration = Live } → Replaced made clocked h h'

-- Holds before and after, where at most one gets another value.
pub data Reheld (made : ℕ) (clocked : Bool) (l l' : List Hold) : Type 0 where
  kept : l' ≡ l → Reheld made clocked l l'
  replaced : (n : ℕ) (h : Hold) → Replaced made clocked (get_or l n no_hold) h → l' ≡ set l n h → Reheld made clocked l l'

-- An activity that differs from another in its register, its names and its holds only.
pub record Alike (made : ℕ) (clocked : Bool) (a b : Activity) : Type 0 where
  pub frames : b.frames ≡ a.frames
  pub depth : b.depth ≡ a.depth
  pub status : b.status ≡ a.status
  pub spawner : b.spawner ≡ a.spawner
  pub names : length b.accumulators ≡ length a.accumulators
  pub holds : Reheld made clocked a.holds b.holds

-- Activity a at command c begins body b, with k runs left where c is a REPEAT, and c is no FINISH.
pub record Enters (a : Activity) (c : Command) (b k : ℕ) : Type 0 where
  pub goes : is_end c ≡ false
  pub quiet : is_next c ≡ false
  pub plain : is_finish c ≡ false
  pub some : (saying c).names ≡ true
  pub body : (saying c).named ≡ b
  pub often : (x : ℕ) → (saying c).times * x ≡ x + (k - 1) * x
  pub chosen : skips a c ≡ false

-- What the effect x of command c of activity i, which is a, does.
pub data Kind (p : Program) (e : Env) (i : ℕ) (a : Activity) (c : Command) (x : Effect) : Type 0 where
  -- END
  ends : c ≡ End → x.self ≡ end_of p a → x.spawned ≡ nobody → Kind p e i a c x
  -- NEXT
  meets : c ≡ Next → x.self ≡ next_of p a (is_at_barrier a.status) → x.spawned ≡ nobody → Kind p e i a c x
  -- ASYNC
  forks : (b m : ℕ) → c ≡ Async b m → x.self ≡ past p a → x.spawned ≡ one (child i a b m) → Kind p e i a c x
  -- FINISH
  opens : (b : ℕ) → c ≡ Finish b → x.self ≡ pushed a b 0 e.first → x.spawned ≡ nobody → Kind p e i a c x
  -- REPEAT of at least one run, and CHOOSE that runs its body
  enters : (k b : ℕ) → Enters a c b k → x.self ≡ pushed a b k 0 → x.spawned ≡ nobody → Kind p e i a c x
  -- All others: the activity goes on after its command, past the body that a CHOOSE skips.
  moves : (b : Activity) → is_end c ≡ false → is_next c ≡ false → times c ≡ cond (skips a c) 1 0 → Alike e.clock x.clocked a b → x.self ≡ past p b
      → x.spawned ≡ nobody → Kind p e i a c x

-- The activity itself, its holds, its register and its names changed.
alike_holds : {made : ℕ} {clocked : Bool} {a : Activity} {l : List Hold} → Reheld made clocked a.holds l → Alike made clocked a (with_holds a a.status l)
alike_holds r = record { frames = refl; depth = refl; status = refl; spawner = refl; names = refl; holds = r }

-- Its register.
alike_register : {made : ℕ} {clocked : Bool} {a : Activity} (v : ℕ) → Alike made clocked a (with_register a v)
alike_register v = record { frames = refl; depth = refl; status = refl; spawner = refl; names = refl; holds = kept refl }

-- One of its names.
alike_names : {made : ℕ} {clocked : Bool} {a : Activity} (n v : ℕ) → Alike made clocked a (with_names a (set a.accumulators n v))
alike_names n v = record { frames = refl; depth = refl; status = refl; spawner = refl; names = simp length-set; holds = kept refl }

-- Nothing.
alike_self : {made : ℕ} {clocked : Bool} {a : Activity} → Alike made clocked a a
alike_self = record { frames = refl; depth = refl; status = refl; spawner = refl; names = refl; holds = kept refl }

-- CHOOSE, with hand 0 or another.
choosing : (p : Program) (e : Env) (i : ℕ) (a : Activity) (b : ℕ) (z : Bool) → eqb a.register 0 ≡ z
    → Kind p e i a (Choose b) (alone (cond z (past p a) (pushed a b 0 0)))
unfolding is_end is_next skips
choosing p e i a b true z = moves a refl refl (times_is (Choose b) ∙ rw z) alike_self refl refl
choosing p e i a b false z =
    enters 0 b (record { goes = refl; quiet = refl; plain = refl; some = refl; body = refl; often = λ x. omega arith; chosen = rw z }) refl refl

-- Each command's kind.
pub kind : (p : Program) (e : Env) (i : ℕ) (a : Activity) (c : Command) (inner : List Command) → Kind p e i a c (effect_of p e i a c inner)
unfolding effect_of repeat_of choose_of is_end is_next skips
kind p e i a End inner = ends refl refl refl
kind p e i a Next inner = meets refl refl refl
kind p e i a (Clock c) inner = moves _ refl refl (times_is (Clock c)) (alike_holds (replaced c _ (created refl refl) refl)) refl refl
kind p e i a (Resume c) inner = moves _ refl refl (times_is (Resume c)) (alike_holds (replaced c _ (resumed refl) refl)) refl refl
kind p e i a (Drop c) inner = moves _ refl refl (times_is (Drop c)) (alike_holds (replaced c _ (dropped refl) refl)) refl refl
kind p e i a (Async b m) inner = forks b m refl refl refl
kind p e i a (Finish b) inner = opens b refl refl refl
kind p e i a (Repeat zero b) inner = moves a refl refl (times_is (Repeat zero b)) alike_self refl refl
kind p e i a (Repeat (suc n) b) inner =
    enters (suc n) b (record { goes = refl; quiet = refl; plain = refl; some = refl; body = refl; often = λ x. times_pred (suc n) x (omega arith); chosen = refl }) refl refl
kind p e i a (Acc n o) inner = moves _ refl refl (times_is (Acc n o)) (alike_names n (e.accumulator + 1)) refl refl
kind p e i a (Offer n) inner = moves a refl refl (times_is (Offer n)) alike_self refl refl
kind p e i a (Read n) inner = moves _ refl refl (times_is (Read n)) (alike_register _) refl refl
kind p e i a (Reset n) inner = moves a refl refl (times_is (Reset n)) alike_self refl refl
kind p e i a (Put v) inner = moves _ refl refl (times_is (Put v)) (alike_register v) refl refl
kind p e i a (Fetch d) inner = moves _ refl refl (times_is (Fetch d)) (alike_register _) refl refl
kind p e i a (Store d) inner = moves _ refl refl (times_is (Store d)) (alike_register _) refl refl
kind p e i a (Add d) inner = moves _ refl refl (times_is (Add d)) (alike_register _) refl refl
kind p e i a (Atom k) inner = moves _ refl refl (times_is (Atom k)) (alike_register _) refl refl
kind p e i a (Choose b) inner = choosing p e i a b (eqb a.register 0) refl

-- COUNTS

-- What an effect makes is what its command's row counts, and each command counts 1 for a step, NEXT for two.
unfoldable pub Counts : Command → Effect → Type 0
Counts c x =
    (spawned_count 0 x.spawned ≡ own_activities c)
    × (clocked_count 0 x.clocked ≡ own_clocks c)
    × (written_count 0 x.write ≡ own_accumulators c)
    × (own_work c ≡ 1 + cond (is_next c) 1 0)

-- Command by command.
made : (p : Program) (e : Env) (i : ℕ) (a : Activity) (c : Command) (inner : List Command)
    → let x = effect_of p e i a c inner in
    (spawned_count 0 x.spawned ≡ (saying c).activities)
    × (clocked_count 0 x.clocked ≡ (saying c).clocks)
    × (written_count 0 x.write ≡ (saying c).accumulators)
    × ((saying c).work ≡ 1 + cond (is_next c) 1 0)
unfolding effect_of is_next
made p e i a End inner = (refl, refl, refl, refl)
made p e i a Next inner = (refl, refl, refl, refl)
made p e i a (Clock c) inner = (refl, refl, refl, refl)
made p e i a (Resume c) inner = (refl, refl, refl, refl)
made p e i a (Drop c) inner = (refl, refl, refl, refl)
made p e i a (Async b m) inner = (refl, refl, refl, refl)
made p e i a (Finish b) inner = (refl, refl, refl, refl)
made p e i a (Repeat n b) inner = (refl, refl, refl, refl)
made p e i a (Acc n o) inner = (refl, refl, refl, refl)
made p e i a (Offer n) inner = (refl, refl, refl, refl)
made p e i a (Read n) inner = (refl, refl, refl, refl)
made p e i a (Reset n) inner = (refl, refl, refl, refl)
made p e i a (Put v) inner = (refl, refl, refl, refl)
made p e i a (Fetch d) inner = (refl, refl, refl, refl)
made p e i a (Store d) inner = (refl, refl, refl, refl)
made p e i a (Add d) inner = (refl, refl, refl, refl)
made p e i a (Atom k) inner = (refl, refl, refl, refl)
made p e i a (Choose b) inner = (refl, refl, refl, refl)

-- Each command's row.
pub counts : (p : Program) (e : Env) (i : ℕ) (a : Activity) (c : Command) (inner : List Command) → Counts c (effect_of p e i a c inner)
unfolding Counts
counts p e i a c inner =
    let m = made p e i a c inner in
    (m.0 ∙ sym (activities_is c), m.1 ∙ sym (clocks_is c), m.2 ∙ sym (accumulators_is c), work_is c ∙ m.3)

-- A count after a step is the count before it and what the step makes.
pub spawned_count_lem : (n : ℕ) (ch : Spawned) → spawned_count n ch ≡ n + spawned_count 0 ch
spawned_count_lem n nobody = omega arith
spawned_count_lem n (one c) = omega arith

-- The same of clocks.
pub clocked_count_lem : (n : ℕ) (b : Bool) → clocked_count n b ≡ n + clocked_count 0 b
clocked_count_lem n true = omega arith
clocked_count_lem n false = omega arith

-- The same of accumulators.
pub written_count_lem : (n : ℕ) (w : Write) → written_count n w ≡ n + written_count 0 w
written_count_lem n keep = omega arith
written_count_lem n (make c) = omega arith
written_count_lem n (offer x v) = omega arith
written_count_lem n (reset x v) = omega arith

-- Stores keep the number of cells.
pub length_stores : (cells : List ℕ) (l : List Stored) → length (with_stores cells l) ≡ length cells
unfolding with_stores
length_stores cells [] = refl
length_stores cells (x ∷ xs) = length-set (with_stores cells xs) x.cell x.value ∙ length_stores cells xs

-- WHAT FOLLOWS FROM THE KIND

-- A fact of the activity that a step spawns, where it spawns one.
unfoldable pub OfChild : (Activity → Type 0) → Spawned → Type 0
OfChild P nobody = Unit {0}
OfChild P (one c) = P c

-- It goes on to what it implies.
pub of_child : (P Q : Activity → Type 0) → ((c : Activity) → P c → Q c) → (ch : Spawned) → OfChild P ch → OfChild Q ch
unfolding OfChild
of_child P Q f nobody p = tt
of_child P Q f (one c) p = f c p

module _ {p : Program} {e : Env} {i : ℕ} {a : Activity} {c : Command} {x : Effect} where
  -- Only ASYNC spawns.
  pub born : (P : Activity → Type 0) → ((b m : ℕ) → c ≡ Async b m → P (child i a b m)) → Kind p e i a c x → OfChild P x.spawned
  unfolding OfChild
  born P f (ends q s n) = rw n tt
  born P f (meets q s n) = rw n tt
  born P f (forks b m q s n) = rw n (f b m q)
  born P f (opens b q s n) = rw n tt
  born P f (enters k b q s n) = rw n tt
  born P f (moves b g h t k s n) = rw n tt

  -- Whoever breaches a rule stands neither on END nor on NEXT.
  pub breaching : (fault_for p e i a c ≡ 0 → ⊥) → Kind p e i a c x → (is_end c ≡ false) × (is_next c ≡ false)
  unfolding fault_for is_end is_next
  breaching f (ends q s n) = absurd (f (rw q))
  breaching f (meets q s n) = absurd (f (rw q))
  breaching f (forks b m q s n) = (rw q, rw q)
  breaching f (opens b q s n) = (rw q, rw q)
  breaching f (enters k b q s n) = (q.goes, q.quiet)
  breaching f (moves b g h t k s n) = (g, h)

  -- The command of which `is_end` holds is END.
  pub is_end_lem : Kind p e i a c x → is_end c ≡ true → c ≡ End
  unfolding is_end
  is_end_lem (ends q s n) l = q
  is_end_lem (meets q s n) l = absurd (true_false (is_end c) l (rw q))
  is_end_lem (forks b m q s n) l = absurd (true_false (is_end c) l (rw q))
  is_end_lem (opens b q s n) l = absurd (true_false (is_end c) l (rw q))
  is_end_lem (enters k b q s n) l = absurd (true_false (is_end c) l q.goes)
  is_end_lem (moves b g h t k s n) l = absurd (true_false (is_end c) l g)
