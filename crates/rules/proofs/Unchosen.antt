-- A table without CHOOSE: a finished run of it without a fault takes exactly its work, as before there was a CHOOSE.
use Prim.Native.Nat.{ℕ, zero, suc, ◌≤◌}
use mathlib.Core.List.{List, [], ◌∷◌}
use mathlib.Core.Bool.{Bool, true, false, cond, ◌||◌, ◌&&◌, not}
use mathlib.Core.Path.{◌≡◌, refl}
use lib.ListN.{get_or}
use lib.Dec.{eqb}
use Rattle.program.specs.Command.{opcode}
use Rattle.program.specs.Bodies.{Body, Program, program_of, from, head_of}
use Rattle.program.specs.Count.{work_of}
use Rattle.program.specs.Table.{number_of}
use Rattle.program.proofs.Basic.{or_false}
use Rattle.rules.specs.declared.state.State.{State}
use Rattle.rules.specs.State.{act, top}
use Rattle.rules.specs.Tree.{rest, here}
use Rattle.rules.specs.Steps.{Limits, at, start, step}
use Rattle.rules.specs.Runs.{run, answers, is_accepted, taken, some_fault, finished, skips, all_ran_from, all_ran}
use Rattle.rules.proofs.Tests.{and_intro}
use Rattle.rules.proofs.Demand3.{demand3}

-- Whether a body, and a program, has a CHOOSE.
unfoldable pub chooses_in : Body → Bool
chooses_in [] = false
chooses_in (x ∷ xs) = eqb (opcode x.command) 0x11 || chooses_in xs

unfoldable pub chooses : Program → Bool
chooses [] = false
chooses (b ∷ p) = chooses_in b || chooses p

-- Then none of its bodies has one, and nobody stands on one.
body_none : (p : Program) → chooses p ≡ false → (b : ℕ) → chooses_in (get_or p b []) ≡ false
unfolding chooses_in chooses
body_none [] e b = refl
body_none (x ∷ p) e zero = (or_false (chooses_in x) (chooses p) e).0
body_none (x ∷ p) e (suc b) = body_none p (or_false (chooses_in x) (chooses p) e).1 b

head_none : (b : Body) (offset : ℕ) → chooses_in b ≡ false → eqb (opcode (head_of (from b offset)).command) 0x11 ≡ false
unfolding chooses_in from
head_none [] offset e = refl
head_none (x ∷ xs) offset e =
    let q = or_false (eqb (opcode x.command) 0x11) (chooses_in xs) e in
    go (eqb x.offset offset) q.0 (head_none xs offset q.1)
  where
    go : (y : Bool) → eqb (opcode x.command) 0x11 ≡ false → eqb (opcode (head_of (from xs offset)).command) 0x11 ≡ false
        → eqb (opcode (head_of (cond y (x ∷ xs) (from xs offset))).command) 0x11 ≡ false
    go true h k = h
    go false h k = k

stands_none : (p : Program) → chooses p ≡ false → (s : State) (i : ℕ) → skips (act s i) (at p s i).command ≡ false
unfolding skips at here rest
stands_none p e s i =
    let f = top (act s i) in
    rw (head_none (get_or p f.body []) f.offset (body_none p e f.body))

-- So each CHOOSE step ran its body: there is none.
all_ran_lem : (l : Limits) (t : List ℕ) → chooses (program_of t) ≡ false → (order : List ℕ) (s : State) → all_ran_from l t s order ≡ true
unfolding all_ran_from
all_ran_lem l t e [] s = refl
all_ran_lem l t e (i ∷ order) s =
    and_intro (not (is_accepted (step l t s i).answer && skips (act s i) (at (program_of t) s i).command)) (all_ran_from l t (step l t s i).state order)
    (rw (stands_none (program_of t) e s i) (none (is_accepted (step l t s i).answer))) (all_ran_lem l t e order (step l t s i).state)
  where
    none : (x : Bool) → not (x && false) ≡ true
    none true = refl
    none false = refl

-- "a run takes exactly its counted work"
pub exactly : (l : Limits) (t : List ℕ) → l.work ≤ l.phase → number_of l.work t ≡ 0 → chooses (program_of t) ≡ false
    → (order : List ℕ) → finished (run l t order) ≡ true → some_fault (answers l t order) ≡ false → taken (answers l t order) ≡ work_of (program_of t)
unfolding all_ran
exactly l t w n e order f g = (demand3 l t w n order).whole f g (all_ran_lem l t e order (start l t).state)
