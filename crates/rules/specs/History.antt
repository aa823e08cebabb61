-- Who is inside a finish, as the run itself tells it: "It is inside a finish if it was spawned by the owner during that body, or by an activity inside." Of a
-- state it takes only who steps, whom the step spawns and which bodies stand open then.
use Rattle.std.specs.Prelude.{ℕ, ◌-◌, List, [], ◌∷◌, Bool, false, cond, ◌||◌, ◌&&◌, ltb, eqb}
use Rattle.program.specs.Bodies.{Program, program_of}
use Rattle.rules.specs.declared.state.Activity.{Activity}
use Rattle.rules.specs.declared.state.State.{State}
use Rattle.rules.specs.State.{act}
use Rattle.rules.specs.Tree.{is_finish, finishes}
use Rattle.rules.specs.Steps.{Limits, at, effect, spawns, start, step}
use Rattle.rules.specs.Runs.{is_accepted}

-- Owner, frame of its stack, activity: whether the activity is inside the FINISH body at that frame.
abbrev pub Insides : Type 0
Insides = ℕ → ℕ → ℕ → Bool

-- At the start nobody is inside a finish.
abbrev pub no_insides : Insides
no_insides w d x = false

-- Frame d of a stack is a FINISH body.
unfoldable pub is_finish_body : Program → Activity → ℕ → Bool
is_finish_body p a d = ltb 0 d && (ltb d a.depth && finishes p a (d - 1))

-- The step of activity i begins a FINISH body as frame d of its stack.
unfoldable pub begins_finish : Program → State → ℕ → ℕ → Bool
begins_finish p s i d = is_finish (at p s i).command && eqb d (act s i).depth

-- The step of activity i spawns activity x.
unfoldable pub spawns_now : Program → State → ℕ → ℕ → Bool
spawns_now p s i x = spawns (effect p s i).spawned && eqb x s.activities

-- After an accepted step of activity i: nobody is inside a body that begins; who is spawned is inside the bodies that are open on its spawner's stack,
-- and inside those that its spawner is inside of; for others nothing changes.
unfoldable pub insides_after : Program → State → ℕ → Insides → Insides
insides_after p s i h w d x =
    cond (eqb w i && begins_finish p s i d) false (cond (spawns_now p s i x) ((eqb w i && is_finish_body p (act s w) d) || h w d i) (h w d x))

-- Along a run.
unfoldable pub insides_from : Limits → List ℕ → State → Insides → List ℕ → Insides
insides_from l t s h [] = h
insides_from l t s h (i ∷ order) =
    insides_from l t (step l t s i).state (cond (is_accepted (step l t s i).answer) (insides_after (program_of t) s i h) h) order

-- At the last point of a run.
unfoldable pub insides : Limits → List ℕ → List ℕ → Insides
insides l t order = insides_from l t (start l t).state no_insides order
