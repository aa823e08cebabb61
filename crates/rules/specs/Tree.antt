-- Stacks of bodies, and the tree of spawned activities.
use Rattle.std.specs.Prelude.{ℕ, ◌-◌, [], Bool, true, ◌&&◌, get_or, ltb, leb, eqb}
use Rattle.program.specs.declared.command.Command.{Command}
use Rattle.program.specs.Command.{opcode}
use Rattle.program.specs.Bodies.{Located, Body, Program, from, head_of, tail_of}
use Rattle.rules.specs.declared.state.Frame.{Frame}
use Rattle.rules.specs.declared.state.Activity.{Activity}
use Rattle.rules.specs.declared.state.State.{State}
use Rattle.rules.specs.Search.{some_below, chain}
use Rattle.rules.specs.State.{act, frame}

-- THE STACK

-- What is left of a frame's body from its command on.
unfoldable pub rest : Program → Frame → Body
rest p f = from (get_or p f.body []) f.offset

-- The command that a frame stands on.
unfoldable pub here : Program → Frame → Located
here p f = head_of (rest p f)

-- The place of the command after it.
unfoldable pub next_offset : Program → Frame → ℕ
next_offset p f = (head_of (tail_of (rest p f))).offset

abbrev pub is_finish : Command → Bool
is_finish c = eqb (opcode c) 0x06

-- Frame d of the stack runs the body above it by a FINISH.
unfoldable pub finishes : Program → Activity → ℕ → Bool
finishes p a d = is_finish (here p (frame a d)).command

-- "while in an own FINISH body"
unfoldable pub in_own_finish : Program → Activity → Bool
in_own_finish p a = some_below (a.depth - 1) (finishes p a)

-- The body at the top is one that a FINISH runs.
unfoldable pub in_finish_body : Program → Activity → Bool
in_finish_body p a = ltb 1 a.depth && finishes p a (a.depth - 2)

-- THE TREE

abbrev pub spawner_of : State → ℕ → ℕ
spawner_of s x = (act s x).spawner

-- "It is a descendant of the spawner and of the spawner's ancestors."
unfoldable pub descends : State → ℕ → ℕ → Bool
descends s w x = chain (spawner_of s) (λ y. true) w 64 x

-- "It is inside a finish if it was spawned by the owner during that body, or by an activity inside." Activities are numbered in the order of
-- creation: of the owner's children, those spawned during the body are those from the number on that was next when it began.
unfoldable pub inside : State → ℕ → ℕ → ℕ → Bool
inside s w first x = chain (spawner_of s) (leb first) w 64 x
