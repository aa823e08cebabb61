-- The bodies of a table: located commands, the k commands inside their ATOM.
use Rattle.std.specs.Prelude.{ℕ, zero, suc, ◌+◌, List, [], ◌∷◌, Bool, false, cond, ◌||◌, get_or, take, eqb}
use Rattle.program.specs.Command.{width, held, is_end}
use Rattle.program.specs.Reading.{commands_of}
use Rattle.program.specs.declared.command.Command.{Command}
use Rattle.program.specs.declared.command.Command.TheVariants.{End}

-- A command at its offset, the bytes from its body's first command (document 01: place), with the commands that belong to it.
pub record Located : Type 0 where
  pub offset : ℕ
  pub command : Command
  pub inner : List Command

abbrev pub Body : Type 0
Body = List Located

abbrev pub Program : Type 0
Program = List (List Located)

-- "each body is the part of the table that starts at its first command and ends with its first END"
unfoldable pub first_body : List Command → List Command
first_body [] = []
first_body (c ∷ cs) = c ∷ cond (is_end c) [] (first_body cs)

unfoldable pub after_end : List Command → List Command
after_end [] = []
after_end (c ∷ cs) = cond (is_end c) cs (after_end cs)

-- The commands in turn, the first at `at`; as many as `left` says belong to the ATOM before them.
unfoldable pub locate : ℕ → ℕ → List Command → Body
locate at left [] = []
locate at zero (c ∷ cs) = record { offset = at; command = c; inner = take (held c) cs } ∷ locate (at + width c) (held c) cs
locate at (suc left) (c ∷ cs) = locate (at + width c) left cs

-- "Then come the bodies, numbered from 0"
unfoldable pub bodies_of : ℕ → List Command → Program
bodies_of zero cs = []
bodies_of (suc n) cs = locate 0 0 (first_body cs) ∷ bodies_of n (after_end cs)

-- The program of a table.
unfoldable pub program_of : List ℕ → Program
program_of t = bodies_of (get_or t 0 0) (commands_of t)

-- FINDING A COMMAND

-- What is left of a body from an offset.
unfoldable pub from : Body → ℕ → Body
from [] at = []
from (x ∷ xs) at = let r = from xs at in cond (eqb x.offset at) (x ∷ xs) r

-- Whether a command of the body stands at an offset.
unfoldable pub is_place : Body → ℕ → Bool
is_place [] at = false
is_place (x ∷ xs) at = let r = is_place xs at in eqb x.offset at || r

abbrev nothing : Located
nothing = record { offset = 0; command = End; inner = [] }

-- The first of what is left, and what is left after it.
abbrev pub head_of : Body → Located
head_of [] = nothing
head_of (x ∷ xs) = x

abbrev pub tail_of : Body → Body
tail_of [] = []
tail_of (x ∷ xs) = xs
