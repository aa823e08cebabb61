-- The ranges of a command's operands as bounds, so that nothing above has to look into the rows.
use Prim.Native.Nat.{ℕ, ◌≤◌, ◌<◌}
use mathlib.Core.Bool.{true, ◌&&◌}
use mathlib.Core.Path.{◌≡◌}
use lib.Dec.{ltb, leb}
use borrow.Author.Tests.{ltb-true, leb-true}
use Rattle.program.specs.Command.{rows, row_at, row_of}
use Rattle.program.specs.declared.command.Command.{Command}
use Rattle.program.specs.declared.command.Command.TheVariants.{End, Next, Clock, Resume, Drop, Async, Finish, Repeat, Acc, Offer, Read, Reset, Put, Fetch, Store, Add, Atom, Choose}
use Rattle.program.proofs.Basic.{and_true}
use Rattle.program.proofs.Shape.{Ranged}

-- The bounds, command by command.
abbrev pub Within : Command → Type 0
Within End = Unit {0}
Within Next = Unit {0}
Within (Clock c) = c < 8
Within (Resume c) = c < 8
Within (Drop c) = c < 8
Within (Async b m) = Unit {0}
Within (Finish b) = Unit {0}
Within (Repeat n b) = Unit {0}
Within (Acc a o) = (a < 8) × (o < 3)
Within (Offer a) = a < 8
Within (Read a) = a < 8
Within (Reset a) = a < 8
Within (Put v) = Unit {0}
Within (Fetch d) = d < 16
Within (Store d) = d < 16
Within (Add d) = d < 16
Within (Atom k) = (1 ≤ k) × (k ≤ 8)
Within (Choose b) = Unit {0}

-- One operand below a bound.
one : (x n : ℕ) → ltb x n && true ≡ true → x < n
one x n r = ltb-true x n (and_true (ltb x n) true r).0

-- Operands inside their ranges are within these bounds.
pub within : (c : Command) → Ranged c → Within c
unfolding Ranged row_of row_at rows
within End r = tt
within Next r = tt
within (Clock c) r = one c 8 r
within (Resume c) r = one c 8 r
within (Drop c) r = one c 8 r
within (Async b m) r = tt
within (Finish b) r = tt
within (Repeat n b) r = tt
within (Acc a o) r = let f = and_true (ltb a 8) (ltb o 3 && true) r in (ltb-true a 8 f.0, one o 3 f.1)
within (Offer a) r = one a 8 r
within (Read a) r = one a 8 r
within (Reset a) r = one a 8 r
within (Put v) r = tt
within (Fetch d) r = one d 16 r
within (Store d) r = one d 16 r
within (Add d) r = one d 16 r
within (Atom k) r = let f = and_true (leb 1 k) (leb k 8) (and_true (leb 1 k && leb k 8) true r).0 in (leb-true 1 k f.0, leb-true k 8 f.1)
within (Choose b) r = tt
