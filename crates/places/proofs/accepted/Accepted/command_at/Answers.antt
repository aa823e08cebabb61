-- What stands at the frame is a whole command in the slice from its body's first command.
use Prim.Native.Nat.{ℕ, ◌-◌, ◌≤◌}
use native.Mathlib.Omega.{arith}
use mathlib.Core.List.{List}
use mathlib.Core.Path.{◌≡◌, ◌∙◌}
use mathlib.Core.Bool.{true}
use lib.ListN.{length, get_or, drop, take}
use Rattle.program.specs.Command.{width}
use Rattle.program.specs.Bodies.{program_of}
use Rattle.program.specs.Reading.{read, whole}
use Rattle.program.proofs.RangeLaws.{tail_part, whole_bare}
use Rattle.rules.specs.declared.state.Frame.{Frame}
use Rattle.rules.specs.Tree.{here}
use Rattle.rules.specs.WellFormed.{is_placed}
use Rattle.places.specs.Known.{Known}
use Rattle.places.proofs.Places.{read_here}
use Rattle.places.proofs.Starts.{body_there, code_there}
use Rattle.places.proofs.accepted.Accepted.command_at.Goals as goal

module _ {t starts : List ℕ} (f : Frame) (k : Known t starts) (on : is_placed (program_of t) f ≡ true) where
  -- The body has a start.
  listed : length starts ≤ f.body → ⊥
  listed h = let b = body_there f k on in omega arith

  -- What is read there.
  read-there : {first : ℕ} {rest : List ℕ} → first ≡ get_or starts f.body 0 → rest ≡ take (length t - first) (drop first t)
      → read (drop f.offset rest) ≡ whole (here (program_of t) f).command (width (here (program_of t) f).command)
  read-there {first} e r = rw (r, tail_part t first, e, k.laid) (read_here t k.scanned f on)

pub returns-in_default : goal.returns-in_default
returns-in_default c = λ on. let s = c.args in absurd (listed s.f s.self.now.known on c.in_default.ensures.lookup.3)

pub returns-in_default-get : goal.returns-in_default-get
returns-in_default-get c =
    λ on.
    let s = c.args in
    let e = c.in-Some.ensures.lookup.3.1 0 in
    let inside = code_there s.f s.self.now.known on in
    let past = c.in_default-get.ensures.lookup.0 in
    absurd (omega arith)

pub returns : goal.returns
returns c =
    λ on.
    let s = c.args in
    c.known.ensures ∙ whole_bare _ (read-there s.f s.self.now.known on (c.in-Some.ensures.lookup.3.1 0) c.in-Some-get.ensures.lookup.0.2)
