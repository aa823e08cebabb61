-- The operands of a command of an accepted table of bytes: a number of runs is a byte, a value four bytes.
use Prim.Native.Nat.{ℕ, ◌^◌, ◌<◌}
use native.Mathlib.Omega.{arith}
use mathlib.Core.Path.{◌≡◌, sym, ap, ◌∙◌}
use mathlib.Core.List.{List, [], ◌∷◌}
use mathlib.Core.Bool.{true}
use lib.ListN.{get_or, drop}
use Rattle.program.specs.Command.{opcode, operands_of, command_of, word}
use Rattle.program.specs.Reading.{read, whole}
use Rattle.program.specs.Bodies.{program_of}
use Rattle.program.specs.Scan.{scan, layout_of}
use Rattle.program.specs.declared.command.Command.{Command}
use Rattle.program.specs.declared.command.Command.TheVariants.{Repeat, Put}
use Rattle.program.proofs.Basic.{apart, Bytes, bytes_drop}
use Rattle.program.proofs.ShapeReading.{read_as}
use Rattle.rules.specs.declared.state.Frame.{Frame}
use Rattle.rules.specs.Tree.{here}
use Rattle.rules.specs.WellFormed.{is_placed}
use Rattle.places.proofs.Places.{read_here}

-- What the bytes bound.
pub record Narrow (c : Command) : Type 0 where
  pub runs : (n b : ℕ) → c ≡ Repeat n b → n < 2 ^ 8
  pub value : (v : ℕ) → c ≡ Put v → v < 2 ^ 32

-- A command read from bytes.
pub narrow : (s : List ℕ) {c : Command} {size : ℕ} → Bytes s → read s ≡ whole c size → Narrow c
unfolding read command_of
narrow [] y e = apart (cc)
narrow (op ∷ s) {c} y e =
    let r = read_as op s e in
    record {
      runs =
          λ n b q.
          let k : op ≡ 7 = sym r.byte ∙ ap opcode q in
          let m : command_of 7 s ≡ Repeat n b = rw k at (r.same ∙ q) in
          let z : get_or s 0 0 ≡ n = ap (λ (x : Command). get_or (operands_of x) 0 0) m in
          omega (arith, y 1);
      value =
          λ v q.
          let k : op ≡ 12 = sym r.byte ∙ ap opcode q in
          let m : Put (word s) ≡ Put v = rw k at (r.same ∙ q) in
          let z : word s ≡ v = cc in
          omega (arith, y 1, y 2, y 3, y 4);
    }

-- The command that a frame stands on.
pub narrow_here : (t : List ℕ) → scan t ≡ 0 → Bytes t → (f : Frame) → is_placed (program_of t) f ≡ true → Narrow (here (program_of t) f).command
narrow_here t ok y f on =
    narrow (drop f.offset (drop (get_or (layout_of t).starts f.body 0) t)) (bytes_drop f.offset _ (bytes_drop (get_or (layout_of t).starts f.body 0) t y)) (read_here t ok f on)
