-- The slice from the body's first command.
use Rattle.std.proofs.Common.{arith}
use Rattle.places.proofs.Starts.{body_there, code_there}
use Rattle.values.proofs.Atoms.{in_table}
use Rattle.values.proofs.atom.touch_all.Goals as goal

pub returns-in_default : goal.returns-in_default
returns-in_default c = record { touches = λ on s x l h. absurd (let a = body_there _ c.args.table.now.known on.placed in let z : ⊥ = omega (arith, c.in_default.ensures.lookup.3) in z) }

pub returns-in_default-get : goal.returns-in_default-get
returns-in_default-get c =
    record {
      touches =
          λ on s x l h.
          let e = c.in-Some.ensures.lookup.3.1 0 in
          let inside = code_there _ c.args.table.now.known on.placed in
          let past = c.in_default-get.ensures.lookup.0 in
          absurd (omega arith);
    }

pub returns : goal.returns
returns c = in_table c.args.table.now.known (c.in-Some.ensures.lookup.3.1 0) c.in-Some-get.ensures.lookup.0.2 c.touch_each.ensures
