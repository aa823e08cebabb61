-- A search over the frames below the top.
use Rattle.std.proofs.Common.{◌≡◌, ◌<◌, ◌-◌, true, false, arith, refl, rules}
use Rattle.std.proofs.lemmas.Iterator.{cases_from_any, YieldsList-from_range}
use Rattle.program.specs.Bodies.{program_of}
use Rattle.rules.specs.State.{act}
use Rattle.rules.specs.Tree.{finishes, in_own_finish}
use Rattle.moves.proofs.Searching.{some_any}
use Rattle.bodies.proofs.Lending.{tested}
use Rattle.bodies.proofs.lend.in_own_finish.Goals as goal

pub returns : goal.returns
unfolding in_own_finish finishes
returns c =
    record {
      reads =
          λ s l j w.
          let p = program_of c.args.table.now.bytes.now in
          let a = act s c.args.i in
          some_any (a.depth - 1) (finishes p a) _
          (cases_from_any _ _ _ (λ x. x < a.depth - 1 → true ≡ finishes p a x) (λ x. x < a.depth - 1 → false ≡ finishes p a x) c.any.ensures.ran (YieldsList-from_range 0 _ (a.depth - 1) refl (let e = c.depth_at.ensures.reads s l j in omega (arith, c.saturating_sub-above.ensures)))
          (λ x q k h. search (rules, tested)) (λ x q k. (search rules, λ h. search (rules, tested))));
    }
