-- The run in bytes of the call's own: the table's number, too little room, or done and decoded.
use Prim.Native.Nat.{ℕ}
use native.Mathlib.Omega.{arith}
use lib.ListN.{length, replicate, length-replicate}
use mathlib.Core.Path.{◌≡◌, refl, sym, ap, ◌∙◌, subst}
use Rattle.std.specs.Prelude.{Some}
use Rattle.std.specs.Option.{IsSome}
use Rattle.program.specs.Refusal.{told}
use Rattle.rules.specs.Steps.{base}
use Rattle.rules.specs.Runs.{run}
use Rattle.machine.proofs.Runs.{refused, ran, done, told_by}
use Rattle.machine.proofs.trace.Goals as goal

-- The bytes of its own.
zeros : length {A = ℕ} (replicate 13776 0) ≡ 13776
zeros = length-replicate {A = ℕ} 13776 0

pub unwrap-requires : goal.unwrap-requires
unwrap-requires c =
    let left = c.trace.ensures in
    let decoded : c.decode.result ≡ Some (run base c.args.table.now c.args.order.now) =
    c.decode.ensures
    ∙ ran c.args.table.now c.args.order.now c.args.answers.now (replicate 13776 0) zeros (sym (ap told c.in-Ok.is) ∙ left.value) left.answers_after left.state_after (λ i. omega (arith, c.type_inv.table i)) refl
    in
    subst IsSome (sym decoded) refl

pub returns-in-Ok : goal.returns-in-Ok
returns-in-Ok c =
    let left = c.trace.ensures in
    let number = sym (ap told c.in-Ok.is) ∙ left.value in
    let decoded : c.decode.result ≡ Some (run base c.args.table.now c.args.order.now) =
    c.decode.ensures
    ∙ ran c.args.table.now c.args.order.now c.args.answers.now (replicate 13776 0) zeros number left.answers_after left.state_after (λ i. omega (arith, c.type_inv.table i)) refl
    in
    let same : c.unwrap.result ≡ run base c.args.table.now c.args.order.now = cc in
    record {
      runs = done c.args.table.now c.args.order.now c.args.answers.now (replicate 13776 0) zeros number left.answers_after left.state_after refl same;
      numbers = told_by c.args.table.now c.args.order.now c.args.answers.now c.args.counts.now (replicate 13776 0) zeros left.counts_after;
    }

pub returns-in-Err : goal.returns-in-Err
returns-in-Err c =
    let left = c.trace.ensures in
    record {
      runs =
          refused c.args.table.now c.args.order.now c.args.answers.now (replicate 13776 0) zeros (sym (ap told c.in-Err.is) ∙ left.value) left.answers_after left.state_after
          refl c.zero_state.ensures;
      numbers = told_by c.args.table.now c.args.order.now c.args.answers.now c.args.counts.now (replicate 13776 0) zeros left.counts_after;
    }
