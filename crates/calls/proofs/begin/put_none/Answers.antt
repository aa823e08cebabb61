-- Zeros, and the version over them.
use Rattle.calls.proofs.Beginning.{none_written}
use mathlib.Core.Path.{refl}
use Rattle.calls.proofs.begin.put_none.Goals as goal

pub returns-then-state-eq13776 : goal.returns-then-state-eq13776
returns-then-state-eq13776 c = none_written c.args.state.now c.if-state-eq13776.true (c.fill.ensures.after (λ y e. e)) refl
