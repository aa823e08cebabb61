-- One digit, or those of the call and one more.
use Rattle.std.proofs.Common.{subst, [], ◌∷◌}
use Rattle.lines.specs.declared.put.Text.{Text}
use Rattle.lines.specs.Put.{Put}
use Rattle.lines.specs.Text.{last_digit}
use Rattle.lines.proofs.Putting.{one_digit, digit_more}
use Rattle.lines.proofs.put.Text.+number.Goals.{then-n-ge10, else-n-ge10}
use Rattle.lines.proofs.put.Text.+number.Goals as goal

pub returns : goal.returns
returns t c =
    let last = λ (a : Text). Put a (last_digit c.args.n ∷ []) c.byte.new.self in
    elim c.if-n-ge10.branch [
      | then-n-ge10 w ↦ digit_more w.if-n-ge10.true w.number.ensures (subst last w.self-is c.byte.ensures)
      | else-n-ge10 w ↦ one_digit w.if-n-ge10.false (subst last w.self-is c.byte.ensures)
    ]
