-- One field after the other.
use native.Mathlib.Omega.{arith}
use borrow.Author.Rules.{rules}
use mathlib.Core.Path.{ap, ◌∙◌}
use lib.ListN.{replicate}
use Rattle.rules.specs.State.{registration_number}
use Rattle.encoding.specs.Bytes.{bytes_of}
use Rattle.encoding.specs.Encode.{encode_hold}
use Rattle.encoding.proofs.FieldLaws.{none_yet, store, store_as, put_as, put_of, all}
use Rattle.encoding.proofs.holds.HoldPart.put.Goals as goal

pub returns : goal.returns
unfolding encode_hold bytes_of
returns c =
    let h = c.args.self in
    let a = put_as 4 c.put.new.out (bytes_of 4 h.phase) (none_yet c.args.out.now 8 c.requires) (omega arith) c.put.auto.out (c.put.ensures ∙ ap (bytes_of 4) c.from.ensures) in
    all (put_of 2 (λ k. replicate k 0) c.put_zeros.new.out (store_as _ (registration_number h.registration) (search rules) (store h.clock a (omega arith)) (omega arith)) (omega arith) c.put_zeros.auto.out c.put_zeros.ensures)
