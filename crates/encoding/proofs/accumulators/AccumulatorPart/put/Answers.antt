-- One field after the other.
use native.Mathlib.Omega.{arith}
use borrow.Author.Rules.{rules}
use lib.ListN.{replicate}
use Rattle.rules.specs.State.{operator_number}
use Rattle.encoding.specs.Bytes.{bytes_of}
use Rattle.encoding.specs.Encode.{encode_accumulator}
use Rattle.encoding.proofs.FieldLaws.{none_yet, store, store_as, put_as, put_of, all}
use Rattle.encoding.proofs.accumulators.AccumulatorPart.put.Goals as goal

pub returns : goal.returns
unfolding encode_accumulator bytes_of
returns c =
    let o = c.args.self in
    let a = put_as 4 c.put.new.out (bytes_of 4 o.value) (none_yet c.args.out.now 24 c.requires) (omega arith) c.put.auto.out c.put.ensures in
    all (put_of 18 (λ k. replicate k 0) c.put_zeros.new.out (store_as _ (operator_number o.operator) (search rules) (store o.owner a (omega arith)) (omega arith)) (omega arith) c.put_zeros.auto.out c.put_zeros.ensures)
