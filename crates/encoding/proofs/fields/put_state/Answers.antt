-- One field after the other.
use native.Mathlib.Omega.{arith}
use mathlib.Core.Path.{ap, ◌∙◌}
use lib.ListN.{replicate}
use Rattle.encoding.specs.Bytes.{bytes_of, encode_each}
use Rattle.encoding.specs.Encode.{encode_accumulator, encode_activity, encode_state}
use Rattle.encoding.proofs.FieldLaws.{none_yet, store, put_as, put_of, all}
use Rattle.encoding.proofs.fields.put_state.Goals as goal

pub returns : goal.returns
unfolding encode_state bytes_of
returns c =
    let s = c.args.s in
    let a = store s.accumulators (store s.clocks (store s.activities (store 1 (none_yet c.args.out.now 13776 c.requires) (omega arith)) (omega arith)) (omega arith)) (omega arith) in
    let b = put_as 4 c.put.new.out (bytes_of 4 s.steps) a (omega arith) c.put.auto.out (c.put.ensures ∙ ap (bytes_of 4) c.from.ensures) in
    let d = put_of 8 (λ k. replicate k 0) c.put_zeros.new.out b (omega arith) c.put_zeros.auto.out c.put_zeros.ensures in
    let e = put_as 64 c.put_each.new.out (encode_each (bytes_of 4) s.cells) d (omega arith) c.put_each.auto.out c.put_each.ensures in
    let f = put_as 384 c.put_each-2.new.out (encode_each encode_accumulator s.accs) e (omega arith) c.put_each-2.auto.out c.put_each-2.ensures in
    all (put_as 13312 c.put_each-3.new.out (encode_each encode_activity s.acts) f (omega arith) c.put_each-3.auto.out c.put_each-3.ensures)
