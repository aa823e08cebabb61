-- One field after the other.
use native.Mathlib.Omega.{arith}
use lib.ListN.{replicate}
use Rattle.encoding.specs.Bytes.{bytes_of}
use Rattle.encoding.specs.Encode.{encode_frame}
use Rattle.encoding.proofs.FieldLaws.{none_yet, store, put_as, put_of, all}
use Rattle.encoding.proofs.frames.FramePart.put.Goals as goal

pub returns : goal.returns
unfolding encode_frame bytes_of
returns c =
    let f = c.args.self in
    let a = put_as 2 c.put.new.out (bytes_of 2 f.offset) (none_yet c.args.out.now 8 c.requires) (omega arith) c.put.auto.out c.put.ensures in
    let b = store f.first (store f.runs (store f.body a (omega arith)) (omega arith)) (omega arith) in
    all (put_of 3 (λ k. replicate k 0) c.put_zeros.new.out b (omega arith) c.put_zeros.auto.out c.put_zeros.ensures)
