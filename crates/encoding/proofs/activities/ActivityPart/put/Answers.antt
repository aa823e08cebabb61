-- One field after the other.
use native.Mathlib.Omega.{arith}
use Rattle.encoding.specs.Bytes.{bytes_of, encode_each}
use Rattle.encoding.specs.Encode.{status_byte, fault_byte, encode_frame, encode_hold, encode_activity}
use Rattle.encoding.proofs.FieldLaws.{none_yet, store, store_as, put_as, all}
use Rattle.encoding.proofs.activities.ActivityPart.put.Goals as goal

pub returns : goal.returns
unfolding encode_activity bytes_of
returns c =
    let v = c.args.self in
    let a = put_as 4 c.put.new.out (bytes_of 4 v.register) (none_yet c.args.out.now 208 c.requires) (omega arith) c.put.auto.out c.put.ensures in
    let b = store_as _ (status_byte v.status) c.status_byte.ensures a (omega arith) in
    let d = store_as _ (fault_byte v.status) c.fault_byte.ensures b (omega arith) in
    let e = store v.depth (store v.spawner d (omega arith)) (omega arith) in
    let f = put_as 8 c.copy_from_slice.new.self v.accumulators e (omega arith) c.copy_from_slice.auto.self c.copy_from_slice.ensures.after in
    let h = put_as 64 c.put_each.new.out (encode_each encode_hold v.holds) f (omega arith) c.put_each.auto.out c.put_each.ensures in
    all (put_as 128 c.put_each-2.new.out (encode_each encode_frame v.frames) h (omega arith) c.put_each-2.auto.out c.put_each-2.ensures)
