use Rattle.std.proofs.Common.{◌≡◌, ◌+◌, ◌*◌, ◌/◌, ◌≤◌, ◌<◌, length, refl, sym, ap, ◌∙◌, arith}
use Rattle.phd.specs.Shapes.{hash_bytes_le_4}
use Rattle.phd_record.specs.FastPath.{ClassWidth}
use Rattle.phd_record.proofs.FastRecordLaws.{ObjectShape, head_object_shape, head_class_width, class_width_le_8, object_tag, object_record}
use Rattle.phd_record.proofs.fast.read_object.Goals as goal

pub address_by_small_gap-requires : goal.address_by_small_gap-requires
address_by_small_gap-requires c =
    let o : ObjectShape c.new-head.result.shape = head_object_shape c.new-head.ensures c.requires.1 c.requires.3 in
    omega arith

pub class_word-class-requires : goal.class_word-class-requires
class_word-class-requires c =
    let o : ObjectShape c.new-head.result.shape = head_object_shape c.new-head.ensures c.requires.1 c.requires.3 in
    (omega arith, head_class_width c.new-head.ensures c.requires.1 c.requires.3)

pub hash_alone-middle-requires : goal.hash_alone-middle-requires
hash_alone-middle-requires c =
    let o : ObjectShape c.new-head.result.shape = head_object_shape c.new-head.ensures c.requires.1 c.requires.3 in
    let hash : c.hash_bytes_of-hb.result ≤ 4 = rw c.hash_bytes_of-hb.ensures (hash_bytes_le_4 _) in
    omega arith

pub overflow_add-place : goal.overflow_add-place
overflow_add-place c =
    let o : ObjectShape c.new-head.result.shape = head_object_shape c.new-head.ensures c.requires.1 c.requires.3 in
    let hash : c.hash_bytes_of-hb.result ≤ 4 = rw c.hash_bytes_of-hb.ensures (hash_bytes_le_4 _) in
    omega arith

pub overflow_mul-result : goal.overflow_mul-result
overflow_mul-result c =
    let o : ObjectShape c.new-head.result.shape = head_object_shape c.new-head.ensures c.requires.1 c.requires.3 in
    omega arith

pub overflow_add-result : goal.overflow_add-result
overflow_add-result c =
    let o : ObjectShape c.new-head.result.shape = head_object_shape c.new-head.ensures c.requires.1 c.requires.3 in
    let hash : c.hash_bytes_of-hb.result ≤ 4 = rw c.hash_bytes_of-hb.ensures (hash_bytes_le_4 _) in
    omega arith

pub returns : goal.returns
returns c =
    let a = c.args in
    let hd = c.new-head.result in
    let i = c.new-head.ensures in
    let o : ObjectShape hd.shape = head_object_shape i c.requires.1 c.requires.3 in
    let hash : c.hash_bytes_of-hb.result ≤ 4 = rw c.hash_bytes_of-hb.ensures (hash_bytes_le_4 _) in
    let tag : 0x40 ≤ a.tag = object_tag a.tag a.form c.requires.2 c.requires.3 in
    rw (c.record.ensures, i.cache, i.origin, i.known, c.hash_alone-middle.ensures)
    (object_record hd.top a.before.address a.before.cache a.origin c.in_ok-known.known hd.hash_kind c.hash_bytes_of-hb.result hd.shape a.s.now a.at
    c.in_ok-address.address c.class_word-class.result _ _ _ _ o c.hash_bytes_of-hb.ensures (sym c.in_ok-address.ensures) c.class_word-class.ensures
    refl refl refl refl (sym c.if-not-refs_in_range.ensures) (omega arith)
    a.header a.tag a.form i.top i.hash_kind i.shape (omega arith) c.requires.2 (sym c.in_ok-known.ensures))
