use Rattle.std.proofs.Common.{◌≡◌, ◌+◌, ◌*◌, ◌/◌, ◌≤◌, ◌<◌, length, refl, sym, ap, ◌∙◌, arith}
use Rattle.phd.specs.Shapes.{hash_bytes_le_4}
use Rattle.phd_record.proofs.ArrayLaws.{PrimitiveShape, head_primitive_shape, primitive_whole}
use Rattle.phd_record.proofs.fast.read_primitive.Goals as goal

pub count_at-requires : goal.count_at-requires
count_at-requires c =
    let q : PrimitiveShape c.new-head.result.shape = head_primitive_shape c.new-head.ensures in
    omega arith

pub hash_alone-middle-requires : goal.hash_alone-middle-requires
hash_alone-middle-requires c =
    let q : PrimitiveShape c.new-head.result.shape = head_primitive_shape c.new-head.ensures in
    let hash : c.hash_bytes_of-hb.result ≤ 4 = rw c.hash_bytes_of-hb.ensures (hash_bytes_le_4 _) in
    omega arith

pub overflow_add-place : goal.overflow_add-place
overflow_add-place c =
    let q : PrimitiveShape c.new-head.result.shape = head_primitive_shape c.new-head.ensures in
    let hash : c.hash_bytes_of-hb.result ≤ 4 = rw c.hash_bytes_of-hb.ensures (hash_bytes_le_4 _) in
    omega arith

pub be_u32-requires : goal.be_u32-requires
be_u32-requires c =
    let q : PrimitiveShape c.new-head.result.shape = head_primitive_shape c.new-head.ensures in
    let hash : c.hash_bytes_of-hb.result ≤ 4 = rw c.hash_bytes_of-hb.ensures (hash_bytes_le_4 _) in
    omega arith

pub overflow_add-result : goal.overflow_add-result
overflow_add-result c =
    let q : PrimitiveShape c.new-head.result.shape = head_primitive_shape c.new-head.ensures in
    let hash : c.hash_bytes_of-hb.result ≤ 4 = rw c.hash_bytes_of-hb.ensures (hash_bytes_le_4 _) in
    omega arith

pub returns : goal.returns
returns c =
    let a = c.args in
    let hd = c.new-head.result in
    let i = c.new-head.ensures in
    let q : PrimitiveShape c.new-head.result.shape = head_primitive_shape c.new-head.ensures in
    let hash : c.hash_bytes_of-hb.result ≤ 4 = rw c.hash_bytes_of-hb.ensures (hash_bytes_le_4 _) in
    rw (c.record.ensures, i.cache, i.origin, i.known, c.hash_alone-middle.ensures)
    (primitive_whole a.header a.before.address a.before.cache a.origin a.s.now a.at hd.top hd.hash_kind hd.shape a.tag c.hash_bytes_of-hb.result
    c.in_ok-address.address c.in_ok-len.len _ c.be_u32.result c.requires.2 i.top i.hash_kind i.shape c.hash_bytes_of-hb.ensures (omega arith)
    (sym c.in_ok-address.ensures) (sym c.in_ok-len.ensures) refl c.be_u32.ensures.is)
