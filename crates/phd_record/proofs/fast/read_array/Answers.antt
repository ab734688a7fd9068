use Rattle.std.proofs.Common.{◌≡◌, ◌+◌, ◌*◌, ◌/◌, ◌≤◌, ◌<◌, length, refl, sym, ap, ◌∙◌, arith}
use Rattle.phd_record.specs.FastPath.{ClassWidth}
use Rattle.phd_record.proofs.FastRecordLaws.{class_width_le_8}
use Rattle.phd_record.proofs.ArrayLaws.{head_array_shape, head_array_class, array_front}
use Rattle.phd_record.proofs.fast.read_array.Goals as goal

pub class_word-requires : goal.class_word-requires
class_word-requires c = (omega arith, head_array_class c.new-head.ensures c.requires.1)

pub read_array_from_hash-requires : goal.read_array_from_hash-requires
read_array_from_hash-requires c =
    let i = c.new-head.ensures in
    let class : c.new-head.result.shape.class ≤ 8 = class_width_le_8 _ (head_array_class i c.requires.1) in
    (omega arith, head_array_shape i c.requires.1, i.known, sym c.if-not-refs_in_range.ensures)

pub returns : goal.returns
returns c =
    let a = c.args in
    let hd = c.new-head.result in
    let i = c.new-head.ensures in
    let class : hd.shape.class ≤ 8 = class_width_le_8 _ (head_array_class i c.requires.1) in
    let rest = rw (i.cache, i.origin) at c.read_array_from_hash.ensures in
    rw
    (array_front a.header a.before.address a.before.cache a.origin a.s.now a.at hd.top hd.hash_kind hd.shape a.tag c.be_upto4-flags.result
    c.in_ok-address.address c.class_word.result c.requires.2 c.be_upto4-flags.ensures.is (sym c.if-not-flags_allowed.ensures) i.top i.hash_kind i.shape
    (omega arith) (sym c.in_ok-address.ensures) c.class_word.ensures)
    rest
