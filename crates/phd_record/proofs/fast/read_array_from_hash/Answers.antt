use Rattle.std.proofs.Common.{◌≡◌, ◌+◌, ◌*◌, ◌/◌, ◌^◌, ◌≤◌, ◌<◌, length, refl, sym, ap, ◌∙◌, arith}
use Rattle.phd.specs.Shapes.{hash_bytes_le_4}
use Rattle.phd_record.proofs.ArrayLaws.{array_after_front, refs_bytes_le}
use Rattle.phd_record.proofs.fast.read_array_from_hash.Goals as goal

pub hash_alone-middle-requires : goal.hash_alone-middle-requires
hash_alone-middle-requires c =
    let hash : c.hash_bytes_of-hb.result ≤ 4 = rw c.hash_bytes_of-hb.ensures (hash_bytes_le_4 _) in
    omega arith

pub overflow_add-at : goal.overflow_add-at
overflow_add-at c =
    let hash : c.hash_bytes_of-hb.result ≤ 4 = rw c.hash_bytes_of-hb.ensures (hash_bytes_le_4 _) in
    omega arith

pub count_at-requires : goal.count_at-requires
count_at-requires c =
    let hash : c.hash_bytes_of-hb.result ≤ 4 = rw c.hash_bytes_of-hb.ensures (hash_bytes_le_4 _) in
    omega arith

pub overflow_add-place : goal.overflow_add-place
overflow_add-place c =
    let hash : c.hash_bytes_of-hb.result ≤ 4 = rw c.hash_bytes_of-hb.ensures (hash_bytes_le_4 _) in
    omega arith

pub overflow_add-place-2 : goal.overflow_add-place-2
overflow_add-place-2 c =
    let hash : c.hash_bytes_of-hb.result ≤ 4 = rw c.hash_bytes_of-hb.ensures (hash_bytes_le_4 _) in
    omega arith

pub overflow_mul-end : goal.overflow_mul-end
overflow_mul-end c =
    let refs : c.in_ok-count.count * c.args.head.shape.refwidth ≤ 2 ^ 31 * 4 = refs_bytes_le _ _ _ _ _ (sym c.in_ok-count.ensures) c.requires.3 in
    let hash : c.hash_bytes_of-hb.result ≤ 4 = rw c.hash_bytes_of-hb.ensures (hash_bytes_le_4 _) in
    omega arith

pub overflow_add-end : goal.overflow_add-end
overflow_add-end c =
    let refs : c.in_ok-count.count * c.args.head.shape.refwidth ≤ 2 ^ 31 * 4 = refs_bytes_le _ _ _ _ _ (sym c.in_ok-count.ensures) c.requires.3 in
    let hash : c.hash_bytes_of-hb.result ≤ 4 = rw c.hash_bytes_of-hb.ensures (hash_bytes_le_4 _) in
    omega arith

pub overflow_add-end-2 : goal.overflow_add-end-2
overflow_add-end-2 c =
    let refs : c.in_ok-count.count * c.args.head.shape.refwidth ≤ 2 ^ 31 * 4 = refs_bytes_le _ _ _ _ _ (sym c.in_ok-count.ensures) c.requires.3 in
    let hash : c.hash_bytes_of-hb.result ≤ 4 = rw c.hash_bytes_of-hb.ensures (hash_bytes_le_4 _) in
    omega arith

pub returns : goal.returns
returns c =
    let a = c.args in
    let hd = c.args.head in
    rw (c.record.ensures, c.requires.2, c.hash_alone-middle.ensures)
    (array_after_front hd.top hd.cache hd.origin hd.hash_kind hd.shape a.front a.s.now a.at c.hash_bytes_of-hb.result _ c.in_ok-count.count c.be_u32.result
    c.in_ok-truelen.truelen c.requires.1 c.hash_bytes_of-hb.ensures c.requires.3 refl (sym c.in_ok-count.ensures) c.if-s-end.false c.be_u32.ensures.is
    (sym c.in_ok-truelen.ensures) c.if-truelen-count.false)
