-- The size of an encoded record: each part has as many bytes as its fields' widths add up to, and the record `plan_size`.
-- Assumes nothing.
use Rattle.std.specs.Prelude.{◌≡◌, ℕ, ◌+◌, ◌*◌, ◌≤◌, List, cond, length, ltb}
use Rattle.std.proofs.Common.{mul-le-mul_left, arith, length-append}
use Rattle.decode.specs.Values.{bit_le_one}
use Rattle.encode.specs.NumberRoundTrip.{length_be}
use Rattle.encode.specs.SetsLaws.{length_encode_ref_list as length_of_refs}
use Rattle.phd.specs.Phd.{hash_bytes}
use Rattle.phd.specs.Shapes.{WidthsLe8, hash_bytes_le_8, record_bytes}
use Rattle.phd.specs.declared.Shape.{Shape}
use Rattle.phd_plan.specs.declared.Plan.{Plan}
use Rattle.table.specs.declared.Row.{Row}
use Rattle.phd_encode.specs.EncodeRecord.{encode_tag, encode_front, encode_middle, encode_name, encode_refs, encode_tail, encode_fields, encode_planned, plan_size}

length_tag : (p : Plan) → length (encode_tag p) ≡ 1 + cond (ltb p.tag 0x20) 1 0
unfolding encode_tag
length_tag p = simp (length-append, length_be)

pub length_front : (before : ℕ) (sh : Shape) (r : Row) → length (encode_front before sh r) ≡ sh.gap + sh.class + sh.len
unfolding encode_front
length_front before sh r = simp (length-append, length_be) (omega arith)

pub length_middle : (sh : Shape) (r : Row) → length (encode_middle sh r) ≡ sh.inst + hash_bytes r.hashkind + sh.superclass
unfolding encode_middle
length_middle sh r = simp (length-append, length_be) (omega arith)

pub length_name : (sh : Shape) (r : Row) (name : List ℕ) → length (encode_name sh r name) ≡ sh.name + length name
unfolding encode_name
length_name sh r name = simp (length-append, length_be)

length_refs : (sh : Shape) (r : Row) (refs : List ℕ) → length (encode_refs sh r refs) ≡ sh.countwidth + length refs * sh.refwidth
unfolding encode_refs
length_refs sh r refs = simp (length-append, length_be, length_of_refs)

length_tail : (sh : Shape) (r : Row) → length (encode_tail sh r) ≡ sh.size + sh.truelen
unfolding encode_tail
length_tail sh r = simp (length-append, length_be)

-- A record has `plan_size` bytes if its references and name bytes are as many as the row states.
pub length_encode_planned : (before : ℕ) (p : Plan) (r : Row) (refs name : List ℕ) → length refs ≡ r.count → length name ≡ r.namelen
    → length (encode_planned before p r refs name) ≡ plan_size p r
unfolding encode_planned encode_fields record_bytes
length_encode_planned before p r refs name e f =
    let sh : Shape = p.shape in
    simp (length-append, length_tag p, length_front before sh r, length_middle sh r, length_name sh r name, length_refs sh r refs, length_tail sh r, e, f) (omega arith)

-- ---- bounds, by which no sum exceeds 64 bits

-- n references take at most 8 n bytes.
pub ref_bytes_most : (sh : Shape) (n : ℕ) → sh.refwidth ≤ 8 → n * sh.refwidth ≤ n * 8
ref_bytes_most sh n h = mul-le-mul_left n h

-- A record takes at most 128 bytes, those of its name, and 8 for each reference.
pub plan_size_most : (p : Plan) (r : Row) → WidthsLe8 p.shape → plan_size p r ≤ 128 + r.namelen + r.count * 8
unfolding record_bytes
plan_size_most p r n =
    let a = bit_le_one (ltb p.tag 0x20) in
    let b = hash_bytes_le_8 r.hashkind in
    let c = ref_bytes_most p.shape r.count n.refwidth in
    omega arith
