-- If the bytes of an array are present, its layout gives the record that the fast path makes, part by part.
use mathlib.Core.Path.{◌≡◌, refl, ap, ◌∙◌}
use mathlib.Core.Bool.{Bool, true, false, not, ◌&&◌, ◌||◌}
use mathlib.Core.List.{List, []}
use Prim.Native.Nat.{ℕ, ◌+◌, ◌*◌, ◌/◌, ◌^◌, ◌≤◌, ◌<◌}
use native.Mathlib.Nat.{mul-le-mul}
use native.Mathlib.Omega.{arith}
use lib.ListN.{length, take, drop}
use borrow.Author.Tests.{le-leb}
use Rattle.decode.specs.Numbers.{value, signed, add_gap, to_count}
use Rattle.decode.specs.Layout.{whole, stops, run, field, run_then, run_yield, run_position, run_field, run_check, run_need}
use Rattle.decode.specs.Fields.{no_string}
use Rattle.decode.specs.ReadsAs.{map_outcome}
use Rattle.std.specs.Prelude.{Some, ℤ}
use Rattle.decode.specs.declared.Stop.TheVariants.{Refused}
use Rattle.decode.specs.declared.StringSpan.{StringSpan}
use Rattle.decode.specs.Values.{to_count_lt}
use Rattle.decode_fast.specs.RefsInRange.{refs_in_range, refs_in_range_width}
use Rattle.phd.specs.Phd.{max_address, tag_form, need_form, slot_class, flags_allowed, flag_byte, hash_kind, hash_bytes, shape, front, middle, class_name, ref_count, ref_list, spanned_refs, true_length, tail, from_ref_count, fields, record_body}
use Rattle.phd.specs.RefList.{ref_list_none}
use Rattle.phd.specs.declared.Header.{Header}
use Rattle.phd.specs.declared.Form.TheVariants.{ObjectArray, Primitive}
use Rattle.phd.specs.declared.Origin.{Origin}
use Rattle.phd.specs.declared.Shape.{Shape}
use Rattle.phd.specs.declared.Front.{Front}
use Rattle.phd.specs.declared.Middle.{Middle}
use Rattle.phd.specs.declared.Tail.{Tail}
use Rattle.phd.specs.declared.cache.Cache.{Cache}
use Rattle.phd_record.specs.RecordReads.{record_of, make_record, IsHead}
use Rattle.phd_record.specs.FastPath.{ClassWidth}
use Rattle.phd_record.specs.declared.head.Head.{Head}
use Rattle.phd.specs.Shapes.{ValidBits}
use Rattle.phd_record.specs.Arrays.{ArrayShape, after_front}
use Rattle.phd_record.proofs.FastRecordLaws.{bits_class_width, run_field_value, run_address, run_count, absent_field, absent_count, absent_name, absent_ref_count, absent_true_length, ref_list_in_range, primitive_tag, front_whole, middle_whole, tail_whole, fields_whole, record_body_no_flags, slot_class_none}

-- ---- fields of 4 bytes, and the hash

module _ (s : List ℕ) (at w v : ℕ) (four : w ≡ 4) (in_bounds : at + 4 ≤ length s) where
  field_of_4 : v ≡ value (take 4 (drop at s)) → run (field w) s at ≡ whole v (at + 4)
  field_of_4 e = rw (four, e, run_field 4 s at in_bounds)

  ref_count_of_4 : (k : ℕ) → to_count (signed 4 (value (take 4 (drop at s)))) ≡ Some v → run (ref_count w k) s at ≡ whole v (at + 4)
  unfolding ref_count
  ref_count_of_4 k e = rw four (run_count s at 4 v in_bounds e)

  -- A true length of at least the reference count n is accepted.
  true_length_of_4 : (n : ℕ) → to_count (signed 4 (value (take 4 (drop at s)))) ≡ Some v → n ≤ v → run (true_length w n) s at ≡ whole v (at + 4)
  unfolding true_length
  true_length_of_4 n e l = rw (four, run_then, run_count s at 4 v in_bounds e, run_then, run_check, le-leb n v l, run_yield)

hash_whole : (s : List ℕ) (sh : Shape) (hk hb hash at : ℕ) → sh.inst ≡ 0 → sh.superclass ≡ 0 → hb ≡ hash_bytes hk
    → hash ≡ value (take hb (drop at s)) → at + hb ≤ length s
    → run (middle sh (hash_bytes hk)) s at ≡ whole (record { inst = 0; hash = hash; superclass = 0 }) (at + hb)
hash_whole s sh hk hb hash at i u eb eh h =
    rw (← eb)
    (middle_whole s at sh hb 0 hash 0 at (at + hb) (at + hb)
    (absent_count s at sh.inst i (omega arith))
    (run_field_value s at hb hash (at + hb) h refl eh)
    (absent_field s (at + hb) sh.superclass u h))

-- ---- object arrays

-- A flag byte that is allowed is the byte after the tag of an object array.
array_flags : (h : Header) (s : List ℕ) (at f : ℕ) → at + 1 ≤ length s → f ≡ value (take 1 (drop at s)) → flags_allowed h 8 f ≡ true
    → run (flag_byte h 8) s at ≡ whole f (at + 1)
unfolding flag_byte
array_flags h s at f l e k = rw (run_then, run_field 1 s at l, ← e, run_then, run_check, k, run_yield)

-- The flag byte of an object array takes one byte.
pub flag_byte_end : (h : Header) (s : List ℕ) (at f p : ℕ) → at + 1 ≤ length s → run (flag_byte h 8) s at ≡ whole f p → p ≡ at + 1
unfolding flag_byte
flag_byte_end h s at f p l e = by (flags_allowed h 8 x) refl
  where
    x : ℕ
    x = value (take 1 (drop at s))

    by : (b : Bool) → flags_allowed h 8 x ≡ b → p ≡ at + 1
    by true k =
        let g : run (flag_byte h 8) s at ≡ whole x (at + 1) = rw (run_then, run_field 1 s at l, run_then, run_check, k, run_yield) in
        cc
    by false k =
        let g : run (flag_byte h 8) s at ≡ stops (Refused 11) = rw (run_then, run_field 1 s at l, run_then, run_check, k) in
        let z : ◌≡◌ {A = ℕ} 0 1 = cc in
        absurd (omega arith)

module _ (w t f : ℕ) where
  -- An object array has the shape `ArrayShape`, a class word of w bytes, and no array length field.
  array_shape : ArrayShape (shape w ObjectArray t f)
  unfolding shape
  array_shape = record { inst = refl; superclass = refl; name = refl; countwidth = refl; size = refl; truelen = refl }

  array_class : (shape w ObjectArray t f).class ≡ w
  unfolding shape
  array_class = refl

  array_len : (shape w ObjectArray t f).len ≡ 0
  unfolding shape
  array_len = refl

-- The references of an array take at most 2^33 bytes.
pub refs_bytes_le : (n w a top : ℕ) (x : ℤ) → to_count x ≡ Some n → refs_in_range w a top ≡ true → n * w ≤ 2 ^ 31 * 4
refs_bytes_le n w a top x e r =
    let l : n < 2 ^ 31 = to_count_lt _ _ e in
    mul-le-mul {n₂ = 2 ^ 31} (omega arith) (refs_in_range_width w a top r)

-- What is known of an object array before its fields are read.
module _ {h : Header} {c : Cache} {o : Origin} {k t f : ℕ} {hd : Head} (i : IsHead h c o k ObjectArray t f hd) (v : ValidBits h.bits) where
  pub head_array_shape : ArrayShape hd.shape
  head_array_shape = rw i.shape (array_shape _ _ _)

  pub head_array_class : ClassWidth hd.shape.class
  head_array_class = rw (ap (λ (q : Shape). q.class) i.shape ∙ array_class _ _ _) (bits_class_width _ v)

-- The fields after the front part.
module _ (top : ℕ) (c : Cache) (origin : Origin) (hk : ℕ) (sh : Shape) (v : Front) (s : List ℕ) (at : ℕ) where
  after_front_whole : (m : Middle) (name : StringSpan) (n : ℕ) (rs : List ℕ) (t : Tail) (p1 p2 p3 p4 p5 : ℕ)
      → run (middle sh (hash_bytes hk)) s at ≡ whole m p1
      → run (class_name sh.name) s p1 ≡ whole name p2
      → run (ref_count sh.countwidth sh.count) s p2 ≡ whole n p3
      → run (ref_list sh.refwidth v.address top n) s p3 ≡ whole rs p4
      → run (tail sh.size sh.truelen n) s p4 ≡ whole t p5
      → map_outcome record_of (run (after_front top c origin hk sh v) s at) ≡ whole (Some (make_record p3 n t c origin 0 hk sh v m name)) p5
  unfolding after_front from_ref_count spanned_refs make_record
  after_front_whole m name n rs t p1 p2 p3 p4 p5 f g h i j =
      rw (run_then, f, run_then, g, run_then, h, run_then, run_then, run_position, run_then, i, run_yield, run_then, j, run_yield)

  -- If all bytes are present, the references are in range and the true length is at least the count n, the layout gives the
  -- object array with these numbers.
  pub array_after_front : (hb hash n size truelen : ℕ) → ArrayShape sh → hb ≡ hash_bytes hk → refs_in_range sh.refwidth v.address top ≡ true
      → hash ≡ value (take hb (drop at s)) → to_count (signed 4 (value (take 4 (drop (at + hb) s)))) ≡ Some n
      → at + hb + 4 + n * sh.refwidth + 8 ≤ length s
      → size ≡ value (take 4 (drop (at + hb + 4 + n * sh.refwidth) s))
      → to_count (signed 4 (value (take 4 (drop (at + hb + 4 + n * sh.refwidth + 4) s)))) ≡ Some truelen → n ≤ truelen
      → map_outcome record_of (run (after_front top c origin hk sh v) s at)
      ≡ whole (Some (make_record (at + hb + 4) n (record { size = size; truelen = truelen }) c origin 0 hk sh v
      (record { inst = 0; hash = hash; superclass = 0 }) no_string)) (at + hb + 4 + n * sh.refwidth + 8)
  array_after_front hb hash n size truelen a eb far eh en in_bounds es et l =
      let place : ℕ = at + hb + 4 in
      let end : ℕ = place + n * sh.refwidth in
      let r = ref_list_in_range sh.refwidth v.address top s far n place (omega arith) in
      let e : end + 4 + 4 ≡ end + 8 = omega arith in
      rw (← e)
      (after_front_whole _ _ n r.0 _ (at + hb) (at + hb) place end (end + 4 + 4)
      (hash_whole s sh hk hb hash at a.inst a.superclass eb eh (omega arith))
      (absent_name s (at + hb) sh.name a.name)
      (ref_count_of_4 s (at + hb) sh.countwidth n a.countwidth (omega arith) sh.count en)
      r.1
      (tail_whole s end sh.size sh.truelen n size truelen (end + 4) (end + 4 + 4)
      (field_of_4 s end sh.size size a.size (omega arith) es)
      (true_length_of_4 s (end + 4) sh.truelen truelen a.truelen (omega arith) n et l)))

module _ (h : Header) (before : ℕ) (c : Cache) (origin : Origin) (s : List ℕ) (at top hk : ℕ) (sh : Shape) where
  array_fields : (f p : ℕ) → run (flag_byte h 8) s at ≡ whole f p
      → run (record_body h before c origin 8) s at
      ≡ run (fields (max_address h.bits) before c origin 0 (hash_kind h 8 f) (shape (h.bits / 8) ObjectArray 8 f)) s p
  unfolding record_body tag_form need_form slot_class
  array_fields f p e = rw (run_then, run_yield, run_then, run_need, run_then, e)

  fields_after_front : (v : Front) (p q : ℕ) → run (front top before sh) s p ≡ whole v q
      → run (fields top before c origin 0 hk sh) s p ≡ run (after_front top c origin hk sh v) s q
  unfolding fields after_front
  fields_after_front v p q e = rw (run_then, e)

  -- After flag byte, gap and class word, `after_front` is left.
  pub array_front : (t f a w : ℕ) → t ≡ 8 → f ≡ value (take 1 (drop at s)) → flags_allowed h t f ≡ true
      → top ≡ max_address h.bits → hk ≡ hash_kind h t f → sh ≡ shape (h.bits / 8) ObjectArray t f
      → at + 1 + sh.gap + sh.class ≤ length s
      → add_gap top before (signed sh.gap (value (take sh.gap (drop (at + 1) s)))) ≡ Some a
      → w ≡ value (take sh.class (drop (at + 1 + sh.gap) s))
      → run (record_body h before c origin t) s at
      ≡ run (after_front top c origin hk sh (record { address = a; class = w; len = 0 })) s (at + 1 + sh.gap + sh.class)
  array_front t f a w e8 ef ok et ek es in_bounds ea ew =
      let p : ℕ = at + 1 in
      let q : ℕ = p + sh.gap + sh.class in
      let n : sh.len ≡ 0 = rw es (array_len (h.bits / 8) t f) in
      let flags : run (flag_byte h 8) s at ≡ whole f p = array_flags h s at f (omega arith) ef (rw e8 at ok) in
      let i : run (record_body h before c origin t) s at ≡ run (fields top before c origin 0 hk sh) s p =
      rw (et, ek, es, e8) (array_fields f p flags) in
      i
      ∙ fields_after_front _ p q
      (front_whole s p top before sh a w 0 (p + sh.gap) q q
      (run_address s p sh.gap before top a (omega arith) ea)
      (run_field_value s (p + sh.gap) sh.class w q in_bounds refl ew)
      (absent_count s q sh.len n in_bounds))

-- ---- primitive arrays

-- The shape of a primitive array: the fields that it lacks, one width for gap and length, and a size of 4 bytes.
pub record PrimitiveShape (sh : Shape) : Type 0 where
  pub class : sh.class ≡ 0
  pub len : sh.len ≡ sh.gap
  pub inst : sh.inst ≡ 0
  pub superclass : sh.superclass ≡ 0
  pub name : sh.name ≡ 0
  pub countwidth : sh.countwidth ≡ 0
  pub count : sh.count ≡ 0
  pub size : sh.size ≡ 4
  pub truelen : sh.truelen ≡ 0

primitive_shape : (w t f : ℕ) → PrimitiveShape (shape w Primitive t f)
unfolding shape
primitive_shape w t f = record {
  class = refl;
  len = refl;
  inst = refl;
  superclass = refl;
  name = refl;
  countwidth = refl;
  count = refl;
  size = refl;
  truelen = refl;
}

pub head_primitive_shape : {h : Header} {c : Cache} {o : Origin} {k t f : ℕ} {hd : Head} → IsHead h c o k Primitive t f hd → PrimitiveShape hd.shape
head_primitive_shape i = rw i.shape (primitive_shape _ _ _)

-- If all bytes are present and address and length are in range, the layout gives the primitive array with these numbers.
pub primitive_whole : (h : Header) (before : ℕ) (c : Cache) (origin : Origin) (s : List ℕ) (at top hk : ℕ) (sh : Shape) (t hb a n hash size : ℕ)
    → tag_form t ≡ Some Primitive
    → top ≡ max_address h.bits → hk ≡ hash_kind h t 0 → sh ≡ shape (h.bits / 8) Primitive t 0 → hb ≡ hash_bytes hk
    → at + sh.gap + sh.len + hb + 4 ≤ length s
    → add_gap top before (signed sh.gap (value (take sh.gap (drop at s)))) ≡ Some a
    → to_count (signed sh.len (value (take sh.len (drop (at + sh.gap) s)))) ≡ Some n
    → hash ≡ value (take hb (drop (at + sh.gap + sh.len) s))
    → size ≡ value (take 4 (drop (at + sh.gap + sh.len + hb) s))
    → map_outcome record_of (run (record_body h before c origin t) s at)
    ≡ whole (Some (make_record (at + sh.gap + sh.len + hb) 0 (record { size = size; truelen = 0 }) c origin 0 hk sh
    (record { address = a; class = 0; len = n }) (record { inst = 0; hash = hash; superclass = 0 }) no_string)) (at + sh.gap + sh.len + hb + 4)
primitive_whole h before c origin s at top hk sh t hb a n hash size is et ek es eb in_bounds ea en eh ez =
    let q : PrimitiveShape sh = rw es (primitive_shape (h.bits / 8) t 0) in
    let from : ℕ = at + sh.gap + sh.len in
    let place : ℕ = from + hb in
    let i : run (record_body h before c origin t) s at ≡ run (fields top before c origin 0 hk sh) s at =
    rw (et, ek, es) (record_body_no_flags h before c origin t s at Primitive 0 (primitive_tag t is).0 (omega arith) is (slot_class_none c t (primitive_tag t is).1)) in
    ap (map_outcome record_of) i
    ∙ fields_whole top before c origin 0 hk sh s at _ _ _ 0 [] _ from place place place place (place + 4)
    (front_whole s at top before sh a 0 n (at + sh.gap) (at + sh.gap) from
    (run_address s at sh.gap before top a (omega arith) ea)
    (absent_field s (at + sh.gap) sh.class q.class (omega arith))
    (run_count s (at + sh.gap) sh.len n (omega arith) en))
    (hash_whole s sh hk hb hash from q.inst q.superclass eb eh (omega arith))
    (absent_name s place sh.name q.name)
    (absent_ref_count s place sh.countwidth q.countwidth sh.count ∙ ap (λ (k : ℕ). whole k place) q.count)
    (ref_list_none sh.refwidth a top s place)
    (tail_whole s place sh.size sh.truelen 0 size 0 (place + 4) (place + 4)
    (field_of_4 s place sh.size size q.size in_bounds ez)
    (absent_true_length s (place + 4) sh.truelen q.truelen 0))
