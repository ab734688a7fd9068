-- If the bytes of a record are present and its references are in range by its address alone, its layout gives the record that the
-- fast path makes, part by part.
use mathlib.Core.Path.{◌≡◌, refl, sym, ap, ◌∙◌}
use mathlib.Core.Bool.{Bool, true, false, cond}
use mathlib.Core.List.{List, [], ◌∷◌}
use mathlib.Core.Logic.{◌⊎◌, inl, inr, ⊎_elim}
use Prim.Native.Nat.{ℕ, zero, suc, ◌+◌, ◌-◌, ◌*◌, ◌/◌, ◌%◌, ◌≤◌, ◌<◌}
use native.Mathlib.Nat.{suc-mul, mul-le-mul}
use native.Mathlib.Omega.{arith}
use borrow.Author.Tests.{le-leb, lt-leb, ne_eqb}
use Rattle.std.proofs.lemmas.Bool.{leb-true, leb-false, eqb-true}
use lib.Dec.{leb}
use lib.ListN.{length, take, drop}
use Rattle.decode.specs.Numbers.{value, value_after, signed, add_gap, to_count}
use Rattle.decode.specs.Layout.{Outcome, whole, stops, and_then, run, field, end_in_bounds, run_then, run_refuse, run_yield, run_position, run_field, run_field_empty, run_need}
use Rattle.decode.specs.Fields.{address, count, no_string}
use Rattle.decode.specs.ReadsAs.{map_outcome, mapped_whole}
use Rattle.std.specs.Prelude.{Some}
use Rattle.decode.specs.declared.Stop.TheVariants.{Refused}
use Rattle.decode.specs.declared.StringSpan.{StringSpan}
use Rattle.phd_record.specs.declared.Record.{Record}
use Rattle.decode_fast.specs.RefsInRange.{refs_in_range, target, run_ref_in_range}
use Rattle.phd.specs.Phd.{Item, max_address, width, tag_form, need_form, slot_class, hash_kind, hash_bytes, shape, front, middle, class_name, ref_count, ref_list, spanned_refs, true_length, tail, from_ref_count, fields, record_body, from_tag, entry}
use Rattle.phd.specs.EntryLaws.{origin_at, no_flag_byte, entry_from_tag}
use Rattle.phd.specs.RefList.{prepend, ref_list_none, ref_list_next}
use Rattle.phd.specs.Shapes.{ValidBits, width_mono, tag_matches}
use Rattle.phd.specs.declared.cache.Cache.{Cache}
use Rattle.phd.specs.declared.Header.{Header}
use Rattle.phd.specs.declared.Form.{Form}
use Rattle.phd.specs.declared.Form.TheVariants.{Short, Medium, Primitive, ObjectArray}
use Rattle.phd.specs.declared.Front.{Front}
use Rattle.phd.specs.declared.Middle.{Middle}
use Rattle.phd.specs.declared.Origin.{Origin}
use Rattle.phd.specs.declared.Shape.{Shape}
use Rattle.phd.specs.declared.Tail.{Tail}
use Rattle.phd_record.specs.RecordReads.{record_of, make_record, IsHead}
use Rattle.phd_record.specs.declared.head.Head.{Head}
use Rattle.phd_record.specs.FastPath.{ClassWidth, ObjectForm}

-- ---- fields

-- A field whose bytes are present gives their value; as an address or a count, if it is in range.
module _ (s : List ℕ) (at n : ℕ) where
  pub run_field_value : (v e : ℕ) → e ≤ length s → e ≡ at + n → v ≡ value (take n (drop at s)) → run (field n) s at ≡ whole v e
  run_field_value v e h p q = rw (p, q, run_field n s at (omega arith))

  pub run_address : (base top a : ℕ) → at + n ≤ length s → add_gap top base (signed n (value (take n (drop at s)))) ≡ Some a
      → run (address n base top) s at ≡ whole a (at + n)
  unfolding address
  run_address base top a h e = rw (run_then, run_field n s at h, run_need, e)

  pub run_count : (k : ℕ) → at + n ≤ length s → to_count (signed n (value (take n (drop at s)))) ≡ Some k → run (count n) s at ≡ whole k (at + n)
  unfolding count
  run_count k h e = rw (run_then, run_field n s at h, run_need, e)

-- The value of no bytes is 0.
pub value_no_bytes : (s : List ℕ) (n : ℕ) → n ≡ 0 → 0 ≡ value (take n s)
unfolding value_after
value_no_bytes s n e = sym (ap (λ (k : ℕ). value (take k s)) e)

-- A field that a form lacks (n is 0) takes no bytes.
module _ (s : List ℕ) (at n : ℕ) (no : n ≡ 0) where
  pub absent_field : at ≤ length s → run (field n) s at ≡ whole 0 at
  absent_field h = rw (no, run_field_empty s at h)

  pub absent_count : at ≤ length s → run (count n) s at ≡ whole 0 at
  unfolding count signed to_count
  absent_count h = rw (no, run_then, run_field_empty s at h, run_need)

  pub absent_name : run (class_name n) s at ≡ whole no_string at
  unfolding class_name
  absent_name = rw (no, run_yield)

  pub absent_ref_count : (k : ℕ) → run (ref_count n k) s at ≡ whole k at
  unfolding ref_count
  absent_ref_count k = rw (no, run_yield)

  pub absent_true_length : (k : ℕ) → run (true_length n k) s at ≡ whole 0 at
  unfolding true_length
  absent_true_length k = rw (no, run_yield)

-- ---- references in range

-- n references are read whole if their bytes are present and every value of w bytes gives an address in range.
module _ (w a top : ℕ) (s : List ℕ) (c : refs_in_range w a top ≡ true) where
  pub ref_list_in_range : (n at : ℕ) → at + n * w ≤ length s → (rs : List ℕ) × (run (ref_list w a top n) s at ≡ whole rs (at + n * w))
  ref_list_in_range zero at h =
      let e : at + 0 * w ≡ at = omega arith in
      ([], rw (e, ref_list_none w a top s at))
  ref_list_in_range (suc n) at h =
      let e : suc n * w ≡ n * w + w = suc-mul n w in
      let l : at + w ≤ length s = omega arith in
      let m : at + w + n * w ≤ length s = omega arith in
      let f : at + w + n * w ≡ at + suc n * w = omega arith in
      let d : suc n - 1 ≡ n = omega arith in
      let more = ref_list_in_range n (at + w) m in
      let v : ℕ = target w a (value (take w (drop at s))) in (
        v ∷ more.0,
        ref_list_next w a top s (suc n) at (omega arith)
            ∙ ap (λ (o : Outcome ℕ). and_then o (λ r p. prepend r (run (ref_list w a top (suc n - 1)) s p))) (run_ref_in_range w a top s at c l)
            ∙ ap (λ (k : ℕ). prepend v (run (ref_list w a top k) s (at + w))) d
            ∙ ap (prepend v) more.1
            ∙ ap (whole (v ∷ more.0)) f,
      )

-- ---- parts of a record

-- Each part is read whole if its fields are.
module _ (s : List ℕ) (at : ℕ) where
  pub front_whole : (top before : ℕ) (sh : Shape) (a class len p q e : ℕ)
      → run (address sh.gap before top) s at ≡ whole a p
      → run (field sh.class) s p ≡ whole class q
      → run (count sh.len) s q ≡ whole len e
      → run (front top before sh) s at ≡ whole (record { address = a; class = class; len = len }) e
  unfolding front
  front_whole top before sh a class len p q e f g h = rw (run_then, f, run_then, g, run_then, h, run_yield)

  pub middle_whole : (sh : Shape) (hb inst hash superclass p q e : ℕ)
      → run (count sh.inst) s at ≡ whole inst p
      → run (field hb) s p ≡ whole hash q
      → run (field sh.superclass) s q ≡ whole superclass e
      → run (middle sh hb) s at ≡ whole (record { inst = inst; hash = hash; superclass = superclass }) e
  unfolding middle
  middle_whole sh hb inst hash superclass p q e f g h = rw (run_then, f, run_then, g, run_then, h, run_yield)

  pub tail_whole : (size truelen n z t p e : ℕ)
      → run (field size) s at ≡ whole z p
      → run (true_length truelen n) s p ≡ whole t e
      → run (tail size truelen n) s at ≡ whole (record { size = z; truelen = t }) e
  unfolding tail
  tail_whole size truelen n z t p e f g = rw (run_then, f, run_then, g, run_yield)

-- The fields after the tag and the flag byte give the whole record if each part is read whole.
module _ (top before : ℕ) (c : Cache) (origin : Origin) (known hk : ℕ) (sh : Shape) (s : List ℕ) (at : ℕ) where
  pub fields_whole : (v : Front) (m : Middle) (name : StringSpan) (n : ℕ) (rs : List ℕ) (t : Tail) (p1 p2 p3 p4 p5 p6 : ℕ)
      → run (front top before sh) s at ≡ whole v p1
      → run (middle sh (hash_bytes hk)) s p1 ≡ whole m p2
      → run (class_name sh.name) s p2 ≡ whole name p3
      → run (ref_count sh.countwidth sh.count) s p3 ≡ whole n p4
      → run (ref_list sh.refwidth v.address top n) s p4 ≡ whole rs p5
      → run (tail sh.size sh.truelen n) s p5 ≡ whole t p6
      → map_outcome record_of (run (fields top before c origin known hk sh) s at) ≡ whole (Some (make_record p4 n t c origin known hk sh v m name)) p6
  unfolding fields from_ref_count spanned_refs make_record
  fields_whole v m name n rs t p1 p2 p3 p4 p5 p6 f g h i j k =
      rw (run_then, f, run_then, g, run_then, h, run_then, i, run_then, run_then, run_position, run_then, j, run_yield, run_then, k, run_yield)

-- ---- records without a flag byte

module _ (h : Header) (before : ℕ) (c : Cache) (origin : Origin) (t : ℕ) (s : List ℕ) (at : ℕ) where
  -- After a tag from 0x20 on, the fields follow directly.
  pub record_body_no_flags : (fm : Form) (known : ℕ) → 0x20 ≤ t → at ≤ length s → tag_form t ≡ Some fm → slot_class c t ≡ Some known
      → run (record_body h before c origin t) s at
      ≡ run (fields (max_address h.bits) before c origin known (hash_kind h t 0) (shape (h.bits / 8) fm t 0)) s at
  unfolding record_body need_form
  record_body_no_flags fm known l i f k = rw (run_then, f, run_yield, run_then, run_need, k, run_then, no_flag_byte h t s at l i)

-- An entry whose tag is not the end tag is the tag and the record after it.
pub entry_body : (h : Header) (before : ℕ) (c : Cache) (index t : ℕ) (s : List ℕ) (at : ℕ) → at + 1 ≤ length s → t ≡ value (take 1 (drop at s)) → (t ≡ 3 → ⊥)
    → run (entry h before c index) s at ≡ run (record_body h before c (origin_at at index) t) s (at + 1)
unfolding from_tag
entry_body h before c index t s at l e n = rw (entry_from_tag, run_then, run_field 1 s at l, ← e, ne_eqb t 3 n)

-- The end tag begins no record.
end_tag_refused : (h : Header) (before : ℕ) (c : Cache) (o : Origin) (s : List ℕ) (at : ℕ) → run (record_body h before c o 3) s at ≡ stops (Refused 6)
unfolding record_body need_form tag_form
end_tag_refused h before c o s at = rw (run_then, run_refuse)

tag_not_end : (h : Header) (before : ℕ) (c : Cache) (o : Origin) (t : ℕ) (s : List ℕ) (at : ℕ) (i : Item) (n : ℕ)
    → run (record_body h before c o t) s at ≡ whole i n → t ≡ 3 → ⊥
tag_not_end h before c o t s at i n r e =
    let p : run (record_body h before c o 3) s at ≡ whole i n = rw e at r in
    let q : run (record_body h before c o 3) s at ≡ stops (Refused 6) = end_tag_refused h before c o s at in
    let z : ◌≡◌ {A = ℕ} 0 1 = cc in
    omega arith

-- A hit after the tag t at offset `at` is what the entry there says, and ends within the dump.
pub hit_reads : (h : Header) (before : ℕ) (c : Cache) (index t : ℕ) (s : List ℕ) (at : ℕ) (r : Record) (n : ℕ)
    → at + 1 ≤ length s → t ≡ value (take 1 (drop at s))
    → map_outcome record_of (run (record_body h before c (origin_at at index) t) s (at + 1)) ≡ whole (Some r) n
    → (map_outcome record_of (run (entry h before c index) s at) ≡ whole (Some r) n) × (n ≤ length s)
hit_reads h before c index t s at r n l e k =
    let v = mapped_whole record_of k in
    let o : Origin = origin_at at index in (
      rw (entry_body h before c index t s at l e (tag_not_end h before c o t s (at + 1) v.0 n v.1)) k,
      end_in_bounds (record_body h before c o t) s (at + 1) v.0 n l v.1,
    )

-- ---- short and medium objects

-- The shape of a short or medium object: the fields that it lacks, and the most bytes of its gap, its class word and all its
-- references (7 of 8 bytes); the tag counts the references.
pub record ObjectShape (sh : Shape) : Type 0 where
  pub len : sh.len ≡ 0
  pub inst : sh.inst ≡ 0
  pub superclass : sh.superclass ≡ 0
  pub name : sh.name ≡ 0
  pub countwidth : sh.countwidth ≡ 0
  pub size : sh.size ≡ 0
  pub truelen : sh.truelen ≡ 0
  pub gap : sh.gap ≤ 2
  pub class : sh.class ≤ 8
  pub refs : sh.count * sh.refwidth ≤ 56

module _ (w t : ℕ) where
  gap_le_2 : width (t / 0x04 % 2) ≤ 2
  unfolding width
  gap_le_2 = width_mono (t / 0x04 % 2) 1 (omega arith)

  refs_le_56 : (n : ℕ) → n ≤ 7 → n * width (t % 4) ≤ 56
  unfolding width
  refs_le_56 n h = mul-le-mul {n₁ = n} {m₁ = width (t % 4)} {n₂ = 7} {m₂ = 8} h (width_mono (t % 4) 3 (omega arith))

  short_object_shape : ObjectShape (shape w Short t 0)
  unfolding shape
  short_object_shape =
      let g : width (t / 0x04 % 2) ≤ 2 = gap_le_2 in
      let r : t / 0x08 % 4 * width (t % 4) ≤ 56 = refs_le_56 _ (omega arith) in
      omega arith

  medium_object_shape : w ≤ 8 → ObjectShape (shape w Medium t 0)
  unfolding shape
  medium_object_shape h =
      let g : width (t / 0x04 % 2) ≤ 2 = gap_le_2 in
      let r : t / 0x08 % 8 * width (t % 4) ≤ 56 = refs_le_56 _ (omega arith) in
      omega arith

-- W in bytes is a width of a class word.
pub bits_class_width : (w : ℕ) → ValidBits w → ClassWidth (w / 8)
bits_class_width w h = inr (⊎_elim (λ e. inl (omega arith)) (λ e. inr (omega arith)) h)

pub class_width_le_8 : (w : ℕ) → ClassWidth w → w ≤ 8
class_width_le_8 w h = ⊎_elim (λ e. omega arith) (λ r. ⊎_elim (λ e. omega arith) (λ e. omega arith) r) h

-- The shape of a short or a medium object.
module _ (w t : ℕ) (fm : Form) (o : ObjectForm fm) (h : ClassWidth w) where
  pub object_shape : ObjectShape (shape w fm t 0)
  object_shape = ⊎_elim (λ e. rw e (short_object_shape w t)) (λ e. rw e (medium_object_shape w t (class_width_le_8 w h))) o

  pub object_class_width : ClassWidth (shape w fm t 0).class
  unfolding shape
  object_class_width = ⊎_elim (λ e. rw e (inl refl)) (λ e. rw e h) o

-- The same of what is known of an object before its fields are read.
module _ {h : Header} {c : Cache} {o : Origin} {k t : ℕ} {fm : Form} {hd : Head} (i : IsHead h c o k fm t 0 hd) (v : ValidBits h.bits) (f : ObjectForm fm) where
  pub head_object_shape : ObjectShape hd.shape
  head_object_shape = rw i.shape (object_shape _ _ _ f (bits_class_width _ v))

  pub head_class_width : ClassWidth hd.shape.class
  head_class_width = rw (ap (λ (q : Shape). q.class) i.shape) (object_class_width _ _ _ f (bits_class_width _ v))

-- The tag of an object is 0x40 or more, that of a primitive array 0x20 to 0x3F, that of an object array 8.
module _ (t : ℕ) where
  pub object_tag : (fm : Form) → tag_form t ≡ Some fm → ObjectForm fm → 0x40 ≤ t
  object_tag fm e o =
      ⊎_elim
      (λ (p : fm ≡ Short). let m = tag_matches t Short (e ∙ ap Some p) in omega (arith, leb-true 0x80 t m))
      (λ (p : fm ≡ Medium). let m = tag_matches t Medium (e ∙ ap Some p) in omega (arith, leb-true 0x40 t m.1))
      o

  pub primitive_tag : tag_form t ≡ Some Primitive → (0x20 ≤ t) × (t < 0x80)
  primitive_tag e = let m = tag_matches t Primitive e in (leb-true 0x20 t m.1, leb-false 0x80 t m.0)

  pub array_tag : tag_form t ≡ Some ObjectArray → t ≡ 8
  array_tag e = let m = tag_matches t ObjectArray e in eqb-true t 8 m.1

-- A tag below 0x80 names no slot.
pub slot_class_none : (c : Cache) (t : ℕ) → t < 0x80 → slot_class c t ≡ Some 0
unfolding slot_class
slot_class_none c t l = rw (lt-leb 0x80 t l)

-- If the numbers in the code are those of the layout, the layout gives the object that the code makes.
module _ (top before : ℕ) (c : Cache) (origin : Origin) (known hk hb : ℕ) (sh : Shape) (s : List ℕ) (at a class from hash place end : ℕ) (ob : ObjectShape sh)
    (hbs : hb ≡ hash_bytes hk)
    (gap : add_gap top before (signed sh.gap (value (take sh.gap (drop at s)))) ≡ Some a)
    (wd : class ≡ value (take sh.class (drop (at + sh.gap) s)))
    (f : from ≡ at + sh.gap + sh.class)
    (hs : hash ≡ value (take hb (drop from s)))
    (p : place ≡ from + hb)
    (e : end ≡ place + sh.count * sh.refwidth)
    (far : refs_in_range sh.refwidth a top ≡ true)
    (i : end ≤ length s) where
  object_front : run (front top before sh) s at ≡ whole (record { address = a; class = class; len = 0 }) from
  object_front =
      front_whole s at top before sh a class 0 (at + sh.gap) from from
      (run_address s at sh.gap before top a (omega arith) gap)
      (run_field_value s (at + sh.gap) sh.class class from (omega arith) f wd)
      (absent_count s from sh.len ob.len (omega arith))

  object_middle : run (middle sh (hash_bytes hk)) s from ≡ whole (record { inst = 0; hash = hash; superclass = 0 }) place
  object_middle =
      rw (← hbs)
      (middle_whole s from sh hb 0 hash 0 from place place
      (absent_count s from sh.inst ob.inst (omega arith))
      (run_field_value s from hb hash place (omega arith) p hs)
      (absent_field s place sh.superclass ob.superclass (omega arith)))

  object_refs : (rs : List ℕ) × (run (ref_list sh.refwidth a top sh.count) s place ≡ whole rs (place + sh.count * sh.refwidth))
  object_refs = ref_list_in_range sh.refwidth a top s far sh.count place (omega arith)

  object_tail : run (tail sh.size sh.truelen sh.count) s end ≡ whole (record { size = 0; truelen = 0 }) end
  object_tail =
      tail_whole s end sh.size sh.truelen sh.count 0 0 end end
      (absent_field s end sh.size ob.size i)
      (absent_true_length s end sh.truelen ob.truelen sh.count)

  object_fields : map_outcome record_of (run (fields top before c origin known hk sh) s at)
      ≡ whole (Some (make_record place sh.count (record { size = 0; truelen = 0 }) c origin known hk sh (record { address = a; class = class; len = 0 })
      (record { inst = 0; hash = hash; superclass = 0 }) no_string)) end
  object_fields =
      fields_whole top before c origin known hk sh s at _ _ _ _ object_refs.0 _ from place place place end end
      object_front
      object_middle
      (absent_name s place sh.name ob.name)
      (absent_ref_count s place sh.countwidth ob.countwidth sh.count)
      (object_refs.1 ∙ ap (whole object_refs.0) (sym e))
      object_tail

  -- The record after the tag, if the numbers in the code are those of its tag.
  pub object_record : (h : Header) (t : ℕ) (fm : Form)
      → top ≡ max_address h.bits → hk ≡ hash_kind h t 0 → sh ≡ shape (h.bits / 8) fm t 0
      → 0x20 ≤ t → tag_form t ≡ Some fm → slot_class c t ≡ Some known
      → map_outcome record_of (run (record_body h before c origin t) s at)
      ≡ whole (Some (make_record place sh.count (record { size = 0; truelen = 0 }) c origin known hk sh (record { address = a; class = class; len = 0 })
      (record { inst = 0; hash = hash; superclass = 0 }) no_string)) end
  object_record h t fm tt hh ss l g k =
      rw (record_body_no_flags h before c origin t s at fm known l (omega arith) g k, ← tt, ← hh, ← ss) object_fields
