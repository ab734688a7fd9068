-- The writer's plan for a good record has the fewest bytes: any tag and flag byte by which the same record is read determine a
-- shape with at least as many. Each width is the least, and the form is the shortest in which the record can be read.
-- Assumes nothing.
use Rattle.std.specs.Prelude.{◌≡◌, ℕ, ◌+◌, ◌*◌, ◌/◌, ◌%◌, ◌≤◌, ◌<◌, Bool, cond, List, [], ◌∷◌, leb, eqb, Some, None}
use Rattle.std.proofs.Math.Path.{refl, ap}
use Rattle.std.proofs.Common.{subst, inl, inr, le-leb, le-ltb, lt-ltb, leb-true, leb-false}
use Rattle.std.proofs.Math.Nat.{mul-le-mul_left}
use native.Mathlib.Omega.{arith}
use Rattle.std.proofs.Math.Bool.{true, false}
use Rattle.decode.specs.Takes.{AddressIn, CountIn}
use Rattle.encode.specs.Widths.{AllFit}
use Rattle.encode.specs.ReadFits.{address_gap_fits, count_fits}
use Rattle.table.specs.Rows.{Rec}
use Rattle.phd.specs.Phd.{max_address, width, bit, tag_form, slot_class, moved_bit, hashed_bit, hash_kind, shape}
use Rattle.phd.specs.Shapes.{ValidBits, width_mono, record_bytes}
use Rattle.phd.specs.declared.cache.Cache.{Cache}
use Rattle.phd.specs.declared.Header.{Header}
use Rattle.phd.specs.declared.Form.{Form}
use Rattle.phd.specs.declared.Form.TheVariants.{Short, Medium, Long, Class, ObjectArray, Primitive, LongPrimitive}
use Rattle.phd_check.specs.WellFormed.{GoodRec}
use Rattle.phd_plan.specs.FormChoice.{find_slot, plan_input, Bounded, needs_flag_byte, make_plan}
use Rattle.phd_plan.specs.MinimalForm.{gap_least, ref_least, pair_least, CanHold, overhead, object_form_shortest}
use Rattle.phd_plan.specs.declared.PlanInput.{PlanInput}
use Rattle.phd_encode.specs.EncodeRecord.{plan_record, plan_size, record_size}
use Rattle.phd_encode.specs.TagBits.{find_slot_complete}
use Rattle.phd_encode.specs.PlanBounds.{address_size_of, good_plan_input_bounded}
use Rattle.phd_encode.specs.SizeFromRow.{make_size, hash_name_size, payload_size, primitive_size, class_plan_size, object_array_plan_size, object_plan_bytes, primitive_plan_size}
use Rattle.phd_encode.specs.declared.sizes.EncodedSize.{EncodedSize}
use Rattle.phd_read.specs.RecordLayout.{AllRelative, FitsShape, HasLayout}

-- ---- tags

-- A range that contains the tags of a form; tags from 0x20 on have no flag byte.
abbrev TagInForm : Form → ℕ → Type 0
TagInForm Short t = 0x80 ≤ t
TagInForm Medium t = 0x20 ≤ t
TagInForm Primitive t = 0x20 ≤ t
TagInForm Long t = t < 0x20
TagInForm Class t = t < 0x20
TagInForm LongPrimitive t = t < 0x20
TagInForm ObjectArray t = t < 0x20

tag_in_form : (fm : Form) (t : ℕ) → tag_form t ≡ Some fm → TagInForm fm t
unfolding tag_form
tag_in_form fm t = by (leb 0x80 t) (leb 0x40 t) (leb 0x20 t) (eqb t 4) (eqb t 6) (eqb t 7) (eqb t 8) refl refl refl
  where
    that : (f : Form) → TagInForm f t → Some f ≡ Some fm → TagInForm fm t
    that f x e = let z : f ≡ fm = cc in subst (λ f. TagInForm f t) z x

    by : (a b d l c p o : Bool) → leb 0x80 t ≡ a → leb 0x40 t ≡ b → leb 0x20 t ≡ d
        → cond a (Some Short) (cond b (Some Medium) (cond d (Some Primitive) (cond l (Some Long) (cond c (Some Class)
        (cond p (Some LongPrimitive) (cond o (Some ObjectArray) None)))))) ≡ Some fm → TagInForm fm t
    by true b d l c p o ea eb ed e = that Short (leb-true 0x80 t ea) e
    by false true d l c p o ea eb ed e = that Medium (omega (arith, leb-true 0x40 t eb)) e
    by false false true l c p o ea eb ed e = that Primitive (leb-true 0x20 t ed) e
    by false false false true c p o ea eb ed e = that Long (leb-false 0x20 t ed) e
    by false false false false true p o ea eb ed e = that Class (leb-false 0x20 t ed) e
    by false false false false false true o ea eb ed e = that LongPrimitive (leb-false 0x20 t ed) e
    by false false false false false false true ea eb ed e = that ObjectArray (leb-false 0x20 t ed) e
    by false false false false false false false ea eb ed e = let z : ◌≡◌ {A = ℕ} 0 1 = cc in absurd (omega arith)

-- A record without a flag byte has no hash kind that needs one.
no_flag_byte_hash : (h : Header) (t : ℕ) → needs_flag_byte (hash_kind h t 0) ≡ false
unfolding needs_flag_byte hash_kind moved_bit hashed_bit bit
no_flag_byte_hash h t = by h.hashed (eqb t 6)
  where
    by : (a b : Bool) → needs_flag_byte (cond a 3 (cond (cond b false false) 2 (cond (cond b false false) 1 0))) ≡ false
    by true b = refl
    by false true = refl
    by false false = refl

-- References that were read from fields of w bytes fit such fields.
all_relative_fit : (w a top : ℕ) (rs : List ℕ) → AllRelative w a top rs → AllFit w a rs
all_relative_fit w a top [] x = tt
all_relative_fit w a top (r ∷ rs) x = (address_gap_fits w a top r x.0, all_relative_fit w a top rs x.1)

-- ---- the sizes of primitive arrays

-- A primitive array whose hash kind needs no flag byte has at most the bytes of the form without one, if its gap and length fit v
-- bytes each.
primitive_short_size : (w k p more v : ℕ) → needs_flag_byte k ≡ false → width p ≤ v → (primitive_size w k p more).size ≤ 5 + 2 * v + more
unfolding primitive_size
primitive_short_size w k p more v f l = rw f (omega arith)

-- A primitive array whose gap and length fit a byte each has at most the bytes of the long form with bytes.
primitive_bytes_size : (w k p more : ℕ) → p ≡ 0 → (primitive_size w k p more).size ≤ 8 + more
unfolding primitive_size width
primitive_bytes_size w k p more z = rw z (by (needs_flag_byte k))
  where
    by : (a : Bool) → (cond a (make_size (8 + more) false) (make_size (5 + 2 * 1 + more) false)).size ≤ 8 + more
    by true = omega arith
    by false = omega arith

-- A primitive array whose gap and length fit a word each has at most the bytes of the long form with words.
primitive_words_size : (w k p more : ℕ) → 1 ≤ w → width p ≤ w → (primitive_size w k p more).size ≤ 6 + 2 * w + more
unfolding primitive_size
primitive_words_size w k p more s l = by (needs_flag_byte k) (eqb p 0)
  where
    by : (a b : Bool) → (cond a (cond b (make_size (8 + more) false) (make_size (6 + 2 * w + more) false)) (make_size (5 + 2 * width p + more) false)).size ≤ 6 + 2 * w + more
    by true true = omega arith
    by true false = omega arith
    by false b = omega arith

-- ---- the shortest plan

-- A good record r after one at the address `before`, with the cache c.
module _ (h : Header) (c : Cache) (before index : ℕ) (r : Rec)
    (w : ValidBits h.bits) (g : GoodRec h index r) (bf : before % 4 ≡ 0) (bl : before ≤ max_address h.bits) where
  abbrev address_size : ℕ
  address_size = h.bits / 8

  abbrev top : ℕ
  top = max_address h.bits

  abbrev m : PlanInput
  m = plan_input c before r.row r.refs

  b : Bounded m
  b = good_plan_input_bounded h c before index r w g bf bl

  -- The width code of the gap is the least that holds it.
  gap_code_least : (k : ℕ) → AddressIn (width k) before top r.row.address → m.gap ≤ k
  unfolding width
  gap_code_least k x = gap_least c before r.row r.refs k (address_gap_fits (width k) before top r.row.address x)

  -- The gap, hash, name and references have at most the bytes that they have with any widths that hold the gap and the
  -- references.
  payload_size_most : (k l : ℕ) → AddressIn (width k) before top r.row.address → AllRelative (width l) r.row.address top r.refs
      → payload_size m r.row ≤ width k + hash_name_size r.row + r.row.count * width l
  unfolding width
  payload_size_most k l x y =
      let a = width_mono m.gap k (gap_code_least k x) in
      let n = ref_least c before r.row r.refs l (all_relative_fit (width l) r.row.address top r.refs y) in
      let b = mul-le-mul_left r.row.count (width_mono m.refcode l n) in
      omega arith

  -- The width code of the gap and the length of a primitive array is the least that holds both.
  pair_code_least : (k : ℕ) → AddressIn (width k) before top r.row.address → CountIn (width k) r.row.len → m.paircode ≤ k
  unfolding width
  pair_code_least k x y =
      pair_least c before r.row r.refs k (address_gap_fits (width k) before top r.row.address x) (count_fits (width k) r.row.len y)

  -- The number of bytes of the writer's plan.
  abbrev plan_bytes : ℕ
  plan_bytes = plan_size (make_plan address_size m) r.row

  -- An object's plan has at most the bytes of any form that can hold the object.
  object_plan_le : (fm : Form) → r.row.kind ≡ 2 → CanHold fm m → plan_bytes ≤ overhead address_size fm + payload_size m r.row
  unfolding plan_input record_size
  object_plan_le fm k x = omega (arith, object_plan_bytes address_size m r.row b k, object_form_shortest address_size fm m x)

  primitive_plan_bytes : r.row.kind ≡ 4 → plan_bytes ≡ (primitive_size address_size r.row.hashkind m.paircode (hash_name_size r.row)).size
  unfolding plan_input record_size
  primitive_plan_bytes k = ap (λ (x : EncodedSize). x.size) (primitive_plan_size address_size m r.row b (λ z. omega arith) (λ z. omega arith) (λ z. omega arith))

  class_plan_bytes : r.row.kind ≡ 1 → plan_bytes ≡ 12 + address_size + payload_size m r.row
  unfolding plan_input record_size
  class_plan_bytes k = ap (λ (x : EncodedSize). x.size) (class_plan_size address_size m r.row b k)

  object_array_plan_bytes : r.row.kind ≡ 3 → plan_bytes ≡ 14 + address_size + payload_size m r.row
  unfolding plan_input record_size
  object_array_plan_bytes k = ap (λ (x : EncodedSize). x.size) (object_array_plan_size address_size m r.row b k)

  -- A record that was read without a flag byte has a hash kind that needs none.
  no_flag_byte_needed : (t f : ℕ) → 0x20 ≤ t → (0x20 ≤ t → f ≡ 0) → r.row.hashkind ≡ hash_kind h t f → needs_flag_byte r.row.hashkind ≡ false
  no_flag_byte_needed t f l z e = rw (e, z l) (no_flag_byte_hash h t)

  -- The class word of a record that was read as a short object is in a slot.
  short_class_in_slot : (t known : ℕ) → 0x80 ≤ t → slot_class c t ≡ Some known → r.row.class ≡ known → find_slot c r.row.class < 4
  unfolding slot_class
  short_class_in_slot t known l e z = find_slot_complete c r.row.class (t / 0x20 % 4) (omega arith) (rw z (rw (le-leb 0x80 t l) at e))

  -- W / 8 bytes are the width of some width code.
  address_size_is_width : (k : ℕ) × (width k ≡ address_size)
  unfolding width
  address_size_is_width = by w
    where
      by : ValidBits h.bits → (k : ℕ) × (width k ≡ address_size)
      by (inl e) = (2, rw e)
      by (inr e) = (3, rw e)

  -- A primitive array that was read in the long form, its gap and length as words (d is true) or as bytes, has at most as many
  -- bytes.
  long_primitive_le : (d : Bool) → AddressIn (cond d address_size 1) before top r.row.address → CountIn (cond d address_size 1) r.row.len
      → (primitive_size address_size r.row.hashkind m.paircode (hash_name_size r.row)).size ≤ 6 + 2 * cond d address_size 1 + hash_name_size r.row
  unfolding width
  long_primitive_le true p q =
      let k = address_size_is_width in
      let l : m.paircode ≤ k.0 = pair_code_least k.0 (rw k.1 p) (rw k.1 q) in
      primitive_words_size address_size _ m.paircode (hash_name_size r.row) (address_size_of h.bits w).some (omega (arith, width_mono m.paircode k.0 l, k.1))
  long_primitive_le false p q = let l : m.paircode ≤ 0 = pair_code_least 0 p q in primitive_bytes_size address_size _ m.paircode (hash_name_size r.row) (omega arith)

  -- Any tag and flag byte by which the record is read determine a shape with at least as many bytes as the plan.
  least_for_form : (fm : Form) (t f known : ℕ) → TagInForm fm t → slot_class c t ≡ Some known → (0x20 ≤ t → f ≡ 0) → r.row.hashkind ≡ hash_kind h t f
      → FitsShape top before known (shape address_size fm t f) r.row r.refs
      → plan_bytes ≤ record_bytes t (shape address_size fm t f) r.row
  unfolding shape record_bytes plan_input
  least_for_form Short t f known i s z e x =
      let a = object_plan_le Short x.kind
      (no_flag_byte_needed t f (omega arith) z e, omega (arith, gap_code_least (t / 0x04 % 2) x.gap), omega (arith, x.count refl), short_class_in_slot t known i s (x.class refl refl)) in
      rw (le-ltb t 0x20 (omega arith)) (omega (arith, a, payload_size_most (t / 0x04 % 2) (t % 4) x.gap x.refs))
  least_for_form Medium t f known i s z e x =
      let a = object_plan_le Medium x.kind (no_flag_byte_needed t f i z e, omega (arith, gap_code_least (t / 0x04 % 2) x.gap), omega (arith, x.count refl)) in
      rw (le-ltb t 0x20 i) (omega (arith, a, payload_size_most (t / 0x04 % 2) (t % 4) x.gap x.refs))
  least_for_form Long t f known i s z e x =
      let a = object_plan_le Long x.kind tt in
      rw (lt-ltb t 0x20 i) (omega (arith, a, payload_size_most (f / 0x40 % 4) (f / 0x10 % 4) x.gap x.refs))
  least_for_form Class t f known i s z e x =
      rw (lt-ltb t 0x20 i) (omega (arith, class_plan_bytes x.kind, payload_size_most (f / 0x40 % 4) (f / 0x10 % 4) x.gap x.refs))
  least_for_form ObjectArray t f known i s z e x =
      rw (lt-ltb t 0x20 i) (omega (arith, object_array_plan_bytes x.kind, payload_size_most (f / 0x40 % 4) (f / 0x10 % 4) x.gap x.refs))
  least_for_form Primitive t f known i s z e x =
      let l = width_mono m.paircode (t % 4) (pair_code_least (t % 4) x.gap (x.len refl)) in
      let a = primitive_short_size address_size r.row.hashkind m.paircode (hash_name_size r.row) (width (t % 4)) (no_flag_byte_needed t f i z e) l in
      rw (le-ltb t 0x20 i) (omega (arith, a, primitive_plan_bytes x.kind))
  least_for_form LongPrimitive t f known i s z e x =
      let a = long_primitive_le (bit 0x10 f) x.gap (x.len refl) in
      rw (lt-ltb t 0x20 i) (omega (arith, a, primitive_plan_bytes x.kind))

  -- A record that was read and is the same as r has at least as many bytes as the plan.
  pub plan_size_least : (n : ℕ) → HasLayout h before c r.row r.refs n → plan_size (plan_record h before c r) r.row ≤ n
  unfolding plan_record
  plan_size_least n x =
      let l = least_for_form x.form x.tag x.flags x.known (tag_in_form x.form x.tag x.form_is) x.known_is x.no_flags x.hash x.fits in
      omega (arith, l, x.bytes)
