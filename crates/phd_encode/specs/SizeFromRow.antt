-- The size of a record from its row alone: the size computed for each kind is that of the plan.
-- Assumes nothing.
use Rattle.std.specs.Prelude.{◌≡◌, Bool, ◌&&◌, ◌||◌, cond, leb, ltb, eqb}
use Rattle.std.proofs.Math.Path.{refl, ap}
use Rattle.std.proofs.Common.{◌∙◌, arith, lit<}
use Prim.Native.Nat.{ℕ, ◌+◌, ◌*◌, ◌≤◌, ◌<◌}
use Rattle.std.proofs.Math.Bool.{true, false}
use Rattle.std.proofs.Math.Decide.{dec_le}
use borrow.Author.Tests.{le-leb, lt-leb, le-ltb, lt-ltb, eq-eqb, ne_eqb}
use Rattle.phd.specs.Phd.{bit, width, hash_bytes, shape}
use Rattle.phd.specs.Shapes.{record_bytes}
use Rattle.phd.specs.declared.Form.{Form}
use Rattle.phd.specs.declared.Form.TheVariants.{Short, Medium, Long, Class, ObjectArray, Primitive, LongPrimitive}
use Rattle.table.specs.declared.Row.{Row}
use Rattle.phd_plan.specs.FormChoice.{Bounded, needs_flag_byte, object_form, form_of, tag_of, hash_flags, class_flags, flags_of, make_plan}
use Rattle.phd_plan.specs.MinimalForm.{CanHold, overhead, object_form_can_hold}
use Rattle.phd_plan.specs.declared.PlanInput.{PlanInput}
use Rattle.phd_plan.specs.declared.Plan.{Plan}
use Rattle.phd_encode.specs.EncodeRecord.{record_size}
use Rattle.phd_encode.specs.TagBits.{hash_flags_lt, class_flags_lt, short_tag, medium_tag, primitive_tag, long_flags, long_primitive_flags}
use Rattle.phd_encode.specs.declared.sizes.EncodedSize.{EncodedSize}

-- An `EncodedSize` with these fields.
abbrev pub make_size : ℕ → Bool → EncodedSize
make_size n b = record { size = n; cached = b }

-- An `EncodedSize` is determined by its fields.
pub encoded_size_ext : (x : EncodedSize) (n : ℕ) (b : Bool) → (x.size ≡ n) × (x.cached ≡ b) → x ≡ make_size n b
encoded_size_ext x n b e = ap (λ (k : ℕ). make_size k x.cached) e.0 ∙ ap (make_size n) e.1

-- The bytes of the hash and the name.
abbrev pub hash_name_size : Row → ℕ
hash_name_size r = hash_bytes r.hashkind + r.namelen

-- The bytes of the gap, the hash, the name and the references.
abbrev pub payload_size : PlanInput → Row → ℕ
payload_size m r = width m.gap + hash_name_size r + r.count * width m.refcode

-- The size of an object from W / 8, its hash kind, slot, reference count, width code of the gap, and payload size.
unfoldable pub object_size : ℕ → ℕ → ℕ → ℕ → ℕ → ℕ → EncodedSize
object_size w k slot count gap more =
    cond (needs_flag_byte k || leb 2 gap || ltb 7 count) (make_size (6 + w + more) true)
    (cond (leb count 3 && ltb slot 4) (make_size (1 + more) false) (make_size (1 + w + more) true))

-- The size of a primitive array from W / 8, its hash kind, the width code of its gap and length, and the bytes of hash and name.
unfoldable pub primitive_size : ℕ → ℕ → ℕ → ℕ → EncodedSize
primitive_size w k paircode more =
    cond (needs_flag_byte k) (cond (eqb paircode 0) (make_size (8 + more) false) (make_size (6 + 2 * w + more) false)) (make_size (5 + 2 * width paircode + more) false)

-- An object whose gap does not fit a short has the long form.
wide_gap_is_long : (l s n : Bool) → cond (l && (s && false)) Short (cond (n && false) Medium Long) ≡ Long
wide_gap_is_long true true true = refl
wide_gap_is_long true true false = refl
wide_gap_is_long true false true = refl
wide_gap_is_long true false false = refl
wide_gap_is_long false s true = refl
wide_gap_is_long false s false = refl

module _ (w : ℕ) (m : PlanInput) (r : Row) (b : Bounded m) where
  -- The plan in the form fm.
  abbrev plan_in_form : Form → Plan
  plan_in_form fm = record { tag = tag_of fm m; flags = flags_of fm m; shape = shape w fm (tag_of fm m) (flags_of fm m) }

  -- The plan's size is that in the chosen form.
  chosen_form_size : (fm : Form) → form_of m ≡ fm → record_size (make_plan w m) r ≡ record_size (plan_in_form fm) r
  unfolding make_plan
  chosen_form_size fm e = ap (λ (f : Form). record_size (plan_in_form f) r) e

  -- The sizes of an object in each of its forms.
  short_form_size : m.slot < 4 → m.count ≤ 3 → m.gap < 2 → record_size (plan_in_form Short) r ≡ make_size (1 + payload_size m r) false
  unfolding record_size record_bytes tag_of flags_of shape
  short_form_size s n g =
      let t : ℕ = 0x80 + 0x20 * m.slot + 0x08 * m.count + 0x04 * m.gap + m.refcode in
      let k = short_tag m.slot m.count m.gap m.refcode s n g b.ref_lt in
      rw (le-ltb t 0x20 (omega arith), k.4, k.5) (ap (λ (x : ℕ). make_size x false) (omega arith))

  medium_form_size : m.count ≤ 7 → m.gap < 2 → record_size (plan_in_form Medium) r ≡ make_size (1 + w + payload_size m r) true
  unfolding record_size record_bytes tag_of flags_of shape
  medium_form_size n g =
      let t : ℕ = 0x40 + 0x08 * m.count + 0x04 * m.gap + m.refcode in
      let k = medium_tag m.count m.gap m.refcode n g b.ref_lt in
      rw (le-ltb t 0x20 (omega arith), k.3, k.4) (ap (λ (x : ℕ). make_size x true) (omega arith))

  long_form_size : record_size (plan_in_form Long) r ≡ make_size (6 + w + payload_size m r) true
  unfolding record_size record_bytes tag_of flags_of shape
  long_form_size =
      let k = long_flags m.gap m.refcode (hash_flags m.hashkind) b.gap_lt b.ref_lt (hash_flags_lt m.hashkind) in
      rw (k.1, k.2) (ap (λ (x : ℕ). make_size x true) (omega arith))

  -- The size of a class: 12 + W / 8 bytes and the payload.
  pub class_plan_size : m.kind ≡ 1 → record_size (make_plan w m) r ≡ make_size (12 + w + payload_size m r) false
  unfolding record_size record_bytes tag_of flags_of shape form_of
  class_plan_size e =
      let k = long_flags m.gap m.refcode (class_flags m.hashkind) b.gap_lt b.ref_lt (class_flags_lt m.hashkind) in
      chosen_form_size Class (rw (eq-eqb m.kind 1 e)) ∙ rw (k.1, k.2) (ap (λ (x : ℕ). make_size x false) (omega arith))

  -- The size of an object array: 14 + W / 8 bytes and the payload.
  pub object_array_plan_size : m.kind ≡ 3 → record_size (make_plan w m) r ≡ make_size (14 + w + payload_size m r) false
  unfolding record_size record_bytes tag_of flags_of shape form_of
  object_array_plan_size e =
      let k = long_flags m.gap m.refcode (hash_flags m.hashkind) b.gap_lt b.ref_lt (hash_flags_lt m.hashkind) in
      chosen_form_size ObjectArray (rw (ne_eqb m.kind 1 (omega arith), ne_eqb m.kind 2 (omega arith), eq-eqb m.kind 3 e))
      ∙ rw (k.1, k.2) (ap (λ (x : ℕ). make_size x false) (omega arith))

  -- The size of an object in its chosen form is `object_size`.
  object_form_size : (a : Bool) → needs_flag_byte m.hashkind ≡ a → record_size (plan_in_form (object_form m)) r ≡ object_size w m.hashkind m.slot m.count m.gap (payload_size m r)
  unfolding object_form object_size
  object_form_size true f = rw f long_form_size
  object_form_size false f = elim (dec_le 2 m.gap) [
    | yes g ↦ rw (f, le-ltb m.gap 2 g, le-leb 2 m.gap g, wide_gap_is_long) long_form_size
    | no g ↦
        let g₁ = lt-ltb m.gap 2 (omega arith) in
        let g₂ = lt-leb 2 m.gap (omega arith) in
        elim (dec_le m.count 7) [
          | no n ↦ rw (f, g₁, g₂, lt-leb m.count 3 (omega arith), lt-leb m.count 7 (omega arith), lt-ltb 7 m.count (omega arith)) long_form_size
          | yes n ↦
              let n₁ = le-leb m.count 7 n in
              let n₂ = le-ltb 7 m.count n in
              elim (dec_le m.count 3) [
                | no l ↦ rw (f, g₁, g₂, n₁, n₂, lt-leb m.count 3 (omega arith)) (medium_form_size n (omega arith))
                | yes l ↦ elim (dec_le 4 m.slot) [
                  | yes s ↦ rw (f, g₁, g₂, n₁, n₂, le-leb m.count 3 l, le-ltb m.slot 4 s) (medium_form_size n (omega arith))
                  | no s ↦ rw (f, g₁, g₂, n₂, le-leb m.count 3 l, lt-ltb m.slot 4 (omega arith)) (short_form_size (omega arith) l (omega arith))
                ]
              ]
        ]
  ]

  -- The size of an object's plan is `object_size`.
  pub object_plan_size : m.kind ≡ 2 → record_size (make_plan w m) r ≡ object_size w m.hashkind m.slot m.count m.gap (payload_size m r)
  unfolding form_of
  object_plan_size e =
      chosen_form_size (object_form m) (rw (ne_eqb m.kind 1 (omega arith), eq-eqb m.kind 2 e)) ∙ object_form_size (needs_flag_byte m.hashkind) refl

  -- In a form that can hold it, the size of an object is the overhead of the form plus the payload.
  held_form_size : (fm : Form) → CanHold fm m → (record_size (plan_in_form fm) r).size ≡ overhead w fm + payload_size m r
  held_form_size Short x = ap (λ (y : EncodedSize). y.size) (short_form_size x.3 x.2 x.1)
  held_form_size Medium x = ap (λ (y : EncodedSize). y.size) (medium_form_size x.2 x.1)
  held_form_size Long x = ap (λ (y : EncodedSize). y.size) long_form_size
  held_form_size Class x = absurd x
  held_form_size ObjectArray x = absurd x
  held_form_size Primitive x = absurd x
  held_form_size LongPrimitive x = absurd x

  -- The size of an object's plan is the overhead of its chosen form plus the payload.
  pub object_plan_bytes : m.kind ≡ 2 → (record_size (make_plan w m) r).size ≡ overhead w (object_form m) + payload_size m r
  unfolding form_of
  object_plan_bytes e =
      ap (λ (y : EncodedSize). y.size) (chosen_form_size (object_form m) (rw (ne_eqb m.kind 1 (omega arith), eq-eqb m.kind 2 e)))
      ∙ held_form_size (object_form m) (object_form_can_hold m)

  -- The size of a primitive array without a flag byte.
  primitive_form_size : record_size (plan_in_form Primitive) r ≡ make_size (5 + 2 * width m.paircode + hash_name_size r) false
  unfolding record_size record_bytes tag_of flags_of shape
  primitive_form_size =
      let t : ℕ = 0x20 + 0x04 * m.prim + m.paircode in
      let k = primitive_tag m.prim m.paircode b.prim_lt b.pair_lt in
      rw (le-ltb t 0x20 (omega arith), k.3) (ap (λ (x : ℕ). make_size x false) (omega arith))

  -- The size of a long primitive array; v is 1 if the gap and the length are words, 0 if they are bytes, and u is their width.
  long_primitive_form_size : (v u : ℕ) → v < 2 → cond (eqb v 1) w 1 ≡ u → cond (eqb m.paircode 0) 0 1 ≡ v
      → record_size (plan_in_form LongPrimitive) r ≡ make_size (6 + 2 * u + hash_name_size r) false
  unfolding record_size record_bytes tag_of flags_of shape bit
  long_primitive_form_size v u l e f =
      let k = long_primitive_flags m.prim v (hash_flags m.hashkind) b.prim_lt l (hash_flags_lt m.hashkind) in
      rw (f, k.2, e) (ap (λ (x : ℕ). make_size x false) (omega arith))

  -- The size of a primitive array in its chosen form is `primitive_size`.
  chosen_primitive_size : (a : Bool) → needs_flag_byte m.hashkind ≡ a
      → record_size (plan_in_form (cond (needs_flag_byte m.hashkind) LongPrimitive Primitive)) r ≡ primitive_size w m.hashkind m.paircode (hash_name_size r)
  unfolding primitive_size
  chosen_primitive_size true f = elim (dec_le m.paircode 0) [
    | yes p ↦ let q = eq-eqb m.paircode 0 (omega arith) in rw (f, q) (long_primitive_form_size 0 1 (lit< tt) refl (rw q))
    | no p ↦ let q = ne_eqb m.paircode 0 (omega arith) in rw (f, q) (long_primitive_form_size 1 w (lit< tt) refl (rw q))
  ]
  chosen_primitive_size false f = rw f primitive_form_size

  -- The size of a primitive array's plan is `primitive_size`; every kind but 1, 2 and 3 is planned as a primitive array.
  pub primitive_plan_size : (m.kind ≡ 1 → ⊥) → (m.kind ≡ 2 → ⊥) → (m.kind ≡ 3 → ⊥)
      → record_size (make_plan w m) r ≡ primitive_size w m.hashkind m.paircode (hash_name_size r)
  unfolding form_of
  primitive_plan_size x y z =
      chosen_form_size (cond (needs_flag_byte m.hashkind) LongPrimitive Primitive) (rw (ne_eqb m.kind 1 x, ne_eqb m.kind 2 y, ne_eqb m.kind 3 z))
      ∙ chosen_primitive_size (needs_flag_byte m.hashkind) refl
