-- The two forms of primitive arrays, which have no references: the tag and the flag byte of each form decode to that form, and a
-- good record fits the shape that they determine. Assumes nothing.
use Rattle.std.specs.Prelude.{◌≡◌, Bool, false, cond, eqb}
use Rattle.std.proofs.Math.Path.{refl, sym}
use Prim.Native.Nat.{ℕ, ◌+◌, ◌*◌, ◌/◌, ◌%◌, ◌^◌, ◌≤◌, ◌<◌}
use Rattle.std.proofs.Math.Bool.{true}
use Rattle.std.proofs.Math.Dec.{lit<}
use Rattle.std.proofs.Common.{lit≤, arith}
use Rattle.std.proofs.Math.IntN.{ℤ, pos}
use borrow.Author.Tests.{le-leb, lt-leb, le-ltb, lt-ltb, ltb-true, eqb-true}
use Rattle.decode.specs.Values.{true_not_false}
use Rattle.encode.specs.Encode.{gap, fits, width_code, max}
use Rattle.encode.specs.Widths.{gap_fits, le_max_left, le_max_right, max_lt}
use Rattle.encode.proofs.Widths.{code_lt, code_fits_wider}
use Rattle.phd.specs.Phd.{max_address, tag_form, slot_class, moved_bit, hashed_bit, width, bit, make_shape, shape, field_or}
use Rattle.phd.specs.declared.cache.Cache.{Cache}
use Rattle.phd.specs.declared.Header.{Header}
use Rattle.phd.specs.declared.Form.TheVariants.{Primitive, LongPrimitive}
use Rattle.phd.specs.declared.Shape.{Shape}
use Rattle.table.specs.Rows.{Rec}
use Rattle.phd_check.specs.WellFormed.{GoodRec}
use Rattle.phd_plan.specs.FormChoice.{plan_input, needs_flag_byte, tag_of, hash_flags, flags_of}
use Rattle.phd_encode.specs.PlanBounds.{AddressSize}
use Rattle.phd_round_trip.specs.Decodable.{field_value, ShapeMatches, Decodable}
use Rattle.phd_round_trip.specs.FormFits.{absent, present, field_value_fits, width_pos, empty_of_length, len_lt, FormFits}
use Rattle.phd_round_trip.specs.FormsWithRefs.{decodable_of, hash_kind_valid, gap_fits_8, no_name_field}
use Rattle.phd_encode.specs.TagBits.{no_flag_byte_bits, hash_flag_bits, hash_flags_lt, primitive_tag, long_primitive_flags}

-- A good record r after one at the address `before`, with the cache c.
module _ (h : Header) (c : Cache) (before index : ℕ) (r : Rec)
    (w : AddressSize h.bits) (g : GoodRec h index r) (bf : before % 4 ≡ 0) (bl : before ≤ max_address h.bits) where
  -- A primitive array: its gap and its length have the same width.
  module _ (k4 : r.row.kind ≡ 4) (c0 : r.row.class ≡ 0) (r0 : r.row.count ≡ 0) (y8 : r.row.prim < 8) (n0 : r.row.namelen ≡ 0) where
    -- The shape of a primitive array whose gap and length have v bytes each.
    abbrev primitive_shape : ℕ → Shape
    primitive_shape v = make_shape 4 v 0 v 0 0 0 0 0 0 4 0 false r.row.prim

    primitive_len_lt : r.row.len < 2 ^ 31
    primitive_len_lt = len_lt r.row r.name g.kind_good

    primitive_form_fits : (v : ℕ) → 1 ≤ v → fits v (gap before r.row.address) ≡ true → r.row.len + r.row.len < 256 ^ v
        → FormFits h before (primitive_shape v) r
    unfolding field_value field_or
    primitive_form_fits v s p q =
        let l : field_value v r.row.len ≡ r.row.len = field_value_fits v r.row.len (omega arith) in
        record {
          gap_width_pos = s;
          gap_fits = p;
          class = absent;
          len = record { small = rw l primitive_len_lt; fit = rw l q };
          inst = record { small = lit< tt; fit = lit< tt };
          superclass = absent;
          name = no_name_field h c before index r w g bf bl n0;
          countwidth = absent;
          count = sym r0;
          refs = rw (empty_of_length r.refs (omega (arith, g.count))) tt;
          size = present;
          truelen = absent;
          count_le_len = λ z. absurd (z refl);
        }

    primitive_shape_matches : (v : ℕ) → r.row.len + r.row.len < 256 ^ v → ShapeMatches 0 (primitive_shape v) r
    unfolding field_value field_or
    primitive_shape_matches v q = record {
      kind = sym k4;
      class = sym c0;
      size = refl;
      len = field_value_fits v r.row.len (omega arith);
      prim = refl;
      cached = λ e. absurd (true_not_false (sym e));
    }

    -- The greater of the width codes of gap and length is that of a width that holds both.
    pair_code_fits : (p : ℕ) → max (width_code (gap before r.row.address)) (width_code (pos r.row.len)) ≡ p
        → (fits (width p) (gap before r.row.address) ≡ true) × (r.row.len + r.row.len < 256 ^ width p)
    unfolding width fits
    pair_code_fits p e =
        let d : ℤ = gap before r.row.address in
        let z : ℤ = pos r.row.len in
        let l = primitive_len_lt in
        let d8 : fits 8 d ≡ true = gap_fits_8 h c before index r w g bf bl in
        let z8 : fits 8 z ≡ true = lt-ltb (r.row.len + r.row.len) (256 ^ 8) (omega arith) in
        let a : width_code d ≤ p = rw e at (le_max_left (width_code d) (width_code z)) in
        let b : width_code z ≤ p = rw e at (le_max_right (width_code d) (width_code z)) in
        (code_fits_wider d p a d8, ltb-true _ _ (code_fits_wider z p b z8))

    -- A primitive array whose hash kind needs no flag byte is `Decodable` as a primitive array.
    pub primitive_decodable : needs_flag_byte (plan_input c before r.row r.refs).hashkind ≡ false
        → Decodable h c before r Primitive (tag_of Primitive (plan_input c before r.row r.refs)) 0 0
    unfolding plan_input needs_flag_byte tag_of tag_form slot_class shape
    primitive_decodable nf =
        let p : ℕ = max (width_code (gap before r.row.address)) (width_code (pos r.row.len)) in
        let t : ℕ = 0x20 + 0x04 * r.row.prim + p in
        let b = primitive_tag r.row.prim p y8 (max_lt _ _ 4 (code_lt _) (code_lt _)) in
        let l = pair_code_fits p refl in
        decodable_of h c before index r w g bf bl Primitive t 0 0 (primitive_shape (width p))
        (omega arith) (omega arith) (rw (lt-leb 0x80 t (omega arith), lt-leb 0x40 t b.0, le-leb 0x20 t b.1))
        (rw (lt-leb 0x80 t (omega arith)))
        (rw (le-ltb t 0x20 b.1) (lit< tt))
        (no_flag_byte_bits h.hashed r.row.hashkind t (hash_kind_valid h c before index r w g bf bl) nf b.1)
        (rw (b.2, b.3))
        (primitive_form_fits (width p) (width_pos p) l.0 l.1)
        (primitive_shape_matches (width p) l.1)

    -- A primitive array is `Decodable` as a long one whose gap and length have u bytes each: W / 8 if the width bit v of the flag
    -- byte is 1, else one byte.
    long_primitive_by_width : (v u : ℕ) → v < 2 → cond (eqb v 1) (h.bits / 8) 1 ≡ u → 1 ≤ u → fits u (gap before r.row.address) ≡ true
        → r.row.len + r.row.len < 256 ^ u
        → Decodable h c before r LongPrimitive 7 (0x20 * r.row.prim + 0x10 * v + hash_flags r.row.hashkind) 0
    unfolding tag_form slot_class moved_bit hashed_bit shape bit
    long_primitive_by_width v u v2 e s p q =
        let k : ℕ = r.row.hashkind in
        let f : ℕ = 0x20 * r.row.prim + 0x10 * v + hash_flags k in
        let b = long_primitive_flags r.row.prim v (hash_flags k) y8 v2 (hash_flags_lt k) in
        decodable_of h c before index r w g bf bl LongPrimitive 7 f 0 (primitive_shape u)
        (lit< tt) (omega arith) refl refl b.0
        (hash_flag_bits h.hashed k (2 * r.row.prim + v) f (hash_kind_valid h c before index r w g bf bl) b.3)
        (rw (b.1, b.2, e))
        (primitive_form_fits u s p q) (primitive_shape_matches u q)

    -- Every good primitive array is `Decodable` as a long primitive array.
    pub long_primitive_decodable : Decodable h c before r LongPrimitive 7 (flags_of LongPrimitive (plan_input c before r.row r.refs)) 0
    unfolding plan_input flags_of width
    long_primitive_decodable = by (eqb p 0) refl
      where
        p : ℕ
        p = max (width_code (gap before r.row.address)) (width_code (pos r.row.len))

        by : (a : Bool) → eqb p 0 ≡ a
            → Decodable h c before r LongPrimitive 7 (0x20 * r.row.prim + 0x10 * cond a 0 1 + hash_flags r.row.hashkind) 0
        by true e = let l = pair_code_fits 0 (eqb-true p 0 e) in long_primitive_by_width 0 1 (lit< tt) refl (lit≤ tt) l.0 l.1
        by false e = long_primitive_by_width 1 (h.bits / 8) (lit< tt) refl w.some
            (gap_fits (h.bits / 8) before r.row.address (omega (arith, w.max_address_fits)) (omega (arith, g.most, w.max_address_fits)))
            (omega (arith, primitive_len_lt, w.least))
