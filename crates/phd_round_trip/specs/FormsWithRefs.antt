-- The five forms with references: the tag and the flag byte of each form decode to that form, and a good record fits the shape
-- that they determine. Assumes nothing.
use Rattle.std.specs.Prelude.{◌≡◌, Bool, cond, ltb, Some}
use Rattle.std.proofs.Math.Path.{refl, sym}
use Prim.Native.Nat.{ℕ, ◌+◌, ◌*◌, ◌/◌, ◌%◌, ◌^◌, ◌≤◌, ◌<◌}
use Rattle.std.proofs.Math.Bool.{true, false}
use Rattle.std.proofs.Math.Dec.{lit<}
use Rattle.std.proofs.Common.{pow_pos, arith}
use borrow.Author.Tests.{le-leb, lt-leb, le-ltb, ne_eqb}
use Rattle.decode.specs.Values.{true_not_false}
use Rattle.encode.specs.Encode.{gap, fits, width_code, refs_code}
use Rattle.encode.specs.Widths.{gap_fits}
use Rattle.encode.proofs.Widths.{code_lt, code_fits, refs_code_lt, refs_code_fits}
use Rattle.phd.specs.Phd.{max_address, tag_form, slot_class, moved_bit, hashed_bit, hash_kind, width, make_shape, shape, field_or}
use Rattle.phd.specs.Shapes.{WidthsLe8, shape_widths_le_8}
use Rattle.phd.specs.declared.cache.Cache.{Cache}
use Rattle.phd.specs.declared.Header.{Header}
use Rattle.phd.specs.declared.Form.{Form}
use Rattle.phd.specs.declared.Form.TheVariants.{Short, Medium, Long, Class, ObjectArray}
use Rattle.phd.specs.declared.Shape.{Shape}
use Rattle.table.specs.Rows.{Rec}
use Rattle.phd_check.specs.WellFormed.{GoodRec}
use Rattle.phd_plan.specs.FormChoice.{plan_input, needs_flag_byte, tag_of, hash_flags, class_flags, flags_of, find_slot}
use Rattle.phd_encode.specs.PlanBounds.{AddressSize}
use Rattle.phd_round_trip.specs.Decodable.{field_value, RefsFit, NameFits, unnamed, ShapeMatches, Decodable}
use Rattle.phd_round_trip.specs.FormFits.{OptionalField, absent, present, field_value_fits, present_field_value, width_pos, empty_of_length, refs_fit_8, good_refs_fit, count_fits_4, FormFits, fields_fit_of}
use Rattle.phd_encode.specs.TagBits.{HashBits, HashKindValid, no_flag_byte_bits, hash_flag_bits, class_flag_bits, hash_flags_lt, class_flags_lt, short_tag, medium_tag, long_flags, find_slot_holds}

-- A good record r after one at the address `before`, with the cache c.
module _ (h : Header) (c : Cache) (before index : ℕ) (r : Rec)
    (w : AddressSize h.bits) (g : GoodRec h index r) (bf : before % 4 ≡ 0) (bl : before ≤ max_address h.bits) where
  -- A record is `Decodable` by a tag and a flag byte that decode to the form fm and the shape sh, if it fits that shape and its
  -- row is the one that the shape gives.
  pub decodable_of : (fm : Form) (t f known : ℕ) (sh : Shape)
      → t < 256 → (t ≡ 3 → ⊥) → tag_form t ≡ Some fm → slot_class c t ≡ Some known → f < 256 ^ cond (ltb t 0x20) 1 0
      → HashBits h.hashed r.row.hashkind (moved_bit t f) (hashed_bit t f)
      → shape (h.bits / 8) fm t f ≡ sh → FormFits h before sh r → ShapeMatches known sh r
      → Decodable h c before r fm t f known
  unfolding hash_kind
  decodable_of fm t f known sh tb te fo kn fl bs es k s =
      let n : WidthsLe8 sh = rw es at (shape_widths_le_8 (h.bits / 8) fm t f w.most) in
      record {
        tag_byte = tb;
        not_end_tag = ne_eqb t 3 te;
        form_is = fo;
        known_is = kn;
        flag_byte = fl;
        bits_clear = bs.bits_clear;
        hash = bs.kind;
        fit = rw es (fields_fit_of h before index sh r w g bf n k);
        matches = rw es s;
      }

  pub hash_kind_valid : HashKindValid h.hashed r.row.hashkind
  hash_kind_valid = record { all_hashed = g.all_hashed; not_all_hashed = g.not_all_hashed }

  pub gap_fits_8 : fits 8 (gap before r.row.address) ≡ true
  gap_fits_8 = let e = w.max_address_fits_8 in let m = g.most in gap_fits 8 before r.row.address (omega arith) (omega arith)

  gap_code_fits : fits (width (width_code (gap before r.row.address))) (gap before r.row.address) ≡ true
  unfolding width
  gap_code_fits = code_fits (gap before r.row.address) gap_fits_8

  refs_code_fit : RefsFit (max_address h.bits) r.row.address (width (refs_code 0 r.row.address r.refs)) r.refs
  unfolding width
  refs_code_fit =
      let a : ℕ = r.row.address in
      let v : ℕ = refs_code 0 a r.refs in
      good_refs_fit (max_address h.bits) a (2 ^ v) r.refs (pow_pos v) g.refs
      (refs_code_fits 0 a r.refs (refs_fit_8 (max_address h.bits) a r.refs w.max_address_fits_8 g.most g.refs))

  class_field_value : field_value (h.bits / 8) r.row.class ≡ r.row.class
  class_field_value = field_value_fits (h.bits / 8) r.row.class (omega (arith, g.class, w.max_address_fits))

  -- A record without a name fits a form without a name field.
  pub no_name_field : r.row.namelen ≡ 0 → NameFits 0 r.name
  no_name_field e = unnamed (empty_of_length r.name (omega (arith, g.namelen)))

  -- An object: the numbers that only other kinds use are 0.
  module _ (k2 : r.row.kind ≡ 2) (s0 : r.row.size ≡ 0) (l0 : r.row.len ≡ 0) (y0 : r.row.prim ≡ 0) (n0 : r.row.namelen ≡ 0) where
    -- The shape of an object, by the bytes of its class word and of its count, the count in its tag, and whether its class word
    -- is pushed.
    abbrev object_shape : ℕ → ℕ → ℕ → Bool → Shape
    object_shape class counted count cached =
        let a : ℕ = r.row.address in
        make_shape 2 (width (width_code (gap before a))) class 0 0 0 0 counted count (width (refs_code 0 a r.refs)) 0 0 cached 0

    object_form_fits : (class counted count : ℕ) (cached : Bool) → OptionalField (h.bits / 8) class → OptionalField 4 counted
        → field_or counted (field_value counted r.row.count) count ≡ r.row.count → FormFits h before (object_shape class counted count cached) r
    object_form_fits class counted count cached p q e = record {
      gap_width_pos = width_pos (width_code (gap before r.row.address));
      gap_fits = gap_code_fits;
      class = p;
      len = count_fits_4 r.row.len absent (omega arith);
      inst = count_fits_4 r.row.size absent (omega arith);
      superclass = absent;
      name = no_name_field n0;
      countwidth = q;
      count = e;
      refs = refs_code_fit;
      size = absent;
      truelen = absent;
      count_le_len = λ z. absurd (z refl);
    }

    -- An object whose class word has a field matches its shape.
    object_shape_matches : (counted count : ℕ) → ShapeMatches 0 (object_shape (h.bits / 8) counted count true) r
    unfolding field_value field_or
    object_shape_matches counted count = record {
      kind = sym k2;
      class = present_field_value (h.bits / 8) r.row.class 0 w.some;
      size = sym s0;
      len = sym l0;
      prim = sym y0;
      cached = λ e. class_field_value;
    }

    -- An object with at most 3 references, a gap of at most two bytes, its class word in a slot, and a hash kind that needs no
    -- flag byte is `Decodable` as a short object.
    pub short_decodable : needs_flag_byte (plan_input c before r.row r.refs).hashkind ≡ false → width_code (gap before r.row.address) < 2
        → r.row.count ≤ 3 → find_slot c r.row.class < 4
        → Decodable h c before r Short (tag_of Short (plan_input c before r.row r.refs)) 0 r.row.class
    unfolding plan_input needs_flag_byte tag_of tag_form slot_class shape field_value field_or
    short_decodable nf f2 n3 s4 =
        let n : ℕ = r.row.count in
        let s : ℕ = find_slot c r.row.class in
        let gc : ℕ = width_code (gap before r.row.address) in
        let rc : ℕ = refs_code 0 r.row.address r.refs in
        let t : ℕ = 0x80 + 0x20 * s + 0x08 * n + 0x04 * gc + rc in
        let b = short_tag s n gc rc s4 n3 f2 (refs_code_lt 0 _ _ (lit< tt)) in
        decodable_of Short t 0 r.row.class (object_shape 0 0 n false)
        b.0 (omega arith) (rw (le-leb 0x80 t b.1)) (rw (le-leb 0x80 t b.1, b.2) (find_slot_holds c r.row.class s4))
        (rw (le-ltb t 0x20 (omega arith)) (lit< tt))
        (no_flag_byte_bits h.hashed r.row.hashkind t hash_kind_valid nf (omega arith))
        (rw (b.3, b.4, b.5))
        (object_form_fits 0 0 n false absent absent refl)
        (record { kind = sym k2; class = refl; size = sym s0; len = sym l0; prim = sym y0; cached = λ e. absurd (true_not_false (sym e)) })

    -- An object with at most 7 references, a gap of at most two bytes, and a hash kind that needs no flag byte is `Decodable` as
    -- a medium object.
    pub medium_decodable : needs_flag_byte (plan_input c before r.row r.refs).hashkind ≡ false → width_code (gap before r.row.address) < 2 → r.row.count ≤ 7
        → Decodable h c before r Medium (tag_of Medium (plan_input c before r.row r.refs)) 0 0
    unfolding plan_input needs_flag_byte tag_of tag_form slot_class shape field_or
    medium_decodable nf f2 n7 =
        let n : ℕ = r.row.count in
        let gc : ℕ = width_code (gap before r.row.address) in
        let rc : ℕ = refs_code 0 r.row.address r.refs in
        let t : ℕ = 0x40 + 0x08 * n + 0x04 * gc + rc in
        let b = medium_tag n gc rc n7 f2 (refs_code_lt 0 _ _ (lit< tt)) in
        decodable_of Medium t 0 0 (object_shape (h.bits / 8) 0 n true)
        (omega arith) (omega arith) (rw (lt-leb 0x80 t b.0, le-leb 0x40 t b.1)) (rw (lt-leb 0x80 t b.0))
        (rw (le-ltb t 0x20 (omega arith)) (lit< tt))
        (no_flag_byte_bits h.hashed r.row.hashkind t hash_kind_valid nf (omega arith))
        (rw (b.2, b.3, b.4))
        (object_form_fits (h.bits / 8) 0 n true present absent refl)
        (object_shape_matches 0 n)

    -- Every good object is `Decodable` as a long object.
    pub long_decodable : Decodable h c before r Long 4 (flags_of Long (plan_input c before r.row r.refs)) 0
    unfolding plan_input flags_of tag_form slot_class moved_bit hashed_bit shape field_value field_or
    long_decodable =
        let gc : ℕ = width_code (gap before r.row.address) in
        let rc : ℕ = refs_code 0 r.row.address r.refs in
        let k : ℕ = r.row.hashkind in
        let f : ℕ = 0x40 * gc + 0x10 * rc + hash_flags k in
        let b = long_flags gc rc (hash_flags k) (code_lt _) (refs_code_lt 0 _ _ (lit< tt)) (hash_flags_lt k) in
        decodable_of Long 4 f 0 (object_shape (h.bits / 8) 4 0 true)
        (lit< tt) (omega arith) refl refl b.0
        (hash_flag_bits h.hashed k (4 * gc + rc) f hash_kind_valid b.3)
        (rw (b.1, b.2))
        (object_form_fits (h.bits / 8) 4 0 true present present refl)
        (object_shape_matches 4 0)

  -- Every good object array is `Decodable`.
  pub object_array_decodable : r.row.kind ≡ 3 → r.row.count ≤ r.row.len → r.row.prim ≡ 0 → r.row.namelen ≡ 0
      → Decodable h c before r ObjectArray 8 (flags_of ObjectArray (plan_input c before r.row r.refs)) 0
  unfolding plan_input flags_of tag_form slot_class moved_bit hashed_bit shape field_value field_or
  object_array_decodable k3 nl y0 n0 =
      let gc : ℕ = width_code (gap before r.row.address) in
      let rc : ℕ = refs_code 0 r.row.address r.refs in
      let k : ℕ = r.row.hashkind in
      let f : ℕ = 0x40 * gc + 0x10 * rc + hash_flags k in
      let b = long_flags gc rc (hash_flags k) (code_lt _) (refs_code_lt 0 _ _ (lit< tt)) (hash_flags_lt k) in
      decodable_of ObjectArray 8 f 0 (make_shape 3 (width gc) (h.bits / 8) 0 0 0 0 4 0 (width rc) 4 4 false 0)
      (lit< tt) (omega arith) refl refl b.0
      (hash_flag_bits h.hashed k (4 * gc + rc) f hash_kind_valid b.3)
      (rw (b.1, b.2))
      (record {
        gap_width_pos = width_pos gc;
        gap_fits = gap_code_fits;
        class = present;
        len = record { small = lit< tt; fit = lit< tt };
        inst = record { small = lit< tt; fit = lit< tt };
        superclass = absent;
        name = no_name_field n0;
        countwidth = present;
        count = refl;
        refs = refs_code_fit;
        size = present;
        truelen = present;
        count_le_len = λ z. nl;
      })
      (record {
        kind = sym k3;
        class = present_field_value (h.bits / 8) r.row.class 0 w.some;
        size = refl;
        len = refl;
        prim = sym y0;
        cached = λ e. absurd (true_not_false (sym e));
      })

  -- Every good class is `Decodable`.
  pub class_decodable : r.row.kind ≡ 1 → (r.row.hashkind ≡ 1 → ⊥) → r.row.size < 2 ^ 31 → r.row.len ≡ 0 → r.row.prim ≡ 0
      → NameFits 2 r.name → Decodable h c before r Class 6 (flags_of Class (plan_input c before r.row r.refs)) 0
  unfolding plan_input flags_of tag_form slot_class moved_bit hashed_bit shape field_value field_or
  class_decodable k1 h1 sl l0 y0 nm =
      let gc : ℕ = width_code (gap before r.row.address) in
      let rc : ℕ = refs_code 0 r.row.address r.refs in
      let k : ℕ = r.row.hashkind in
      let f : ℕ = 0x40 * gc + 0x10 * rc + class_flags k in
      let b = long_flags gc rc (class_flags k) (code_lt _) (refs_code_lt 0 _ _ (lit< tt)) (class_flags_lt k) in
      decodable_of Class 6 f 0 (make_shape 1 (width gc) 0 0 4 (h.bits / 8) 2 4 0 (width rc) 0 0 false 0)
      (lit< tt) (omega arith) refl refl b.0
      (class_flag_bits h.hashed k (4 * gc + rc) f hash_kind_valid h1 b.3)
      (rw (b.1, b.2))
      (record {
        gap_width_pos = width_pos gc;
        gap_fits = gap_code_fits;
        class = absent;
        len = record { small = lit< tt; fit = lit< tt };
        inst = count_fits_4 r.row.size present sl;
        superclass = present;
        name = nm;
        countwidth = present;
        count = refl;
        refs = refs_code_fit;
        size = absent;
        truelen = absent;
        count_le_len = λ z. absurd (z refl);
      })
      (record {
        kind = sym k1;
        class = present_field_value (h.bits / 8) r.row.class 0 w.some;
        size = refl;
        len = sym l0;
        prim = sym y0;
        cached = λ e. absurd (true_not_false (sym e));
      })
