-- A whole record, with its tag, flag byte and fields, is read back (`reads_planned`), and its name lies at the place in its row
-- (`name_at_place`), if the record is `Decodable` by that tag and flag byte.
-- Assumes nothing.
use Rattle.std.specs.Prelude.{◌≡◌, Bool, false, ◌&&◌, ◌||◌, length, take, drop, ltb, eqb, Some}
use Rattle.std.proofs.Math.Path.{refl}
use Rattle.std.proofs.Common.{sym, ap, ◌∙◌, arith, length-append, take_at, drop_at, eqb-true}
use Prim.Native.Nat.{ℕ, ◌+◌, ◌/◌}
use Rattle.std.proofs.Math.Bool.{true, not, cond}
use mathlib.Core.List.{List, [], ◌∷◌, ◌++◌, append_assoc, append-nil}
use Rattle.decode.specs.Layout.{position}
use Rattle.decode.specs.declared.StringSpan.{StringSpan}
use Rattle.encode.specs.Encode.{join, be, encode_ref_list as encode_list}
use Rattle.encode.specs.NumberRoundTrip.{length_be}
use Rattle.encode.specs.Reads.{Reads, reads_then, reads_end, reads_skip, reads_yield, reads_field, reads_position, reads_check, reads_need}
use Rattle.phd.specs.Phd.{max_address, push, tag_form, need_form, moved_bit, hashed_bit, flag_byte, hash_bytes, shape, row, Item, item, make_context, from_ref_count, fields, record_body, from_tag, entry}
use Rattle.phd.specs.EntryLaws.{origin_at}
use Rattle.phd.specs.declared.cache.Cache.{Cache}
use Rattle.phd.specs.declared.Header.{Header}
use Rattle.phd.specs.declared.Form.{Form}
use Rattle.phd.specs.declared.Front.{Front}
use Rattle.phd.specs.declared.Middle.{Middle}
use Rattle.phd.specs.declared.Origin.{Origin}
use Rattle.phd.specs.declared.Shape.{Shape}
use Rattle.phd.specs.declared.Span.{Span}
use Rattle.phd.specs.declared.Tail.{Tail}
use Rattle.table.specs.Rows.{Rec, numbers}
use Rattle.table.specs.declared.Row.{Row}
use Rattle.phd_plan.specs.declared.Plan.{Plan}
use Rattle.phd_encode.specs.EncodeRecord.{encode_tag, encode_front, encode_middle, encode_name, encode_refs, encode_tail, encode_fields, encode_planned}
use Rattle.phd_encode.specs.EncodedLengths.{length_front, length_middle, length_name}
use Rattle.phd_round_trip.specs.FieldsRoundTrip.{name_text, reads_front, reads_middle, reads_class_name, reads_ref_count, reads_refs, reads_tail}
use Rattle.phd_round_trip.specs.Decodable.{field_value, NameFits, unnamed, named, FieldsFit, ShapeMatches, Decodable}

-- ---- offsets

-- Where the fields of a record begin that is written at p.
abbrev fields_at : ℕ → Plan → ℕ
fields_at p pl = p + 1 + cond (ltb pl.tag 0x20) 1 0

-- Where the length of the name lies, in fields that begin at q.
abbrev name_length_at : ℕ → Shape → Row → ℕ
name_length_at q sh r = q + (sh.gap + sh.class + sh.len) + (sh.inst + hash_bytes r.hashkind + sh.superclass)

-- The place of the name, in fields that begin at q; 0 if the form has no name.
abbrev name_in : ℕ → Shape → Row → ℕ
name_in q sh r = cond (eqb sh.name 0) 0 (name_length_at q sh r + sh.name)

-- Where the references lie, in fields that begin at q.
abbrev span_in : ℕ → Shape → Row → Span
span_in q sh r = record { place = name_length_at q sh r + (sh.name + r.namelen) + sh.countwidth; width = sh.refwidth; count = r.count }

-- The place of the name of a record that is written at p as planned; 0 if its form has no name.
unfoldable pub name_at : ℕ → Plan → Row → ℕ
name_at p pl r = name_in (fields_at p pl) pl.shape r

-- Where the references of that record lie.
unfoldable pub span_at : ℕ → Plan → Row → Span
span_at p pl r = span_in (fields_at p pl) pl.shape r

-- ---- the parts of a record

text_place : (b : Bool) (w place len : ℕ) → eqb w 0 ≡ b → (name_text w place len).place ≡ cond b 0 place
text_place true w place len e = rw e
text_place false w place len e = rw e

text_len : (w place len : ℕ) (name : List ℕ) → NameFits w name → length name ≡ len → (name_text w place len).len ≡ len
text_len w place len name (unnamed e) l = rw e at l
text_len w place len name (named some short seen) l = refl

cached_same : (c : Cache) (b : Bool) (v w : ℕ) → (b ≡ true → v ≡ w) → cond b (push c v) c ≡ cond b (push c w) c
cached_same c true v w e = ap (push c) (e refl)
cached_same c false v w e = refl

module _ (top before known : ℕ) (origin : Origin) (c : Cache) (sh : Shape) (r : Rec) (t : FieldsFit top before sh r) where
  -- The parts of the record r, its row and the whole item, as they are read by the shape sh.
  abbrev as_front : Front
  as_front = record { address = r.row.address; class = field_value sh.class r.row.class; len = field_value sh.len r.row.len }

  abbrev as_middle : Middle
  as_middle = record { inst = field_value sh.inst r.row.size; hash = r.row.hash; superclass = field_value sh.superclass r.row.class }

  abbrev as_tail : Tail
  as_tail = record { size = field_value sh.size r.row.size; truelen = field_value sh.truelen r.row.len }

  abbrev as_row : StringSpan → List ℕ
  as_row name = row origin r.row.hashkind known sh as_front as_middle name r.row.count as_tail

  -- The item has the row with its name, and its references begin at `place`.
  abbrev as_read : StringSpan → ℕ → Item
  as_read name place =
      item (as_row name) r.refs (record { place = place; width = sh.refwidth; count = r.row.count })
      (make_context r.row.address (cond sh.cached (push c (field_value sh.class r.row.class)) c))

  reads_refs_and_tail : (q : ℕ) (name : StringSpan)
      → Reads q (from_ref_count top c origin known r.row.hashkind sh as_front as_middle name) (join (encode_refs sh r.row r.refs ∷ encode_tail sh r.row ∷ []))
      (as_read name (q + sh.countwidth))
  unfolding from_ref_count encode_refs
  reads_refs_and_tail q name =
      let n : ℕ = r.row.count in
      let counted : List ℕ = be sh.countwidth n in
      let refs : List ℕ = encode_list sh.refwidth r.row.address r.refs in
      rw (append_assoc counted refs)
      (reads_then q _ _ counted _ n _ (reads_ref_count top before sh r t q)
      (rw (length_be sh.countwidth n)
      (reads_then _ _ _ refs _ _ _ (reads_refs top before sh r t (q + sh.countwidth))
      (reads_then _ _ _ (encode_tail sh r.row) [] as_tail _ (reads_tail top before sh r t _) (reads_yield _ _)))))

  row_of_numbers : (place : ℕ) → ShapeMatches known sh r → r.row.first ≡ origin.index
      → as_row (name_text sh.name place r.row.namelen) ≡ numbers (cond (eqb sh.name 0) 0 place) origin.offset r
  unfolding row numbers
  row_of_numbers place s e =
      let n : ℕ = r.row.namelen in
      let at : (name_text sh.name place n).place ≡ cond (eqb sh.name 0) 0 place = text_place (eqb sh.name 0) sh.name place n refl in
      let long : (name_text sh.name place n).len ≡ n = text_len sh.name place n r.name t.name t.namelen in
      rw (s.kind, s.class, s.size, s.len, s.prim, e, at, long)

  reads_fields : (q : ℕ) → ShapeMatches known sh r → r.row.first ≡ origin.index
      → Reads q (fields top before c origin known r.row.hashkind sh) (encode_fields before sh r.row r.refs r.name)
      (item (numbers (name_in q sh r.row) origin.offset r) r.refs (span_in q sh r.row)
      (make_context r.row.address (cond sh.cached (push c r.row.class) c)))
  unfolding fields encode_fields
  reads_fields q s e =
      let place : ℕ = name_length_at q sh r.row in
      let name : StringSpan = name_text sh.name (place + sh.name) r.row.namelen in
      rw (← row_of_numbers (place + sh.name) s e, ← cached_same c sh.cached (field_value sh.class r.row.class) r.row.class s.cached)
      (reads_then q _ _ (encode_front before sh r.row) _ as_front _ (reads_front top before sh r t q)
      (rw (length_front before sh r.row)
      (reads_then _ _ _ (encode_middle sh r.row) _ as_middle _ (reads_middle top before sh r t _)
      (rw (length_middle sh r.row)
      (reads_then _ _ _ (encode_name sh r.row r.name) _ name _ (reads_class_name top before sh r t place)
      (rw (length_name sh r.row r.name, t.namelen) (reads_refs_and_tail (place + (sh.name + r.row.namelen)) name)))))))

-- ---- the name

no_name : (w : ℕ) (name : List ℕ) → NameFits w name → w ≡ 0 → name ≡ []
no_name w name (unnamed e) z = e
no_name w name (named some short seen) z = absurd (omega arith)

-- The name of a record that is written at p lies after its length, whatever the shape.
name_after_length : (before : ℕ) (pl : Plan) (r : Rec) (p n : ℕ) (pre post : List ℕ) → length pre ≡ p → length r.name ≡ n
    → take n (drop (name_length_at (fields_at p pl) pl.shape r.row + pl.shape.name)
    (pre ++ (encode_planned before pl r.row r.refs r.name ++ post))) ≡ r.name
unfolding encode_planned encode_tag encode_fields encode_name
name_after_length before pl r p n pre post e d =
    let sh : Shape = pl.shape in
    let front : List ℕ = encode_front before sh r.row in
    let middle : List ℕ = encode_middle sh r.row in
    let len : List ℕ = be sh.name r.row.namelen in
    let tag : List ℕ = be 1 pl.tag in
    let flag : List ℕ = be (cond (ltb pl.tag 0x20) 1 0) pl.flags in
    let ahead : List ℕ = pre ++ (tag ++ (flag ++ (front ++ (middle ++ len)))) in
    let bytes_after : List ℕ = join (encode_refs sh r.row r.refs ∷ encode_tail sh r.row ∷ []) ++ post in
    let parts : pre ++ (encode_planned before pl r.row r.refs r.name ++ post) ≡ ahead ++ (r.name ++ bytes_after) = simp (append-nil, append_assoc) in
    let l : length ahead ≡ name_length_at (fields_at p pl) sh r.row + sh.name =
    simp (length-append, length_front, length_middle, length_be) (omega arith) in
    rw (parts, drop_at ahead (r.name ++ bytes_after) _ l, take_at r.name bytes_after n d)

-- ---- the tag and the flag byte

-- Bytes that are read from the tag on are read as an entry at the offset of the tag.
pub reads_entry : (h : Header) (before : ℕ) (c : Cache) (index p : ℕ) {bs : List ℕ} {i : Item} → Reads p (from_tag h before c (origin_at p index)) bs i
    → Reads p (entry h before c index) bs i
unfolding entry
reads_entry h before c index p r = reads_skip p position _ _ p _ (reads_position p) r

reads_form : (p t : ℕ) (fm : Form) → tag_form t ≡ Some fm → Reads p (need_form (tag_form t)) [] fm
unfolding need_form
reads_form p t fm e = rw e (reads_yield p fm)

module _ (h : Header) (c : Cache) (before index : ℕ) (r : Rec) (fm : Form) (t f known p : ℕ) (s : Decodable h c before r fm t f known) where
  reads_flag_byte : (q : ℕ) → Reads q (flag_byte h t) (be (cond (ltb t 0x20) 1 0) f) f
  unfolding flag_byte
  reads_flag_byte q =
      let e : not (h.hashed && (moved_bit t f || hashed_bit t f)) ≡ true = rw s.bits_clear in
      reads_end q _ _ _ f f (reads_field q (cond (ltb t 0x20) 1 0) f s.flag_byte) (reads_skip _ _ _ [] tt f (reads_check _ 11 _ e) (reads_yield _ f))

  -- A record that is written at any offset p of a dump is read back there, whatever lies before and after it.
  pub reads_planned : r.row.first ≡ index
      → let pl : Plan = record { tag = t; flags = f; shape = shape (h.bits / 8) fm t f } in
      Reads p (entry h before c index) (encode_planned before pl r.row r.refs r.name)
      (item (numbers (name_at p pl r.row) p r) r.refs (span_at p pl r.row)
      (make_context r.row.address (cond pl.shape.cached (push c r.row.class) c)))
  unfolding from_tag record_body encode_planned encode_tag name_at span_at
  reads_planned e =
      let sh : Shape = shape (h.bits / 8) fm t f in
      let w : ℕ = cond (ltb t 0x20) 1 0 in
      let body : List ℕ = encode_fields before sh r.row r.refs r.name in
      reads_entry h before c index p
      (rw (append_assoc (be 1 t) (be w f))
      (reads_then p _ _ (be 1 t) _ t _ (reads_field p 1 t s.tag_byte)
      (rw (s.not_end_tag, length_be 1 t)
      (reads_skip (p + 1) _ _ _ fm _ (reads_form (p + 1) t fm s.form_is)
      (reads_skip (p + 1) _ _ _ known _ (reads_need (p + 1) 10 _ known s.known_is)
      (reads_then (p + 1) _ _ (be w f) body f _ (reads_flag_byte (p + 1))
      (rw (length_be w f, s.hash) (reads_fields (max_address h.bits) before known (origin_at p index) c sh r s.fit (p + 1 + w) s.matches e))))))))

  -- Its name lies at the place in its row.
  pub name_at_place : (pre post : List ℕ) → length pre ≡ p
      → let pl : Plan = record { tag = t; flags = f; shape = shape (h.bits / 8) fm t f } in
      take r.row.namelen (drop (name_at p pl r.row) (pre ++ (encode_planned before pl r.row r.refs r.name ++ post))) ≡ r.name
  unfolding name_at
  name_at_place pre post e = by (eqb pl.shape.name 0) refl
    where
      pl : Plan
      pl = record { tag = t; flags = f; shape = shape (h.bits / 8) fm t f }

      all : List ℕ
      all = pre ++ (encode_planned before pl r.row r.refs r.name ++ post)

      by : (b : Bool) → eqb pl.shape.name 0 ≡ b
          → take r.row.namelen (drop (cond b 0 (name_length_at (fields_at p pl) pl.shape r.row + pl.shape.name)) all) ≡ r.name
      by true k =
          let z : r.name ≡ [] = no_name pl.shape.name r.name s.fit.name (eqb-true _ _ k) in
          let n : r.row.namelen ≡ 0 = sym s.fit.namelen ∙ ap length z in
          rw n (sym z)
      by false k = name_after_length before pl r p r.row.namelen pre post e s.fit.namelen
