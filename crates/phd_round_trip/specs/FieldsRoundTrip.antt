-- The fields of a record are read back as they were written, whatever the shape: one law for each part of a record.
-- Assumes nothing.
use Rattle.std.specs.Prelude.{◌≡◌, refl, ℕ, zero, suc, ◌+◌, ◌%◌, ◌^◌, ◌≤◌, ◌<◌, true, cond, length, eqb}
use mathlib.Core.List.{List, [], ◌∷◌, ◌++◌}
use Rattle.std.proofs.Common.{arith, le-leb, ne_eqb}
use Rattle.decode.specs.Layout.{field, position}
use Rattle.decode.specs.Fields.{count, no_string}
use Rattle.decode.specs.declared.StringSpan.{StringSpan}
use Rattle.encode.specs.Encode.{be, encode_ref_list as encode_list}
use Rattle.encode.specs.Reads.{Reads, reads_then, reads_end, reads_skip, reads_yield, reads_field, reads_position, reads_check}
use Rattle.encode.specs.FieldRoundTrip.{reads_address, reads_ref, reads_count, reads_string}
use Rattle.phd.specs.Phd.{hash_bytes, front, middle, class_name, ref_count, ref_list, spanned_refs, true_length, tail, field_or}
use Rattle.phd.specs.declared.Shape.{Shape}
use Rattle.table.specs.Rows.{Rec}
use Rattle.phd_encode.specs.EncodeRecord.{encode_front, encode_middle, encode_name, encode_tail}
use Rattle.phd_round_trip.specs.Decodable.{field_value, RefsFit, NameFits, unnamed, named, CountFits, FieldsFit}

-- ---- one field

be_field_value : (w v : ℕ) → be w (field_value w v) ≡ be w v
unfolding be field_value
be_field_value zero v = refl
be_field_value (suc w) v = refl

reads_field_value : (p w v : ℕ) → field_value w v < 256 ^ w → Reads p (field w) (be w v) (field_value w v)
reads_field_value p w v h = rw (be_field_value w v) at (reads_field p w (field_value w v) h)

reads_count_field : (p w v : ℕ) → CountFits w v → Reads p (count w) (be w v) (field_value w v)
reads_count_field p w v h = rw (be_field_value w v) at (reads_count p w (field_value w v) h.small h.fit)

-- ---- the name, the references and the true length

-- A name of `len` bytes at a place, if its length has a field (of w bytes); otherwise no text.
abbrev pub name_text : ℕ → ℕ → ℕ → StringSpan
name_text w place len = cond (eqb w 0) no_string (record { present = true; place = place; len = len })

reads_name : (p w len : ℕ) (name : List ℕ) → NameFits w name → length name ≡ len → Reads p (class_name w) (be w len ++ name) (name_text w (p + w) len)
unfolding class_name be
reads_name p w len name (unnamed e) l = rw e (reads_yield p no_string)
reads_name p w len name (named some short seen) l = rw l at (reads_string p 0x21 1 name some short seen)

reads_count_or_known : (p w known v : ℕ) → CountFits w v → field_or w (field_value w v) known ≡ v → Reads p (ref_count w known) (be w v) v
unfolding ref_count field_or be field_value
reads_count_or_known p zero known v h e = rw e (reads_yield p v)
reads_count_or_known p (suc w) known v h e = rw (ne_eqb (suc w) 0 (omega arith)) (reads_count_field p (suc w) v h)

reads_ref_list : (w a top : ℕ) → a % 4 ≡ 0 → w ≤ 8 → (rs : List ℕ) (p : ℕ) → RefsFit top a w rs
    → Reads p (ref_list w a top (length rs)) (encode_list w a rs) rs
unfolding ref_list encode_list
reads_ref_list w a top h b [] p g = reads_yield p []
reads_ref_list w a top h b (r ∷ rs) p g =
    let x = g.0 in
    reads_then p _ _ _ (encode_list w a rs) r (r ∷ rs) (reads_ref p w a top r h x.aligned x.most x.width_pos b x.fit x.some)
    (reads_end _ _ _ (encode_list w a rs) rs (r ∷ rs) (reads_ref_list w a top h b rs _ g.1) (reads_yield _ (r ∷ rs)))

reads_true_length : (p w n v : ℕ) → CountFits w v → ((w ≡ 0 → ⊥) → n ≤ v) → Reads p (true_length w n) (be w v) (field_value w v)
unfolding true_length be field_value
reads_true_length p zero n v h e = reads_yield p 0
reads_true_length p (suc w) n v h e =
    let l : n ≤ v = e (λ z. omega arith) in
    rw (ne_eqb (suc w) 0 (omega arith))
    (reads_end p _ _ (be (suc w) v) v v (reads_count_field p (suc w) v h) (reads_skip _ _ _ [] tt v (reads_check _ 12 _ (le-leb n v l)) (reads_yield _ v)))

-- ---- the parts of a record

-- A record r that fits the shape sh; p is the offset of the part.
module _ (top before : ℕ) (sh : Shape) (r : Rec) (t : FieldsFit top before sh r) (p : ℕ) where
  -- The gap, the class word and the array length are read back.
  pub reads_front : Reads p (front top before sh) (encode_front before sh r.row)
      (record { address = r.row.address; class = field_value sh.class r.row.class; len = field_value sh.len r.row.len })
  unfolding front encode_front
  reads_front =
      reads_then p _ _ _ _ r.row.address _
      (reads_address p sh.gap before top r.row.address t.before_aligned t.aligned t.most t.gap_width_pos t.gap_width_le t.gap_fits)
      (reads_then _ _ _ _ _ (field_value sh.class r.row.class) _ (reads_field_value _ sh.class r.row.class t.class)
      (reads_then _ _ _ _ [] (field_value sh.len r.row.len) _ (reads_count_field _ sh.len r.row.len t.len) (reads_yield _ _)))

  -- The instance size, the hash and the superclass word are read back.
  pub reads_middle : Reads p (middle sh (hash_bytes r.row.hashkind)) (encode_middle sh r.row)
      (record { inst = field_value sh.inst r.row.size; hash = r.row.hash; superclass = field_value sh.superclass r.row.class })
  unfolding middle encode_middle
  reads_middle =
      reads_then p _ _ _ _ (field_value sh.inst r.row.size) _ (reads_count_field p sh.inst r.row.size t.inst)
      (reads_then _ _ _ _ _ r.row.hash _ (reads_field _ (hash_bytes r.row.hashkind) r.row.hash t.hash)
      (reads_then _ _ _ _ [] (field_value sh.superclass r.row.class) _ (reads_field_value _ sh.superclass r.row.class t.superclass) (reads_yield _ _)))

  -- The name's length and its bytes are read back.
  pub reads_class_name : Reads p (class_name sh.name) (encode_name sh r.row r.name) (name_text sh.name (p + sh.name) r.row.namelen)
  unfolding encode_name
  reads_class_name = reads_name p sh.name r.row.namelen r.name t.name t.namelen

  -- The reference count is read back from its field, or known from the tag.
  pub reads_ref_count : Reads p (ref_count sh.countwidth sh.count) (be sh.countwidth r.row.count) r.row.count
  reads_ref_count = reads_count_or_known p sh.countwidth sh.count r.row.count t.countwidth t.count

  -- The references are read back, together with where they lie.
  pub reads_refs : Reads p (spanned_refs sh.refwidth r.row.address top r.row.count) (encode_list sh.refwidth r.row.address r.refs)
      (record { span = record { place = p; width = sh.refwidth; count = r.row.count }; list = r.refs })
  unfolding spanned_refs
  reads_refs =
      reads_skip p position _ _ p _ (reads_position p)
      (reads_end p _ _ _ r.refs _
      (rw t.refs_count at (reads_ref_list sh.refwidth r.row.address top t.aligned t.ref_width_le r.refs p t.refs))
      (reads_yield _ _))

  -- The size and the true length are read back.
  pub reads_tail : Reads p (tail sh.size sh.truelen r.row.count) (encode_tail sh r.row)
      (record { size = field_value sh.size r.row.size; truelen = field_value sh.truelen r.row.len })
  unfolding tail encode_tail
  reads_tail =
      reads_then p _ _ _ _ (field_value sh.size r.row.size) _ (reads_field_value p sh.size r.row.size t.size)
      (reads_end _ _ _ _ (field_value sh.truelen r.row.len) _ (reads_true_length _ sh.truelen r.row.count r.row.len t.truelen t.count_le_len)
      (reads_yield _ _))
