-- The bytes of a record: the tag, the flag byte and the fields in file order (docs/FORMAT.md 3.3). The widths come from `Shape`,
-- as in the reader. A field that a form lacks has no bytes.
-- A reader must believe these definitions; that decoding the bytes gives the encoded record is proved in phd_round_trip.
use Rattle.std.specs.Prelude.{◌≡◌, ℕ, ◌/◌, ◌≤◌, List, [], ◌∷◌, ◌++◌, cond, ltb}
use Rattle.encode.specs.Encode.{join, be, gap, twos_complement, encode_ref_list}
use Rattle.phd.specs.Phd.{hash_bytes, push}
use Rattle.phd.specs.Shapes.{record_bytes}
use Rattle.phd.specs.declared.cache.Cache.{Cache}
use Rattle.phd.specs.declared.Header.{Header}
use Rattle.phd.specs.declared.Shape.{Shape}
use Rattle.table.specs.Rows.{Rec}
use Rattle.table.specs.declared.Row.{Row}
use Rattle.phd_plan.specs.FormChoice.{plan_input, make_plan}
use Rattle.phd_plan.specs.declared.Plan.{Plan}
use Rattle.phd_encode.specs.declared.sizes.EncodedSize.{EncodedSize}

-- The tag, and the flag byte if the form has one.
unfoldable pub encode_tag : Plan → List ℕ
encode_tag p = be 1 p.tag ++ be (cond (ltb p.tag 0x20) 1 0) p.flags

-- The gap, the class word and the array length, after a record at the address `before`.
unfoldable pub encode_front : ℕ → Shape → Row → List ℕ
encode_front before sh r = join (be sh.gap (twos_complement (gap before r.address)) ∷ be sh.class r.class ∷ be sh.len r.len ∷ [])

-- The instance size of a class, the hash and the superclass word.
unfoldable pub encode_middle : Shape → Row → List ℕ
encode_middle sh r = join (be sh.inst r.size ∷ be (hash_bytes r.hashkind) r.hash ∷ be sh.superclass r.class ∷ [])

-- The length and the bytes of a class name.
unfoldable pub encode_name : Shape → Row → List ℕ → List ℕ
encode_name sh r name = be sh.name r.namelen ++ name

-- The reference count, if it is not in the tag, and the references.
unfoldable pub encode_refs : Shape → Row → List ℕ → List ℕ
encode_refs sh r refs = be sh.countwidth r.count ++ encode_ref_list sh.refwidth r.address refs

-- The size of an array and the true length of an object array.
unfoldable pub encode_tail : Shape → Row → List ℕ
encode_tail sh r = be sh.size r.size ++ be sh.truelen r.len

-- All fields after the tag and the flag byte.
unfoldable pub encode_fields : ℕ → Shape → Row → List ℕ → List ℕ → List ℕ
encode_fields before sh r refs name =
    join (encode_front before sh r ∷ encode_middle sh r ∷ encode_name sh r name ∷ encode_refs sh r refs ∷ encode_tail sh r ∷ [])

-- The record of a row with its references and its name, encoded by a plan.
unfoldable pub encode_planned : ℕ → Plan → Row → List ℕ → List ℕ → List ℕ
encode_planned before p r refs name = encode_tag p ++ encode_fields before p.shape r refs name

-- A plan without a flag byte and without fields but the gap, the class word, the hash and the references, for a row without a
-- name; `namelen` is the length of the row's name.
pub record Compact (p : Plan) (namelen : ℕ) : Type 0 where
  pub tag : 0x20 ≤ p.tag
  pub len : p.shape.len ≡ 0
  pub inst : p.shape.inst ≡ 0
  pub superclass : p.shape.superclass ≡ 0
  pub name : p.shape.name ≡ 0
  pub unnamed : namelen ≡ 0
  pub countwidth : p.shape.countwidth ≡ 0
  pub size : p.shape.size ≡ 0
  pub truelen : p.shape.truelen ≡ 0

-- The plan of a record under the header h, after a record at the address `before`, with the cache c.
unfoldable pub plan_record : Header → ℕ → Cache → Rec → Plan
plan_record h before c r = make_plan (h.bits / 8) (plan_input c before r.row r.refs)

-- The bytes of that record.
unfoldable pub encode_record : Header → ℕ → Cache → Rec → List ℕ
encode_record h before c r = encode_planned before (plan_record h before c r) r.row r.refs r.name

-- The cache after that record.
unfoldable pub cache_after : Header → ℕ → Cache → Rec → Cache
cache_after h before c r = cond (plan_record h before c r).shape.cached (push c r.row.class) c

-- The size in bytes of a row's record by its plan.
abbrev pub plan_size : Plan → Row → ℕ
plan_size p r = record_bytes p.tag p.shape r

-- That size, and whether the class word is pushed into the cache.
unfoldable pub record_size : Plan → Row → EncodedSize
record_size p r = record { size = plan_size p r; cached = p.shape.cached }
