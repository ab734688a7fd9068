-- `Decodable`: the conditions under which a record is read back from its tag, its flag byte and its fields. EntryRoundTrip proves
-- that such a record is read back, whatever the form; ChosenForm proves, form by form, that a good record satisfies the
-- conditions in the form chosen for it.
-- Assumes nothing.
use Rattle.std.specs.Prelude.{◌≡◌, ℕ, zero, suc, ◌+◌, ◌/◌, ◌%◌, ◌^◌, ◌≤◌, ◌<◌, true, false, cond, ◌&&◌, ◌||◌, List, [], ◌∷◌, length, ltb, eqb, Some}
use Rattle.decode.specs.Numbers.{all_within}
use Rattle.encode.specs.Encode.{gap, fits}
use Rattle.phd.specs.Phd.{max_address, tag_form, slot_class, moved_bit, hashed_bit, hash_kind, hash_bytes, shape, field_or}
use Rattle.phd.specs.declared.cache.Cache.{Cache}
use Rattle.phd.specs.declared.Header.{Header}
use Rattle.phd.specs.declared.Form.{Form}
use Rattle.phd.specs.declared.Shape.{Shape}
use Rattle.table.specs.Rows.{Rec}

-- The value read from a field of w bytes into which v was written; 0 if there is no such field.
unfoldable pub field_value : ℕ → ℕ → ℕ
field_value zero v = 0
field_value (suc w) v = v

-- A reference r of a record at the address a fits a field of w bytes; top is the highest address.
pub record RefFits (top a w r : ℕ) : Type 0 where
  pub aligned : r % 4 ≡ 0
  pub some : 1 ≤ r
  pub most : r ≤ top
  pub width_pos : 1 ≤ w
  pub fit : fits w (gap a r) ≡ true

-- Each reference fits a field of w bytes.
abbrev pub RefsFit : ℕ → ℕ → ℕ → List ℕ → Type 0
RefsFit top a w [] = Unit {0}
RefsFit top a w (r ∷ rs) = RefFits top a w r × RefsFit top a w rs

-- The name fits the form: it is empty if the form has no field for its length, else it is a good name.
pub data NameFits : ℕ → List ℕ → Type 0 where
  unnamed : {l : List ℕ} → l ≡ [] → NameFits 0 l
  named : {l : List ℕ} → 1 ≤ length l → length l < 65536 → all_within 0x21 0x7E l ≡ true → NameFits 2 l

-- The number v fits a signed field of w bytes for counts: it is below 2^31 and below half of 256^w. With w = 0 there is no such
-- field.
pub record CountFits (w v : ℕ) : Type 0 where
  pub small : field_value w v < 2 ^ 31
  pub fit : field_value w v + field_value w v < 256 ^ w

-- The record r fits the fields of the shape sh, after a record at the address `before`; top is the highest address.
pub record FieldsFit (top before : ℕ) (sh : Shape) (r : Rec) : Type 0 where
  pub before_aligned : before % 4 ≡ 0
  pub aligned : r.row.address % 4 ≡ 0
  pub most : r.row.address ≤ top
  pub gap_width_pos : 1 ≤ sh.gap
  pub gap_width_le : sh.gap ≤ 8
  pub gap_fits : fits sh.gap (gap before r.row.address) ≡ true
  pub class : field_value sh.class r.row.class < 256 ^ sh.class
  pub len : CountFits sh.len r.row.len
  pub inst : CountFits sh.inst r.row.size
  pub hash : r.row.hash < 256 ^ hash_bytes r.row.hashkind
  pub superclass : field_value sh.superclass r.row.class < 256 ^ sh.superclass
  pub name : NameFits sh.name r.name
  pub namelen : length r.name ≡ r.row.namelen
  pub countwidth : CountFits sh.countwidth r.row.count
  -- The count is in a field or in the tag.
  pub count : field_or sh.countwidth (field_value sh.countwidth r.row.count) sh.count ≡ r.row.count
  pub refs_count : length r.refs ≡ r.row.count
  pub ref_width_le : sh.refwidth ≤ 8
  pub refs : RefsFit top r.row.address sh.refwidth r.refs
  pub size : field_value sh.size r.row.size < 256 ^ sh.size
  pub truelen : CountFits sh.truelen r.row.len
  pub count_le_len : (sh.truelen ≡ 0 → ⊥) → r.row.count ≤ r.row.len

-- The numbers that the shape sh gives are those of the record's row; `known` is the class word of a short object.
pub record ShapeMatches (known : ℕ) (sh : Shape) (r : Rec) : Type 0 where
  pub kind : sh.kind ≡ r.row.kind
  pub class : field_or sh.class (field_value sh.class r.row.class) (field_or sh.superclass (field_value sh.superclass r.row.class) known) ≡ r.row.class
  pub size : field_or sh.inst (field_value sh.inst r.row.size) (field_value sh.size r.row.size) ≡ r.row.size
  pub len : field_or sh.truelen (field_value sh.truelen r.row.len) (field_value sh.len r.row.len) ≡ r.row.len
  pub prim : sh.prim ≡ r.row.prim
  -- If the class word is pushed, it is read in full from its field.
  pub cached : sh.cached ≡ true → field_value sh.class r.row.class ≡ r.row.class

-- The tag t and the flag byte f decode to the form fm and the hash kind, and the record fits the shape that they determine.
-- `known` is the class word in the slot that the tag of a short object names, else 0.
pub record Decodable (h : Header) (c : Cache) (before : ℕ) (r : Rec) (fm : Form) (t f known : ℕ) : Type 0 where
  pub tag_byte : t < 256
  pub not_end_tag : eqb t 3 ≡ false
  pub form_is : tag_form t ≡ Some fm
  pub known_is : slot_class c t ≡ Some known
  pub flag_byte : f < 256 ^ cond (ltb t 0x20) 1 0
  pub bits_clear : h.hashed && (moved_bit t f || hashed_bit t f) ≡ false
  pub hash : hash_kind h t f ≡ r.row.hashkind
  pub fit : FieldsFit (max_address h.bits) before (shape (h.bits / 8) fm t f) r
  pub matches : ShapeMatches known (shape (h.bits / 8) fm t f) r
