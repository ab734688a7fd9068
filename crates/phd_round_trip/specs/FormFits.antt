-- A good record fits the fields of a shape (`fields_fit_of`), by the conditions that each form satisfies (`FormFits`).
-- Assumes nothing.
use Rattle.std.specs.Prelude.{◌≡◌, refl, ℕ, zero, suc, ◌/◌, ◌%◌, ◌^◌, ◌≤◌, ◌<◌, true, List, [], ◌∷◌, length}
use Rattle.std.proofs.Common.{lit<, pow_pos, arith, ne_eqb}
use Rattle.encode.specs.Encode.{gap, fits}
use Rattle.encode.specs.Widths.{gap_fits, AllFit}
use Rattle.phd.specs.Phd.{max_address, width, field_or}
use Rattle.phd.specs.Shapes.{WidthsLe8}
use Rattle.phd.specs.declared.Header.{Header}
use Rattle.phd.specs.declared.Shape.{Shape}
use Rattle.table.specs.Rows.{Rec}
use Rattle.phd_check.specs.WellFormed.{GoodRefs, GoodKind, a_class, an_object, an_array, a_primitive, GoodRec}
use Rattle.table.specs.declared.Row.{Row}
use Rattle.phd_encode.specs.PlanBounds.{AddressSize}
use Rattle.phd_round_trip.specs.Decodable.{field_value, RefsFit, NameFits, CountFits, FieldsFit}

-- ---- optional fields

-- The width of a field that has w bytes, or is absent.
pub data OptionalField (w : ℕ) : ℕ → Type 0 where
  absent : OptionalField w 0
  present : OptionalField w w

-- A value that fits a field is read back from it, also if the field has no bytes.
pub field_value_fits : (w v : ℕ) → v < 256 ^ w → field_value w v ≡ v
unfolding field_value
field_value_fits zero v h = omega arith
field_value_fits (suc w) v h = refl

field_value_lt : {w x : ℕ} (v : ℕ) → OptionalField w x → v < 256 ^ w → field_value x v < 256 ^ x
unfolding field_value
field_value_lt v absent h = lit< tt
field_value_lt {w} v present h = rw (field_value_fits w v h) h

-- A number below 2^31 fits a count field of 4 bytes, or an absent one.
pub count_fits_4 : {x : ℕ} (v : ℕ) → OptionalField 4 x → v < 2 ^ 31 → CountFits x v
unfolding field_value
count_fits_4 v absent h = record { small = lit< tt; fit = lit< tt }
count_fits_4 v present h = record { small = h; fit = omega arith }

-- A field that is present gives its value.
pub present_field_value : (w v other : ℕ) → 1 ≤ w → field_or w (field_value w v) other ≡ v
unfolding field_or field_value
present_field_value zero v other l = absurd (omega arith)
present_field_value (suc w) v other l = rw (ne_eqb (suc w) 0 (omega arith))

-- A width code means at least one byte.
pub width_pos : (c : ℕ) → 1 ≤ width c
unfolding width
width_pos c = pow_pos c

-- ---- good records

pub empty_of_length : (l : List ℕ) → length l ≡ 0 → l ≡ []
empty_of_length [] e = refl
empty_of_length (x ∷ l) e = absurd (omega arith)

-- The length in a good row is below 2^31.
pub len_lt : (r : Row) (name : List ℕ) → GoodKind r name → r.len < 2 ^ 31
len_lt r name (a_class _ _ _ e _ _ _ _) = omega arith
len_lt r name (an_object _ _ e _ _) = omega arith
len_lt r name (an_array _ _ l _ _ _) = l
len_lt r name (a_primitive _ _ _ _ l _ _) = l

-- The size in a good row is below 2^32.
size_lt : (r : Row) (name : List ℕ) → GoodKind r name → r.size < 2 ^ 32
size_lt r name (a_class _ _ l _ _ _ _ _) = omega arith
size_lt r name (an_object _ e _ _ _) = omega arith
size_lt r name (an_array _ l _ _ _ _) = l
size_lt r name (a_primitive _ _ _ l _ _ _) = l

-- All good references fit 8 bytes each.
pub refs_fit_8 : (top a : ℕ) (rs : List ℕ) → top < 256 ^ 8 → a ≤ top → GoodRefs top rs → AllFit 8 a rs
refs_fit_8 top a [] l h g = tt
refs_fit_8 top a (r ∷ rs) l h g = let m : r ≤ top = g.0.most in (gap_fits 8 a r (omega arith) (omega arith), refs_fit_8 top a rs l h g.1)

-- Good references whose distances fit w bytes satisfy `RefsFit`.
pub good_refs_fit : (top a w : ℕ) (rs : List ℕ) → 1 ≤ w → GoodRefs top rs → AllFit w a rs → RefsFit top a w rs
good_refs_fit top a w [] l g f = tt
good_refs_fit top a w (r ∷ rs) l g f =
    (record { aligned = g.0.aligned; some = g.0.some; most = g.0.most; fit = f.0; width_pos = l }, good_refs_fit top a w rs l g.1 f.1)

-- ---- a good record fits a shape

-- The conditions that each form satisfies, for the shape sh that its tag and its flag byte determine.
pub record FormFits (h : Header) (before : ℕ) (sh : Shape) (r : Rec) : Type 0 where
  pub gap_width_pos : 1 ≤ sh.gap
  pub gap_fits : fits sh.gap (gap before r.row.address) ≡ true
  pub class : OptionalField (h.bits / 8) sh.class
  pub len : CountFits sh.len r.row.len
  pub inst : CountFits sh.inst r.row.size
  pub superclass : OptionalField (h.bits / 8) sh.superclass
  pub name : NameFits sh.name r.name
  pub countwidth : OptionalField 4 sh.countwidth
  pub count : field_or sh.countwidth (field_value sh.countwidth r.row.count) sh.count ≡ r.row.count
  pub refs : RefsFit (max_address h.bits) r.row.address sh.refwidth r.refs
  pub size : OptionalField 4 sh.size
  pub truelen : OptionalField 4 sh.truelen
  pub count_le_len : (sh.truelen ≡ 0 → ⊥) → r.row.count ≤ r.row.len

-- A good record fits the fields of a shape that satisfies these conditions.
pub fields_fit_of : (h : Header) (before index : ℕ) (sh : Shape) (r : Rec) → AddressSize h.bits → GoodRec h index r → before % 4 ≡ 0
    → WidthsLe8 sh → FormFits h before sh r → FieldsFit (max_address h.bits) before sh r
fields_fit_of h before index sh r w g bf n k =
    let l : r.row.len < 2 ^ 31 = len_lt r.row r.name g.kind_good in
    let c : r.row.class < 256 ^ (h.bits / 8) = omega (arith, g.class, w.max_address_fits) in
    record {
      before_aligned = bf;
      aligned = g.aligned;
      most = g.most;
      gap_width_pos = k.gap_width_pos;
      gap_width_le = n.gap;
      gap_fits = k.gap_fits;
      class = field_value_lt r.row.class k.class c;
      len = k.len;
      inst = k.inst;
      hash = g.hash;
      superclass = field_value_lt r.row.class k.superclass c;
      name = k.name;
      namelen = g.namelen;
      countwidth = count_fits_4 r.row.count k.countwidth g.few;
      count = k.count;
      refs_count = g.count;
      ref_width_le = n.refwidth;
      refs = k.refs;
      size = field_value_lt r.row.size k.size (size_lt r.row r.name g.kind_good);
      truelen = count_fits_4 r.row.len k.truelen l;
      count_le_len = k.count_le_len;
    }
