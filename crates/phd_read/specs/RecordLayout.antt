-- A record that was read takes exactly the bytes of its shape, and its row agrees with its tag, its flag byte and its shape.
-- A reader must believe `FitsShape` and `HasLayout`.
use Rattle.std.specs.Prelude.{◌≡◌, ℕ, zero, suc, ◌+◌, ◌*◌, ◌/◌, ◌≤◌, List, [], ◌∷◌, length, ltb, eqb, Option, Some, None}
use Rattle.std.proofs.Math.Path.{refl}
use Rattle.std.proofs.Common.{ap, suc-mul, le-ltb, eqb-true}
use native.Mathlib.Omega.{arith}
use Rattle.std.proofs.Math.Bool.{cond}
use Rattle.std.proofs.lemmas.Bool.{eqb-false}
use Rattle.decode.specs.Layout.{whole, run}
use Rattle.decode.specs.Fields.{no_string}
use Rattle.decode.specs.Takes.{Takes, AddressIn, CountIn, takes_yield, takes_refuse, takes_then, takes_weaken, takes_cases, takes_field, takes_position, takes_check, takes_need, takes_address, takes_ref, takes_count, takes_string}
use Rattle.decode.specs.declared.StringSpan.{StringSpan}
use Rattle.table.specs.Rows.{row_at, without_place}
use Rattle.table.specs.declared.Row.{Row}
use Rattle.phd.specs.Phd.{max_address, tag_form, need_form, slot_class, flag_byte, hash_kind, hash_bytes, shape, front, middle, class_name, ref_count, ref_list, SpannedRefs, spanned_refs, true_length, tail, field_or, row, RecordContext, Item, end_item, item, from_ref_count, fields, record_body, from_tag, entry}
use Rattle.phd.specs.EntryLaws.{origin_at, entry_from_tag}
use Rattle.phd.specs.Shapes.{record_bytes}
use Rattle.phd.specs.declared.cache.Cache.{Cache}
use Rattle.phd.specs.declared.Header.{Header}
use Rattle.phd.specs.declared.Form.{Form}
use Rattle.phd.specs.declared.Form.TheVariants.{Short, Medium, Long, Class, ObjectArray, Primitive, LongPrimitive}
use Rattle.phd.specs.declared.Front.{Front}
use Rattle.phd.specs.declared.Middle.{Middle}
use Rattle.phd.specs.declared.Origin.{Origin}
use Rattle.phd.specs.declared.Shape.{Shape}
use Rattle.phd.specs.declared.Span.{Span}
use Rattle.phd.specs.declared.Tail.{Tail}

-- Every reference is the address a plus 4 times a signed number of w bytes, and at most top.
abbrev pub AllRelative : (w a top : ℕ) → List ℕ → Type 0
AllRelative w a top [] = Unit {0}
AllRelative w a top (r ∷ rs) = AddressIn w a top r × AllRelative w a top rs

-- The row r and the references rs agree with the shape by which they were read, after a record at the address `before`. `known`
-- is the class word of a short object, from its slot; top is the highest address.
pub record FitsShape (top before known : ℕ) (sh : Shape) (r : Row) (rs : List ℕ) : Type 0 where
  pub kind : r.kind ≡ sh.kind
  pub gap : AddressIn sh.gap before top r.address
  pub class : sh.class ≡ 0 → sh.superclass ≡ 0 → r.class ≡ known
  pub len : sh.truelen ≡ 0 → CountIn sh.len r.len
  pub count : sh.countwidth ≡ 0 → r.count ≡ sh.count
  pub refs : AllRelative sh.refwidth r.address top rs
  pub refs_count : length rs ≡ r.count

-- The layout of a record of n bytes with the row r and the references rs, read under the header h after a record at the address
-- `before`, with the cache c: its tag and its flag byte give its form and its hash kind, the row fits its shape, and n is the
-- number of bytes of its shape.
pub record HasLayout (h : Header) (before : ℕ) (c : Cache) (r : Row) (rs : List ℕ) (n : ℕ) : Type 0 where
  pub form : Form
  pub tag : ℕ
  pub flags : ℕ
  pub known : ℕ
  pub form_is : tag_form tag ≡ Some form
  pub known_is : slot_class c tag ≡ Some known
  pub no_flags : 0x20 ≤ tag → flags ≡ 0
  pub hash : r.hashkind ≡ hash_kind h tag flags
  pub fits : FitsShape (max_address h.bits) before known (shape (h.bits / 8) form tag flags) r rs
  pub bytes : n ≡ record_bytes tag (shape (h.bits / 8) form tag flags) r

-- ---- the parts of a record

takes_front : (top before : ℕ) (sh : Shape)
    → Takes (λ (v : Front) n. (n ≡ sh.gap + sh.class + sh.len) × AddressIn sh.gap before top v.address × CountIn sh.len v.len) (front top before sh)
unfolding front
takes_front top before sh =
    takes_then _ _ _ (takes_address sh.gap before top) (λ a n e. takes_then _ _ _ (takes_field sh.class) (λ class n₁ e₁.
    takes_then _ _ _ (takes_count sh.len) (λ len n₂ e₂. takes_yield _ (omega (arith, e.0, e₁.0, e₂.0), e.1, e₂.1))))

takes_middle : (sh : Shape) (hb : ℕ) → Takes (λ (_ : Middle) n. n ≡ sh.inst + hb + sh.superclass) (middle sh hb)
unfolding middle
takes_middle sh hb =
    takes_then _ _ _ (takes_count sh.inst) (λ inst n e. takes_then _ _ _ (takes_field hb) (λ hash n₁ e₁.
    takes_then _ _ _ (takes_field sh.superclass) (λ superclass n₂ e₂. takes_yield _ (omega (arith, e.0, e₁.0, e₂.0)))))

-- The length of a name has two bytes, if the form has a name.
abbrev NameWidth : ℕ → Type 0
NameWidth w = (w ≡ 0 → ⊥) → w ≡ 2

takes_name : (w : ℕ) → NameWidth w → Takes (λ (t : StringSpan) n. n ≡ w + t.len) (class_name w)
unfolding class_name
takes_name w two =
    takes_cases (eqb w 0) _ _ (λ e. takes_yield no_string (omega (arith, eqb-true w 0 e)))
    (λ e. takes_weaken (takes_string 0x21 1) (λ t n k. omega (arith, k.0, two (eqb-false w 0 e))))

takes_ref_count : (w known : ℕ) → Takes (λ v n. (n ≡ w) × (w ≡ 0 → v ≡ known)) (ref_count w known)
unfolding ref_count
takes_ref_count w known =
    takes_cases (eqb w 0) _ _ (λ e. takes_yield known (omega (arith, eqb-true w 0 e), λ _. refl))
    (λ e. takes_weaken (takes_count w) (λ v n k. (k.0, λ z. absurd (eqb-false w 0 e z))))

takes_ref_list : (w a top k : ℕ) → Takes (λ rs n. (n ≡ k * w) × AllRelative w a top rs × (length rs ≡ k)) (ref_list w a top k)
unfolding ref_list
takes_ref_list w a top zero = takes_yield [] (omega arith, tt, refl)
takes_ref_list w a top (suc k) =
    takes_then _ _ _ (takes_ref w a top) (λ r n e. takes_then _ _ _ (takes_ref_list w a top k) (λ rs n₁ e₁.
    takes_yield (r ∷ rs) (omega (arith, e.0, e₁.0, suc-mul k w), (e.1, e₁.1), ap suc e₁.2)))

takes_spanned_refs : (w a top k : ℕ) → Takes (λ (ls : SpannedRefs) n. (n ≡ k * w) × AllRelative w a top ls.list × (length ls.list ≡ k)) (spanned_refs w a top k)
unfolding spanned_refs
takes_spanned_refs w a top k =
    takes_then _ _ _ takes_position (λ p n e. takes_then _ _ _ (takes_ref_list w a top k) (λ rs n₁ e₁.
    takes_yield _ (omega (arith, e, e₁.0), e₁.1, e₁.2)))

takes_true_length : (w k : ℕ) → Takes (λ _ n. n ≡ w) (true_length w k)
unfolding true_length
takes_true_length w k =
    takes_cases (eqb w 0) _ _ (λ e. takes_yield 0 (omega (arith, eqb-true w 0 e)))
    (λ e. takes_then _ _ _ (takes_count w) (λ t n e₁. takes_then _ _ _ (takes_check 12 _) (λ _ n₁ e₂. takes_yield t (omega (arith, e₁.0, e₂.0)))))

takes_tail : (size truelen k : ℕ) → Takes (λ (_ : Tail) n. n ≡ size + truelen) (tail size truelen k)
unfolding tail
takes_tail size truelen k =
    takes_then _ _ _ (takes_field size) (λ z n e. takes_then _ _ _ (takes_true_length truelen k) (λ t n₁ e₁.
    takes_yield _ (omega (arith, e.0, e₁))))

-- ---- the fields of a record

-- The bytes of the fields from the reference count on.
abbrev bytes_from_ref_count : Shape → Row → ℕ
bytes_from_ref_count sh r = sh.countwidth + r.count * sh.refwidth + (sh.size + sh.truelen)

-- The bytes of all fields.
abbrev fields_bytes : Shape → Row → ℕ
fields_bytes sh r =
    sh.gap + sh.class + sh.len + (sh.inst + hash_bytes r.hashkind + sh.superclass) + (sh.name + r.namelen) + bytes_from_ref_count sh r

-- The row that was read, without its name place.
abbrev pub bare_row : List ℕ → Row
bare_row row = without_place (row_at row 0)

-- The fields of a record take n bytes, its hash kind is hk, and its row fits the shape.
abbrev FieldsFit : (top before known hk : ℕ) → Shape → Item → ℕ → Type 0
FieldsFit top before known hk sh end_item n = Unit {0}
FieldsFit top before known hk sh (item r rs sp k) n =
    (n ≡ fields_bytes sh (bare_row r)) × ((bare_row r).hashkind ≡ hk) × FitsShape top before known sh (bare_row r) rs

module _ (top before : ℕ) (c : Cache) (origin : Origin) (known hk : ℕ) (sh : Shape) where
  takes_from_ref_count : (v : Front) (m : Middle) (name : StringSpan) (k : ℕ)
      → (k ≡ sh.gap + sh.class + sh.len + (sh.inst + hash_bytes hk + sh.superclass) + (sh.name + name.len))
      → AddressIn sh.gap before top v.address → CountIn sh.len v.len
      → Takes (λ i n. FieldsFit top before known hk sh i (k + n)) (from_ref_count top c origin known hk sh v m name)
  unfolding from_ref_count row row_at without_place field_or
  takes_from_ref_count v m name k e p q =
      takes_then _ _ _ (takes_ref_count sh.countwidth sh.count) (λ n n₁ e₁.
      takes_then _ _ _ (takes_spanned_refs sh.refwidth v.address top n) (λ ls n₂ e₂.
      takes_then _ _ _ (takes_tail sh.size sh.truelen n) (λ t n₃ e₃.
      takes_yield _ (
        omega (arith, e, e₁.0, e₂.0, e₃),
        refl,
        record {
          kind = refl;
          gap = p;
          class = λ z y. rw (z, y);
          len = λ z. rw z q;
          count = e₁.1;
          refs = e₂.1;
          refs_count = e₂.2;
        },
      ))))

  takes_fields : NameWidth sh.name → Takes (FieldsFit top before known hk sh) (fields top before c origin known hk sh)
  unfolding fields
  takes_fields two =
      takes_then _ _ _ (takes_front top before sh) (λ v n e. takes_then _ _ _ (takes_middle sh (hash_bytes hk)) (λ m n₁ e₁.
      takes_then _ _ _ (takes_name sh.name two) (λ name n₂ e₂.
      takes_weaken (takes_from_ref_count v m name (n + (n₁ + n₂)) (omega (arith, e.0, e₁, e₂)) e.1 e.2)
      (λ i k t. let z : n + (n₁ + (n₂ + k)) ≡ n + (n₁ + n₂) + k = omega arith in rw z t))))

-- ---- a record after its tag, and a whole record

shape_name_width : (w : ℕ) (fm : Form) (t f : ℕ) → NameWidth (shape w fm t f).name
unfolding shape
shape_name_width w Short t f z = absurd (z refl)
shape_name_width w Medium t f z = absurd (z refl)
shape_name_width w Long t f z = absurd (z refl)
shape_name_width w Class t f z = refl
shape_name_width w ObjectArray t f z = absurd (z refl)
shape_name_width w Primitive t f z = absurd (z refl)
shape_name_width w LongPrimitive t f z = absurd (z refl)

takes_need_form : (g : Option Form) → Takes (λ fm n. (n ≡ 0) × (g ≡ Some fm)) (need_form g)
unfolding need_form
takes_need_form (Some fm) = takes_yield fm (refl, refl)
takes_need_form None = takes_refuse 6

takes_flag_byte : (h : Header) (t : ℕ) → Takes (λ f n. (n ≡ cond (ltb t 0x20) 1 0) × (0x20 ≤ t → f ≡ 0)) (flag_byte h t)
unfolding flag_byte
takes_flag_byte h t =
    takes_then _ _ _ (takes_field (cond (ltb t 0x20) 1 0)) (λ f n e. takes_then _ _ _ (takes_check 11 _) (λ _ n₁ e₁.
    takes_yield f (omega (arith, e.0, e₁.0), λ l. e.1 (rw (le-ltb t 0x20 l)))))

module _ (h : Header) (before : ℕ) (c : Cache) where
  -- A record has a layout of n bytes.
  abbrev ItemHasLayout : Item → ℕ → Type 0
  ItemHasLayout end_item n = Unit {0}
  ItemHasLayout (item r rs sp k) n = HasLayout h before c (bare_row r) rs n

  takes_record_body : (origin : Origin) (t : ℕ) → Takes (λ i n. ItemHasLayout i (1 + n)) (record_body h before c origin t)
  unfolding record_body record_bytes
  takes_record_body origin t =
      takes_then _ _ _ (takes_need_form (tag_form t)) (λ fm n e. takes_then _ _ _ (takes_need 10 _) (λ known n₁ e₁.
      takes_then _ _ _ (takes_flag_byte h t) (λ f n₂ e₂.
      takes_weaken (takes_fields (max_address h.bits) before c origin known (hash_kind h t f) (shape (h.bits / 8) fm t f) (shape_name_width (h.bits / 8) fm t f))
      (laid fm known f n n₁ n₂ e e₁ e₂))))
    where
      laid : (fm : Form) (known f n n₁ n₂ : ℕ) → (n ≡ 0) × (tag_form t ≡ Some fm) → (n₁ ≡ 0) × (slot_class c t ≡ Some known)
          → (n₂ ≡ cond (ltb t 0x20) 1 0) × (0x20 ≤ t → f ≡ 0)
          → (i : Item) (k : ℕ) → FieldsFit (max_address h.bits) before known (hash_kind h t f) (shape (h.bits / 8) fm t f) i k → ItemHasLayout i (1 + (n + (n₁ + (n₂ + k))))
      laid fm known f n n₁ n₂ e e₁ e₂ end_item k x = tt
      laid fm known f n n₁ n₂ e e₁ e₂ (item r rs sp y) k x = record {
        form = fm;
        tag = t;
        flags = f;
        known = known;
        form_is = e.1;
        known_is = e₁.1;
        no_flags = e₂.1;
        hash = x.1;
        fits = x.2;
        bytes = omega (arith, e.0, e₁.0, e₂.0, x.0);
      }

  takes_from_tag : (origin : Origin) → Takes ItemHasLayout (from_tag h before c origin)
  unfolding from_tag
  takes_from_tag origin =
      takes_then _ _ _ (takes_field 1) (λ t n e.
      takes_cases (eqb t 3) _ _ (λ _. takes_yield end_item tt) (λ _. takes_weaken (takes_record_body origin t) (λ i k x. one i k n e.0 x)))
    where
      one : (i : Item) (k n : ℕ) → n ≡ 1 → ItemHasLayout i (1 + k) → ItemHasLayout i (n + k)
      one i k n e x = rw e x

-- A record that was read at `at` ends n bytes after it and has a layout of n bytes.
pub entry_has_layout : (h : Header) (before : ℕ) (c : Cache) (index : ℕ) (s : List ℕ) (at : ℕ) (r rs : List ℕ) (sp : Span) (k : RecordContext) (e : ℕ)
    → run (entry h before c index) s at ≡ whole (item r rs sp k) e → (n : ℕ) × (e ≡ at + n) × HasLayout h before c (bare_row r) rs n
entry_has_layout h before c index s at r rs sp k e g = (takes_from_tag h before c (origin_at at index)).each s at (item r rs sp k) e (rw entry_from_tag at g)
