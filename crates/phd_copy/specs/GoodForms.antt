-- The row of a record that was read passes the writer's checks (GoodRows), whatever its form: they follow from its `RowBounds`.
-- Assumes nothing.
use Rattle.std.specs.Prelude.{◌≡◌, ℕ, ◌+◌, ◌/◌, ◌%◌, ◌^◌, ◌≤◌, ◌<◌, Bool, true, false, cond, List, [], ◌∷◌, ◌++◌, leb, eqb, take, drop, Some}
use Rattle.std.proofs.Math.Path.{refl}
use Rattle.std.proofs.Common.{sym, ◌∙◌, inl, inr, arith, take_all, drop_at, le-leb, lt-ltb, eq-eqb, ne_eqb}
use Rattle.std.proofs.Math.ListN.{length, length-append}
use Rattle.decode.specs.Numbers.{all_within}
use Rattle.decode.specs.Values.{cond_elim}
use Rattle.table.specs.Rows.{refs_of, name_of}
use Rattle.table.specs.declared.Row.{Row}
use Rattle.phd.specs.Phd.{bit, max_address, tag_form, slot_class, moved_bit, hashed_bit, hash_kind, hash_bytes, shape}
use Rattle.phd.specs.Shapes.{ValidBits, bits_bytes_nonzero, tag_matches}
use Rattle.phd.specs.declared.cache.Cache.{Cache}
use Rattle.phd.specs.declared.Header.{Header}
use Rattle.phd.specs.declared.Form.{Form}
use Rattle.phd.specs.declared.Form.TheVariants.{Short, Medium, Long, Class, ObjectArray, Primitive, LongPrimitive}
use Rattle.phd_check.specs.GoodRows.{all_true, good_hash, good_class, no_name, good_object, good_array, good_primitive, good_kind, good_addresses, good_span, good_numbers, good_ref, good_refs, good_row}
use Rattle.phd_check.specs.WellFormed.{GoodRefs}
use Rattle.phd_copy.specs.ReadRows.{RowBounds}

-- ---- the checks of a row

addresses_good : (top : ℕ) (r : Row) → r.address % 4 ≡ 0 → r.address ≤ top → r.class ≤ top → good_addresses top r ≡ true
unfolding good_addresses all_true
addresses_good top r a b c = rw (eq-eqb _ _ a, le-leb _ _ b, le-leb _ _ c)

-- A row passes the check of its references if they begin at `index`, lie within the `given` references, and are fewer than 2^31.
pub span_good : (index given : ℕ) (r : Row) → r.first ≡ index → r.first + r.count ≤ given → r.count < 2 ^ 31 → good_span index given r ≡ true
unfolding good_span all_true
span_good index given r a b c = rw (eq-eqb _ _ a, le-leb _ _ b, lt-ltb _ _ c)

hash_good : (hashed : Bool) (r : Row) → (hashed ≡ true → r.hashkind ≡ 3) → (hashed ≡ false → r.hashkind < 3) → r.hash < 256 ^ hash_bytes r.hashkind
    → good_hash hashed r ≡ true
unfolding good_hash
hash_good true r a b c = rw (eq-eqb _ _ (a refl), lt-ltb _ _ c)
hash_good false r a b c = rw (lt-ltb _ _ (b refl), lt-ltb _ _ c)

unnamed_good : (r : Row) → (r.place ≡ 0) × (r.namelen ≡ 0) → no_name r ≡ true
unfolding no_name
unnamed_good r e = rw (eq-eqb _ _ e.0, eq-eqb _ _ e.1)

class_good : (given : ℕ) (r : Row) → r.kind ≡ 1 → (r.hashkind ≡ 1 → ⊥) → r.size < 2 ^ 31 → r.len ≡ 0 → 1 ≤ r.namelen → r.namelen < 65536
    → r.place + r.namelen ≤ given → r.prim ≡ 0 → good_kind given r ≡ true
unfolding good_kind good_class all_true
class_good given r k a b c d e f g =
    rw (eq-eqb _ _ k, ne_eqb _ _ a, lt-ltb _ _ b, eq-eqb _ _ c, le-leb _ _ d, lt-ltb _ _ e, le-leb _ _ f, eq-eqb _ _ g)

object_good : (given : ℕ) (r : Row) → r.kind ≡ 2 → r.size ≡ 0 → r.len ≡ 0 → (r.place ≡ 0) × (r.namelen ≡ 0) → r.prim ≡ 0 → good_kind given r ≡ true
unfolding good_kind good_object all_true
object_good given r k a b c d =
    rw (ne_eqb r.kind 1 (λ z. omega arith), eq-eqb _ _ k, eq-eqb r.size 0 a, eq-eqb r.len 0 b, unnamed_good r c, eq-eqb r.prim 0 d)

array_good : (given : ℕ) (r : Row) → r.kind ≡ 3 → r.size < 2 ^ 32 → r.len < 2 ^ 31 → r.count ≤ r.len → (r.place ≡ 0) × (r.namelen ≡ 0) → r.prim ≡ 0
    → good_kind given r ≡ true
unfolding good_kind good_array all_true
array_good given r k a b c d e =
    rw (ne_eqb r.kind 1 (λ z. omega arith), ne_eqb r.kind 2 (λ z. omega arith), eq-eqb _ _ k, lt-ltb _ _ a, lt-ltb _ _ b, le-leb _ _ c, unnamed_good r d, eq-eqb r.prim 0 e)

primitive_good : (given : ℕ) (r : Row) → r.kind ≡ 4 → r.class ≡ 0 → r.count ≡ 0 → r.size < 2 ^ 32 → r.len < 2 ^ 31 → (r.place ≡ 0) × (r.namelen ≡ 0)
    → r.prim < 8 → good_kind given r ≡ true
unfolding good_kind good_primitive all_true
primitive_good given r k a b c d e f =
    rw (
      ne_eqb r.kind 1 (λ z. omega arith),
      ne_eqb r.kind 2 (λ z. omega arith),
      ne_eqb r.kind 3 (λ z. omega arith),
      eq-eqb _ _ k,
      eq-eqb r.class 0 a,
      eq-eqb r.count 0 b,
      lt-ltb _ _ c,
      lt-ltb _ _ d,
      unnamed_good r e,
      lt-ltb _ _ f,
    )

refs_good : (top : ℕ) (rs : List ℕ) → GoodRefs top rs → good_refs top rs ≡ true
unfolding good_refs good_ref all_true
refs_good top [] g = refl
refs_good top (a ∷ rs) g = rw (eq-eqb _ _ g.0.aligned, le-leb _ _ g.0.some, le-leb _ _ g.0.most, refs_good top rs g.1)

-- ---- references and names

-- The references of the last row are the last in the table.
last_refs : (refs rs : List ℕ) (first count : ℕ) → first ≡ length refs → length rs ≡ count → take count (drop first (refs ++ rs)) ≡ rs
last_refs refs rs first count a b = rw (drop_at refs rs first (sym a)) (take_all count rs (omega arith))

-- An empty name passes the check of its bytes.
no_bytes : (s : List ℕ) (place len : ℕ) → len ≡ 0 → all_within 0x21 0x7E (take len (drop place s)) ≡ true
unfolding all_within
no_bytes s place len e = rw e

-- ---- hash kinds

hash_kind_all_hashed : (h : Header) (t f : ℕ) → h.hashed ≡ true → hash_kind h t f ≡ 3
unfolding hash_kind
hash_kind_all_hashed h t f e = rw e

hash_kind_not_all_hashed : (h : Header) (t f : ℕ) → h.hashed ≡ false → hash_kind h t f < 3
unfolding hash_kind
hash_kind_not_all_hashed h t f e = rw e (cond_elim (λ k. k < 3) (moved_bit t f) 2 _ (omega arith) (cond_elim (λ k. k < 3) (hashed_bit t f) 1 0 (omega arith) (omega arith)))

-- A class never has hash kind 1, hashed without a stored hash.
class_hash_kind : (h : Header) (t f : ℕ) → eqb t 6 ≡ true → hash_kind h t f ≡ 1 → ⊥
unfolding hash_kind moved_bit hashed_bit
class_hash_kind h t f e = rw e (by h.hashed (bit 0x08 f))
  where
    by : (x y : Bool) → ◌≡◌ {A = ℕ} (cond x 3 (cond y 2 0)) 1 → ⊥
    by true y z = omega arith
    by false true z = omega arith
    by false false z = omega arith

-- ---- forms

-- A number of W bits is at most the highest address.
class_le_max : (W x : ℕ) → ValidBits W → x < 256 ^ (W / 8) → x ≤ max_address W
unfolding max_address
class_le_max W x (inl e) l = let k : x < 256 ^ 4 = rw e at l in rw e (omega arith)
class_le_max W x (inr e) l = let k : x < 256 ^ 8 = rw e at l in rw e (omega arith)

-- A record that is not a short object has no class word from a slot.
known_zero : (c : Cache) (t known : ℕ) → leb 0x80 t ≡ false → slot_class c t ≡ Some known → known ≡ 0
unfolding slot_class
known_zero c t known x e = let z : Some 0 ≡ Some known = rw x at e in cc

-- The checks of a row that depend on its form: all but those of its address, its hash and where its references lie.
record GoodInForm (top : ℕ) (s : List ℕ) (r : Row) : Type 0 where
  pub class : r.class ≤ top
  pub few : r.count < 2 ^ 31
  pub kind : good_kind (length s) r ≡ true
  pub name : all_within 0x21 0x7E (name_of s r) ≡ true

module _ (top : ℕ) (s : List ℕ) (r : Row) where
  object_in_form : r.kind ≡ 2 → r.size < 1 → r.len ≡ 0 → (r.place ≡ 0) × (r.namelen ≡ 0) → r.prim ≡ 0 → r.class ≤ top → r.count < 2 ^ 31 → GoodInForm top s r
  unfolding name_of
  object_in_form k z l n p w c =
      record { class = w; few = c; kind = object_good (length s) r k (omega arith) l n p; name = no_bytes s r.place r.namelen n.1 }

  primitive_in_form : r.kind ≡ 4 → r.class ≡ 0 → r.count ≡ 0 → r.size < 2 ^ 32 → r.len < 2 ^ 31 → (r.place ≡ 0) × (r.namelen ≡ 0) → r.prim < 8 → GoodInForm top s r
  unfolding name_of
  primitive_in_form k w c z l n p =
      record { class = omega arith; few = omega arith; kind = primitive_good (length s) r k w c z l n p; name = no_bytes s r.place r.namelen n.1 }

-- The row r and the references rs of a record that was read with the tag t and the flag byte f.
module _ (h : Header) (w : ValidBits h.bits) (s : List ℕ) (c : Cache) (t f known index : ℕ) (r : Row) (rs : List ℕ)
    (d : slot_class c t ≡ Some known) (k : known ≤ max_address h.bits) where
  abbrev top : ℕ
  top = max_address h.bits

  abbrev ShapeBounds : Form → Type 0
  ShapeBounds fm = RowBounds top known (hash_kind h t f) index s (shape (h.bits / 8) fm t f) r rs

  address_size_nonzero : eqb (h.bits / 8) 0 ≡ false
  address_size_nonzero = bits_bytes_nonzero h.bits w

  class_in_range : r.class < 256 ^ (h.bits / 8) → r.class ≤ top
  class_in_range = class_le_max h.bits r.class w

  row_good_in_form : (fm : Form) → tag_form t ≡ Some fm → ShapeBounds fm → GoodInForm top s r
  unfolding shape name_of
  row_good_in_form Short g o =
      object_in_form top s r o.kind (o.size refl) ((o.len refl).1 refl) (o.name.none refl) o.prim (omega (arith, o.class_known refl refl)) (omega (arith, o.count.fixed refl))
  row_good_in_form Medium g o =
      object_in_form top s r o.kind (o.size refl) ((o.len refl).1 refl) (o.name.none refl) o.prim (class_in_range (o.class_in_field address_size_nonzero)) (omega (arith, o.count.fixed refl))
  row_good_in_form Long g o =
      object_in_form top s r o.kind (o.size refl) ((o.len refl).1 refl) (o.name.none refl) o.prim (class_in_range (o.class_in_field address_size_nonzero)) (o.count.countwidth refl)
  row_good_in_form Class g o =
      let n = o.name.some refl in
      record {
        class = class_in_range (o.superclass refl address_size_nonzero);
        few = o.count.countwidth refl;
        kind =
            class_good (length s) r o.kind (λ z. class_hash_kind h t f (tag_matches t Class g).1 (sym o.hashkind ∙ z)) (o.inst refl) ((o.len refl).1 refl) n.enough n.short
            n.inside o.prim;
        name = n.bytes;
      }
  row_good_in_form ObjectArray g o = record {
    class = class_in_range (o.class_in_field address_size_nonzero);
    few = o.count.countwidth refl;
    kind = array_good (length s) r o.kind (o.size refl) (o.long refl).0 (o.long refl).1 (o.name.none refl) o.prim;
    name = no_bytes s r.place r.namelen (o.name.none refl).1;
  }
  row_good_in_form Primitive g o =
      let z : known ≡ 0 = known_zero c t known (tag_matches t Primitive g).0 d in
      primitive_in_form top s r o.kind (o.class_known refl refl ∙ z) (o.count.fixed refl) (o.size refl) (o.len refl).0 (o.name.none refl) (omega (arith, o.prim))
  row_good_in_form LongPrimitive g o =
      let z : known ≡ 0 = known_zero c t known (tag_matches t LongPrimitive g).0 d in
      primitive_in_form top s r o.kind (o.class_known refl refl ∙ z) (o.count.fixed refl) (o.size refl) (o.len refl).0 (o.name.none refl) (omega (arith, o.prim))

  -- The row is good, with its references after those of the rows before it, and its class word is in range.
  pub row_good : (fm : Form) (refs : List ℕ) → tag_form t ≡ Some fm → index ≡ length refs → ShapeBounds fm
      → (good_row h s (refs ++ rs) (length refs) r ≡ true) × (r.class ≤ top)
  unfolding good_row good_numbers all_true refs_of
  row_good fm refs g e o =
      let x = row_good_in_form fm g o in
      let l : r.first + r.count ≤ length (refs ++ rs) = simp length-append (omega (arith, o.first, o.refs.many)) in (
        rw (
          addresses_good top r o.aligned o.most x.class,
          span_good (length refs) (length (refs ++ rs)) r (o.first ∙ e) l x.few,
          hash_good h.hashed r (λ y. o.hashkind ∙ hash_kind_all_hashed h t f y) (λ y. omega (arith, o.hashkind, hash_kind_not_all_hashed h t f y)) (rw o.hashkind o.hash),
          x.kind,
          last_refs refs rs r.first r.count (o.first ∙ e) o.refs.many,
          refs_good top rs o.refs.good,
          x.name,
        ),
        x.class,
      )
