-- What holds of a header and of a row that pass the tests of GoodRows, as propositions for proofs.
-- Assumes nothing.
use Rattle.std.proofs.Math.Path.{◌≡◌, refl}
use Rattle.std.proofs.Math.Logic.{inl, inr}
use Rattle.std.specs.Prelude.{ℕ, zero, suc, ◌+◌, ◌%◌, ◌^◌, ◌≤◌, ◌<◌, ◌||◌, List, [], ◌∷◌, eqb, length, get_or, Option, Some, None}
use native.Mathlib.Omega.{arith}
use Rattle.std.proofs.Math.Bool.{Bool, true, false, cond}
use Rattle.std.proofs.Math.Dec.{ltb}
use borrow.Author.Tests.{leb-true, ltb-true, eqb-true, eqb-false, not-true}
use Rattle.decode.specs.Numbers.{all_within}
use Rattle.decode.specs.Slices.{length_slice}
use Rattle.decode.specs.Values.{and_left, and_right}
use Rattle.decode.specs.declared.StringSpan.{StringSpan}
use Rattle.phd.specs.Phd.{max_address, hash_bytes}
use Rattle.phd.specs.Shapes.{ValidBits}
use Rattle.phd.specs.declared.Header.{Header}
use Rattle.table.specs.Table.{row_count}
use Rattle.table.specs.Rows.{rows_of, length_rows, All, Rec, refs_of, name_of, without_place, rec_of}
use Rattle.phd_check.specs.GoodRows.{all_true, good_vm, good_header, good_hash, good_class, no_name, good_object, good_array, good_primitive, good_kind, good_addresses, good_span, good_numbers, good_ref, good_refs, good_row, first_bad_from, first_bad, vm_text}
use Rattle.table.specs.declared.Row.{Row}

-- A good reference: a multiple of 4 in 1 to `top`.
pub record GoodRef (top a : ℕ) : Type 0 where
  pub aligned : a % 4 ≡ 0
  pub some : 1 ≤ a
  pub most : a ≤ top

-- Every reference is good.
abbrev pub GoodRefs : ℕ → List ℕ → Type 0
GoodRefs top [] = Unit {0}
GoodRefs top (a ∷ rest) = GoodRef top a × GoodRefs top rest

-- The numbers of a good row by its kind: bounds of those that the kind uses, 0 for the others.
pub data GoodKind (r : Row) (name : List ℕ) : Type 0 where
  a_class : r.kind ≡ 1 → (r.hashkind ≡ 1 → ⊥) → r.size < 2 ^ 31 → r.len ≡ 0 → r.prim ≡ 0 → 1 ≤ r.namelen → r.namelen < 65536
      → all_within 0x21 0x7E name ≡ true → GoodKind r name
  an_object : r.kind ≡ 2 → r.size ≡ 0 → r.len ≡ 0 → r.prim ≡ 0 → r.namelen ≡ 0 → GoodKind r name
  an_array : r.kind ≡ 3 → r.size < 2 ^ 32 → r.len < 2 ^ 31 → r.count ≤ r.len → r.prim ≡ 0 → r.namelen ≡ 0 → GoodKind r name
  a_primitive : r.kind ≡ 4 → r.class ≡ 0 → r.count ≡ 0 → r.size < 2 ^ 32 → r.len < 2 ^ 31 → r.prim < 8 → r.namelen ≡ 0 → GoodKind r name

-- A good record, whose references begin at `index`.
pub record GoodRec (h : Header) (index : ℕ) (r : Rec) : Type 0 where
  pub aligned : r.row.address % 4 ≡ 0
  pub most : r.row.address ≤ max_address h.bits
  pub class : r.row.class ≤ max_address h.bits
  pub first : r.row.first ≡ index
  pub count : length r.refs ≡ r.row.count
  pub few : r.row.count < 2 ^ 31
  pub refs : GoodRefs (max_address h.bits) r.refs
  pub namelen : length r.name ≡ r.row.namelen
  -- Hash kind 3 exactly in all-hashed dumps.
  pub all_hashed : h.hashed ≡ true → r.row.hashkind ≡ 3
  pub not_all_hashed : h.hashed ≡ false → r.row.hashkind < 3
  pub hash : r.row.hash < 256 ^ hash_bytes r.row.hashkind
  pub kind_good : GoodKind r.row r.name

-- The references and the name of a row lie within the tables passed in, and the count and the name's length are bounded.
pub record SpansInBounds (names refs : List ℕ) (r : Row) : Type 0 where
  pub span : r.first + r.count ≤ length refs
  pub name_in_bounds : r.place + r.namelen ≤ length names
  pub few : r.count < 2 ^ 31
  pub short : r.namelen < 65536

-- ---- lists of tests

-- If all tests of a list hold, the one at index i does.
pub all_true_at : (bs : List Bool) → all_true bs ≡ true → (i : ℕ) → get_or bs i true ≡ true
unfolding all_true
all_true_at [] e i = refl
all_true_at (b ∷ bs) e zero = and_left b (all_true bs) e
all_true_at (b ∷ bs) e (suc i) = all_true_at bs (and_right b (all_true bs) e) i

-- Case analysis of a test that selects one of two others.
by_test {ℓ} : {P : Type ℓ} (b x y : Bool) → cond b x y ≡ true → (b ≡ true → x ≡ true → P) → (b ≡ false → y ≡ true → P) → P
by_test true x y e f g = f refl e
by_test false x y e f g = g refl e

-- ---- good rows

-- A row without a name has place 0 and length 0.
no_name_numbers : (r : Row) → no_name r ≡ true → (r.place ≡ 0) × (r.namelen ≡ 0)
unfolding no_name
no_name_numbers r e =
    (eqb-true _ _ (and_left (eqb r.place 0) (eqb r.namelen 0) e), eqb-true _ _ (and_right (eqb r.place 0) (eqb r.namelen 0) e))

module _ (available : ℕ) (r : Row) where
  -- The row satisfies `GoodKind` for any name with good bytes; its name lies within the name bytes and is below 65,536 bytes.
  abbrev Kind : Type 0
  Kind = ((name : List ℕ) → all_within 0x21 0x7E name ≡ true → GoodKind (without_place r) name) × (r.place + r.namelen ≤ available) × (r.namelen < 65536)

  -- `Kind` holds of a row that passes the tests of its kind; one lemma for each kind.
  class_of : eqb r.kind 1 ≡ true → good_class available r ≡ true → Kind
  unfolding good_class without_place
  class_of k e =
      let t = all_true_at _ e in (
        λ _. a_class (eqb-true _ _ k) (eqb-false _ _ (not-true _ (t 0))) (ltb-true _ _ (t 1)) (eqb-true _ _ (t 2)) (eqb-true _ _ (t 6)) (leb-true _ _ (t 3)) (ltb-true _ _ (t 4)),
        leb-true _ _ (t 5),
        ltb-true _ _ (t 4),
      )

  object_of : eqb r.kind 2 ≡ true → good_object r ≡ true → Kind
  unfolding good_object without_place
  object_of k e =
      let t = all_true_at _ e in
      let n = no_name_numbers r (t 2) in
      (λ _ _. an_object (eqb-true _ _ k) (eqb-true _ _ (t 0)) (eqb-true _ _ (t 1)) (eqb-true _ _ (t 3)) n.1, omega arith, omega arith)

  array_of : eqb r.kind 3 ≡ true → good_array r ≡ true → Kind
  unfolding good_array without_place
  array_of k e =
      let t = all_true_at _ e in
      let n = no_name_numbers r (t 3) in
      (λ _ _. an_array (eqb-true _ _ k) (ltb-true _ _ (t 0)) (ltb-true _ _ (t 1)) (leb-true _ _ (t 2)) (eqb-true _ _ (t 4)) n.1, omega arith, omega arith)

  primitive_of : eqb r.kind 4 ≡ true → good_primitive r ≡ true → Kind
  unfolding good_primitive without_place
  primitive_of k e =
      let t = all_true_at _ e in
      let n = no_name_numbers r (t 4) in
      (λ _ _. a_primitive (eqb-true _ _ k) (eqb-true _ _ (t 0)) (eqb-true _ _ (t 1)) (ltb-true _ _ (t 2)) (ltb-true _ _ (t 3)) (ltb-true _ _ (t 5)) n.1, omega arith, omega arith)

  -- `Kind` holds of a row that passes `good_kind`.
  kind_of : good_kind available r ≡ true → Kind
  unfolding good_kind
  kind_of g =
      by_test (eqb r.kind 1) _ _ g class_of
      (λ _ g₂. by_test (eqb r.kind 2) _ _ g₂ object_of
      (λ _ g₃. by_test (eqb r.kind 3) _ _ g₃ array_of
      (λ _ g₄. by_test (eqb r.kind 4) _ _ g₄ primitive_of (λ _ e. let z : ◌≡◌ {A = ℕ} 0 1 = cc in absurd (omega arith)))))

-- References that pass `good_refs` are good one by one.
good_refs_each : (top : ℕ) (rs : List ℕ) → good_refs top rs ≡ true → GoodRefs top rs
unfolding good_refs good_ref
good_refs_each top [] e = tt
good_refs_each top (a ∷ rest) e =
    let x : Bool = good_ref top a in
    let t = all_true_at _ (and_left x (good_refs top rest) e) in
    (record { aligned = eqb-true _ _ (t 0); some = leb-true _ _ (t 1); most = leb-true _ _ (t 2) }, good_refs_each top rest (and_right x (good_refs top rest) e))

-- A row whose numbers are good.
module _ (h : Header) (names refs : List ℕ) (index : ℕ) (r : Row) (g : good_numbers h index (length refs) (length names) r ≡ true) where
  kind_at : Kind (length names) r
  unfolding good_numbers
  kind_at = kind_of (length names) r (all_true_at _ g 3)

  -- Its references begin at `index`.
  pub row_first : r.first ≡ index
  unfolding good_numbers good_span
  row_first = eqb-true _ _ (all_true_at _ (all_true_at _ g 1) 0)

  -- Its references and its name lie within their tables.
  pub numbers_in_bounds : SpansInBounds names refs r
  unfolding good_numbers good_span
  numbers_in_bounds =
      let t = all_true_at _ (all_true_at _ g 1) in
      record { span = leb-true _ _ (t 1); name_in_bounds = kind_at.1; few = ltb-true _ _ (t 2); short = kind_at.2 }

-- A good row.
module _ (h : Header) (names refs : List ℕ) (index : ℕ) (r : Row) (g : good_row h names refs index r ≡ true) where
  pub row_numbers_good : good_numbers h index (length refs) (length names) r ≡ true
  unfolding good_row
  row_numbers_good = all_true_at _ g 0

  -- Its references and its name lie within their tables.
  pub spans_in_bounds : SpansInBounds names refs r
  spans_in_bounds = numbers_in_bounds h names refs index r row_numbers_good

  -- Its record satisfies `GoodRec`.
  pub good_rec : GoodRec h index (rec_of names refs r)
  unfolding good_row good_numbers good_addresses good_hash rec_of without_place refs_of name_of
  good_rec =
      let n = all_true_at _ row_numbers_good in
      let p = all_true_at _ (n 0) in
      let l : SpansInBounds names refs r = spans_in_bounds in
      let k : Bool = cond h.hashed (eqb r.hashkind 3) (ltb r.hashkind 3) in
      let b : Bool = ltb r.hash (256 ^ hash_bytes r.hashkind) in
      let hk = and_left k b (n 2) in
      record {
        aligned = eqb-true _ _ (p 0);
        most = leb-true _ _ (p 1);
        class = leb-true _ _ (p 2);
        first = row_first h names refs index r row_numbers_good;
        count = length_slice refs r.first r.count l.span;
        few = l.few;
        refs = good_refs_each _ _ (all_true_at _ g 1);
        namelen = length_slice names r.place r.namelen l.name_in_bounds;
        all_hashed = λ e. eqb-true _ _ (rw e at hk);
        not_all_hashed = λ e. ltb-true _ _ (rw e at hk);
        hash = ltb-true _ _ (and_right k b (n 2));
        kind_good = (kind_at h names refs index r row_numbers_good).0 _ (all_true_at _ g 2);
      }

-- ---- tables without a bad row

-- If a step of the search finds nothing, its row passed the test and the later rows give nothing.
none_found : (b : Bool) (x : Option ℕ) (i : ℕ) → cond b x (Some i) ≡ None → (b ≡ true) × (x ≡ None)
none_found true x i e = (refl, e)
none_found false x i e = let z : ◌≡◌ {A = ℕ} 0 1 = cc in absurd (omega arith)

-- If no row is bad, the first row is good and none of the others is bad.
pub none_bad : (h : Header) (names refs : List ℕ) (i index : ℕ) (r : Row) (rows : List Row) → first_bad_from h names refs i index (r ∷ rows) ≡ None
    → (good_row h names refs index r ≡ true) × (first_bad_from h names refs (suc i) (index + r.count) rows ≡ None)
unfolding first_bad_from
none_bad h names refs i index r rows e = none_found (good_row h names refs index r) _ i e

-- If no row is bad, a property P of good rows holds of every row.
module _ (h : Header) (names refs : List ℕ) (P : Row → Type 0) (f : (index : ℕ) (r : Row) → good_row h names refs index r ≡ true → P r) where
  each_from : (rows : List Row) (i index : ℕ) → first_bad_from h names refs i index rows ≡ None → All P rows
  each_from [] i index e = tt
  each_from (r ∷ rows) i index e =
      let b = none_bad h names refs i index r rows e in
      (f index r b.0, each_from rows (suc i) (index + r.count) b.1)

  pub each_row : (rows : List Row) → first_bad h names refs rows ≡ None → All P rows
  each_row rows e = each_from rows 0 0 e

-- ---- good headers

module _ (h : Header) (names : List ℕ) (rows : List Row) (refs : List ℕ) (g : good_header h names rows refs ≡ true) where
  -- W is 32 or 64.
  pub header_bits_good : ValidBits h.bits
  unfolding good_header
  header_bits_good = by (eqb h.bits 32) (eqb h.bits 64) (all_true_at _ g 0) (λ e. inl (eqb-true _ _ e)) (λ e. inr (eqb-true _ _ e))
    where
      by : (a b : Bool) → a || b ≡ true → (a ≡ true → ValidBits h.bits) → (b ≡ true → ValidBits h.bits) → ValidBits h.bits
      by true b e p q = p refl
      by false b e p q = q e

  -- There are at most 2^30 rows.
  pub row_count_bound : length rows ≤ 2 ^ 30
  unfolding good_header
  row_count_bound = leb-true _ _ (all_true_at _ g 1)

  -- There are at most 2^30 reference numbers.
  pub ref_count_bound : length refs ≤ 2 ^ 30
  unfolding good_header
  ref_count_bound = leb-true _ _ (all_true_at _ g 2)

  -- The VM string is good.
  pub header_vm_good : good_vm names h.vm ≡ true
  unfolding good_header
  header_vm_good = all_true_at _ g 3

-- Under a good header a table has at most 2^30 rows.
pub table_rows_bound : (h : Header) (names table refs : List ℕ) → good_header h names (rows_of table) refs ≡ true → row_count table ≤ 2 ^ 30
table_rows_bound h names table refs g = rw (length_rows table) at (row_count_bound h names (rows_of table) refs g)

-- The VM string, if present, is below 65,536 bytes, lies within the name bytes, and all its bytes are 0x20 to 0x7E.
pub record VmInBounds (names : List ℕ) (t : StringSpan) : Type 0 where
  pub short : t.present ≡ true → t.len < 65536
  pub inside : t.present ≡ true → t.place + t.len ≤ length names
  pub printable : t.present ≡ true → all_within 0x20 0x7E (vm_text names t) ≡ true

-- A good VM string satisfies `VmInBounds`.
pub vm_in_bounds : (names : List ℕ) (t : StringSpan) → good_vm names t ≡ true → VmInBounds names t
unfolding good_vm
vm_in_bounds names t g = record {
  short = λ e. ltb-true _ _ (all_true_at _ (rw e at g) 0);
  inside = λ e. leb-true _ _ (all_true_at _ (rw e at g) 1);
  printable = λ e. all_true_at _ (rw e at g) 2;
}

-- ---- lengths of slices

-- The VM string has the length that the header states.
pub length_vm_text : (names : List ℕ) (t : StringSpan) → VmInBounds names t → t.present ≡ true → length (vm_text names t) ≡ t.len
length_vm_text names t v e = length_slice names t.place t.len (v.inside e)

-- A row has `count` references if they lie within the table.
pub length_refs_of : (refs : List ℕ) (r : Row) → r.first + r.count ≤ length refs → length (refs_of refs r) ≡ r.count
unfolding refs_of
length_refs_of refs r h = length_slice refs r.first r.count h

-- A name has `namelen` bytes if it lies within the name bytes.
pub length_name_of : (names : List ℕ) (r : Row) → r.place + r.namelen ≤ length names → length (name_of names r) ≡ r.namelen
unfolding name_of
length_name_of names r h = length_slice names r.place r.namelen h
