-- Laws of the tests of GoodRows, in the form in which the functions compute them.
-- Assumes nothing.
use mathlib.Core.Path.{◌≡◌, refl, sym, ap, ◌∙◌}
use mathlib.Core.Bool.{Bool, true, false, not, ◌&&◌, ◌||◌, cond, and-true, and_assoc}
use mathlib.Core.List.{List, [], ◌∷◌}
use Prim.Native.Nat.{ℕ, zero, suc, ◌+◌, ◌-◌, ◌^◌, ◌≤◌, ◌<◌}
use native.Mathlib.Omega.{arith}
use lib.ListN.{length, get_or, take, drop}
use lib.Seq.{drop-cons}
use native.Mathlib.Numerals.{add-one}
use lib.Dec.{leb, ltb, eqb}
use borrow.Author.Tests.{ltb-true, ltb-false, leb-true, leb-false, eqb-true, eqb-false, lt-ltb, le-ltb, le-leb, lt-leb, ne_eqb}
use Rattle.decode.specs.Numbers.{all_within}
use Rattle.decode.specs.declared.StringSpan.{StringSpan}
use Rattle.table.specs.Table.{row_count}
use Rattle.phd.specs.Phd.{max_address, hash_bytes}
use Rattle.phd.specs.declared.Header.{Header}
use Rattle.decode.specs.Slices.{slice_until}
use Rattle.decode.specs.Values.{and_left, and_right}
use Rattle.table.specs.Rows.{row_at, refs_of, name_of, rows_left, rows_left_next, rows_left_none}
use Rattle.phd_check.specs.GoodRows.{all_true, good_vm, good_class, good_object, good_array, good_primitive, good_kind, good_numbers, good_ref, good_refs, good_row, first_bad_from}
use Rattle.table.specs.declared.Row.{Row}
use Rattle.std.specs.Prelude.{Some, None}

-- ---- lists of tests

-- a && b && .., grouped to the left, as `&` joins tests in the code.
abbrev pub all_of : Bool → List Bool → Bool
all_of a [] = a
all_of a (b ∷ bs) = all_of (a && b) bs

-- A conjunction whose first test fails is false.
all_of_false : (bs : List Bool) → all_of false bs ≡ false
all_of_false [] = refl
all_of_false (b ∷ bs) = all_of_false bs

-- The grouping does not matter: `all_of` is `all_true`.
pub all_of_all_true : (a : Bool) (bs : List Bool) → all_of a bs ≡ all_true (a ∷ bs)
unfolding all_true
all_of_all_true true [] = refl
all_of_all_true false [] = refl
all_of_all_true true (b ∷ bs) = all_of_all_true b bs
all_of_all_true false (b ∷ bs) = all_of_false bs

-- If the test at index i fails, `all_true` fails.
pub all_true_false : (bs : List Bool) (i : ℕ) → get_or bs i true ≡ false → all_true bs ≡ false
unfolding all_true
all_true_false [] i e = e
all_true_false (true ∷ bs) zero e = let z : ◌≡◌ {A = ℕ} 0 1 = cc in absurd (omega arith)
all_true_false (false ∷ bs) zero e = refl
all_true_false (true ∷ bs) (suc i) e = all_true_false bs i e
all_true_false (false ∷ bs) (suc i) e = refl

-- ---- comparisons

-- a ≤ n - b tests a + b ≤ n; the code uses the difference, since the sum may exceed 64 bits.
pub leb_sum : (a b n : ℕ) → b ≤ n → leb a (n - b) ≡ leb (a + b) n
leb_sum a b n h = by (leb a (n - b)) refl
  where
    by : (t : Bool) → leb a (n - b) ≡ t → t ≡ leb (a + b) n
    by true e = let l : a ≤ n - b = leb-true _ _ e in sym (le-leb (a + b) n (omega arith))
    by false e = let l : n - b < a = leb-false _ _ e in sym (lt-leb (a + b) n (omega arith))

-- A number is 0 exactly if it is below 1.
zero_below : (v : ℕ) → eqb v 0 ≡ ltb v 1
zero_below v = by (eqb v 0) refl
  where
    by : (t : Bool) → eqb v 0 ≡ t → t ≡ ltb v 1
    by true e = let z : v ≡ 0 = eqb-true _ _ e in sym (lt-ltb v 1 (omega arith))
    by false e = let z : v ≡ 0 → ⊥ = eqb-false _ _ e in sym (le-ltb v 1 (omega arith))

-- The code's test of the hash is that of `good_hash`, here for kind 3, in all-hashed dumps: below 2^16.
pub hash_3 : (k v : ℕ) → eqb k 3 && ltb v 0x10000 ≡ eqb k 3 && ltb v (256 ^ hash_bytes k)
unfolding hash_bytes
hash_3 k v = by (eqb k 3) refl
  where
    by : (t : Bool) → eqb k 3 ≡ t → t && ltb v 0x10000 ≡ t && ltb v (256 ^ hash_bytes k)
    by true e = rw (eqb-true k 3 e)
    by false e = refl

-- The same for kind 2: below 2^32.
pub hash_2 : (k v : ℕ) → k ≡ 2 → ltb v 0x100000000 ≡ ltb k 3 && ltb v (256 ^ hash_bytes k)
unfolding hash_bytes
hash_2 k v e = rw e

-- The same for kinds 0 and 1: the hash is 0. A kind above 2 fails both tests.
pub hash_none : (k v : ℕ) → (k ≡ 2 → ⊥) → ltb k 2 && eqb v 0 ≡ ltb k 3 && ltb v (256 ^ hash_bytes k)
unfolding hash_bytes
hash_none k v n = by (ltb k 2) refl
  where
    by : (t : Bool) → ltb k 2 ≡ t → t && eqb v 0 ≡ ltb k 3 && ltb v (256 ^ hash_bytes k)
    by true e =
        let l : k < 2 = ltb-true _ _ e in
        let m : k ≡ 3 → ⊥ = omega arith in
        rw (lt-ltb k 3 (omega arith), ne_eqb k 2 n, ne_eqb k 3 m) (zero_below v)
    by false e = let l : 2 ≤ k = ltb-false _ _ e in rw (le-ltb k 3 (omega arith))

-- ---- VM string, if present

module _ (names : List ℕ) (t : StringSpan) (there : t.present ≡ true) where
  -- A VM string that does not lie within the name bytes is not good.
  pub vm_out_of_bounds : length names < t.place + t.len → false ≡ good_vm names t
  unfolding good_vm
  vm_out_of_bounds h = rw there (sym (all_true_false _ 1 (lt-leb _ _ h)))

  -- Any other VM string is good exactly if its bytes are.
  pub vm_by_bytes : t.len < 65536 → t.place + t.len ≤ length names → all_within 0x20 0x7E (take t.len (drop t.place names)) ≡ good_vm names t
  unfolding good_vm all_true
  vm_by_bytes h k = rw (there, lt-ltb _ _ h, le-leb _ _ k) (sym (and-true _))

  -- If its numbers fail a test, it is not good.
  pub vm_numbers_bad : t.len ≤ length names → ltb t.len 65536 && leb t.place (length names - t.len) ≡ false → false ≡ good_vm names t
  unfolding good_vm
  vm_numbers_bad l e =
      let w : Bool = all_within 0x20 0x7E (take t.len (drop t.place names)) in
      let b : Bool = leb (t.place + t.len) (length names) in
      rw there
      (sym (sym (all_of_all_true (ltb t.len 65536) (b ∷ w ∷ [])) ∙ ap (λ x. x && w) (ap (λ y. ltb t.len 65536 && y) (sym (leb_sum t.place t.len (length names) l)) ∙ e)))

-- ---- kinds

-- The conditions of a row of kind k.
pub kind_at : (available : ℕ) (r : Row) (k : ℕ) → r.kind ≡ k → good_kind available r
    ≡ cond (eqb k 1) (good_class available r) (cond (eqb k 2) (good_object r) (cond (eqb k 3) (good_array r) (cond (eqb k 4) (good_primitive r) false)))
unfolding good_kind
kind_at available r k e =
    ap (λ n. cond (eqb n 1) (good_class available r) (cond (eqb n 2) (good_object r) (cond (eqb n 3) (good_array r) (cond (eqb n 4) (good_primitive r) false)))) e

-- ---- references of the table

-- A step of the loop over all references: the test of the one at i moves from those left to `good`, the result so far.
pub good_refs_from : (refs : List ℕ) (top i : ℕ) (good : Bool) → i < length refs
    → good && good_refs top (drop i refs) ≡ (good && good_ref top (get_or refs i 0)) && good_refs top (drop (i + 1) refs)
unfolding good_refs
good_refs_from refs top i good h = rw (add-one, drop-cons refs i 0 h, and_assoc)

-- If all references are good, those from n on are.
good_refs_drop : (top n : ℕ) (refs : List ℕ) → good_refs top refs ≡ true → good_refs top (drop n refs) ≡ true
unfolding good_refs
good_refs_drop top zero refs e = e
good_refs_drop top (suc n) [] e = refl
good_refs_drop top (suc n) (a ∷ refs) e = good_refs_drop top n refs (and_right (good_ref top a) _ e)

-- If all references are good, the first n are.
good_refs_take : (top n : ℕ) (refs : List ℕ) → good_refs top refs ≡ true → good_refs top (take n refs) ≡ true
unfolding good_refs
good_refs_take top zero refs e = refl
good_refs_take top (suc n) [] e = refl
good_refs_take top (suc n) (a ∷ refs) e = rw (and_left (good_ref top a) _ e) (good_refs_take top n refs (and_right (good_ref top a) _ e))

-- If all references of the table are good, those of a row are.
pub good_refs_of : (top : ℕ) (refs : List ℕ) (r : Row) → good_refs top refs ≡ true → good_refs top (refs_of refs r) ≡ true
unfolding refs_of
good_refs_of top refs r e = good_refs_take top r.count _ (good_refs_drop top r.first refs e)

-- ---- first bad row

-- The rows of a table from index i on, if row i exists.
module _ (h : Header) (names refs rows : List ℕ) (i index : ℕ) (l : i < row_count rows) where
  -- The first bad row is row i if that is bad, else the first bad one after it.
  first_bad_step : first_bad_from h names refs i index (rows_left rows i)
      ≡ cond (good_row h names refs index (row_at rows i)) (first_bad_from h names refs (i + 1) (index + (row_at rows i).count) (rows_left rows (i + 1))) (Some i)
  unfolding first_bad_from
  first_bad_step = rw (rows_left_next rows i l, add-one)

  -- If row i is bad, it is the first bad row.
  pub first_bad_here : good_row h names refs index (row_at rows i) ≡ false → first_bad_from h names refs i index (rows_left rows i) ≡ Some i
  first_bad_here e = rw (first_bad_step, e)

  -- If row i is good, the first bad row is among those after it.
  pub first_bad_later : good_row h names refs index (row_at rows i) ≡ true
      → first_bad_from h names refs i index (rows_left rows i) ≡ first_bad_from h names refs (i + 1) (index + (row_at rows i).count) (rows_left rows (i + 1))
  first_bad_later e = rw (first_bad_step, e)

-- If no row is left, none is bad.
pub first_bad_end : (h : Header) (names refs rows : List ℕ) (i index : ℕ) → row_count rows ≤ i → first_bad_from h names refs i index (rows_left rows i) ≡ None
unfolding first_bad_from
first_bad_end h names refs rows i index l = rw (rows_left_none rows i l)

-- The references from the first of the row to before its last are all of the row.
pub refs_of_slice : (refs : List ℕ) (r : Row) → take (r.first + r.count - r.first) (drop r.first refs) ≡ refs_of refs r
unfolding refs_of
refs_of_slice refs r = let e : r.first + r.count - r.first ≡ r.count = omega arith in rw e

-- ---- the loops over a row's references and name bytes

-- The references from j on are good exactly if the one at j and those after it are.
good_refs_step : (refs : List ℕ) (top j last : ℕ) → j < last → last ≤ length refs
    → good_refs top (take (last - j) (drop j refs)) ≡ good_ref top (get_or refs j 0) && good_refs top (take (last - (j + 1)) (drop (j + 1) refs))
unfolding good_refs
good_refs_step refs top j last h in_bounds = rw (slice_until refs j last h in_bounds)

-- If the reference at j is bad, the references from j on are not all good.
pub good_refs_false : (refs : List ℕ) (top j last : ℕ) → j < last → last ≤ length refs → good_ref top (get_or refs j 0) ≡ false
    → good_refs top (take (last - j) (drop j refs)) ≡ false
good_refs_false refs top j last h in_bounds e = rw (good_refs_step refs top j last h in_bounds, e)

-- If the reference at j is good, those after it decide.
pub good_refs_next : (refs : List ℕ) (top j last : ℕ) → j < last → last ≤ length refs → good_ref top (get_or refs j 0) ≡ true
    → good_refs top (take (last - j) (drop j refs)) ≡ good_refs top (take (last - (j + 1)) (drop (j + 1) refs))
good_refs_next refs top j last h in_bounds e = rw (good_refs_step refs top j last h in_bounds, e)

-- A name byte is in 0x21 to 0x7E exactly if the code's test does not refuse it.
pub byte_test : (b : ℕ) → leb 0x21 b && leb b 0x7E ≡ not (ltb b 0x21 || ltb 0x7E b)
byte_test b = by (ltb b 0x21) (ltb 0x7E b) refl refl
  where
    by : (s t : Bool) → ltb b 0x21 ≡ s → ltb 0x7E b ≡ t → leb 0x21 b && leb b 0x7E ≡ not (s || t)
    by true t e f = let l : b < 0x21 = ltb-true _ _ e in rw (lt-leb 0x21 b (omega arith))
    by false true e f =
        let l : 0x21 ≤ b = ltb-false _ _ e in
        let m : 0x7E < b = ltb-true _ _ f in
        rw (le-leb 0x21 b l, lt-leb b 0x7E m)
    by false false e f =
        let l : 0x21 ≤ b = ltb-false _ _ e in
        let m : b ≤ 0x7E = ltb-false _ _ f in
        rw (le-leb 0x21 b l, le-leb b 0x7E m)

-- The name bytes from k on are good exactly if the one at k and those after it are.
name_bytes_step : (names : List ℕ) (k end : ℕ) → k < end → end ≤ length names
    → all_within 0x21 0x7E (take (end - k) (drop k names))
    ≡ not (ltb (get_or names k 0) 0x21 || ltb 0x7E (get_or names k 0)) && all_within 0x21 0x7E (take (end - (k + 1)) (drop (k + 1) names))
unfolding all_within
name_bytes_step names k end h in_bounds = rw (slice_until names k end h in_bounds, ← byte_test (get_or names k 0))

-- If the name byte at k is bad, the bytes from k on are not all good.
pub name_bytes_false : (names : List ℕ) (k end : ℕ) → k < end → end ≤ length names → ltb (get_or names k 0) 0x21 || ltb 0x7E (get_or names k 0) ≡ true
    → all_within 0x21 0x7E (take (end - k) (drop k names)) ≡ false
name_bytes_false names k end h in_bounds e = rw (name_bytes_step names k end h in_bounds, e)

-- If the name byte at k is good, those after it decide.
pub name_bytes_next : (names : List ℕ) (k end : ℕ) → k < end → end ≤ length names → ltb (get_or names k 0) 0x21 || ltb 0x7E (get_or names k 0) ≡ false
    → all_within 0x21 0x7E (take (end - k) (drop k names)) ≡ all_within 0x21 0x7E (take (end - (k + 1)) (drop (k + 1) names))
name_bytes_next names k end h in_bounds e = rw (name_bytes_step names k end h in_bounds, e)

-- A row is good if its numbers, its references and its name bytes are.
pub good_row_by_parts : (h : Header) (names refs : List ℕ) (index : ℕ) (r : Row) → good_numbers h index (length refs) (length names) r ≡ true
    → good_refs (max_address h.bits) (refs_of refs r) ≡ true → all_within 0x21 0x7E (name_of names r) ≡ true → good_row h names refs index r ≡ true
unfolding good_row all_true
good_row_by_parts h names refs index r e f g = rw (e, f, g)

-- The slice with which the loop over the name begins is the whole name.
pub name_of_slice : (names : List ℕ) (r : Row) → take (r.place + r.namelen - r.place) (drop r.place names) ≡ name_of names r
unfolding name_of
name_of_slice names r = let e : r.place + r.namelen - r.place ≡ r.namelen = omega arith in rw e
