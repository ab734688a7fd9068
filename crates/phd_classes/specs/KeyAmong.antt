-- Whether a key is among those of the first rows: row by row, by its place among the keys, and by what one more row adds.
-- Assumes nothing.
use Rattle.std.proofs.Math.Path.{◌≡◌, refl, sym}
use Rattle.std.proofs.Common.{◌∙◌, add-one, take-suc, take-add}
use Rattle.std.specs.Prelude.{ℕ, suc, ◌+◌, ◌-◌, ◌≤◌, ◌<◌, Bool, ◌&&◌, ◌||◌, eqb, take, drop, Option, Some, None}
use native.Mathlib.Omega.{arith}
use Rattle.std.proofs.Math.Bool.{true, false, cond}
use mathlib.Core.List.{List, [], ◌∷◌, ◌++◌}
use Rattle.std.proofs.Math.Dec.{ltb}
use Rattle.std.proofs.Math.ListN.{length, length-append}
use borrow.Author.Tests.{lt-ltb, le-ltb, ltb-true, ltb-false, eq-eqb, ne_eqb}
use Rattle.table.specs.Table.{row_count}
use Rattle.table.specs.Rows.{is_kind, row_at, rows_of, zero_row, length_rows, nth_row}
use Rattle.table.specs.declared.Row.{Row}
use Rattle.summaries.specs.Summaries.{Key, same_key, key_of, has, with_key, keyed, keys_from, keys}
use Rattle.summaries.specs.declared.Key.{Key as CodeKey}
use Rattle.summaries.specs.EntrySteps.{numbers, key_of_row, no_key, some_key, numbers_differ}
use Rattle.summaries.specs.SummaryKeys.{same_self, same_turn, mem, with_other, keyed_has}
use Rattle.summary_index.specs.declared.Bucket.{Bucket}
use Rattle.summary_index.specs.SummaryIndex.{make_key, find, IndexHolds, found, not_found}
use Rattle.summary_pass.specs.PassState.{place_of}
use Rattle.summary_pass.specs.KeyPlaces.{place_key, place_before, with_same, with_new}
use Rattle.phd_classes.specs.ReadState.{among, key_among}

-- ---- one row

-- Whether a row is counted under a key, by its kind.
module _ (r : Row) (class mark : ℕ) where
  pub class_has : r.kind ≡ 1 → has (make_key class mark) r ≡ false
  unfolding has
  class_has e = rw (eq-eqb r.kind 1 e)

  turned : (a b : Bool) → a && b ≡ b && a
  turned true true = refl
  turned true false = refl
  turned false true = refl
  turned false false = refl

  pub primitive_has : r.kind ≡ 4 → has (make_key class mark) r ≡ eqb r.prim class && eqb 1 mark
  unfolding has key_of same_key
  primitive_has e = rw (ne_eqb r.kind 1 (λ f. omega arith), eq-eqb r.kind 4 e) (turned (eqb 1 mark) (eqb r.prim class))

  pub object_has : (r.kind ≡ 1 → ⊥) → (r.kind ≡ 4 → ⊥) → has (make_key class mark) r ≡ eqb r.class class && eqb 0 mark
  unfolding has key_of same_key
  object_has e f = rw (ne_eqb r.kind 1 e, ne_eqb r.kind 4 f) (turned (eqb 0 mark) (eqb r.class class))

-- The key of a row that is not a class row, by its kind.
module _ (r : Row) where
  pub primitive_key : r.kind ≡ 4 → key_of r ≡ make_key r.prim 1
  unfolding key_of
  primitive_key e = rw (eq-eqb r.kind 4 e)

  pub object_key : (r.kind ≡ 4 → ⊥) → key_of r ≡ make_key r.class 0
  unfolding key_of
  object_key e = rw (ne_eqb r.kind 4 e)

-- A row is counted under its key, and under no other.
module _ (r : Row) (key : CodeKey) where
  pub has_key : key_of_row r ≡ Some key → has (numbers key) r ≡ true
  unfolding has
  has_key e = let k = some_key r key e in rw (k.0, k.1, same_self (key_of r))

  pub has_other : (key_of_row r ≡ Some key → ⊥) → has (numbers key) r ≡ false
  unfolding has
  has_other n = by (key_of_row r) refl
    where
      other : (j : CodeKey) → key_of_row r ≡ Some j → cond (is_kind 1 r) false (same_key (key_of r) (numbers key)) ≡ false
      other j e = let k = some_key r j e in rw (k.0, ← k.1, numbers_differ j key (λ q. n (rw q at e)))

      by : (o : Option CodeKey) → key_of_row r ≡ o → cond (is_kind 1 r) false (same_key (key_of r) (numbers key)) ≡ false
      by None e = rw (no_key r e)
      by (Some j) e = other j e

  -- A test of the row's own key for being the key.
  pub has_test : (own : CodeKey) → key_of_row r ≡ Some own → (b : Bool) → (b ≡ true → own ≡ key) → (b ≡ false → own ≡ key → ⊥) → b ≡ has (numbers key) r
  has_test own e true hit miss = sym (has_key (rw (hit refl) at e))
  has_test own e false hit miss = sym (has_other (λ q. miss refl (let z : ◌≡◌ {A = Option CodeKey} (Some own) (Some key) = sym e ∙ q in cc)))

-- ---- row by row

module _ (k : Key) where
  among_next : (a : List Row) (r : Row) → among (a ++ (r ∷ [])) k ≡ cond (among a k) true (has k r)
  unfolding among
  among_next [] r = by (has k r)
    where
      by : (b : Bool) → cond b true false ≡ b
      by true = refl
      by false = refl
  among_next (x ∷ a) r = by (has k x) (among_next a r)
    where
      by : (b : Bool) → among (a ++ (r ∷ [])) k ≡ cond (among a k) true (has k r) → cond b true (among (a ++ (r ∷ [])) k) ≡ cond (cond b true (among a k)) true (has k r)
      by true h = refl
      by false h = h

  among_start : (a b : List Row) → among a k ≡ true → among (a ++ b) k ≡ true
  unfolding among
  among_start [] b e = let z : ◌≡◌ {A = ℕ} 0 1 = cc in absurd (omega arith)
  among_start (x ∷ a) b e = by (has k x) e (among_start a b)
    where
      by : (h : Bool) → cond h true (among a k) ≡ true → (among a k ≡ true → among (a ++ b) k ≡ true) → cond h true (among (a ++ b) k) ≡ true
      by true e g = refl
      by false e g = g e

  module _ (rows : List ℕ) (i : ℕ) (l : i < row_count rows) where
    row_taken : take (suc i) (rows_of rows) ≡ take i (rows_of rows) ++ (row_at rows i ∷ [])
    row_taken =
        let m : i < length (rows_of rows) = rw (length_rows rows) l in
        take-suc (rows_of rows) i zero_row m ∙ rw (nth_row rows i l)

    -- One more row.
    pub key_among_next : key_among rows (i + 1) k ≡ cond (key_among rows i k) true (has k (row_at rows i))
    key_among_next = rw (add-one, row_taken) (among_next (take i (rows_of rows)) (row_at rows i))

    -- A row with the key.
    pub key_among_at : (n : ℕ) → i < n → has k (row_at rows i) ≡ true → key_among rows n k ≡ true
    key_among_at n m e =
        let t : n ≡ suc i + (n - suc i) = omega arith in
        let h : among (take (suc i) (rows_of rows)) k ≡ true = rw row_taken (among_next (take i (rows_of rows)) (row_at rows i) ∙ rw e (either (key_among rows i k))) in
        rw (t, take-add (suc i) (n - suc i) (rows_of rows)) (among_start (take (suc i) (rows_of rows)) (take (n - suc i) (drop (suc i) (rows_of rows))) h)
      where
        either : (b : Bool) → cond b true true ≡ true
        either true = refl
        either false = refl

-- ---- by its place

-- Whether a key is among keys, by its place.
abbrev pub in_use : Key → List Key → Bool
in_use k ks = ltb (place_of k ks) (length ks)

module _ (k : Key) where
  in_use_mem : (ks : List Key) → in_use k ks ≡ mem k ks
  unfolding place_of mem
  in_use_mem [] = refl
  in_use_mem (j ∷ ks) = by (same_key k j) (in_use k ks) refl (in_use_mem ks)
    where
      by : (b u : Bool) → in_use k ks ≡ u → in_use k ks ≡ mem k ks → ltb (cond b 0 (suc (place_of k ks))) (suc (length ks)) ≡ (b || mem k ks)
      by true u e h = lt-ltb 0 (suc (length ks)) (omega arith)
      by false true e h = let p = ltb-true (place_of k ks) (length ks) e in lt-ltb (suc (place_of k ks)) (suc (length ks)) (omega arith) ∙ (sym e ∙ h)
      by false false e h = let p = ltb-false (place_of k ks) (length ks) e in le-ltb (suc (place_of k ks)) (suc (length ks)) (omega arith) ∙ (sym e ∙ h)

  mem_keyed_other : (r : Row) (ks : List Key) → has k r ≡ false → mem k (keyed r ks) ≡ mem k ks
  unfolding has keyed
  mem_keyed_other r ks e = by (is_kind 1 r) e
    where
      by : (b : Bool) → cond b false (same_key (key_of r) k) ≡ false → mem k (cond b ks (with_key (key_of r) ks)) ≡ mem k ks
      by true f = refl
      by false f = with_other k (key_of r) ks (same_turn (key_of r) k f)

  mem_keyed : (r : Row) (ks : List Key) → mem k (keyed r ks) ≡ cond (has k r) true (mem k ks)
  mem_keyed r ks = by (has k r) refl
    where
      by : (b : Bool) → has k r ≡ b → mem k (keyed r ks) ≡ cond b true (mem k ks)
      by true e = keyed_has k r ks e
      by false e = mem_keyed_other r ks e

  mem_keys_from : (ks : List Key) (rows : List Row) → mem k (keys_from ks rows) ≡ cond (among rows k) true (mem k ks)
  unfolding keys_from among
  mem_keys_from ks [] = refl
  mem_keys_from ks (r ∷ rows) = mem_keys_from (keyed r ks) rows ∙ (rw (mem_keyed r ks) (by (has k r) (among rows k)))
    where
      by : (b c : Bool) → cond c true (cond b true (mem k ks)) ≡ cond (cond b true c) true (mem k ks)
      by true true = refl
      by true false = refl
      by false c = refl

  -- A key is among those of rows exactly if its place is.
  pub among_keys : (rows : List Row) → among rows k ≡ in_use k (keys rows)
  unfolding keys mem
  among_keys rows = sym (in_use_mem (keys_from [] rows) ∙ (mem_keys_from [] rows ∙ by (among rows k)))
    where
      by : (b : Bool) → cond b true false ≡ b
      by true = refl
      by false = refl

-- A key that the index finds is in use; if the index is complete, one that it does not find is not.
module _ {ks : List Key} {buckets : List Bucket} {complete : Bool} (w : IndexHolds ks buckets complete) (k : Key) where
  pub found_in_use : (i : ℕ) → find buckets k ≡ Some i → in_use k ks ≡ true
  found_in_use i e =
      let f = found w k i e in
      let before : i < place_of k ks → ⊥ = λ l. place_before k ks i l f.1 in
      lt-ltb (place_of k ks) (length ks) (omega (arith, f.0))

  pub not_found_not_in_use : complete ≡ true → find buckets k ≡ None → in_use k ks ≡ false
  not_found_not_in_use c e =
      let at : place_of k ks < length ks → ⊥ = λ l. not_found w k c e (place_of k ks) l (place_key k ks l) in
      le-ltb (place_of k ks) (length ks) (omega arith)

-- ---- what one more row adds

module _ (r : Row) (ks : List Key) where
  -- A class row has no key.
  pub class_adds_none : is_kind 1 r ≡ true → length (keyed r ks) ≤ length ks
  unfolding keyed
  class_adds_none e = rw e (omega arith)

  -- A key in use adds nothing; a new one is added.
  pub in_use_adds_none : in_use (key_of r) ks ≡ true → length (keyed r ks) ≤ length ks
  unfolding keyed
  in_use_adds_none e = by (is_kind 1 r)
    where
      by : (b : Bool) → length (cond b ks (with_key (key_of r) ks)) ≤ length ks
      by true = omega arith
      by false = rw (with_same (key_of r) ks (ltb-true _ _ e)) (omega arith)

  pub new_adds_one : is_kind 1 r ≡ false → in_use (key_of r) ks ≡ false → length ks < length (keyed r ks)
  unfolding keyed
  new_adds_one f e = rw (f, with_new (key_of r) ks (ltb-false _ _ e), length-append ks (key_of r ∷ [])) (omega arith)
