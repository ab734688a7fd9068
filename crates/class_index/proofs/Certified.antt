-- The search by certified buckets is the class search: for every address it finds the first class row with it, or none if there is none.
-- Assumes nothing.
use Rattle.std.proofs.Math.Path.{◌≡◌, refl}
use Rattle.std.proofs.Common.{sym, ◌∙◌, inl, inr, eq-or-lt_of_le, arith, ltb-true, leb-true, eq-eqb}
use Rattle.std.specs.Prelude.{◌⊎◌, Bool, cond, ℕ, ◌-◌, ◌<◌, eqb, length, take, drop, Option, Some, None}
use Rattle.std.proofs.Math.Bool.{true, false}
use mathlib.Core.List.{List, [], ◌∷◌}
use Rattle.std.proofs.Math.Dec.{ltb}
use Rattle.decode.specs.Values.{and_left, and_right}
use Rattle.table.specs.Rows.{nth}
use Rattle.table.specs.Search.{IsFirst, NoneSatisfies}
use Rattle.table.proofs.SearchLaws.{first_row_at, first_row_none}
use Rattle.table.specs.declared.Row.{Row}
use Rattle.table.specs.RowBytes.{is_class_at, class_at, ClassRow, is_class_at_iff}
use Rattle.class_index.specs.ClassIndex.{first_bucket, is_class_row, search_in, search_buckets, at_or_before, row_certified, CertifiedFrom}

-- ---- whatever the buckets hold, a row that is found is a class row with the address

module _ (rows : List Row) (a : ℕ) where
  -- A row that was found is in bounds and is a class row with the address a.
  abbrev FoundIsClass : Option ℕ → Type 0
  FoundIsClass (Some j) = (j < length rows) × ClassRow a (nth rows j)
  FoundIsClass None = Unit {0}

  found_in : (buckets : List ℕ) → FoundIsClass (search_in rows a buckets)
  unfolding search_in is_class_row
  found_in [] = tt
  found_in (entry ∷ buckets) = by (eqb entry 0) (is_class_row rows a (entry - 1)) refl (found_in buckets)
    where
      by : (empty hit : Bool) → is_class_row rows a (entry - 1) ≡ hit → FoundIsClass (search_in rows a buckets)
          → FoundIsClass (cond empty None (cond hit (Some (entry - 1)) (search_in rows a buckets)))
      by true hit e rest = tt
      by false false e rest = rest
      by false true e rest =
          let inside = ltb (entry - 1) (length rows) in
          let class = is_class_at a (nth rows (entry - 1)) in
          (ltb-true _ _ (and_left inside class e), (is_class_at_iff a (nth rows (entry - 1))).0 (and_right inside class e))

  found_is_class : (buckets : List ℕ) → FoundIsClass (search_buckets rows buckets a)
  unfolding search_buckets
  found_is_class buckets = found_in (take 64 (drop (first_bucket (length buckets) a) buckets))

-- ---- so the first class row is found

module _ (rows : List Row) (buckets : List ℕ) where
  module _ (a : ℕ) where
    -- If a certified row is a class row with the address a, the search for a finds it or a row before it.
    class_row_found : (i : ℕ) → row_certified rows buckets i ≡ true → ClassRow a (nth rows i) → at_or_before i (search_buckets rows buckets a) ≡ true
    unfolding row_certified
    class_row_found i e c = rw (eq-eqb _ _ c.kind, c.address) at e

    -- If row i is the first class row with the address a, a class row with it at or before row i is row i.
    first_found : (i : ℕ) → IsFirst (ClassRow a) rows i → (f : Option ℕ) → FoundIsClass rows a f → at_or_before i f ≡ true → f ≡ Some i
    unfolding at_or_before
    first_found i first None s e = let z : ◌≡◌ {A = ℕ} 0 1 = cc in absurd (omega arith)
    first_found i first (Some j) s e = by (eq-or-lt_of_le (leb-true _ _ e))
      where
        by : (j ≡ i) ⊎ (j < i) → Some j ≡ Some i
        by (inl q) = rw q
        by (inr q) = absurd (first.before j q s.1)

    none_found : NoneSatisfies (ClassRow a) rows → (f : Option ℕ) → FoundIsClass rows a f → f ≡ None
    none_found n None s = refl
    none_found n (Some j) s = absurd (n j s.0 s.1)

  -- The theorem: searching certified buckets for any address is the class search.
  pub certified_finds : CertifiedFrom rows buckets 0 → (a : ℕ) → search_buckets rows buckets a ≡ class_at rows a
  certified_finds each a = by (class_at rows a) refl
    where
      by : (f : Option ℕ) → class_at rows a ≡ f → search_buckets rows buckets a ≡ class_at rows a
      by (Some i) q =
          let first = (first_row_at (ClassRow a) (is_class_at a) (is_class_at_iff a) rows i).0 q in
          first_found a i first _ (found_is_class rows a buckets) (class_row_found a i (each i (omega arith) first.inside) first.holds) ∙ sym q
      by None q =
          none_found a ((first_row_none (ClassRow a) (is_class_at a) (is_class_at_iff a) rows).0 q) _ (found_is_class rows a buckets) ∙ sym q
