-- The class search for a row, in the loops over the rows: what the last search after the row is.
-- Assumes nothing.
use Rattle.std.specs.Prelude.{◌≡◌, ◌⊎◌, true, false, List, Option}
use Rattle.std.proofs.Common.{inl, inr, ne_eqb}
use Rattle.table.specs.declared.Row.{Row}
use Rattle.classic.specs.ClassicText.{needs_class}
use Rattle.class_index.specs.declared.finder.LastSearch.{LastSearch}
use Rattle.class_index.specs.LastSearch.{search_for, search_after, search_after_instance, search_after_other}

-- An object or object array needs a class row, another row does not.
pub instance_needs_class : (r : Row) → (r.kind ≡ 2) ⊎ (r.kind ≡ 3) → needs_class r ≡ true
instance_needs_class r (inl e) = rw e
instance_needs_class r (inr e) = rw e

pub other_needs_none : (r : Row) → (r.kind ≡ 2 → ⊥) → (r.kind ≡ 3 → ⊥) → needs_class r ≡ false
other_needs_none r a b = rw (ne_eqb _ _ a, ne_eqb _ _ b)

module _ (rows : List Row) (r : Row) (last next : Option LastSearch) where
  -- If the search for its class word was made, it is the last search after the row.
  pub after_instance : (r.kind ≡ 2) ⊎ (r.kind ≡ 3) → next ≡ search_for rows r.class → next ≡ search_after rows r last
  after_instance k e = search_after_instance rows r last next (instance_needs_class r k) e

  -- If the row needs no class row, the last search is the one before.
  pub after_other : (r.kind ≡ 2 → ⊥) → (r.kind ≡ 3 → ⊥) → next ≡ last → next ≡ search_after rows r last
  after_other a b e = search_after_other rows r last next (other_needs_none r a b) e
