-- What a search keeps of a finder: the name bytes and the rows.
-- Assumes nothing.
use Rattle.std.specs.Prelude.{◌≡◌, refl}
use Rattle.std.proofs.Common.{◌∙◌}
use Rattle.class_index.specs.declared.finder.ClassFinder.{ClassFinder}

-- Both finders have the same name bytes and the same rows.
pub record SameTables (before after : ClassFinder) : Type 0 where
  pub names : after.names ≡ before.names
  pub rows : after.rows ≡ before.rows

pub same_tables : (finder : ClassFinder) → SameTables finder finder
same_tables finder = record { names = refl; rows = refl }

pub same_tables_then : {before between after : ClassFinder} → SameTables before between → SameTables between after → SameTables before after
same_tables_then p q = record { names = q.names ∙ p.names; rows = q.rows ∙ p.rows }
