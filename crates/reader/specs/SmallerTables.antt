-- Two results with the same tables. Theorem: proofs/SmallerTables.antt.
use Rattle.std.specs.Prelude.{◌≡◌}
use Rattle.reader.specs.Reader.{Format, Result}

-- Two results with the same tables.
pub record SameTables {D : Format} (x y : Result D) : Type 0 where
  pub rows : x.rows ≡ y.rows
  pub refs : x.refs ≡ y.refs
