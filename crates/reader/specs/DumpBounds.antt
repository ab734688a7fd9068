-- The least number of bytes that a format's header and records take. Theorems: proofs/DumpBounds.antt.
-- A reader must believe `LeastBytes`.
use Rattle.std.specs.Prelude.{◌≡◌, ℕ, ◌+◌, ◌*◌, ◌≤◌, List}
use Rattle.std.proofs.Math.ListN.{length}
use Rattle.decode.specs.Layout.{whole, run}
use Rattle.table.specs.Table.{row_count}
use Rattle.reader.specs.Reader.{item, Format}

-- The header takes at least `min_header` bytes. A record takes at least `min_record` bytes if it has a row, and one more for each
-- reference.
pub record LeastBytes (D : Format) (min_header min_record : ℕ) : Type 0 where
  pub header : (s : List ℕ) (h : D.Header) (n : ℕ) → run D.header s 0 ≡ whole h n → min_header ≤ n
  pub entry : (h : D.Header) (c : D.Context) (index : ℕ) (s : List ℕ) (at : ℕ) (r rs : List ℕ) (m : D.Note) (k : D.Context) (e : ℕ)
      → run (D.entry h c index) s at ≡ whole (item r rs m k) e → at + (row_count r * min_record + length rs) ≤ e
