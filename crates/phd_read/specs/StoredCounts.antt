-- The counts that a reading returns are those of the rows and references stored.
-- Assumes nothing.
use Rattle.std.specs.Prelude.{◌≡◌, refl, ℕ, ◌*◌, List, length}
use Rattle.std.proofs.Common.{arith}
use Rattle.table.specs.Table.{row_width, row_count}
use Rattle.phd.specs.Phd.{phd, capacity, read_result}
use Rattle.reader.proofs.WithinCapacity.{read_within_capacity}
use Rattle.phd_read.specs.ReadContract.{read_answer}
use Rattle.phd_read.specs.PhdLaws.{phd_lawful}

-- The row count returned times the row width is the length of the stored rows; the reference count is that of the stored
-- references.
pub stored_counts : (s : List ℕ) (R F : ℕ) → ((read_answer (read_result s R F)).rows * row_width ≡ length (read_result s R F).rows) × ((read_answer (read_result s R F)).refs ≡ length (read_result s R F).refs)
unfolding read_answer row_count
stored_counts s R F = let k = read_within_capacity phd phd_lawful s (capacity R F) in (omega arith, refl)
