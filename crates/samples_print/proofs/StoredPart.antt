-- The numbers that a reading stores are the first of its tables, as many as its answer says.
-- Assumes nothing.
use Rattle.std.specs.Prelude.{◌≡◌, ℕ, ◌*◌, ◌≤◌, min, List, ◌++◌, length, take, drop}
use Rattle.std.proofs.Common.{length-append, arith}
use Rattle.std.proofs.Math.Seq.{take-append_seam}
use Rattle.table.specs.Buffer.{overwrite}
use Rattle.table.specs.Table.{row_width}
use Rattle.phd.specs.Phd.{phd, capacity, read_result}
use Rattle.reader.proofs.WithinCapacity.{read_within_capacity}
use Rattle.phd_read.specs.ReadContract.{read_answer}
use Rattle.phd_read.specs.PhdLaws.{phd_lawful}
use Rattle.phd_read.specs.StoredCounts.{stored_counts}

-- A list stored at the start of a buffer is what the buffer has before the list's end.
pub stored_part : (buffer xs : List ℕ) (n : ℕ) → n ≡ length xs → length xs ≤ length buffer → take (min n (length (overwrite buffer xs))) (overwrite buffer xs) ≡ xs
unfolding overwrite
stored_part buffer xs n e l =
    let m : min n (length (xs ++ drop (length xs) buffer)) ≡ length xs = simp length-append (omega arith)
    in rw m (take-append_seam xs _)

-- The same for the rows that a reading stores.
pub stored_rows : (s table : List ℕ) (R F : ℕ) → length table ≡ R → take (min ((read_answer (read_result s R F)).rows * row_width) (length (overwrite table (read_result s R F).rows))) (overwrite table (read_result s R F).rows) ≡ (read_result s R F).rows
stored_rows s table R F e =
    let k = read_within_capacity phd phd_lawful s (capacity R F)
    in stored_part table (read_result s R F).rows _ (stored_counts s R F).0 (rw e k.rows_fit)

-- The same for the references.
pub stored_refs : (s table : List ℕ) (R F : ℕ) → length table ≡ F → take (min ((read_answer (read_result s R F)).refs * 1) (length (overwrite table (read_result s R F).refs))) (overwrite table (read_result s R F).refs) ≡ (read_result s R F).refs
stored_refs s table R F e =
    let k = read_within_capacity phd phd_lawful s (capacity R F)
    in let n : (read_answer (read_result s R F)).refs * 1 ≡ length (read_result s R F).refs = omega (arith, (stored_counts s R F).1)
    in stored_part table (read_result s R F).refs _ n (rw e k.refs_fit)
