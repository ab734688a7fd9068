-- Demand 3, first part, as callers see it, for any format: the readings of two cuts satisfy `PrefixTables`. Assumes nothing.
use Rattle.std.specs.Prelude.{◌≡◌, ℕ, ◌*◌, ◌/◌, ◌%◌, ◌≤◌, List, ◌++◌, length, take, drop}
use Rattle.std.proofs.Common.{ap, append_assoc, length-append, arith}
use Rattle.std.proofs.Math.Seq.{take-append_seam}
use Rattle.table.specs.Buffer.{overwrite}
use Rattle.table.specs.Table.{row_width, row_count}
use Rattle.reader.specs.Reader.{limit, capacity, Format, Result, read_result}
use Rattle.reader.specs.Steps.{Lawful}
use Rattle.reader.specs.Prefixes.{Prefix, ResultPrefix}
use Rattle.reader.proofs.Prefixes.{cuts_prefix}
use Rattle.reader.proofs.WithinCapacity.{read_within_capacity}
use Rattle.reader.specs.PrefixTables.{PrefixTables}

-- If xs is a prefix of ys, tables that begin with xs and with ys agree up to the end of xs.
overwrite_prefix : (table table' xs ys : List ℕ) → Prefix xs ys → take (length xs) (overwrite table' ys) ≡ take (length xs) (overwrite table xs)
unfolding overwrite
overwrite_prefix table table' xs ys b =
    rw (← b.all, append_assoc, take-append_seam xs (b.more ++ drop (length (xs ++ b.more)) table'), take-append_seam xs (drop (length xs) table))

prefix_length : {xs ys : List ℕ} → Prefix xs ys → length xs ≤ length ys
prefix_length {xs} {ys} b = omega (arith, simp length-append at (ap length b.all))

prefix_tables : {D : Format} (r r' : Result D) (rows rows' refs refs' : List ℕ) → length r.rows % row_width ≡ 0 → ResultPrefix r r' → PrefixTables r r' rows rows' refs refs'
unfolding row_count
prefix_tables r r' rows rows' refs refs' w a =
    let p = prefix_length a.rows in
    let q = prefix_length a.refs in
    let e : length r.rows / row_width * row_width ≡ length r.rows = omega arith in
    record {
      rows_le = omega arith;
      refs_le = omega arith;
      rows_prefix = rw e (overwrite_prefix rows rows' r.rows r'.rows a.rows);
      refs_prefix = overwrite_prefix refs refs' r.refs r'.refs a.refs;
      same = a.same;
    }

-- The readings of the first m and the first n bytes, m ≤ n, satisfy `PrefixTables` if the longer's tables are at least as long.
pub cuts_prefix_tables : (D : Format) → Lawful D → (b : List ℕ) (m n : ℕ) (rows rows' refs refs' : List ℕ) → m ≤ n → length (take n b) ≤ limit
    → length rows ≤ length rows' → length refs ≤ length refs'
    → PrefixTables (read_result D (take m b) (capacity (length rows) (length refs))) (read_result D (take n b) (capacity (length rows') (length refs'))) rows rows' refs refs'
cuts_prefix_tables D lawful b m n rows rows' refs refs' h l p q =
    prefix_tables _ _ rows rows' refs refs' (read_within_capacity D lawful (take m b) (capacity (length rows) (length refs))).whole_rows
    (cuts_prefix D b m n (capacity (length rows) (length refs)) (capacity (length rows') (length refs')) h l (record { rows = p; refs = q }))
