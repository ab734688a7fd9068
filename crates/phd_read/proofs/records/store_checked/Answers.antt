use Rattle.std.proofs.Common.{arith}
use Rattle.phd_read.proofs.StepLaws.{ends_rows_full, ends_refs_full}
use Rattle.phd_read.proofs.records.store_checked.Goals as goal

pub returns-then-rows-k-lt-ROW_WIDTH : goal.returns-then-rows-k-lt-ROW_WIDTH
returns-then-rows-k-lt-ROW_WIDTH c =
    let r = c.requires in
    rw c.at.ensures (ends_rows_full c.args.header r.cursor_in_bounds.0 r.found_at (omega arith))

pub returns-then-left-found : goal.returns-then-left-found
returns-then-left-found c =
    let r = c.requires in
    rw c.at-then-left-found.ensures (ends_refs_full c.args.header r.cursor_in_bounds.0 r.found_at (omega arith) (omega arith))
