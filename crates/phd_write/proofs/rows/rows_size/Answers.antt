-- The total so far and the bytes left add up to the size of the dump.
use Rattle.std.proofs.Common.{arith}
use Rattle.phd_encode.specs.PlanBounds.{address_size_of}
use Rattle.phd_check.specs.WellFormed.{table_rows_bound, ref_count_bound}
use Rattle.phd_write.specs.WriteInvariants.{size_loop_end, row_refs_in_bounds, row_plan_bounded, row_name_short, size_loop_bound, size_loop_row}
use Rattle.phd_write.proofs.RowsLoop.{bits_good, next_row, row_below, rows_over}
use Rattle.phd_write.proofs.rows.rows_size.Goals as goal

pub row_at-row-requires : goal.row_at-row-requires
row_at-row-requires c = row_below _ _ (omega arith)

pub refs_of-list-requires : goal.refs_of-list-requires
refs_of-list-requires c =
    let l = c.loop-i in
    let step = next_row c.args.good.tables c.args.good.good l.i l.invariant.index l.before l.cache l.invariant.between (row_below _ _ (omega arith)) in
    row_refs_in_bounds _ _ _ _ _ _ _ _ step _ c.row_at-row.ensures

pub record_size-sized-requires : goal.record_size-sized-requires
record_size-sized-requires c =
    let l = c.loop-i in
    let step = next_row c.args.good.tables c.args.good.good l.i l.invariant.index l.before l.cache l.invariant.between (row_below _ _ (omega arith)) in
    record {
      bounded = rw c.refs_of-list.ensures (row_plan_bounded _ _ _ _ _ _ _ _ step _ c.row_at-row.ensures);
      w_bound = ((address_size_of _ (bits_good c.args.good.tables c.args.good.good)).most, row_name_short _ _ _ _ _ _ _ _ step _ c.row_at-row.ensures);
    }

pub overflow_add-total : goal.overflow_add-total
overflow_add-total c =
    let l = c.loop-i in
    let inside = row_below c.args.good.tables.rows.now l.i (omega arith) in
    let step = next_row c.args.good.tables c.args.good.good l.i l.invariant.index l.before l.cache l.invariant.between inside in
    let sized = rw c.refs_of-list.ensures at c.record_size-sized.ensures in
    let g = c.args.good.good.0 in
    let z = size_loop_bound _ _ _ _ _ _ _ _ step _ c.row_at-row.ensures _ sized _ _ l.invariant inside (table_rows_bound _ _ _ _ g) (ref_count_bound _ _ _ _ g) in
    omega arith

pub loop-i-preserved : goal.loop-i-preserved
loop-i-preserved c =
    let l = c.loop-i in
    let inside = row_below c.args.good.tables.rows.now l.i (omega arith) in
    let step = next_row c.args.good.tables c.args.good.good l.i l.invariant.index l.before l.cache l.invariant.between inside in
    let sized = rw c.refs_of-list.ensures at c.record_size-sized.ensures in
    size_loop_row _ _ _ _ _ _ _ _ step _ c.row_at-row.ensures _ sized _ _ _ c.push_if-cache.ensures (bits_good c.args.good.tables c.args.good.good) l.invariant inside

pub overflow_add-result : goal.overflow_add-result
overflow_add-result c =
    let z = c.loop-i.invariant in
    let g = c.args.good.good.0 in
    let a = z.between.at_most in
    let b = table_rows_bound _ _ _ _ g in
    let d = ref_count_bound _ _ _ _ g in
    let e = z.few in
    let f = z.small in
    omega arith

pub returns : goal.returns
returns c = size_loop_end _ _ _ _ _ _ _ _ _ c.loop-i.invariant (rows_over _ _ (omega arith))
