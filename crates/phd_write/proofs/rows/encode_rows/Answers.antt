-- Each iteration writes the record of one row, and the bytes of the rows that are left remain.
use Rattle.std.proofs.Common.{arith}
use Rattle.phd_write.specs.WriteInvariants.{end_tag_room, encode_loop_end, row_refs_in_bounds, row_name_in_bounds, row_plan_bounded, encode_loop_row, encode_loop_row_room}
use Rattle.phd_write.proofs.RowsLoop.{bits_good, next_row, row_below, rows_over}
use Rattle.phd_write.proofs.rows.encode_rows.Goals as goal

pub row_at-row-requires : goal.row_at-row-requires
row_at-row-requires c = row_below _ _ (omega arith)

pub refs_of-list-requires : goal.refs_of-list-requires
refs_of-list-requires c =
    let l = c.loop-i in
    let step = next_row c.args.good.tables c.args.good.good l.i l.invariant.index l.before l.cache l.invariant.between (row_below _ _ (omega arith)) in
    row_refs_in_bounds _ _ _ _ _ _ _ _ step _ c.row_at-row.ensures

pub plan_row-plan-requires : goal.plan_row-plan-requires
plan_row-plan-requires c =
    let l = c.loop-i in
    let step = next_row c.args.good.tables c.args.good.good l.i l.invariant.index l.before l.cache l.invariant.between (row_below _ _ (omega arith)) in
    rw c.refs_of-list.ensures (row_plan_bounded _ _ _ _ _ _ _ _ step _ c.row_at-row.ensures)

pub name_of-name-requires : goal.name_of-name-requires
name_of-name-requires c =
    let l = c.loop-i in
    let step = next_row c.args.good.tables c.args.good.good l.i l.invariant.index l.before l.cache l.invariant.between (row_below _ _ (omega arith)) in
    row_name_in_bounds _ _ _ _ _ _ _ _ step _ c.row_at-row.ensures

pub encode_record-requires : goal.encode_record-requires
encode_record-requires c =
    let l = c.loop-i in
    let inside = row_below c.args.good.tables.rows.now l.i (omega arith) in
    let step = next_row c.args.good.tables c.args.good.good l.i l.invariant.index l.before l.cache l.invariant.between inside in
    let plan = rw c.refs_of-list.ensures at c.plan_row-plan.ensures in
    rw (c.refs_of-list.ensures, c.name_of-name.ensures)
    (encode_loop_row_room _ _ _ _ _ _ _ _ step _ c.row_at-row.ensures _ plan _ _ l.invariant (bits_good c.args.good.tables c.args.good.good) inside)

pub loop-i-preserved : goal.loop-i-preserved
loop-i-preserved c =
    let l = c.loop-i in
    let inside = row_below c.args.good.tables.rows.now l.i (omega arith) in
    let step = next_row c.args.good.tables c.args.good.good l.i l.invariant.index l.before l.cache l.invariant.between inside in
    let plan = rw c.refs_of-list.ensures at c.plan_row-plan.ensures in
    let wrote = rw (c.refs_of-list.ensures, c.name_of-name.ensures) at c.encode_record.ensures in
    encode_loop_row _ _ _ _ _ _ _ _ step _ c.row_at-row.ensures _ plan _ _ l.invariant (bits_good c.args.good.tables c.args.good.good) inside _ _ wrote c.push_if-cache.ensures

pub be-requires : goal.be-requires
be-requires c = end_tag_room _ _ _ _ _ _ _ _ _ c.loop-i.invariant (rows_over _ _ (omega arith))

pub returns : goal.returns
returns c = encode_loop_end _ _ _ _ _ _ _ _ _ c.loop-i.invariant (rows_over _ _ (omega arith)) _ c.be.ensures
