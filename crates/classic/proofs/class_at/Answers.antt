-- `class_at` satisfies its contract.
use Rattle.std.proofs.Common.{arith}
use Rattle.table.specs.Table.{row_count}
use Rattle.table.specs.Search.{search_done}
use Rattle.table.proofs.SearchLaws.{search_found, search_next}
use Rattle.classic.proofs.ClassRowTests.{class_row, no_class_row}
use Rattle.classic.proofs.class_at.Goals as goal

pub row_at-row-requires : goal.row_at-row-requires
unfolding row_count
row_at-row-requires c = omega arith

pub returns-then-row-address : goal.returns-then-row-address
unfolding row_count
returns-then-row-address c = search_found _ _ _ _ c.loop-i.invariant (omega arith) c.row_at-row.ensures (class_row _ _ c.if-row-eq1.true c.if-row-address.true)

pub loop-i-preserved : goal.loop-i-preserved
unfolding row_count
loop-i-preserved c = search_next _ _ _ _ c.loop-i.invariant (omega arith) c.row_at-row.ensures (no_class_row _ _ c.else-row-eq1.either)

pub returns : goal.returns
unfolding row_count
returns c = search_done _ _ _ c.loop-i.invariant (omega arith)
