-- The invariant of `encode_rows_text`: the rows that are left remain to be encoded, and the last search holds.
use Rattle.table.specs.Rows.{rows_of}
use Rattle.class_index.specs.LastSearch.{LastSearchHolds}
use Rattle.classic_write.specs.TextInvariants.{WriteLoop}
use Rattle.classic_write.proofs.rows.encode_rows_text.Given as goal

abbrev pub invariant-loop-i : goal.invariant-loop-i
invariant-loop-i l = record {
  rest : WriteLoop l.bits l.names l.refs l.rows l.fn.e l.i l.e;
  last : LastSearchHolds (rows_of l.rows) l.last;
}
