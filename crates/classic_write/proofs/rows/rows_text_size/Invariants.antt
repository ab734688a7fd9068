-- The invariant of `rows_text_size`: the total so far and the size of the rows that are left give the size of the version line and all
-- rows, no class row is missing so far, the last search holds, and the tally is that of the rows so far.
use Rattle.table.specs.Rows.{rows_of}
use Rattle.phd_counts.specs.CountLoop.{CountedBefore}
use Rattle.class_index.specs.LastSearch.{LastSearchHolds}
use Rattle.classic_write.specs.TextInvariants.{SizeLoop}
use Rattle.classic_write.proofs.rows.rows_text_size.Given as goal

abbrev pub invariant-loop-i : goal.invariant-loop-i
invariant-loop-i l = record {
  size : SizeLoop l.bits l.finder.names.now l.rows l.first l.i l.bytes;
  last : LastSearchHolds (rows_of l.rows) l.last;
  counted : CountedBefore l.rows l.i l.tally;
}
