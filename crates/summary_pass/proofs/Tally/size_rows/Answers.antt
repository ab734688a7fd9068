-- The pass begins before the first class row and ends after the last.
use Rattle.summary_pass.proofs.SizeRow.{list_lowest, can_size_counted, sizes_end}
use Rattle.summary_pass.proofs.Tally.size_rows.Goals as goal

pub size_rows_between-requires : goal.size_rows_between-requires
size_rows_between-requires c = let w = c.requires.0 in (w, list_lowest w c.requires.1, w.range_in, can_size_counted w)

pub returns : goal.returns
returns c = sizes_end c.requires.0 c.size_rows_between.ensures
