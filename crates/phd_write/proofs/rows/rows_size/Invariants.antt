use Rattle.phd_write.specs.WriteInvariants.{SizeLoop}
use Rattle.phd_write.proofs.rows.rows_size.Given as goal

abbrev pub invariant-loop-i : goal.invariant-loop-i
invariant-loop-i l = let t = l.fn.good.tables in SizeLoop t.header t.names.now t.refs.now t.rows.now l.fn.first l.i l.before l.total l.cache
