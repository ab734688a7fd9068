use Rattle.phd_write.specs.WriteInvariants.{EncodeLoop}
use Rattle.phd_write.proofs.rows.encode_rows.Given as goal

abbrev pub invariant-loop-i : goal.invariant-loop-i
invariant-loop-i l = let t = l.fn.good.tables in EncodeLoop t.header t.names.now t.refs.now t.rows.now l.fn.e l.i l.before l.cache l.e
