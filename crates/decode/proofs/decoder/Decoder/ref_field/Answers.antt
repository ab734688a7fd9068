use Rattle.std.proofs.Common.{refl, rules}
use Rattle.decode.specs.Fields.{ref_field}
use Rattle.decode.specs.Reads.{stopped, reads_then, reads_stop, reads_stop_at, reads_checked, reads_refused, reads_yield}
use Rattle.decode.proofs.decoder.Decoder.ref_field.Goals as goal

pub returns-in_err-a-clause-reads : goal.returns-in_err-a-clause-reads
unfolding ref_field
returns-in_err-a-clause-reads c = rw (stopped c.from_residual.ensures) (reads_stop _ c.in_err-a.ensures.reads)

pub returns-then-a-eq0-clause-reads : goal.returns-then-a-eq0-clause-reads
unfolding ref_field
returns-then-a-eq0-clause-reads c = reads_stop_at (reads_then _ c.in_ok-a.ensures.reads (reads_refused _ _ (search rules))) refl

pub returns-clause-reads : goal.returns-clause-reads
unfolding ref_field
returns-clause-reads c = reads_then _ c.in_ok-a.ensures.reads (reads_checked _ _ (search rules) (reads_yield _ _))
