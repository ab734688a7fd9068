use Rattle.std.proofs.Common.{refl, rules}
use Rattle.decode.specs.Fields.{below}
use Rattle.decode.specs.Reads.{stopped, reads_then, reads_stop, reads_stop_at, reads_checked, reads_refused, reads_yield}
use Rattle.decode.proofs.decoder.Decoder.below.Goals as goal

pub returns-in_err-x-clause-reads : goal.returns-in_err-x-clause-reads
unfolding below
returns-in_err-x-clause-reads c = rw (stopped c.from_residual.ensures) (reads_stop _ c.in_err-x.ensures.reads)

pub returns-then-bound-x-clause-reads : goal.returns-then-bound-x-clause-reads
unfolding below
returns-then-bound-x-clause-reads c = reads_stop_at (reads_then _ c.in_ok-x.ensures.reads (reads_refused _ _ (search rules))) refl

pub returns-clause-reads : goal.returns-clause-reads
unfolding below
returns-clause-reads c = reads_then _ c.in_ok-x.ensures.reads (reads_checked _ _ (search rules) (reads_yield _ _))
