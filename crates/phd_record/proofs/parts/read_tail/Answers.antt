use Rattle.phd.specs.Phd.{tail}
use Rattle.decode.specs.Reads.{stopped, reads_then, reads_stop, reads_yield}
use Rattle.phd_record.proofs.parts.read_tail.Goals as goal

pub returns-in_err-size : goal.returns-in_err-size
unfolding tail
returns-in_err-size c = rw (stopped c.from_residual.ensures) (reads_stop _ c.in_err-size.ensures.reads)

pub returns-in_err-truelen : goal.returns-in_err-truelen
unfolding tail
returns-in_err-truelen c = rw (stopped c.from_residual-in_err-truelen.ensures) (reads_then _ c.in_ok-size.ensures.reads (reads_stop _ c.in_err-truelen.ensures))

pub returns : goal.returns
unfolding tail
returns c = reads_then _ c.in_ok-size.ensures.reads (reads_then _ c.in_ok-truelen.ensures (reads_yield _ _))
