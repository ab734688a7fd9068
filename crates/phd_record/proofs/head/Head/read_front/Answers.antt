use Rattle.phd.specs.Phd.{front}
use Rattle.decode.specs.Reads.{stopped, reads_then, reads_stop, reads_yield}
use Rattle.phd_record.proofs.head.Head.read_front.Goals as goal

pub returns-in_err-address : goal.returns-in_err-address
unfolding front
returns-in_err-address c = rw (stopped c.from_residual.ensures) (reads_stop _ c.in_err-address.ensures.reads)

pub returns-in_err-class : goal.returns-in_err-class
unfolding front
returns-in_err-class c = rw (stopped c.from_residual-in_err-class.ensures) (reads_then _ c.in_ok-address.ensures.reads (reads_stop _ c.in_err-class.ensures.reads))

pub returns-in_err-len : goal.returns-in_err-len
unfolding front
returns-in_err-len c =
    rw (stopped c.from_residual-in_err-len.ensures) (reads_then _ c.in_ok-address.ensures.reads (reads_then _ c.in_ok-class.ensures.reads (reads_stop _ c.in_err-len.ensures.reads)))

pub returns : goal.returns
unfolding front
returns c = reads_then _ c.in_ok-address.ensures.reads (reads_then _ c.in_ok-class.ensures.reads (reads_then _ c.in_ok-len.ensures.reads (reads_yield _ _)))
