use Rattle.decode.specs.Reads.{stopped, reads_then, reads_stop, reads_yield}
use Rattle.phd.specs.Phd.{preamble}
use Rattle.phd_header.proofs.preamble.Goals as goal

pub returns-in_err-exactly : goal.returns-in_err-exactly
unfolding preamble
returns-in_err-exactly c = rw (stopped c.from_residual.ensures) (reads_stop _ c.in_err-exactly.ensures.reads)

pub returns-in_err-magic_bytes : goal.returns-in_err-magic_bytes
unfolding preamble
returns-in_err-magic_bytes c = rw (stopped c.from_residual-in_err-magic_bytes.ensures) (reads_then _ c.in_ok-exactly.ensures.reads (reads_stop _ c.in_err-magic_bytes.ensures.reads))

pub returns-in_err-exactly-2 : goal.returns-in_err-exactly-2
unfolding preamble
returns-in_err-exactly-2 c =
    rw (stopped c.from_residual-in_err-exactly-2.ensures)
    (reads_then _ c.in_ok-exactly.ensures.reads (reads_then _ c.in_ok-magic_bytes.ensures.reads (reads_stop _ c.in_err-exactly-2.ensures.reads)))

pub returns-in_err-flags : goal.returns-in_err-flags
unfolding preamble
returns-in_err-flags c =
    rw (stopped c.from_residual-in_err-flags.ensures)
    (reads_then _ c.in_ok-exactly.ensures.reads (reads_then _ c.in_ok-magic_bytes.ensures.reads (reads_then _ c.in_ok-exactly-2.ensures.reads (reads_stop _ c.in_err-flags.ensures.reads))))

pub returns-in_err-exactly-3 : goal.returns-in_err-exactly-3
unfolding preamble
returns-in_err-exactly-3 c =
    rw (stopped c.from_residual-in_err-exactly-3.ensures)
    (reads_then _ c.in_ok-exactly.ensures.reads (reads_then _ c.in_ok-magic_bytes.ensures.reads (reads_then _ c.in_ok-exactly-2.ensures.reads
    (reads_then _ c.in_ok-flags.ensures.reads (reads_stop _ c.in_err-exactly-3.ensures.reads)))))

pub returns : goal.returns
unfolding preamble
returns c =
    reads_then _ c.in_ok-exactly.ensures.reads (reads_then _ c.in_ok-magic_bytes.ensures.reads (reads_then _ c.in_ok-exactly-2.ensures.reads
    (reads_then _ c.in_ok-flags.ensures.reads (reads_then _ c.in_ok-exactly-3.ensures.reads (reads_yield _ _)))))
