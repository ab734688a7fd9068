use Rattle.decode.specs.Reads.{stopped, reads_then, reads_stop, reads_yield}
use Rattle.phd.specs.Phd.{header}
use Rattle.phd_header.proofs.whole_header.Goals as goal

pub returns-in_err-flags : goal.returns-in_err-flags
unfolding header
returns-in_err-flags c = rw (stopped c.from_residual.ensures) (reads_stop _ c.in_err-flags.ensures)

pub returns-in_err-vm : goal.returns-in_err-vm
unfolding header
returns-in_err-vm c = rw (stopped c.from_residual-in_err-vm.ensures) (reads_then _ c.in_ok-flags.ensures (reads_stop _ c.in_err-vm.ensures))

pub returns-in_err-exactly : goal.returns-in_err-exactly
unfolding header
returns-in_err-exactly c =
    rw (stopped c.from_residual-in_err-exactly.ensures)
    (reads_then _ c.in_ok-flags.ensures (reads_then _ c.in_ok-vm.ensures (reads_stop _ c.in_err-exactly.ensures.reads)))

pub returns : goal.returns
unfolding header
returns c =
    rw c.make_header.ensures
    (reads_then _ c.in_ok-flags.ensures (reads_then _ c.in_ok-vm.ensures (reads_then _ c.in_ok-exactly.ensures.reads (reads_yield _ _))))
