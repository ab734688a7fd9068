use Rattle.std.proofs.Common.{rules, eqb, false, ◌≡◌}
use Rattle.decode.specs.Reads.{stopped, reads_then, reads_stop, reads_yield, reads_refuse}
use Rattle.phd.specs.Phd.{header_records}
use Rattle.phd_header.proofs.header_records.Goals as goal

pub returns-in_err-field : goal.returns-in_err-field
unfolding header_records
returns-in_err-field c = rw (stopped c.from_residual.ensures) (reads_stop _ c.in_err-field.ensures.reads)

pub returns-in_err-vm-in-4 : goal.returns-in_err-vm-in-4
unfolding header_records
returns-in_err-vm-in-4 c =
    rw (stopped c.from_residual-in_err-vm-in-4.ensures) (reads_then _ c.in_ok-field.ensures.reads (rw c.in-4.is (reads_stop _ c.in_err-vm-in-4.ensures.reads)))

pub returns-in_err-after_vm-in-4 : goal.returns-in_err-after_vm-in-4
unfolding header_records
returns-in_err-after_vm-in-4 c =
    rw (stopped c.from_residual-in_err-after_vm-in-4.ensures)
    (reads_then _ c.in_ok-field.ensures.reads (rw c.in-4.is (reads_then _ c.in_ok-vm-in-4.ensures.reads (reads_stop _ c.in_err-after_vm-in-4.ensures))))

pub returns-in-2 : goal.returns-in-2
unfolding header_records
returns-in-2 c = reads_then _ c.in_ok-field.ensures.reads (rw c.in-2.is (reads_yield _ _))

pub returns-in_ok-after_vm-in-4 : goal.returns-in_ok-after_vm-in-4
unfolding header_records
returns-in_ok-after_vm-in-4 c =
    reads_then _ c.in_ok-field.ensures.reads (rw c.in-4.is (reads_then _ c.in_ok-vm-in-4.ensures.reads (reads_then _ c.in_ok-after_vm-in-4.ensures (reads_yield _ _))))

pub returns-in_default : goal.returns-in_default
unfolding header_records
returns-in_default c =
    let a : eqb c.in_ok-field.field-0 2 ≡ false = search rules in
    let b : eqb c.in_ok-field.field-0 4 ≡ false = search rules in
    reads_then _ c.in_ok-field.ensures.reads (rw (a, b) (reads_refuse _ _))
