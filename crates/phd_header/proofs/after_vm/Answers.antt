use Rattle.std.proofs.Common.{rules, refl}
use Rattle.decode.specs.Reads.{stopped, reads_then, reads_stop, reads_checked, reads_refused, reads_check, reads_check_refused}
use Rattle.phd.specs.Phd.{after_vm}
use Rattle.phd_header.proofs.after_vm.Goals as goal

pub returns-in_err-field : goal.returns-in_err-field
unfolding after_vm
returns-in_err-field c = rw (stopped c.from_residual.ensures) (reads_stop _ c.in_err-field.ensures.reads)

pub returns-in-2 : goal.returns-in-2
unfolding after_vm
returns-in-2 c = reads_then _ c.in_ok-field.ensures.reads (rw c.in-2.is (reads_checked _ _ refl (reads_check _ refl)))

pub returns-in-4 : goal.returns-in-4
unfolding after_vm
returns-in-4 c = reads_then _ c.in_ok-field.ensures.reads (rw c.in-4.is (reads_refused _ _ refl))

pub returns-in_default : goal.returns-in_default
unfolding after_vm
returns-in_default c = reads_then _ c.in_ok-field.ensures.reads (reads_checked _ _ (search rules) (reads_check_refused _ (search rules)))
