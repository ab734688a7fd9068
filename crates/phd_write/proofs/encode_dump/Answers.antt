use Rattle.phd_check.specs.WellFormed.{header_vm_good, vm_in_bounds}
use Rattle.phd_write.proofs.encode_dump.Goals as goal

pub encode_header-requires-clause-vm_in_bounds : goal.encode_header-requires-clause-vm_in_bounds
encode_header-requires-clause-vm_in_bounds c = vm_in_bounds _ _ (header_vm_good _ _ _ _ c.args.good.good.0)
