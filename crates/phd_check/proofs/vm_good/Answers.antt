-- Without a VM string the result is true, else the tests of `good_vm` in order.
use Rattle.std.proofs.Common.{◌-◌, ◌∙◌, arith, leb, ltb, leb-true, ltb-true, length}
use Rattle.std.proofs.lemmas.Bool.{not-true, not-false}
use Rattle.decode.specs.Values.{and_left, and_right}
use Rattle.phd_check.specs.GoodRows.{good_vm}
use Rattle.phd_check.proofs.CheckLaws.{vm_out_of_bounds, vm_by_bytes, vm_numbers_bad}
use Rattle.phd_check.proofs.vm_good.Goals as goal

pub returns-then-not-vm : goal.returns-then-not-vm
unfolding good_vm
returns-then-not-vm c = rw (not-true _ c.if-not-vm.true)

pub returns-then-names-vm : goal.returns-then-names-vm
returns-then-names-vm c = vm_out_of_bounds _ _ (not-false _ c.if-not-vm.false) (omega arith)

pub returns-then-vm-names : goal.returns-then-vm-names
returns-then-vm-names c =
    let v = c.args.vm in
    let a = ltb-true _ _ (and_left (ltb v.len 65536) (leb v.place (length c.args.names.now - v.len)) c.if-vm-names.true) in
    let b = leb-true _ _ (and_right (ltb v.len 65536) (leb v.place (length c.args.names.now - v.len)) c.if-vm-names.true) in
    c.all_within.ensures ∙ vm_by_bytes _ v (not-false _ c.if-not-vm.false) a (omega arith)

pub returns-else-vm-names : goal.returns-else-vm-names
returns-else-vm-names c = c.if-vm-names.false ∙ vm_numbers_bad _ c.args.vm (not-false _ c.if-not-vm.false) (omega arith) c.if-vm-names.false
