-- `version_size` satisfies its contract: the line is `// Version: `, the VM string if there is one, and the line end.
use Rattle.std.proofs.Common.{sym, ap, ◌∙◌, ◌+◌, cond}
use Rattle.classic_write.specs.TextSizes.{length_version}
use Rattle.classic_write.proofs.version.version_size.Goals as goal

pub returns-then-vm : goal.returns-then-vm
returns-then-vm c = sym (length_version c.args.names.now c.args.vm c.requires ∙ ap (λ b. 13 + cond b c.args.vm.len 0) c.if-vm.true)

pub returns-else-vm : goal.returns-else-vm
returns-else-vm c = sym (length_version c.args.names.now c.args.vm c.requires ∙ ap (λ b. 13 + cond b c.args.vm.len 0) c.if-vm.false)
