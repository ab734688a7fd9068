-- `encode_version` satisfies its contract.
use Rattle.encode.specs.Wrote.{wrote_then}
use Rattle.classic_write.proofs.TextSteps.{version_split}
use Rattle.classic_write.proofs.version.encode_version.Goals as goal

pub returns : goal.returns
returns c = rw (version_split c.args.names.now c.args.vm) (wrote_then c.bytes.ensures (wrote_then c.encode_vm.ensures c.byte.ensures))
