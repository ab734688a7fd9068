-- `store_ends` satisfies its contract: the first 8 bytes and the last 8 cover all bytes.
use Rattle.std.proofs.Common.{arith}
use Rattle.encode.proofs.OverlapLaws.{writes_overlap_whole}
use Rattle.encode.proofs.slices.store_ends.Goals as goal

pub returns : goal.returns
returns c =
    writes_overlap_whole c.args.bytes.now c.args.at _ 8 8 (omega arith) (omega arith) (omega arith) c.store_block.ensures c.store_block-2.ensures
