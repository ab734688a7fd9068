-- `store_blocks` satisfies its contract: the last 16 bytes cover what the other blocks leave.
use Rattle.std.proofs.Common.{arith}
use Rattle.encode.proofs.OverlapLaws.{writes_next_block, writes_overlap_whole}
use Rattle.encode.proofs.slices.store_blocks.Goals as goal

pub loop-i-preserved : goal.loop-i-preserved
loop-i-preserved c =
    let l = c.loop-i in
    record {
      within = omega arith;
      written = writes_next_block c.args.bytes.now c.args.at l.i 16 (omega arith) l.invariant.written c.store_block.ensures;
    }

pub returns : goal.returns
returns c =
    let l = c.loop-i in
    writes_overlap_whole c.args.bytes.now c.args.at _ l.i 16 (omega arith) (omega arith) (omega arith) l.invariant.written c.store_block-2.ensures
