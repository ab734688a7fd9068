-- `store_bytewise` satisfies its contract.
use Rattle.std.proofs.Common.{◌≡◌, length, add_assoc, zero-add, arith}
use Rattle.std.proofs.Math.Seq.{take-length}
use Rattle.encode.proofs.OverlapLaws.{writes_one_more}
use Rattle.encode.proofs.slices.store_bytewise.Goals as goal

pub loop-i-preserved : goal.loop-i-preserved
loop-i-preserved c =
    let l = c.loop-i in
    rw (zero-add, add_assoc) at (writes_one_more c.args.bytes.now 0 c.args.at l.i (omega arith) l.invariant)

pub returns : goal.returns
returns c =
    let e : c.loop-i.i ≡ length c.args.bytes.now = omega arith in
    rw (e, take-length) at c.loop-i.invariant
