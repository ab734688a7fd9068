use Rattle.std.proofs.Common.{◌+◌, drop, length-append, arith, rules}
use Rattle.std.proofs.Math.ListN.{drop_of_length-le}
use Rattle.encode.specs.Encode.{encode_ref_list}
use Rattle.encode.specs.Wrote.{remains_next, remains_done}
use Rattle.encode.proofs.EncodeLaws.{encode_ref_list_drop}
use Rattle.encode.proofs.encoder.write_refs.Goals as goal

pub be-requires : goal.be-requires
be-requires c =
    let a = c.args in
    let l = c.loop-to in
    let p = rw (encode_ref_list_drop a.refs.now l.to-index (omega arith) a.w a.a, length-append) at l.invariant.place in
    rw c.raw_gap.ensures (omega arith)

pub loop-to-preserved : goal.loop-to-preserved
loop-to-preserved c =
    let a = c.args in
    let l = c.loop-to in
    remains_next (encode_ref_list a.w a.a (drop (l.to-index + 1) a.refs.now))
    (rw (encode_ref_list_drop a.refs.now l.to-index (omega arith) a.w a.a) at l.invariant)
    (rw c.raw_gap.ensures at c.be.ensures)

pub returns : goal.returns
unfolding encode_ref_list
returns c =
    let w = remains_done (rw (drop_of_length-le c.args.refs.now {i = c.loop-to.to-index} (omega arith)) at c.loop-to.invariant) in
    search (rules, w)
