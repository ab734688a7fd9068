use Rattle.phd.specs.Phd.{middle}
use Rattle.phd.specs.Shapes.{hash_bytes_le_8}
use Rattle.decode.specs.Reads.{stopped, reads_then, reads_stop, reads_yield}
use Rattle.phd_record.proofs.head.Head.read_middle.Goals as goal

pub returns-in_err-inst : goal.returns-in_err-inst
unfolding middle
returns-in_err-inst c = rw (stopped c.from_residual.ensures) (reads_stop _ c.in_err-inst.ensures.reads)

pub field-requires : goal.field-requires
field-requires c = rw c.hash_bytes_of.ensures (hash_bytes_le_8 _)

pub returns-in_err-hash : goal.returns-in_err-hash
unfolding middle
returns-in_err-hash c =
    let hash = rw c.hash_bytes_of.ensures at c.in_err-hash.ensures.reads in
    rw (stopped c.from_residual-in_err-hash.ensures) (reads_then _ c.in_ok-inst.ensures.reads (reads_stop _ hash))

pub returns-in_err-superclass : goal.returns-in_err-superclass
unfolding middle
returns-in_err-superclass c =
    let hash = rw c.hash_bytes_of.ensures at c.in_ok-hash.ensures.reads in
    rw (stopped c.from_residual-in_err-superclass.ensures) (reads_then _ c.in_ok-inst.ensures.reads (reads_then _ hash (reads_stop _ c.in_err-superclass.ensures.reads)))

pub returns : goal.returns
unfolding middle
returns c =
    let hash = rw c.hash_bytes_of.ensures at c.in_ok-hash.ensures.reads in
    reads_then _ c.in_ok-inst.ensures.reads (reads_then _ hash (reads_then _ c.in_ok-superclass.ensures.reads (reads_yield _ _)))
