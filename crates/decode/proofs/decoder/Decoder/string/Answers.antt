use Rattle.std.proofs.Common.{refl, rules, sym}
use Rattle.decode.specs.Fields.{string}
use Rattle.decode.specs.Reads.{stopped, reads_then, reads_stop, reads_stop_at, reads_checked, reads_refused, reads_yield, reads_position}
use Rattle.decode.proofs.decoder.Decoder.string.Goals as goal

pub returns-in_err-len-clause-reads : goal.returns-in_err-len-clause-reads
unfolding string
returns-in_err-len-clause-reads c = rw (stopped c.from_residual.ensures) (reads_stop _ c.in_err-len.ensures.reads)

pub returns-then-len-least-clause-reads : goal.returns-then-len-least-clause-reads
unfolding string
returns-then-len-least-clause-reads c = reads_stop_at (reads_then _ c.in_ok-len.ensures.reads (reads_refused _ _ (search rules))) refl

pub returns-in-Err-clause-reads : goal.returns-in-Err-clause-reads
unfolding string
returns-in-Err-clause-reads c =
    reads_stop_at
    (reads_then _ c.in_ok-len.ensures.reads (reads_checked _ _ (search rules) (reads_position _ (reads_stop _ c.in-Err.ensures.reads))))
    refl

pub returns-then-not-bytes_within-clause-reads : goal.returns-then-not-bytes_within-clause-reads
unfolding string
returns-then-not-bytes_within-clause-reads c =
    reads_stop_at
    (reads_then _ c.in_ok-len.ensures.reads
    (reads_checked _ _ (search rules) (reads_position _ (reads_then _ c.in-Ok.ensures.reads (reads_refused _ _ (sym c.if-not-bytes_within.ensures))))))
    refl

pub returns-clause-reads : goal.returns-clause-reads
unfolding string
returns-clause-reads c =
    rw c.in-Ok.ensures.long
    (reads_then _ c.in_ok-len.ensures.reads
    (reads_checked _ _ (search rules) (reads_position _ (reads_then _ c.in-Ok.ensures.reads (reads_checked _ _ (sym c.if-not-bytes_within.ensures) (reads_yield _ _))))))
