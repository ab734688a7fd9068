use Rattle.std.proofs.Common.{le-leb}
use Rattle.std.proofs.lemmas.Bool.{eq-eqb, ne_eqb, lt-leb}
use Rattle.phd.specs.Phd.{true_length}
use Rattle.decode.specs.Reads.{stopped, reads_then, reads_stop, reads_checked, reads_refused, reads_yield}
use Rattle.phd_record.proofs.parts.true_length.Goals as goal

pub returns-then-w-eq0 : goal.returns-then-w-eq0
unfolding true_length
returns-then-w-eq0 c = rw (eq-eqb _ _ c.if-w-eq0.true) (reads_yield _ _)

pub returns-in_err-len : goal.returns-in_err-len
unfolding true_length
returns-in_err-len c = rw (ne_eqb _ _ c.if-w-eq0.false, stopped c.from_residual.ensures) (reads_stop _ c.in_err-len.ensures.reads)

pub returns-then-len-count : goal.returns-then-len-count
unfolding true_length
returns-then-len-count c = rw (ne_eqb _ _ c.if-w-eq0.false) (reads_then _ c.in_ok-len.ensures.reads (reads_refused _ _ (lt-leb _ _ c.if-len-count.true)))

pub returns : goal.returns
unfolding true_length
returns c =
    rw (ne_eqb _ _ c.if-w-eq0.false) (reads_then _ c.in_ok-len.ensures.reads (reads_checked _ _ (le-leb _ _ c.if-len-count.false) (reads_yield _ _)))
